-- What the code keeps of the entries read so far: a mark for each qubit.
use Rattle.std.specs.Prelude.{◌≡◌, ℕ, zero, suc, ◌<◌, ◌≤◌, Bool, true, false, cond, List, [], length, nat_eq, nat_le, slice_index_or}
use Rattle.pauli_group.specs.PauliString.{qubits}
use Rattle.pauli.specs.declared.refusal.Refusal.TheVariants.{Duplicate}
use Rattle.pauli.specs.declared.entries.Mark.{Mark}
use Rattle.pauli.specs.declared.entries.Mark.TheVariants.{I, X, Z, Y, Unnamed, Twice}
use Rattle.pauli.specs.declared.entries.Marks.{Marks}
use Rattle.pauli.specs.Questions.{ask}
use Rattle.pauli.specs.Places.{listed, first_place}
use Rattle.pauli.specs.Entries.{entry_count, entry_letter, entry_qubit}
use Rattle.pauli.specs.Answers.{Outcome}

-- the mark of one entry, by its letter's byte
unfoldable pub mark_once : ℕ → Mark
mark_once zero = I
mark_once (suc zero) = X
mark_once (suc (suc zero)) = Z
mark_once (suc (suc (suc l))) = Y

-- a mark after one more entry with letter l
unfoldable pub mark_more : Mark → ℕ → Mark
mark_more I l = Twice
mark_more X l = Twice
mark_more Z l = Twice
mark_more Y l = Twice
mark_more Unnamed l = mark_once l
mark_more Twice l = Twice

-- the mark after the entries 0 to n - 1, of which those with `names` name the qubit
unfoldable pub mark_to : (ℕ → Bool) → (ℕ → ℕ) → ℕ → Mark
mark_to names letter zero = Unnamed
mark_to names letter (suc n) = cond (names n) (mark_more (mark_to names letter n) (letter n)) (mark_to names letter n)

-- the marks of all qubits after the first n entries, and after all
unfoldable pub marks_to : List ℕ → ℕ → List Mark
marks_to e n = listed qubits (λ q. mark_to (λ j. nat_eq (entry_qubit e j) q) (entry_letter e) n)

abbrev pub marks_of : List ℕ → Marks
marks_of e = record { 0 = marks_to e (entry_count e) }

unfoldable pub is_twice : Mark → Bool
is_twice I = false
is_twice X = false
is_twice Z = false
is_twice Y = false
is_twice Unnamed = false
is_twice Twice = true

-- the first qubit that more entries than one name
unfoldable pub first_twice : List Mark → ℕ
first_twice m = first_place (length m) (λ k. is_twice (slice_index_or m k Unnamed))

-- 12 by the marks
unfoldable pub marks_question : List Mark → Outcome
marks_question m = ask (nat_le qubits (first_twice m)) (Duplicate (first_twice m))

-- the letter that a mark stands for: I but where one entry names the qubit
unfoldable pub unmarked : Mark → ℕ
unmarked I = 0
unmarked X = 1
unmarked Z = 2
unmarked Y = 3
unmarked Unnamed = 0
unmarked Twice = 0

-- entries with qubits below 128
pub record EntriesFit (e : List ℕ) : Type 0 where
  pub places : (j : ℕ) → j < entry_count e → entry_qubit e j < 128

-- entries as pairs (letter, qubit)
pub record Paired (e : List ℕ) (p : List (List ℕ)) : Type 0 where
  pub count : length p ≡ entry_count e
  pub letters : (j : ℕ) → j < length p → slice_index_or (slice_index_or p j []) 0 0 ≡ entry_letter e j
  pub qubits : (j : ℕ) → j < length p → slice_index_or (slice_index_or p j []) 1 0 ≡ entry_qubit e j

-- the letters that the marks stand for
unfoldable pub letters_marked : ℕ → List Mark → List ℕ
letters_marked n m = listed n (λ q. unmarked (slice_index_or m q Unnamed))

-- room for a string record
pub record RecordFits (d : List ℕ) : Type 0 where
  pub room : 129 ≤ length d

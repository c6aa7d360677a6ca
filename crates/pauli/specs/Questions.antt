-- The questions on entry (scope document, "Questions on entry"), each with its refusal, and the order in which they are put.
use Rattle.std.specs.Prelude.{ℕ, ◌+◌, ◌*◌, ◌%◌, Bool, true, false, ltb, leb, List, length, ◌==◌, nat_le, nat_lt, slice_index, Ok, Err}
use Rattle.pauli_group.specs.PauliString.{qubits}
use Rattle.pauli.specs.Places.{first_place}
use Rattle.pauli.specs.Layout.{string_length}
use Rattle.pauli.specs.Entries.{entry_count, entry_letter, entry_qubit, occurrences}
use Rattle.pauli.specs.declared.refusal.Refusal.{Refusal}
use Rattle.pauli.specs.declared.refusal.Refusal.TheVariants.{Length, BadByte, Qubit, Room, Duplicate}
use Rattle.pauli.specs.Answers.{Outcome}

-- "a no gives the number, a detail and untouched buffers"
unfoldable pub ask : Bool → Refusal → Outcome
ask true r = Ok tt
ask false r = Err r

-- the second question is put where the first lets by
infixr 20 ◌and_then◌
unfoldable pub ◌and_then◌ : Outcome → Outcome → Outcome
Ok tt and_then q = q
Err r and_then q = Err r

-- "Is every phase and letter at most 3? 3, detail the first bad offset", counted from base
unfoldable pub first_bad : List ℕ → ℕ
first_bad s = first_place (length s) (λ k. ltb 3 (slice_index s k))

unfoldable pub bytes_question : ℕ → List ℕ → Outcome
bytes_question base s = ask (nat_le (length s) (first_bad s)) (BadByte (base + first_bad s))

-- "0 for a phase or letter given by itself"
unfoldable pub byte_question : ℕ → Outcome
byte_question b = ask (nat_le b 3) (BadByte 0)

-- "Is the length exact (string 129 ..)? 2", then 3
unfoldable pub string_questions : List ℕ → Outcome
string_questions s = ask (length s == string_length) Length and_then bytes_question 0 s

-- "Is each qubit below 128? 5, detail the first that isn't"
unfoldable pub qubit_question : ℕ → Outcome
qubit_question q = ask (nat_lt q qubits) (Qubit q)

-- "Last: is the destination long enough? 7"
unfoldable pub room_question : ℕ → ℕ → Outcome
room_question needed room = ask (nat_le needed room) Room

-- ---- entries: byte pairs (letter, qubit)

-- "Is the length exact (.. entries even)? 2"
unfoldable pub even_question : List ℕ → Outcome
even_question e = ask (length e % 2 == 0) Length

-- 3 for the first entry whose letter is above 3
unfoldable pub first_bad_entry : List ℕ → ℕ
first_bad_entry e = first_place (entry_count e) (λ j. ltb 3 (entry_letter e j))

unfoldable pub entry_letters_question : List ℕ → Outcome
entry_letters_question e = ask (nat_le (entry_count e) (first_bad_entry e)) (BadByte (2 * first_bad_entry e))

-- 5 "of I entries too", for the first entry whose qubit is not below 128
unfoldable pub first_high_entry : List ℕ → ℕ
first_high_entry e = first_place (entry_count e) (λ j. leb qubits (entry_qubit e j))

unfoldable pub entry_qubits_question : List ℕ → Outcome
entry_qubits_question e = ask (nat_le (entry_count e) (first_high_entry e)) (Qubit (entry_qubit e (first_high_entry e)))

-- "is each qubit named once (entries too)? 12, the smallest duplicated qubit"
unfoldable pub smallest_duplicate : List ℕ → ℕ
smallest_duplicate e = first_place qubits (λ q. leb 2 (occurrences e q))

unfoldable pub duplicate_question : List ℕ → Outcome
duplicate_question e = ask (nat_le qubits (smallest_duplicate e)) (Duplicate (smallest_duplicate e))

-- ---- the questions of each public function, in their order

unfoldable pub pair_questions : ℕ → ℕ → Outcome
pair_questions a b = byte_question a and_then byte_question b

unfoldable pub get_questions : List ℕ → ℕ → Outcome
get_questions s q = string_questions s and_then qubit_question q

unfoldable pub strings_questions : List ℕ → List ℕ → Outcome
strings_questions s t = string_questions s and_then string_questions t

unfoldable pub mul_questions : List ℕ → List ℕ → ℕ → Outcome
mul_questions s t room = strings_questions s t and_then room_question string_length room

-- "a phase given with entries is tested before them"
unfoldable pub entry_questions : ℕ → List ℕ → Outcome
entry_questions p e = byte_question p and_then even_question e and_then entry_letters_question e and_then entry_qubits_question e

unfoldable pub with_phase_questions : ℕ → List ℕ → ℕ → Outcome
with_phase_questions p e room = entry_questions p e and_then duplicate_question e and_then room_question string_length room

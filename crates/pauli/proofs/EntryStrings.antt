-- Strings made from entries: the questions in their order, and the record that is written from the marks.
use Rattle.std.proofs.Common.{◌≡◌, ℕ, ◌-◌, ◌<◌, ◌≤◌, leb, List, [], ◌∷◌, ◌++◌, length, get_or, take, drop, set, sym, refl, ap, ◌∙◌, ap₂, append-nil, not-suc-le-zero, arith, length-drop, drop_of_length-le, length-take, take_all, eqb, rules, le-leb, leb-true, Some, None, Ok, Err, true}
use Rattle.std.specs.List.{position}
use Rattle.std.proofs.lemmas.List.{get_or_default}
use borrow.Author.Tests.{lt-leb}
use borrow.Rule.Slice.PartMut.{put_mid}
use Rattle.pauli_group.specs.PauliString.{qubits}
use Rattle.pauli.specs.declared.refusal.Refusal.{Refusal}
use Rattle.pauli.specs.declared.refusal.Refusal.TheVariants.{Duplicate}
use Rattle.pauli.specs.declared.entries.Mark.{Mark}
use Rattle.pauli.specs.declared.entries.Mark.TheVariants.{Unnamed}
use Rattle.pauli.specs.declared.entries.Marks.{Marks}
use Rattle.pauli.specs.Answers.{written, Written, Outcome}
use Rattle.pauli.specs.Places.{listed}
use Rattle.pauli.specs.Layout.{letter_byte, encode_string, string_record}
use Rattle.pauli.specs.Entries.{entry_count, entries_string}
use Rattle.pauli.specs.Inside.Marks.{marks_to, is_twice, first_twice, unmarked, EntriesFit, marks_of, marks_question, letters_marked, RecordFits}
use Rattle.pauli.specs.Questions.{ask, ◌and_then◌, byte_question, entry_questions, smallest_duplicate, duplicate_question, room_question, with_phase_questions}
use Rattle.pauli.specs.Strings.{entries_record}
use Rattle.pauli.proofs.Answers.{written-done}
use Rattle.pauli.proofs.Asking.{first_done, first_not, asked_yes, asked_no, ask_done, done_first, done_second, byte_small, room-is, record-bytes}
use Rattle.pauli.proofs.EntryMarks.{qubits-below, first_duplicate, letter-byte}
use Rattle.pauli.proofs.Places.{passing-at, passing-none, length-listed, get_d_listed, listed_ext, Filled, filled_none, filled_step, filled_length, filled_room, filled_all}
use Rattle.pauli.proofs.Records.{phase_there}

-- ---- question 12 by the marks
twice_asked : (m : List Mark) (i : ℕ) → first_twice m ≡ i → ask (leb 128 i) (Duplicate i) ≡ marks_question m
unfolding marks_question qubits
twice_asked m i e = ap (λ (j : ℕ). ask (leb 128 j) (Duplicate j)) (sym e)

pub marks-twice : (m : List Mark) {q : ℕ} → length m ≡ 128 → Some q ≡ position is_twice m → Err (Duplicate q) ≡ marks_question m
unfolding first_twice
marks-twice m {q} l e =
    let at = passing-at Unnamed is_twice m e in
    asked_no (Duplicate q) (lt-leb 128 q (omega (arith, at.0))) ∙ twice_asked m q (sym at.1)

pub marks-once : (m : List Mark) → length m ≡ 128 → None ≡ position is_twice m → Ok tt ≡ marks_question m
unfolding first_twice
marks-once m l e = asked_yes (Duplicate (length m)) (le-leb 128 (length m) (omega arith)) ∙ twice_asked m (length m) (sym (passing-none Unnamed is_twice m e))

pub marks_question_lem : (e : List ℕ) → marks_question (marks_to e (entry_count e)) ≡ duplicate_question e
unfolding marks_question duplicate_question
marks_question_lem e = ap (λ (k : ℕ). ask (leb qubits k) (Duplicate k)) (first_duplicate e)

-- ---- the questions in their order
pub read_refused : (p : ℕ) (e : List ℕ) (room : ℕ) {x : Refusal} → Err x ≡ entry_questions p e → Err x ≡ with_phase_questions p e room
unfolding with_phase_questions
read_refused p e room h = first_not _ h

pub read_fit : (p : ℕ) (e : List ℕ) → Ok tt ≡ entry_questions p e → EntriesFit e
read_fit p e h = record { places = qubits-below p e (sym h) }

pub read_asked : (p : ℕ) (e : List ℕ) {m : Marks} (room : ℕ) {s : Outcome} → Ok tt ≡ entry_questions p e → m ≡ marks_of e
    → s ≡ marks_question m.0 and_then room_question 129 room → s ≡ with_phase_questions p e room
unfolding with_phase_questions
read_asked p e room h em hs =
    first_done h (hs ∙ ap (λ q. q and_then room_question 129 room) (ap (λ (m : Marks). marks_question m.0) em ∙ marks_question_lem e))

-- ---- the letters written from the marks
pub letter_marked : (n : ℕ) (m : List Mark) (i : ℕ) (d : Mark) {x : ℕ} → x ≡ unmarked (get_or m i d) → i < length m → i < n → x ≡ get_or (letters_marked n m) i 0
unfolding letters_marked
letter_marked n m i d e b h = e ∙ ap unmarked (get_or_default m i d Unnamed b) ∙ sym (get_d_listed n _ i 0 h)

pub length_marked : (n : ℕ) (m : List Mark) → length (letters_marked n m) ≡ n
unfolding letters_marked
length_marked n m = length-listed n _

pub letters-none : (m : List Mark) {d : List ℕ} → length d ≡ 128 → Filled (letters_marked 128 m) d (length d) 0 d
letters-none m {d} h = filled_none (omega (arith, length_marked 128 m)) (omega arith)

pub letters_all : (m : List Mark) {d : List ℕ} {i : ℕ} {e : List ℕ} → length d ≡ 128 → Filled (letters_marked 128 m) d (length d) i e → length d ≤ i
    → e ≡ letters_marked 128 m
letters_all m {d} {i} {e} l f h =
    filled_all 128 l f h
    ∙ ap₂ ◌++◌ (take_all 128 (letters_marked 128 m) (omega (arith, length_marked 128 m))) (drop_of_length-le d {i = 128} (omega arith))
    ∙ append-nil (letters_marked 128 m)

pub ruleset letter_fills = (letter_marked, letters-none, filled_step, filled_length, filled_room, letters_all, rules)

-- what comes back of `&mut d[1..129]`, and a store at 0
pub put_record : (d ys : List ℕ) (p : ℕ) → 129 ≤ length d → set (put_mid 1 128 d ys) 0 p ≡ p ∷ ys ++ drop 129 d
put_record [] ys p h = absurd (not-suc-le-zero h)
put_record (x ∷ d) ys p h = refl

-- ---- the marks of entries that name each qubit once hold their record
module _ (p : ℕ) (e : List ℕ) (m : List Mark) (small : p ≤ 3) (named : duplicate_question e ≡ Ok tt)
    (marks : m ≡ marks_to e (entry_count e)) where
  once : 128 ≤ smallest_duplicate e
  unfolding duplicate_question qubits
  once = leb-true _ _ (ask_done _ _ named)

  letters_are : letters_marked 128 m ≡ listed 128 (λ q. letter_byte ((entries_string p e).letters q))
  unfolding letters_marked
  letters_are = listed_ext 128 _ _ (λ q l. ap (λ (x : List Mark). unmarked (get_or x q Unnamed)) marks ∙ letter-byte e p q l once)

  marked_record : p ∷ letters_marked 128 m ≡ string_record (entries_string p e)
  unfolding string_record encode_string entries_string qubits
  marked_record = ap₂ (λ (x : ℕ) (l : List ℕ). x ∷ l) (sym (phase_there p small)) letters_are

  pub marked_bytes : (d : List ℕ) {out : List ℕ} → out ≡ p ∷ letters_marked 128 m ++ drop 129 d → out ≡ written (Ok tt) (string_record (entries_string p e)) d
  marked_bytes d w = w ∙ ap (λ (l : List ℕ). l ++ drop 129 d) marked_record ∙ record-bytes (entries_string p e) d

  pub marked_fit : (d : List ℕ) → 129 ≤ length d → RecordFits d
  marked_fit d h = record { room = h }

-- ---- the record of entries
module _ (p : ℕ) (e : List ℕ) {m : Marks} (d : List ℕ) (all : Ok tt ≡ with_phase_questions p e (length d)) (marks : m ≡ marks_of e) where
  asked : entry_questions p e and_then duplicate_question e and_then room_question 129 (length d) ≡ Ok tt
  unfolding with_phase_questions
  asked = sym all

  marks-are : m.0 ≡ marks_to e (entry_count e)
  marks-are = ap (λ (x : Marks). x.0) marks

  entries-asked : entry_questions p e ≡ Ok tt
  entries-asked = done_first (entry_questions p e) _ asked

  phase-asked : byte_question p ≡ Ok tt
  unfolding entry_questions
  phase-asked = done_first (byte_question p) _ entries-asked

  named-asked : duplicate_question e ≡ Ok tt
  named-asked = done_first (duplicate_question e) _ (done_second (entry_questions p e) _ asked)

  room-asked : room_question 129 (length d) ≡ Ok tt
  room-asked = done_second (duplicate_question e) _ (done_second (entry_questions p e) _ asked)

  pub marks_fit : RecordFits d
  marks_fit = marked_fit p e m.0 (byte_small p phase-asked) named-asked marks-are d (room-is 129 (length d) room-asked)

  pub entries_written : {out : List ℕ} → out ≡ p ∷ letters_marked 128 m.0 ++ drop 129 d → Written (with_phase_questions p e (length d)) (entries_record p e) d out (Ok tt)
  unfolding entries_record
  entries_written w =
      written-done all (marked_bytes p e m.0 (byte_small p phase-asked) named-asked marks-are d w)

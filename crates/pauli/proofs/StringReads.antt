-- What the functions that read string records find.
use Rattle.std.proofs.Common.{◌≡◌, ℕ, suc, ◌+◌, ◌%◌, ◌<◌, ◌≤◌, List, length, get_or, sym, ap, ◌∙◌, add-one, arith, w64, Fits, rules, Ok}
use Rattle.pauli_group.specs.PauliString.{qubits}
use Rattle.pauli.specs.Layout.{letter_byte, letter_of, decode_string, string_of, WellFormed}
use Rattle.pauli.specs.Questions.{◌and_then◌, string_questions, qubit_question, strings_questions, get_questions}
use Rattle.pauli.specs.Rows.{letter_at, places_of, shorter}
use Rattle.pauli.specs.Strings.{phase_of_record, letter_of_record, places_of_records}
use Rattle.pauli.proofs.Answers.{answers}
use Rattle.pauli.proofs.Asking.{in_order, done_first, done_second, string-formed, qubit-below}
use Rattle.pauli.proofs.Places.{from, from_at, length_from}
use Rattle.pauli.proofs.Records.{phase_there, letter_there, decode_letter, decode_within}
use Rattle.pauli.proofs.RowProducts.{places_of-rows}
use Rattle.pauli.specs.Answers.{Outcome}

-- ---- the phase
pub phase_read : (s : List ℕ) → Ok tt ≡ string_questions s → get_or s 0 0 ≡ phase_of_record s
unfolding phase_of_record string_of decode_string
phase_read s p = let f = string-formed s (sym p) in sym (phase_there (get_or s 0 0) (f.small 0 (omega (arith, f.long))))

pub phase-place : (s : List ℕ) → Ok tt ≡ string_questions s → 0 < length s
phase-place s p = omega (arith, (string-formed s (sym p)).long)

-- ---- one letter
pub get_asked : (s : List ℕ) (q : ℕ) {r : Outcome} → r ≡ string_questions s and_then qubit_question q → r ≡ get_questions s q
unfolding get_questions
get_asked s q e = e

pub letter_read : (s : List ℕ) (q : ℕ) → Ok tt ≡ string_questions s → Ok tt ≡ qubit_question q → get_or s (q + 1) 0 ≡ letter_of_record s q
unfolding letter_of_record string_of qubits
letter_read s q p h =
    let f = string-formed s (sym p) in
    let below : q < 128 = qubit-below q (sym h) in
    ap (λ (j : ℕ). get_or s j 0) (add-one q)
    ∙ sym (ap letter_byte (decode_letter 128 s q below) ∙ letter_there (get_or s (suc q) 0) (f.small (suc q) (omega (arith, f.long))))

pub letter-place : (s : List ℕ) (q : ℕ) → Ok tt ≡ string_questions s → Ok tt ≡ qubit_question q → q + 1 < length s
letter-place s q p h = omega (arith, (string-formed s (sym p)).long, qubit-below q (sym h))

pub letter_index : (q : ℕ) → Ok tt ≡ qubit_question q → Fits w64 (q + 1)
letter_index q h = record { fits = omega (arith, qubit-below q (sym h)) }

-- ---- the places at which two strings anticommute
module _ (s t : List ℕ) (p : Ok tt ≡ strings_questions s t) where
  first-formed : WellFormed 128 s
  unfolding strings_questions
  first-formed = string-formed s (done_first _ _ (sym p))

  second-formed : WellFormed 128 t
  unfolding strings_questions
  second-formed = string-formed t (done_second (string_questions s) _ (sym p))

  pub first-place : 1 ≤ length s
  first-place = omega (arith, first-formed.long)

  pub second-place : 1 ≤ length t
  second-place = omega (arith, second-formed.long)

  -- 128 places are counted, which is below 256
  pub places_are : {n m : ℕ} → n ≡ m → m ≡ places_of (shorter (from 1 s) (from 1 t)) (from 1 s) (from 1 t) % 256 → n ≡ places_of_records s t
  unfolding places_of_records string_of letter_at qubits
  places_are c e =
      let short : shorter (from 1 s) (from 1 t) ≡ 128 = omega (arith, first-formed.long, second-formed.long, length_from 1 s, length_from 1 t) in
      c ∙ e ∙ ap (λ (j : ℕ). places_of j (from 1 s) (from 1 t) % 256) short
      ∙ places_of-rows (string_of s) (string_of t) 128 (from 1 s) (from 1 t) (omega arith) (letter_here_lem s) (letter_here_lem t) (decode_within 128 t)
    where
      letter_here_lem : (u : List ℕ) (q : ℕ) → q < 128 → letter_of (get_or (from 1 u) q 0) ≡ (decode_string 128 u).letters q
      letter_here_lem u q l = ap letter_of (from_at u q) ∙ sym (decode_letter 128 u q l)

pub ruleset string_reads = (get_asked, phase_read, phase-place, letter_read, letter-place, letter_index, first-place, second-place, places_are, answers, in_order, rules)

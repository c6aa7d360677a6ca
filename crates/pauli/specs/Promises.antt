-- What each public function on phases, letters and strings promises of its answer r: the questions, the answer, and the destination,
-- which held d at entry and holds e at exit.
use Rattle.std.specs.Prelude.{ℕ, List, length, Bool}
use Rattle.pauli_group.specs.Phase.{is_real}
use Rattle.pauli.specs.Answers.{Answer, Outcome, number_value, one_or_zero, letter_value, Answered, Written, NumberWritten, CountWritten}
use Rattle.pauli.specs.declared.algebra.PhasedLetter.{PhasedLetter}
use Rattle.pauli.specs.Layout.{phase_of}
use Rattle.pauli.specs.Rows.{phase_bytes_product, letter_bytes_product, conjugate_byte}
use Rattle.pauli.specs.Questions.{byte_question, pair_questions, string_questions, get_questions, strings_questions, mul_questions, with_phase_questions}
use Rattle.pauli.specs.Strings.{phase_of_record, letter_of_record, places_of_records, places_taken_of_records, product_record, entries_record}
use Rattle.pauli.specs.Text.{from_sparse_questions, from_dense_questions, from_str_questions, sparse_record, dense_record, text_record}
use Rattle.pauli.specs.SparseText.{to_sparse_questions, text_of_record}

-- ---- phases and letters

abbrev pub PhasesMultiplied : (a b : ℕ) (r : Answer ℕ) → Type 0
PhasesMultiplied a b r = Answered number_value (pair_questions a b) (phase_bytes_product a b) r

abbrev pub PhaseConjugated : (p : ℕ) (r : Answer ℕ) → Type 0
PhaseConjugated p r = Answered number_value (byte_question p) (conjugate_byte p) r

abbrev pub PhaseIsReal : (p : ℕ) (r : Answer Bool) → Type 0
PhaseIsReal p r = Answered one_or_zero (byte_question p) (is_real (phase_of p)) r

abbrev pub LettersMultiplied : (a b : ℕ) (r : Answer PhasedLetter) → Type 0
LettersMultiplied a b r = Answered letter_value (pair_questions a b) (letter_bytes_product a b) r

-- ---- string records s and t

abbrev pub PhaseOfString : (s : List ℕ) (r : Answer ℕ) → Type 0
PhaseOfString s r = Answered number_value (string_questions s) (phase_of_record s) r

abbrev pub LetterOfString : (s : List ℕ) (q : ℕ) (r : Answer ℕ) → Type 0
LetterOfString s q r = Answered number_value (get_questions s q) (letter_of_record s q) r

abbrev pub PlacesCounted : (s t : List ℕ) (r : Answer ℕ) → Type 0
PlacesCounted s t r = Answered number_value (strings_questions s t) (places_of_records s t) r

abbrev pub StringsMultiplied : (s t d e : List ℕ) (r : Answer ℕ) → Type 0
StringsMultiplied s t d e r = NumberWritten (mul_questions s t (length d)) (places_taken_of_records s t) (product_record s t) d e r

-- ---- strings from entries es and from text, and text from strings

abbrev pub FromEntries : (p : ℕ) (es d e : List ℕ) (r : Outcome) → Type 0
FromEntries p es d e r = Written (with_phase_questions p es (length d)) (entries_record p es) d e r

abbrev pub FromSparseText : (text d e : List ℕ) (r : Outcome) → Type 0
FromSparseText text d e r = Written (from_sparse_questions text (length d)) (sparse_record text) d e r

abbrev pub FromDenseText : (text d e : List ℕ) (r : Outcome) → Type 0
FromDenseText text d e r = Written (from_dense_questions text (length d)) (dense_record text) d e r

abbrev pub FromText : (text d e : List ℕ) (r : Outcome) → Type 0
FromText text d e r = Written (from_str_questions text (length d)) (text_record text) d e r

abbrev pub SparseTextWritten : (s d e : List ℕ) (r : Answer ℕ) → Type 0
SparseTextWritten s d e r = CountWritten (to_sparse_questions s (length d)) (text_of_record s) d e r

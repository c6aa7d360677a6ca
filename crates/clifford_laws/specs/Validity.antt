-- What validity amounts to, of records and by the definitions that `is_valid`, `apply`, `mul` and `extended_to` cite (change requests,
-- "What validity amounts to").
use Rattle.std.specs.Prelude.{ℕ, max, ◌≤◌, ◌<◌, ◌≡◌, true, List, ◌↔◌, Ok, Bool}
use Rattle.pauli_group.specs.PauliString.{single}
use Rattle.clifford_group.specs.Conjugation.{Generator, generator}
use Rattle.pauli.specs.Layout.{string_length, string_record}
use Rattle.pauli.specs.Questions.{string_questions, mul_questions}
use Rattle.pauli.specs.Strings.{product_record}
use Rattle.clifford.specs.Layout.{width_of, record_length}
use Rattle.clifford.specs.Questions.{tableau_questions, apply_answer, extend_answer}
use Rattle.clifford.specs.Tableaux.{record_valid, apply_record, extend_record}
use Rattle.clifford.specs.Promises.{ValidityTold}
use Rattle.pauli.specs.Answers.{Answer}

-- "sending their product through it gives the product of the two images, phase included": the same 129 bytes
abbrev pub ProductSent : (t p q : List ℕ) → Type 0
ProductSent t p q = apply_record t (product_record p q) ≡ product_record (apply_record t p) (apply_record t q)

-- "for every two strings P and Q of up to 128 qubits"
abbrev pub RecordMultiplicative : List ℕ → Type 0
RecordMultiplicative t = (p q : List ℕ) → string_questions p ≡ Ok tt → string_questions q ≡ Ok tt → ProductSent t p q

-- the same of the generators alone, which are one X or one Z on a qubit of the tableau: the one on the higher qubit first, and on one
-- qubit each with each
abbrev pub generator_record : Generator → ℕ → List ℕ
generator_record g q = string_record (single (generator g) q)

abbrev pub GeneratorsSent : List ℕ → Type 0
GeneratorsSent t = (g k : Generator) (q r : ℕ) → q < width_of t → r ≤ q → ProductSent t (generator_record g q) (generator_record k r)

-- "send every string alike"
abbrev pub RecordsSendAlike : List ℕ → List ℕ → Type 0
RecordsSendAlike t u = (s : List ℕ) → string_questions s ≡ Ok tt → apply_record t s ≡ apply_record u s

-- "their records, widened to the larger width, are the same bytes"
abbrev pub larger_width : List ℕ → List ℕ → ℕ
larger_width t u = max (width_of t) (width_of u)

abbrev pub SameBytesWidened : List ℕ → List ℕ → Type 0
SameBytesWidened t u = extend_record t (larger_width t u) ≡ extend_record u (larger_width t u)

-- The request's two sentences, of all records t and u that pass their questions, and the calls in them.
pub record ValiditySentence : Type 0 where
  pub products : (t : List ℕ) → tableau_questions t ≡ Ok tt → (record_valid t ≡ true) ↔ RecordMultiplicative t
  pub alike : (t u : List ℕ) → tableau_questions t ≡ Ok tt → tableau_questions u ≡ Ok tt → record_valid t ≡ true → record_valid u ≡ true
      → RecordsSendAlike t u ↔ SameBytesWidened t u
  -- `is_valid` answers yes for these records alone, of any bytes
  pub told : (t : List ℕ) (r : Answer Bool) → ValidityTold t r → (r ≡ Ok true) ↔ ((tableau_questions t ≡ Ok tt) × RecordMultiplicative t)
  -- what is sent or multiplied is a string again, and each call is accepted wherever the room suffices
  pub sent : (t s : List ℕ) → string_questions (apply_record t s) ≡ Ok tt
  pub multiplied : (p q : List ℕ) → string_questions (product_record p q) ≡ Ok tt
  pub sends : (t s : List ℕ) → tableau_questions t ≡ Ok tt → string_questions s ≡ Ok tt → (room : ℕ) → string_length ≤ room
      → apply_answer t s room ≡ Ok tt
  pub multiplies : (p q : List ℕ) → string_questions p ≡ Ok tt → string_questions q ≡ Ok tt → (room : ℕ) → string_length ≤ room
      → mul_questions p q room ≡ Ok tt
  pub widens : (t u : List ℕ) → tableau_questions t ≡ Ok tt → tableau_questions u ≡ Ok tt → (room : ℕ) → record_length (larger_width t u) ≤ room
      → (extend_answer t (larger_width t u) room ≡ Ok tt) × (extend_answer u (larger_width t u) room ≡ Ok tt)

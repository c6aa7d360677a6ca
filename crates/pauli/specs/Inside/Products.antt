-- The product of two strings place by place: what its functions may count on, and what they leave.
use Rattle.std.specs.Prelude.{◌≡◌, ℕ, ◌+◌, ◌<◌, ◌≤◌, max, cond, List, ◌++◌, length, take, drop, replicate, ◌==◌, Ok}
use Rattle.pauli_group.specs.Phase.{Phase, ◌·◌}
use Rattle.pauli_group.specs.Letter.{letter_phase}
use Rattle.pauli_group.specs.PauliString.{product_to, phase_of_letters, mul}
use Rattle.pauli_group.specs.Papers.{power}
use Rattle.pauli.specs.Places.{listed}
use Rattle.pauli.specs.Layout.{letter_byte, string_length, string_of, WellFormed}
use Rattle.pauli.specs.Questions.{strings_questions}
use Rattle.pauli.specs.Strings.{places_taken_of_records}
use Rattle.pauli.specs.declared.algebra.Sight.{Sight}

-- with the bytes x and y of one more place, q
unfoldable pub seen_with : Sight → ℕ → ℕ → ℕ → Sight
seen_with r x y q = record { largest = max r.largest (max x y); places = cond (max x y == 0) r.places (q + 1) }

-- what one pass over two byte sequences sees: no byte above 3 only where the questions let both by, and then the product's places
pub record Looked (s t : List ℕ) (r : Sight) : Type 0 where
  pub clean : r.largest < 4 → strings_questions s t ≡ Ok tt
  pub taken : strings_questions s t ≡ Ok tt → r.places ≡ places_taken_of_records s t

-- two string records, and the places that their product takes
pub record Factors (s t : List ℕ) (places : ℕ) : Type 0 where
  pub first : WellFormed 128 s
  pub second : WellFormed 128 t
  pub taken : places ≡ places_taken_of_records s t

-- and a destination with room for it
pub record Operands (s t : List ℕ) (places : ℕ) (d : List ℕ) : Type 0 where
  pub factors : Factors s t places
  pub room : string_length ≤ length d

-- the letters of the product, as bytes, and the phase that the first n of its places give
unfoldable pub product_row : List ℕ → List ℕ → List ℕ
product_row s t = listed 128 (λ q. letter_byte ((mul (string_of s) (string_of t)).letters q))

unfoldable pub phase_to : ℕ → List ℕ → List ℕ → Phase
phase_to n s t = product_to n (λ q. letter_phase ((string_of s).letters q) ((string_of t).letters q))

-- a row of I
unfoldable pub blank_row : List ℕ
blank_row = replicate 128 0

-- two string records, the places that their product takes, and a row of I for it
pub record Beginning (s t : List ℕ) (places : ℕ) (row : List ℕ) : Type 0 where
  pub factors : Factors s t places
  pub blank : row ≡ blank_row

-- the row has the first i letters of the product, and I behind them
pub record RowTo (s t : List ℕ) (i : ℕ) (row : List ℕ) : Type 0 where
  pub within : i ≤ 128
  pub out : row ≡ take i (product_row s t) ++ drop i blank_row

-- a step of 32 places, before it and after it; r is the turns of its places
pub record Stepping (s t : List ℕ) (i : ℕ) (row : List ℕ) : Type 0 where
  pub first : WellFormed 128 s
  pub second : WellFormed 128 t
  pub room : i + 32 ≤ 128
  pub before : RowTo s t i row

pub record Stepped (s t : List ℕ) (i : ℕ) (row : List ℕ) (r : ℕ) : Type 0 where
  pub after : RowTo s t (i + 32) row
  pub turns : phase_to i s t · power r ≡ phase_to (i + 32) s t

-- all letters of the product, and the turns of their phases
pub record RowMultiplied (s t row : List ℕ) (r : ℕ) : Type 0 where
  pub letters : row ≡ product_row s t
  pub turns : power r ≡ phase_of_letters (string_of s).letters (string_of t).letters

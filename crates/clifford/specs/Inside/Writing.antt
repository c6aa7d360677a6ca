-- What a function that writes may count on once the questions have let it by.
use Rattle.std.specs.Prelude.{◌≡◌, ℕ, ◌*◌, ◌<◌, ◌≤◌, List}
use Rattle.pauli_group.specs.PauliString.{PauliString, scale, commutation_sign, Within}
use Rattle.pauli.specs.Layout.{string_of, WellFormed}
use Rattle.clifford.specs.Layout.{width_of, FormedTableau}
use Rattle.clifford.specs.Images.{pauli_width}

-- ---- an image set

-- a string s of t's width
pub record Setting (t s : List ℕ) : Type 0 where
  pub tableau : FormedTableau t
  pub string : WellFormed 128 s
  pub inside : Within (width_of t) (string_of s)

-- a tableau, a row of it, and a string of its width
pub record SetsRow (t : List ℕ) (r : ℕ) (s : List ℕ) : Type 0 where
  pub sets : Setting t s
  pub own : r < 2 * width_of t

-- a tableau, a qubit of it, and a string of its width
pub record Sets (t : List ℕ) (q : ℕ) (s : List ℕ) : Type 0 where
  pub sets : Setting t s
  pub slot : q < width_of t

-- ---- the tableau of a Pauli string

-- r is the width of it
pub record Span (s : List ℕ) (r : ℕ) : Type 0 where
  pub is : r ≡ pauli_width (string_of s)
  pub small : r ≤ 128

-- conjugation by s keeps the letter x up to the sign by which the two change places
unfoldable pub conjugated : PauliString → PauliString → PauliString
conjugated s x = scale (commutation_sign s x) x

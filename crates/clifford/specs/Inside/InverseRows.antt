-- The rows of an inverse in the order of its record: their bodies, which have the letters by the symplectic transpose.
use Rattle.std.specs.Prelude.{◌≡◌, ℕ, ◌*◌, ◌<◌, Bool, true, false, cond, List, nat_lt}
use Rattle.pauli_group.specs.Letter.{Letter}
use Rattle.pauli_group.specs.PauliString.{PauliString}
use Rattle.clifford_group.specs.Tableau.{Tableau, has_x, has_z, transposed}
use Rattle.pauli.specs.Layout.{letter_byte}
use Rattle.pauli.specs.Places.{listed}
use Rattle.clifford.specs.Layout.{row_of, width_of, row_qubit}

-- which bit of a letter row r of the inverse reads, of width w: the z bit for an X row and the x bit for a Z row
unfoldable pub row_bit : ℕ → ℕ → Letter → Bool
row_bit w r = cond (nat_lt r w) has_z has_x

-- that bit in row s of t, read in the column of row r's qubit
unfoldable pub bit_read : Tableau → ℕ → ℕ → Bool
bit_read t r s = row_bit t.width r ((row_of t s).letters (row_qubit t.width r))

unfoldable pub bit_byte : Bool → ℕ
bit_byte false = 0
bit_byte true = 1

-- the body of row r: phase +1, and the letters by the transpose
unfoldable pub body_of : Tableau → ℕ → PauliString
body_of t r = transposed t (row_bit t.width r) (row_qubit t.width r)

-- its letter bytes, w in number
unfoldable pub body_bytes : Tableau → ℕ → ℕ → List ℕ
body_bytes t w r = listed w (λ c. letter_byte ((body_of t r).letters c))

-- ---- what the functions that write them may count on

-- row r of the inverse of b, which has width w: the old row r is one of b's
pub record RowBack (b : List ℕ) (w r : ℕ) : Type 0 where
  pub own : r < 2 * width_of b
  pub wide : w ≡ width_of b

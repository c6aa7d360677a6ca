-- What the loops over the rows may count on.
use Rattle.std.specs.Prelude.{ℕ, ◌<◌, List}
use Rattle.clifford.specs.Layout.{width_of}
use Rattle.clifford.specs.Inside.Rows.{Laid}

-- the qubit of a one-qubit gate, of a record that is as long as its width says
pub record PlaysLetters (q : ℕ) (t : List ℕ) : Type 0 where
  pub laid : Laid t
  pub qubit : q < width_of t

-- the two qubits of a two-qubit gate
pub record PlaysPairs (q r : ℕ) (t : List ℕ) : Type 0 where
  pub laid : Laid t
  pub first : q < width_of t
  pub second : r < width_of t

-- What is claimed of tableaux: which are valid, that `apply` is the papers' conjugation, and when two send strings alike.
use Rattle.std.specs.Prelude.{◌≡◌, true, false, ◌≢◌, ℕ, ◌<◌, max}
use Rattle.pauli_group.specs.Phase.{Phase, is_real}
use Rattle.pauli_group.specs.Letter.{Letter, X, Z}
use Rattle.pauli_group.specs.PauliString.{PauliString, qubits, mul, identity_string, scale, single, commute, Within}
use Rattle.pauli_group.specs.Operators.{Numbers, Vector, times_vector, act}
use Rattle.clifford_group.specs.Tableau.{Tableau, image_of, apply, widen, Same}

-- X rows and Z rows as one: a row belongs to a generator, X or Z, and a qubit
pub data Generator : Type 0 where
  of_x of_z : Generator

abbrev pub generator : Generator → Letter
generator of_x = X
generator of_z = Z

abbrev pub row : Tableau → Generator → ℕ → PauliString
row t of_x = t.x_image
row t of_z = t.z_image

-- phases real, X and Z images of one qubit anticommute, every other pair commutes
pub record Valid (t : Tableau) : Type 0 where
  pub real : (g : Generator) (q : ℕ) → q < t.width → is_real (row t g q).phase ≡ true
  pub anticommuting : (q : ℕ) → q < t.width → commute (t.x_image q) (t.z_image q) ≡ false
  pub commuting : (g k : Generator) (q r : ℕ) → q < t.width → r < t.width → q ≢ r → commute (row t g q) (row t k r) ≡ true

-- `apply` sends the product of two strings to the product of their images; and so with all strings that a record holds
abbrev pub SendsProduct : Tableau → PauliString → PauliString → Type 0
SendsProduct t s u = apply t (mul s u) ≡ mul (apply t s) (apply t u)

abbrev pub Multiplicative : Tableau → Type 0
Multiplicative t = (s u : PauliString) → Within qubits s → Within qubits u → SendsProduct t s u

-- The papers' conjugation. An operator U has U·X = x'·U and U·Z = z'·U on each qubit, where x' and z' are the tableau's rows, or X and
-- Z themselves from the width on; for a unitary U these say U·X·U† = x' and U·Z·U† = z'. Of U's being linear, phases are enough.
pub record Carries (n : Numbers) (t : Tableau) (u : Vector n → Vector n) : Type 0 where
  pub phases : (p : Phase) (v : Vector n) → u (times_vector n p v) ≡ times_vector n p (u v)
  pub images : (g : Generator) (q : ℕ) → q < qubits → (v : Vector n)
      → u (act n (single (generator g) q) v) ≡ act n (image_of t q (generator g)) (u v)

-- The same as a map of strings, P ↦ U·P·U†: it sends products to products, keeps phases and the identity, and has these images.
pub record Conjugation (t : Tableau) (f : PauliString → PauliString) : Type 0 where
  pub products : (s u : PauliString) → Within qubits s → Within qubits u → f (mul s u) ≡ mul (f s) (f u)
  pub phases : (p : Phase) (s : PauliString) → Within qubits s → f (scale p s) ≡ scale p (f s)
  pub identity : f identity_string ≡ identity_string
  pub images : (g : Generator) (q : ℕ) → q < qubits → f (single (generator g) q) ≡ image_of t q (generator g)

-- two tableaux, of whatever widths, that send strings alike; and that have the same rows once both are widened to the larger width
abbrev pub SendAlike : Tableau → Tableau → Type 0
SendAlike a b = (s : PauliString) → Within qubits s → apply a s ≡ apply b s

abbrev pub SameWidened : Tableau → Tableau → Type 0
SameWidened a b = Same (widen (max a.width b.width) a) (widen (max a.width b.width) b)

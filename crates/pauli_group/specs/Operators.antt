-- Pauli strings as operators (Gottesman, section 2). A string P sends a basis state to one basis state, with a phase as amplitude:
-- P|x> = amplitude P x · |imageState P x>. Qubit by qubit this is what the columns of the letters' matrices say: `columns`.
use Rattle.std.specs.Prelude.{ℕ, ◌≡◌, Bool, true, false, not}
use Rattle.pauli_group.specs.Phase.{Phase, PlusOne, PlusI, MinusI, sign, ◌·◌}
use Rattle.pauli_group.specs.Letter.{Letter, I, X, Z, Y}
use Rattle.pauli_group.specs.PauliString.{PauliString, qubits, product_to}
use Rattle.pauli_group.specs.Papers.{Gaussian, Matrix}

-- the number in a row and a column of a matrix, each named by its bit
unfoldable pub matrix_entry : Matrix → Bool → Bool → Gaussian
matrix_entry m false false = m.a
matrix_entry m false true = m.b
matrix_entry m true false = m.c
matrix_entry m true true = m.d

-- the bit that a letter makes of a bit: X and Y flip it
unfoldable pub image_bit : Letter → Bool → Bool
image_bit I x = x
image_bit X x = not x
image_bit Z x = x
image_bit Y x = not x

-- and the factor that comes with it: Z|1> = -|1>, Y|0> = i|1>, Y|1> = -i|0>
unfoldable pub factor : Letter → Bool → Phase
factor I x = PlusOne
factor X x = PlusOne
factor Z x = sign x
factor Y false = PlusI
factor Y true = MinusI

-- a bit for each qubit; the string of a record leaves those at `qubits` and above
abbrev pub BasisState : Type 0
BasisState = ℕ → Bool

unfoldable pub image_state : PauliString → BasisState → BasisState
image_state s x = λ q. image_bit (s.letters q) (x q)

unfoldable pub amplitude : PauliString → BasisState → Phase
amplitude s x = s.phase · product_to qubits (λ q. factor (s.letters q) (x q))

-- The numbers of vectors: any that phases multiply, as they do the complex ones.
pub record Numbers : Type 1 where
  pub Number : Type 0
  pub times : Phase → Number → Number
  pub one : (a : Number) → times PlusOne a ≡ a
  pub twice : (p q : Phase) (a : Number) → times (p · q) a ≡ times p (times q a)

-- a number for each basis state
abbrev pub Vector : Numbers → Type 0
Vector n = BasisState → n.Number

unfoldable pub times_vector : (n : Numbers) → Phase → Vector n → Vector n
times_vector n p v = λ y. n.times p (v y)

-- P·v: what P makes of the number at x stands at x's image. The x whose image is y is P's own image of y: `image_back`.
unfoldable pub act : (n : Numbers) → PauliString → Vector n → Vector n
act n s v = λ y. n.times (amplitude s (image_state s y)) (v (image_state s y))

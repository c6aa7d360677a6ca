-- The papers' own forms of product and commutation. proofs/ shows that they agree with the definitions of the other files.
use Rattle.std.specs.Prelude.{ℕ, zero, suc, ◌%◌, ◌≡◌, Bool, eqb, ℤ, pos, negsuc, neg_ℤ, nat_abs, ◌+ℤ◌, ◌-ℤ◌, ◌*ℤ◌}
use Rattle.pauli_group.specs.Phase.{Phase, PlusOne, MinusOne, PlusI, MinusI, conjugate, turn}
use Rattle.pauli_group.specs.Letter.{Letter, I, X, Z, Y}
use Rattle.pauli_group.specs.PauliString.{PauliString, qubits}

-- ---- Gottesman, section 2: letters are 2 by 2 matrices, here over the Gaussian integers

-- re + im·i
pub record Gaussian : Type 0 where
  pub re : ℤ
  pub im : ℤ

abbrev pub gaussian : ℤ → ℤ → Gaussian
gaussian a b = record { re = a; im = b }

unfoldable pub add_g : Gaussian → Gaussian → Gaussian
add_g z w = gaussian (z.re +ℤ w.re) (z.im +ℤ w.im)

unfoldable pub mul_g : Gaussian → Gaussian → Gaussian
mul_g z w = gaussian (z.re *ℤ w.re -ℤ z.im *ℤ w.im) (z.re *ℤ w.im +ℤ z.im *ℤ w.re)

-- the complex conjugate
unfoldable pub conjugate_g : Gaussian → Gaussian
conjugate_g z = gaussian z.re (neg_ℤ z.im)

-- the rows (a, b) and (c, d), of numbers or of blocks; and the product
pub record Square (A : Type 0) : Type 0 where
  pub a : A
  pub b : A
  pub c : A
  pub d : A

abbrev pub square_product : {A : Type 0} (add times : A → A → A) → Square A → Square A → Square A
square_product add times m n = record {
  a = add (times m.a n.a) (times m.b n.c);
  b = add (times m.a n.b) (times m.b n.d);
  c = add (times m.c n.a) (times m.d n.c);
  d = add (times m.c n.b) (times m.d n.d);
}

abbrev pub Matrix : Type 0
Matrix = Square Gaussian

unfoldable pub matrix_product : Matrix → Matrix → Matrix
matrix_product m n = square_product add_g mul_g m n

unfoldable pub scale_matrix : Gaussian → Matrix → Matrix
scale_matrix z m = record { a = mul_g z m.a; b = mul_g z m.b; c = mul_g z m.c; d = mul_g z m.d }

unfoldable pub phase_number : Phase → Gaussian
phase_number PlusOne = gaussian (pos 1) (pos 0)
phase_number MinusOne = gaussian (negsuc 0) (pos 0)
phase_number PlusI = gaussian (pos 0) (pos 1)
phase_number MinusI = gaussian (pos 0) (negsuc 0)

unfoldable pub pauli_matrix : Letter → Matrix
unfolding phase_number
pauli_matrix I = record { a = phase_number PlusOne; b = gaussian (pos 0) (pos 0); c = gaussian (pos 0) (pos 0); d = phase_number PlusOne }
pauli_matrix X = record { a = gaussian (pos 0) (pos 0); b = phase_number PlusOne; c = phase_number PlusOne; d = gaussian (pos 0) (pos 0) }
pauli_matrix Y = record { a = gaussian (pos 0) (pos 0); b = phase_number MinusI; c = phase_number PlusI; d = gaussian (pos 0) (pos 0) }
pauli_matrix Z = record { a = phase_number PlusOne; b = gaussian (pos 0) (pos 0); c = gaussian (pos 0) (pos 0); d = phase_number MinusOne }

-- two matrices anticommute: m·n = -n·m
abbrev pub MatricesAnticommute : Matrix → Matrix → Type 0
MatricesAnticommute m n = matrix_product m n ≡ scale_matrix (phase_number MinusOne) (matrix_product n m)

-- ---- Aaronson and Gottesman, section III: a letter is two bits, x z = 00 I, 10 X, 01 Z, 11 Y

unfoldable pub x_bit : Letter → ℤ
x_bit I = pos 0
x_bit X = pos 1
x_bit Z = pos 0
x_bit Y = pos 1

unfoldable pub z_bit : Letter → ℤ
z_bit I = pos 0
z_bit X = pos 0
z_bit Z = pos 1
z_bit Y = pos 1

-- g: the exponent of i when the letters x₁z₁ and x₂z₂ are multiplied, by cases on x₁z₁ as the paper has it
unfoldable pub exponent : Letter → Letter → ℤ
unfolding x_bit z_bit
exponent I l = pos 0
exponent Y l = z_bit l -ℤ x_bit l
exponent X l = z_bit l *ℤ (pos 2 *ℤ x_bit l -ℤ pos 1)
exponent Z l = x_bit l *ℤ (pos 1 -ℤ pos 2 *ℤ z_bit l)

-- the sum of f 0 to f (n - 1)
unfoldable pub sum_to : ℕ → (ℕ → ℤ) → ℤ
sum_to zero f = pos 0
sum_to (suc n) f = sum_to n f +ℤ f n

-- i to the power n, and to an integer power
unfoldable pub power : ℕ → Phase
power zero = PlusOne
power (suc n) = turn (power n)

unfoldable pub power_of_i : ℤ → Phase
power_of_i (pos n) = power n
power_of_i (negsuc n) = conjugate (power (suc n))

-- a phase's own exponent of i: 2r for the sign bit r of a row, and 1 and 3 for +i and -i
unfoldable pub phase_exponent : Phase → ℤ
phase_exponent PlusOne = pos 0
phase_exponent PlusI = pos 1
phase_exponent MinusOne = pos 2
phase_exponent MinusI = pos 3

-- rowsum: the exponent of i of the product of two rows, to be read modulo 4
unfoldable pub rowsum : PauliString → PauliString → ℤ
rowsum s t =
    phase_exponent s.phase +ℤ phase_exponent t.phase +ℤ sum_to qubits (λ q. exponent (s.letters q) (t.letters q))

-- the symplectic product of two rows, a sum of x₁z₂ + z₁x₂, to be read modulo 2
unfoldable pub symplectic_product : PauliString → PauliString → ℤ
symplectic_product s t =
    sum_to qubits (λ q. x_bit (s.letters q) *ℤ z_bit (t.letters q) +ℤ z_bit (s.letters q) *ℤ x_bit (t.letters q))

-- an integer modulo 2: 0 or 1
unfoldable pub modulo2 : ℤ → ℤ
modulo2 z = pos (nat_abs z % 2)

-- an integer is 0 modulo 2
unfoldable pub is_even : ℤ → Bool
is_even z = eqb (nat_abs z % 2) 0

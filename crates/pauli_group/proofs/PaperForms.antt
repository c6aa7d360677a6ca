-- The papers' forms agree with the definitions: letters are matrices, rowsum gives the product's phase, and the symplectic
-- product gives commutation.
use mathlib.Core.Path.{◌≡◌, refl, sym, ap, ap₂, ◌∙◌}
use mathlib.Core.Bool.{Bool, true, false, ◌&&◌, cond}
use Prim.Native.Nat.{ℕ, zero, suc, ◌+◌, ◌%◌}
use native.Mathlib.Omega.{arith}
use lib.Dec.{T, eqb, eqb→eq}
use lib.IntN.{ℤ, pos, negsuc, suc_ℤ, pred_ℤ, nat_abs, ◌+ℤ◌, ◌*ℤ◌, +ℤ-suc_ℤ, +ℤ-pred_ℤ, +ℤ_idr, suc-pred, pos-+ℤ-pos}
use Rattle.pauli_group.specs.Phase.{Phase, PlusOne, PlusI, MinusI, negate, turn, ◌·◌, conjugate}
use Rattle.pauli_group.specs.Letter.{Letter, letter_product, letter_phase, letter_mul, anticommute}
use Rattle.pauli_group.specs.PauliString.{PauliString, qubits, product_to, count_to, phase_of_letters, mul, anticommuting_places, commute}
use Rattle.pauli_group.specs.Papers.{Gaussian, add_g, mul_g, Matrix, matrix_product, scale_matrix, phase_number, pauli_matrix}
use Rattle.pauli_group.specs.Papers.{x_bit, z_bit, exponent, sum_to, power, power_of_i, phase_exponent, rowsum, symplectic_product, is_even}
use Rattle.pauli_group.proofs.Finite.{letters, phases, each2, law1, law2}
use Rattle.pauli_group.proofs.Products.{product_to_ext}
use Rattle.pauli_group.proofs.Laws.{·_assoc, ·-one}

-- ---- the letter product is the product of the matrices
-- equality of matrices as a test
abbrev pub same_integer : ℤ → ℤ → Bool
same_integer (pos m) (pos n) = eqb m n
same_integer (pos m) (negsuc n) = false
same_integer (negsuc m) (pos n) = false
same_integer (negsuc m) (negsuc n) = eqb m n

pub equal_integer : (x y : ℤ) → T (same_integer x y) → x ≡ y
equal_integer (pos m) (pos n) t = ap pos (eqb→eq m n t)
equal_integer (pos m) (negsuc n) t = absurd t
equal_integer (negsuc m) (pos n) t = absurd t
equal_integer (negsuc m) (negsuc n) t = ap negsuc (eqb→eq m n t)

pub both : (a b : Bool) → T (a && b) → T a × T b
both true b t = (tt, t)
both false b t = absurd t

abbrev pub same-gaussian : Gaussian → Gaussian → Bool
same-gaussian z w = same_integer z.re w.re && same_integer z.im w.im

pub equal_gaussian : (z w : Gaussian) → T (same-gaussian z w) → z ≡ w
equal_gaussian z w t =
    let parts = both (same_integer z.re w.re) (same_integer z.im w.im) t in
    let re : z.re ≡ w.re = equal_integer z.re w.re parts.0 in
    let im : z.im ≡ w.im = equal_integer z.im w.im parts.1 in
    λ i. record { re = re i; im = im i }

abbrev same_row : Gaussian → Gaussian → Gaussian → Gaussian → Bool
same_row a b a' b' = same-gaussian a a' && same-gaussian b b'

abbrev pub same_matrix : Matrix → Matrix → Bool
same_matrix m n = same_row m.a m.b n.a n.b && same_row m.c m.d n.c n.d

pub equal_matrix : (m n : Matrix) → T (same_matrix m n) → m ≡ n
equal_matrix m n t =
    let rows = both (same_row m.a m.b n.a n.b) (same_row m.c m.d n.c n.d) t in
    let upper = both (same-gaussian m.a n.a) (same-gaussian m.b n.b) rows.0 in
    let lower = both (same-gaussian m.c n.c) (same-gaussian m.d n.d) rows.1 in
    let a : m.a ≡ n.a = equal_gaussian m.a n.a upper.0 in
    let b : m.b ≡ n.b = equal_gaussian m.b n.b upper.1 in
    let c : m.c ≡ n.c = equal_gaussian m.c n.c lower.0 in
    let d : m.d ≡ n.d = equal_gaussian m.d n.d lower.1 in
    λ i. record { a = a i; b = b i; c = c i; d = d i }

-- one computed test over the sixteen pairs
pub letters_are_matrices : (a b : Letter)
    → matrix_product (pauli_matrix a) (pauli_matrix b) ≡ scale_matrix (phase_number (letter_phase a b)) (pauli_matrix (letter_mul a b))
unfolding matrix_product scale_matrix pauli_matrix phase_number add_g mul_g letter_phase letter_mul letter_product
letters_are_matrices a b = equal_matrix _ _ (each2 letters letters test tt a b)
  where
    test : Letter → Letter → Bool
    test a b = same_matrix (matrix_product (pauli_matrix a) (pauli_matrix b)) (scale_matrix (phase_number (letter_phase a b)) (pauli_matrix (letter_mul a b)))

-- ---- rowsum
pub power_add : (m n : ℕ) → power (m + n) ≡ power m · power n
unfolding power ◌·◌ negate turn
power_add zero n = let e : 0 + n ≡ n = omega arith in ap power e
power_add (suc m) n = let e : suc m + n ≡ suc (m + n) = omega arith in ap power e ∙ more (power_add m n)
  where
    more : power (m + n) ≡ power m · power n → turn (power (m + n)) ≡ turn (power m) · power n
    more e = ap turn e ∙ sym (·_assoc PlusI (power m) (power n))

-- i to the power of a successor and of a predecessor
none : PlusOne ≡ power_of_i (pos 0)
unfolding power_of_i power
none = refl

turn_is : (p : Phase) → turn p ≡ p · PlusI
unfolding ◌·◌ negate turn
turn_is = law1 phases phases turn (λ p. p · PlusI) tt

back-turn : (p : Phase) → conjugate p ≡ conjugate (turn p) · PlusI
unfolding ◌·◌ negate turn conjugate
back-turn = law1 phases phases conjugate (λ p. conjugate (turn p) · PlusI) tt

power_suc : (k : ℤ) → power_of_i (suc_ℤ k) ≡ power_of_i k · PlusI
unfolding power_of_i power conjugate
power_suc (pos n) = turn_is (power n)
power_suc (negsuc zero) = back-turn PlusOne
power_suc (negsuc (suc n)) = back-turn (turn (power n))

turn-back : (p : Phase) → p ≡ p · PlusI · MinusI
unfolding ◌·◌ negate turn
turn-back = law1 phases phases (λ p. p) (λ p. p · PlusI · MinusI) tt

power_pred : (k : ℤ) → power_of_i (pred_ℤ k) ≡ power_of_i k · MinusI
power_pred k = turn-back (power_of_i (pred_ℤ k)) ∙ ap (λ p. p · MinusI) (sym (power_suc (pred_ℤ k)) ∙ ap power_of_i (suc-pred k))

-- a sum's power where one summand takes a step
module _ (step : ℤ → ℤ) (factor : Phase) (power-step : (k : ℤ) → power_of_i (step k) ≡ power_of_i k · factor) (sum_step : (m k : ℤ) → m +ℤ step k ≡ step (m +ℤ k)) where
  add_step : (m k : ℤ) → power_of_i (m +ℤ k) ≡ power_of_i m · power_of_i k → power_of_i (m +ℤ step k) ≡ power_of_i m · power_of_i (step k)
  add_step m k e =
      ap power_of_i (sum_step m k) ∙ power-step (m +ℤ k) ∙ ap (λ p. p · factor) e ∙ ·_assoc (power_of_i m) (power_of_i k) factor
      ∙ ap (λ p. power_of_i m · p) (sym (power-step k))

add_none : (m : ℤ) → power_of_i (m +ℤ pos 0) ≡ power_of_i m · power_of_i (pos 0)
add_none m = ap power_of_i (+ℤ_idr m) ∙ sym (·-one (power_of_i m)) ∙ ap (λ p. power_of_i m · p) none

-- i^(m + n) = i^m · i^n over the integers
pub power_of_i_add : (m n : ℤ) → power_of_i (m +ℤ n) ≡ power_of_i m · power_of_i n
power_of_i_add m (pos zero) = add_none m
power_of_i_add m (pos (suc n)) = add_step suc_ℤ PlusI power_suc +ℤ-suc_ℤ m (pos n) (power_of_i_add m (pos n))
power_of_i_add m (negsuc zero) = add_step pred_ℤ MinusI power_pred +ℤ-pred_ℤ m (pos zero) (add_none m)
power_of_i_add m (negsuc (suc n)) = add_step pred_ℤ MinusI power_pred +ℤ-pred_ℤ m (negsuc n) (power_of_i_add m (negsuc n))

-- g is the exponent of i of a letter product, by one computed test
exponent-is : (a b : Letter) → power_of_i (exponent a b) ≡ letter_phase a b
unfolding power_of_i power exponent x_bit z_bit conjugate turn letter_phase letter_product
exponent-is = law2 letters letters phases (λ a b. power_of_i (exponent a b)) letter_phase tt

phase-exponent : (p : Phase) → power_of_i (phase_exponent p) ≡ p
unfolding power_of_i power phase_exponent turn
phase-exponent = law1 phases phases (λ p. power_of_i (phase_exponent p)) (λ p. p) tt

powers_multiply : (n : ℕ) (f : ℕ → ℤ) → power_of_i (sum_to n f) ≡ product_to n (λ q. power_of_i (f q))
unfolding sum_to product_to
powers_multiply zero f = sym none
powers_multiply (suc n) f = power_of_i_add (sum_to n f) (f n) ∙ ap (λ p. p · power_of_i (f n)) (powers_multiply n f)

-- the phase of a product is i to the power that rowsum gives
pub rowsum-phase : (s t : PauliString) → (mul s t).phase ≡ power_of_i (rowsum s t)
unfolding mul rowsum phase_of_letters
rowsum-phase s t = sym (
    power_of_i_add _ (sum_to qubits g)
    ∙ ap₂ ◌·◌ (power_of_i_add (phase_exponent s.phase) (phase_exponent t.phase) ∙ ap₂ ◌·◌ (phase-exponent s.phase) (phase-exponent t.phase))
    (powers_multiply qubits g ∙ product_to_ext qubits _ _ (λ q l. exponent-is (s.letters q) (t.letters q))))
  where
    g : ℕ → ℤ
    g q = exponent (s.letters q) (t.letters q)

-- ---- the symplectic product
abbrev symplectic : Letter → Letter → ℤ
symplectic a b = x_bit a *ℤ z_bit b +ℤ z_bit a *ℤ x_bit b

symplectic_natural : (a b : Letter) → symplectic a b ≡ pos (nat_abs (symplectic a b))
unfolding x_bit z_bit
symplectic_natural a b = equal_integer _ _ (each2 letters letters test tt a b)
  where
    test : Letter → Letter → Bool
    test a b = same_integer (symplectic a b) (pos (nat_abs (symplectic a b)))

symplectic_parity : (a b : Letter) → nat_abs (symplectic a b) % 2 ≡ cond (anticommute a b) 1 0
unfolding x_bit z_bit anticommute
symplectic_parity a b = eqb→eq _ _ (each2 letters letters test tt a b)
  where
    test : Letter → Letter → Bool
    test a b = eqb (nat_abs (symplectic a b) % 2) (cond (anticommute a b) 1 0)

-- a sum of naturals, and a count that has its parity
record SameParity (n : ℕ) (f : ℕ → ℤ) (g : ℕ → Bool) : Type 0 where
  total : ℕ
  is : sum_to n f ≡ pos total
  same : total % 2 ≡ count_to n g % 2

sums : (n : ℕ) (f : ℕ → ℤ) (t : ℕ → ℕ) (g : ℕ → Bool) → ((q : ℕ) → f q ≡ pos (t q)) → ((q : ℕ) → t q % 2 ≡ cond (g q) 1 0) → SameParity n f g
unfolding sum_to count_to
sums zero f t g natural odd = record { total = 0; is = refl; same = refl }
sums (suc n) f t g natural odd = more (sums n f t g natural odd)
  where
    more : SameParity n f g → SameParity (suc n) f g
    more r = record {
      total = r.total + t n;
      is = ap₂ ◌+ℤ◌ r.is (natural n) ∙ pos-+ℤ-pos r.total (t n);
      same = omega (arith, r.same, odd n);
    }

-- two strings commute exactly where their symplectic product is even
pub symplectic_commute : (s t : PauliString) → commute s t ≡ is_even (symplectic_product s t)
unfolding commute anticommuting_places is_even symplectic_product
symplectic_commute s t =
    ap (λ n. eqb n 0) (sym r.same) ∙ ap (λ z. eqb (nat_abs z % 2) 0) (sym r.is)
  where
    r : SameParity qubits (λ q. symplectic (s.letters q) (t.letters q)) (λ q. anticommute (s.letters q) (t.letters q))
    r = sums qubits _ (λ q. nat_abs (symplectic (s.letters q) (t.letters q))) _ (λ q. symplectic_natural (s.letters q) (t.letters q))
        (λ q. symplectic_parity (s.letters q) (t.letters q))

-- The number of places at which two strings anticommute: it counts by the letters' matrices, -1 to its power is the sign of an
-- exchange, and it can be any number up to `qubits`.
use mathlib.Core.Path.{◌≡◌, refl, sym, ap, ap₂, ◌∙◌, subst}
use mathlib.Core.Bool.{Bool, true, false, not, cond}
use mathlib.Core.Logic.{◌↔◌}
use Prim.Native.Nat.{ℕ, zero, suc, ◌+◌, ◌%◌, ◌≤◌, ◌<◌, min}
use native.Mathlib.Omega.{arith}
use native.Mathlib.Decide.{dec_lt}
use lib.Dec.{T, ltb}
use borrow.Author.Tests.{lt-ltb, le-ltb, eq-eqb, eqb-true}
use Rattle.pauli_group.specs.Phase.{PlusOne, MinusOne, sign, minus_one_to}
use Rattle.pauli_group.specs.Letter.{Letter, I, X, Z, anticommute}
use Rattle.pauli_group.specs.PauliString.{PauliString, qubits, count_to, mul, anticommuting_places, commute, commutation_sign}
use Rattle.pauli_group.specs.Papers.{add_g, mul_g, Matrix, matrix_product, scale_matrix, phase_number, pauli_matrix, MatricesAnticommute}
use Rattle.pauli_group.specs.Operators.{Numbers, Vector, times_vector, act}
use Rattle.pauli_group.proofs.Finite.{letters, bools, law2}
use Rattle.pauli_group.proofs.Laws.{sign_injective}
use Rattle.pauli_group.proofs.Products.{count_to_le, count_to_ext}
use Rattle.pauli_group.proofs.Strings.{scale_one, mul_swap, sign-only, commute-sign, commute-mul}
use Rattle.pauli_group.proofs.PaperForms.{same_matrix, equal_matrix}
use Rattle.pauli_group.proofs.Operators.{act-mul, act-scale}

-- ---- letters anticommute exactly where their matrices do, by one computed test over the sixteen pairs
pub letters-anticommute : (a b : Letter) → (anticommute a b ≡ true) ↔ MatricesAnticommute (pauli_matrix a) (pauli_matrix b)
unfolding anticommute matrix_product scale_matrix pauli_matrix phase_number add_g mul_g
letters-anticommute a b =
    ((λ e. equal_matrix _ _ (subst T (sym (sym (tested a b) ∙ e)) tt)), (λ e. tested a b ∙ ap (λ m. same_matrix m (reversed a b)) e ∙ alike a b))
  where
    reversed : Letter → Letter → Matrix
    reversed a b = scale_matrix (phase_number MinusOne) (matrix_product (pauli_matrix b) (pauli_matrix a))

    tested : (a b : Letter) → anticommute a b ≡ same_matrix (matrix_product (pauli_matrix a) (pauli_matrix b)) (reversed a b)
    tested = law2 letters letters bools anticommute (λ a b. same_matrix (matrix_product (pauli_matrix a) (pauli_matrix b)) (reversed a b)) tt

    alike : (a b : Letter) → same_matrix (reversed a b) (reversed a b) ≡ true
    alike = law2 letters letters bools (λ a b. same_matrix (reversed a b) (reversed a b)) (λ a b. true) tt

-- ---- the number of places: any test of the matrices at each place counts as many
same_truth : (a b : Bool) → (a ≡ true) ↔ (b ≡ true) → a ≡ b
same_truth true b e = sym (e.0 refl)
same_truth false true e = e.1 refl
same_truth false false e = refl

pub places_by_matrices : (s t : PauliString) (test : ℕ → Bool)
    → ((q : ℕ) → q < qubits → (test q ≡ true) ↔ MatricesAnticommute (pauli_matrix (s.letters q)) (pauli_matrix (t.letters q)))
    → count_to qubits test ≡ anticommuting_places s t
unfolding anticommuting_places
places_by_matrices s t test h = count_to_ext qubits _ _ (λ q l. same_truth (test q) _
    (let m = letters-anticommute (s.letters q) (t.letters q) in ((λ e. m.1 ((h q l).0 e)), (λ e. (h q l).1 (m.0 e)))))

-- ---- it is even exactly where the strings commute
pub even-commute : (s t : PauliString) → (anticommuting_places s t % 2 ≡ 0) ↔ (mul s t ≡ mul t s)
unfolding commute sign
even-commute s t = ((λ e. commute-mul s t (eq-eqb _ 0 e)), (λ e. eqb-true _ 0 (even (commute s t) (sym (commute-sign s t) ∙ sym (one e)))))
  where
    one : mul s t ≡ mul t s → PlusOne ≡ commutation_sign s t
    one e = sign-only PlusOne s t (e ∙ sym (scale_one (mul t s)))

    even : (b : Bool) → sign (not b) ≡ PlusOne → b ≡ true
    even true e = refl
    even false e = sym (sign_injective true false e)

-- ---- as operators: P·Q·v = (-1)^n Q·P·v
pub act-places : (n : Numbers) (s t : PauliString) (v : Vector n)
    → act n s (act n t v) ≡ times_vector n (minus_one_to (anticommuting_places s t)) (act n t (act n s v))
unfolding commutation_sign
act-places n s t v =
    sym (act-mul n s t v) ∙ ap (λ u. act n u v) (mul_swap s t) ∙ act-scale n _ _ v ∙ ap (times_vector n _) (act-mul n t s v)

-- ---- 0 to `qubits`, and every number of these: X and Z on the first k qubits
pub places-most : (s t : PauliString) → anticommuting_places s t ≤ qubits
unfolding anticommuting_places
places-most s t = count_to_le qubits _

unfoldable pub on_first : ℕ → Letter → PauliString
on_first k l = record { phase = PlusOne; letters = λ q. cond (ltb q k) l I }

count-below : (n k : ℕ) → count_to n (λ q. ltb q k) ≡ min n k
unfolding count_to
count-below zero k = omega arith
count-below (suc n) k = elim (dec_lt n k) [
  | yes h ↦ ap₂ (λ c b. c + cond b 1 0) (count-below n k) (lt-ltb n k h) ∙ omega arith
  | no h ↦ ap₂ (λ c b. c + cond b 1 0) (count-below n k) (le-ltb n k (omega arith)) ∙ omega arith
]

pub places_each : (k : ℕ) → k ≤ qubits → anticommuting_places (on_first k X) (on_first k Z) ≡ k
unfolding anticommuting_places on_first anticommute
places_each k h = count_to_ext qubits _ _ (λ q l. both (ltb q k)) ∙ count-below qubits k ∙ omega arith
  where
    both : (b : Bool) → anticommute (cond b X I) (cond b Z I) ≡ b
    both true = refl
    both false = refl

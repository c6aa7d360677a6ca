-- What validity amounts to: a tableau is valid exactly when `apply` is multiplicative. And which tableaux `apply` tells apart.
use mathlib.Core.Path.{◌≡◌, refl, sym, ap, ap₂, ◌∙◌}
use mathlib.Core.Bool.{Bool, true, false, not}
use mathlib.Core.Logic.{◌↔◌}
use Prim.Native.Nat.{ℕ, ◌≤◌, ◌<◌, max}
use native.Mathlib.Nat.{le_trans}
use native.Mathlib.Omega.{arith}
use native.Mathlib.Decide.{dec_lt}
use Rattle.pauli_group.specs.Phase.{is_real, sign}
use Rattle.pauli_group.specs.Letter.{X, Z, anticommute}
use Rattle.pauli_group.specs.PauliString.{PauliString, qubits, mul, scale, single, commute}
use Rattle.pauli_group.proofs.Strings.{mul_swap, sign-single, real_squares, squares_real, within-single}
use Rattle.clifford_group.specs.Tableau.{Tableau, apply, widen, is_valid, Proper}
use Rattle.clifford_group.specs.Conjugation.{Generator, of_x, of_z, generator, row, SendsProduct, Multiplicative, SendAlike, SameWidened}
use Rattle.clifford_group.proofs.Singles.{single-at, single_off}
use Rattle.clifford_group.proofs.Commuting.{mul-commute}
use Rattle.clifford_group.proofs.Images.{image_row, alike_same, same_alike, alike-widen, proper-widen}
use Rattle.clifford_group.proofs.Apply.{apply-alike, apply-widen, apply-scale, apply-identity, apply_single, apply_rising}
use Rattle.clifford_group.proofs.Valid.{valid_test, test_equal}
use Rattle.clifford_group.proofs.Conjugation.{apply-mul}

-- ---- products of two generators are enough, the one on the higher qubit first: in rising order they are sent so by any tableau
module _ (t : Tableau) (n : t.width ≤ qubits)
    (m : (g k : Generator) (q r : ℕ) → q < t.width → r ≤ q → SendsProduct t (single (generator g) q) (single (generator k) r)) where
  product : (g k : Generator) (q r : ℕ) → q < t.width → r < t.width
      → mul (row t g q) (row t k r) ≡ apply t (mul (single (generator g) q) (single (generator k) r))
  product g k q r h l = sym (either ∙ ap₂ mul (sent g q h) (sent k r l))
    where
      sent : (g : Generator) (q : ℕ) → q < t.width → apply t (single (generator g) q) ≡ row t g q
      sent g q h = apply_single t (generator g) q (le_trans h n) ∙ image_row t g q h

      either : SendsProduct t (single (generator g) q) (single (generator k) r)
      either = elim (dec_lt q r) [
        | yes d ↦ apply_rising t _ _ r (within-single r (generator g) q d) (λ j b. single_off (generator k) r j (omega arith)) (omega arith)
        | no d ↦ m g k q r h (omega arith)
      ]

  -- rows commute where their generators do
  commutes : (b : Bool) (g k : Generator) (q r : ℕ) → q < t.width → r < t.width
      → anticommute ((single (generator g) q).letters r) (generator k) ≡ not b → commute (row t g q) (row t k r) ≡ b
  commutes b g k q r h l e =
      mul-commute (row t g q) (row t k r) b
      (product g k q r h l ∙ ap (apply t) (mul_swap _ _) ∙ apply-scale t _ _
      ∙ ap₂ scale (sign-single _ (generator k) r (le_trans l n) ∙ ap sign e) (sym (product k g r q l h)))

  pub generators_valid : is_valid t ≡ true
  unfolding anticommute
  generators_valid = valid_test t (record {
    real = λ g q h. squares_real (row t g q)
        (product g g q q h h ∙ ap (apply t) (real_squares (single (generator g) q) (unfold single is_real in refl)) ∙ apply-identity t);
    anticommuting = λ q h. commutes false of_x of_z q q h h (ap (λ a. anticommute a Z) (single-at X q));
    commuting = λ g k q r h l d. commutes true g k q r h l (ap (λ a. anticommute a (generator k)) (single_off (generator g) q r (λ e. d (sym e))));
  })

pub multiplicative_valid : (t : Tableau) → t.width ≤ qubits → Multiplicative t → is_valid t ≡ true
multiplicative_valid t n m = generators_valid t n (λ g k q r h l. m (single (generator g) q) (single (generator k) r)
    (within-single qubits (generator g) q (omega arith)) (within-single qubits (generator k) r (omega arith)))

pub is_valid_iff_multiplicative : (t : Tableau) → Proper t → (is_valid t ≡ true) ↔ Multiplicative t
is_valid_iff_multiplicative t p =
    ((λ v s u hs hu. apply-mul t (record { proper = p; valid = v }) s u), multiplicative_valid t p.narrow)

-- ---- validity over the own rows is validity over all rows of a widening
pub is_valid-widen : (n : ℕ) → n ≤ qubits → (t : Tableau) → Proper t → is_valid (widen n t) ≡ is_valid t
is_valid-widen n h t p = test_equal (widen n t) t
    (λ v. own.1 (λ s u hs hu. sym (sent (mul s u)) ∙ wide.0 v s u hs hu ∙ ap₂ mul (sent s) (sent u)))
    (λ v. wide.1 (λ s u hs hu. sent (mul s u) ∙ own.0 v s u hs hu ∙ sym (ap₂ mul (sent s) (sent u))))
  where
    sent : (s : PauliString) → apply (widen n t) s ≡ apply t s
    sent = apply-widen n t

    own : (is_valid t ≡ true) ↔ Multiplicative t
    own = is_valid_iff_multiplicative t p

    wide : (is_valid (widen n t) ≡ true) ↔ Multiplicative (widen n t)
    wide = is_valid_iff_multiplicative (widen n t) (proper-widen n h t p)

-- ---- two tableaux that send strings alike
pub alike_iff_same : (a b : Tableau) → a.width ≤ qubits → b.width ≤ qubits → SendAlike a b ↔ SameWidened a b
alike_iff_same a b h k = (same, alike)
  where
    n : ℕ
    n = max a.width b.width

    same : SendAlike a b → SameWidened a b
    same e = same_alike (widen n a) (widen n b) (unfold widen in omega arith) (unfold widen in omega arith)
        (λ q l m. alike-widen n a q l m ∙ sym (apply_single a l q m) ∙ e (single l q) (within-single qubits l q m)
        ∙ apply_single b l q m ∙ sym (alike-widen n b q l m))

    alike : SameWidened a b → SendAlike a b
    alike e s m =
        sym (apply-widen n a s) ∙ apply-alike (widen n a) (widen n b) (alike_same (widen n a) (widen n b) e) s ∙ apply-widen n b s

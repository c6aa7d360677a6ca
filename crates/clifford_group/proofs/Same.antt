-- `Same` is an equivalence, and every operation respects it.
use mathlib.Core.Path.{◌≡◌, refl, sym, ap, ap₂, ◌∙◌, subst}
use mathlib.Core.Bool.{Bool, cond}
use Prim.Native.Nat.{ℕ, ◌≤◌, ◌<◌, max}
use native.Mathlib.Decide.{dec_lt}
use native.Mathlib.Omega.{arith}
use lib.Dec.{ltb}
use Rattle.pauli_group.specs.Phase.{conjugate, is_real}
use Rattle.pauli_group.specs.Letter.{Letter, I}
use Rattle.pauli_group.specs.PauliString.{PauliString, qubits, commute, Within}
use Rattle.pauli_group.proofs.Strings.{string_ext}
use Rattle.clifford_group.specs.Tableau.{Tableau, image_of, apply, compose, is_valid, has_x, has_z, letter_of_bits, transposed}
use Rattle.clifford_group.specs.Tableau.{inverse_row, inverse, Proper, Same}
use Rattle.clifford_group.specs.Conjugation.{Generator, of_x, of_z, generator, row, Valid}
use Rattle.clifford_group.proofs.Rows.{same_row, rows_same, proper-row, rows-proper}
use Rattle.clifford_group.proofs.Images.{image_same, alike_same}
use Rattle.clifford_group.proofs.Apply.{apply-alike}
use Rattle.clifford_group.proofs.Valid.{test_valid, valid_test, test_equal}
use Rattle.clifford_group.proofs.Compose.{row-compose}
use Rattle.clifford_group.proofs.Inverse.{within-transposed}

pub same_refl : (t : Tableau) → Same t t
same_refl t = rows_same t t refl (λ g q h. refl)

below : (t u : Tableau) → Same t u → (q : ℕ) → q < u.width → q < t.width
below t u e q = subst (λ w. q < w) (sym e.width)

pub same_sym : (t u : Tableau) → Same t u → Same u t
same_sym t u e = rows_same u t (sym e.width) (λ g q h. sym (same_row t u e g q (below t u e q h)))

pub same_trans : (t u v : Tableau) → Same t u → Same u v → Same t v
same_trans t u v e f =
    rows_same t v (e.width ∙ f.width) (λ g q h. same_row t u e g q h ∙ same_row u v f g q (subst (λ w. q < w) e.width h))

-- ---- what two that are the same share
module _ (t u : Tableau) (e : Same t u) where
  -- a row of u is one of t
  rows : (g : Generator) (q : ℕ) → q < u.width → row u g q ≡ row t g q
  rows = same_row u t (same_sym t u e)

  pub apply-same : (s : PauliString) → apply t s ≡ apply u s
  apply-same = apply-alike t u (alike_same t u e)

  pub proper-same : Proper t → Proper u
  proper-same p = rows-proper u (subst (λ w. w ≤ qubits) e.width p.narrow)
      (λ g q h. subst (λ w. Within w (row u g q)) e.width
      (subst (Within t.width) (sym (rows g q h)) (proper-row t p g q (below t u e q h))))

  pub valid_same : Valid t → Valid u
  valid_same v = record {
    real = λ g q h. ap (λ (s : PauliString). is_real s.phase) (rows g q h) ∙ v.real g q (below t u e q h);
    anticommuting = λ q h. ap₂ commute (rows of_x q h) (rows of_z q h) ∙ v.anticommuting q (below t u e q h);
    commuting = λ g k q r h l d. ap₂ commute (rows g q h) (rows k r l) ∙ v.commuting g k q r (below t u e q h) (below t u e r l) d;
  }

  -- the inverse reads the own rows alone
  transposed-same : (bit : Letter → Bool) (q : ℕ) → transposed t bit q ≡ transposed u bit q
  unfolding transposed
  transposed-same bit q = string_ext (transposed t bit q) (transposed u bit q) refl letters
    where
      place : ℕ → ℕ → PauliString → PauliString → Letter
      place c w z x = cond (ltb c w) (letter_of_bits (bit (z.letters q)) (bit (x.letters q))) I

      letters : (c : ℕ) → place c t.width (t.z_image c) (t.x_image c) ≡ place c u.width (u.z_image c) (u.x_image c)
      letters c = elim (dec_lt c t.width) [
        | yes h ↦ ap₂ (place c t.width) (e.z_image c h) (e.x_image c h) ∙ ap (λ w. place c w (u.z_image c) (u.x_image c)) e.width
        | no h ↦ within-transposed t bit q c (omega arith) ∙ sym (within-transposed u bit q c (omega (arith, e.width)))
      ]

  inverse_row-same : (bit : Letter → Bool) (q : ℕ) → inverse_row t bit q ≡ inverse_row u bit q
  unfolding inverse_row
  inverse_row-same bit q = string_ext (inverse_row t bit q) (inverse_row u bit q)
      (ap (λ (s : PauliString). conjugate s.phase) (apply-same (transposed t bit q) ∙ ap (apply u) (transposed-same bit q)))
      (λ c. ap (λ (s : PauliString). s.letters c) (transposed-same bit q))

  pub inverse-same : Same (inverse t) (inverse u)
  unfolding inverse
  inverse-same = record { width = e.width; x_image = λ q h. inverse_row-same has_z q; z_image = λ q h. inverse_row-same has_x q }

pub is_valid-same : (t u : Tableau) → Same t u → is_valid t ≡ is_valid u
is_valid-same t u e = test_equal t u
    (λ v. valid_test u (valid_same t u e (test_valid t v))) (λ v. valid_test t (valid_same u t (same_sym t u e) (test_valid u v)))

pub compose-same : (a a' b b' : Tableau) → Same a a' → Same b b' → Same (compose a b) (compose a' b')
unfolding compose
compose-same a a' b b' e f = rows_same (compose a b) (compose a' b') (ap₂ max e.width f.width)
    (λ g q h. row-compose a b g q ∙ apply-same a a' e (image_of b q (generator g)) ∙ ap (apply a') (image_same b b' f q (generator g))
    ∙ sym (row-compose a' b' g q))

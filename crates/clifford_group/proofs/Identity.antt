-- The identity tableau sends every string to itself; it is proper and valid.
use mathlib.Core.Path.{◌≡◌, refl, sym, subst}
use Prim.Native.Nat.{ℕ, ◌≤◌}
use Rattle.pauli_group.specs.PauliString.{PauliString, qubits, Within}
use Rattle.pauli_group.proofs.Strings.{within-single}
use Rattle.clifford_group.specs.Tableau.{identity_tableau, apply, Proper, Clifford}
use Rattle.clifford_group.specs.Conjugation.{generator, Conjugation}
use Rattle.clifford_group.proofs.Rows.{rows-proper, row-identity}
use Rattle.clifford_group.proofs.Images.{image_identity}
use Rattle.clifford_group.proofs.Conjugations.{conjugation_only, conjugation_valid}

pub width-identity : (w : ℕ) → (identity_tableau w).width ≡ w
unfolding identity_tableau
width-identity w = refl

-- ---- strings
-- leaving strings as they are is the conjugation with these images
identity_conjugation : (w : ℕ) → Conjugation (identity_tableau w) (λ s. s)
identity_conjugation w = record {
  products = λ s u hs hu. refl;
  phases = λ p s hs. refl;
  identity = refl;
  images = λ g q h. sym (image_identity w q (generator g) h);
}

pub apply-identity_tableau : (w : ℕ) (s : PauliString) → Within qubits s → apply (identity_tableau w) s ≡ s
apply-identity_tableau w s h = sym (conjugation_only (identity_tableau w) (λ u. u) (identity_conjugation w) s h)

-- ---- proper and valid
pub proper-identity : (w : ℕ) → w ≤ qubits → Proper (identity_tableau w)
unfolding identity_tableau
proper-identity w h =
    rows-proper (identity_tableau w) h (λ g q l. subst (Within w) (sym (row-identity w g q)) (within-single w (generator g) q l))

pub clifford_identity : (w : ℕ) → w ≤ qubits → Clifford (identity_tableau w)
unfolding identity_tableau
clifford_identity w h = record {
  proper = proper-identity w h;
  valid = conjugation_valid (identity_tableau w) (λ s. s) (identity_conjugation w) h;
}

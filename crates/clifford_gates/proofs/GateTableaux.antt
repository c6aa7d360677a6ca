-- The tableau of a one-qubit gate is valid on every qubit.
use mathlib.Core.Path.{◌≡◌, refl, sym, ap, subst, ◌∙◌}
use mathlib.Core.Bool.{Bool, true, false, not, cond, not-not}
use mathlib.Core.Logic.{◌≢◌}
use Prim.Native.Nat.{ℕ, suc, ◌<◌, ◌≤◌}
use native.Mathlib.Omega.{arith}
use lib.Dec.{eqb}
use Rattle.pauli_group.specs.Phase.{is_real, sign}
use Rattle.pauli_group.specs.Letter.{anticommute}
use Rattle.pauli_group.specs.PauliString.{PauliString, qubits, mul, scale, single, commute, commutation_sign, Within}
use Rattle.pauli_group.proofs.Laws.{·-one}
use Rattle.pauli_group.proofs.Strings.{mul_swap, sign-scale, sign_sym, sign-single, within-scale, within-single}
use Rattle.clifford_group.specs.Tableau.{Proper, Clifford}
use Rattle.clifford_group.specs.Conjugation.{Generator, of_x, of_z, row, Valid}
use Rattle.clifford_group.proofs.Singles.{single-at, single_off}
use Rattle.clifford_group.proofs.Commuting.{mul-commute}
use Rattle.clifford_group.proofs.Rows.{rows-proper}
use Rattle.clifford_group.proofs.Valid.{valid_test}
use Rattle.clifford_gates.specs.Gates.{Image, OneQubit, one_qubit_gates, ValidImages, All}
use Rattle.clifford_gates.specs.GateTableaux.{image_string, gate_on_each, unchanged, on_qubit}
use Rattle.clifford_gates.proofs.GateTables.{all_map, one_qubit-valid}

-- ---- images that commute
pub commute_by : (s t : PauliString) (b : Bool) → commutation_sign s t ≡ sign (not b) → commute s t ≡ b
commute_by s t b e = mul-commute s t b (mul_swap s t ∙ ap (λ p. scale p (mul t s)) e)

module _ (i j : Image) (q r : ℕ) (h : r < qubits) where
  sign-images : commutation_sign (image_string i q) (image_string j r) ≡ sign (anticommute ((single i.letter q).letters r) j.letter)
  unfolding image_string
  sign-images =
      sign-scale i.phase (single i.letter q) (scale j.phase (single j.letter r))
      ∙ sign_sym (single i.letter q) (scale j.phase (single j.letter r))
      ∙ sign-scale j.phase (single j.letter r) (single i.letter q)
      ∙ sign_sym (single j.letter r) (single i.letter q) ∙ sign-single (single i.letter q) j.letter r h

  images_apart : q ≢ r → commute (image_string i q) (image_string j r) ≡ true
  unfolding anticommute
  images_apart d =
      commute_by (image_string i q) (image_string j r) true
      (sign-images ∙ ap (λ l. sign (anticommute l j.letter)) (single_off i.letter q r (λ e. d (sym e))))

pub images_together : (i j : Image) (q : ℕ) → q < qubits → commute (image_string i q) (image_string j q) ≡ not (anticommute i.letter j.letter)
images_together i j q h =
    commute_by (image_string i q) (image_string j q) (not (anticommute i.letter j.letter))
    (sign-images i j q q h ∙ ap (λ l. sign (anticommute l j.letter)) (single-at i.letter q)
    ∙ ap sign (sym (not-not (anticommute i.letter j.letter))))

pub image_phase : (i : Image) (q : ℕ) → (image_string i q).phase ≡ i.phase
unfolding image_string scale single
image_phase i q = ·-one i.phase

image_within : (w : ℕ) (i : Image) (q : ℕ) → q < w → Within w (image_string i q)
unfolding image_string
image_within w i q l = within-scale w i.phase (single i.letter q) (within-single w i.letter q l)

-- ---- one gate on each qubit
abbrev pub image : Generator → OneQubit → Image
image of_x g = g.x
image of_z g = g.z

module _ (w : ℕ) (f : ℕ → OneQubit) (h : w ≤ qubits) (v : (q : ℕ) → ValidImages (f q)) where
  row_image_lem : (g : Generator) (q : ℕ) → row (gate_on_each w f) g q ≡ image_string (image g (f q)) q
  unfolding gate_on_each
  row_image_lem of_x q = refl
  row_image_lem of_z q = refl

  image_real : (g : Generator) (q : ℕ) → is_real (image g (f q)).phase ≡ true
  image_real of_x q = (v q).x_real
  image_real of_z q = (v q).z_real

  valid_each : Valid (gate_on_each w f)
  unfolding gate_on_each
  valid_each = record {
    real = λ g q l. ap (λ s. is_real s.phase) (row_image_lem g q) ∙ ap is_real (image_phase (image g (f q)) q) ∙ image_real g q;
    anticommuting = λ q l. images_together (f q).x (f q).z q (omega arith) ∙ ap not (v q).anticommuting;
    commuting = λ g k q r l m d.
        ap (λ s. commute s (row (gate_on_each w f) k r)) (row_image_lem g q) ∙ ap (commute (image_string (image g (f q)) q)) (row_image_lem k r)
        ∙ images_apart (image g (f q)) (image k (f r)) q r (omega arith) d;
  }

  proper_each : Proper (gate_on_each w f)
  unfolding gate_on_each
  proper_each = rows-proper (gate_on_each w f) h (λ g q l. subst (Within w) (sym (row_image_lem g q)) (image_within w (image g (f q)) q l))

  pub clifford_each : Clifford (gate_on_each w f)
  clifford_each = record { proper = proper_each; valid = valid_test (gate_on_each w f) valid_each }

-- ---- a gate on one qubit
unchanged-valid : ValidImages unchanged
unfolding is_real anticommute
unchanged-valid = record { x_real = refl; z_real = refl; anticommuting = refl }

pub clifford_on_qubit : (g : OneQubit) → ValidImages g → (q : ℕ) → q < qubits → Clifford (on_qubit g q)
unfolding on_qubit
clifford_on_qubit g v q h = clifford_each (suc q) (λ k. cond (eqb k q) g unchanged) (omega arith) (λ k. chosen (eqb k q))
  where
    chosen : (b : Bool) → ValidImages (cond b g unchanged)
    chosen true = v
    chosen false = unchanged-valid

-- each of the 24 gates has a valid tableau on every qubit
pub one_qubit_clifford : (q : ℕ) → q < qubits → All (λ g. Clifford (on_qubit g q)) one_qubit_gates
one_qubit_clifford q h = all_map (λ g v. clifford_on_qubit g v q h) one_qubit_gates one_qubit-valid

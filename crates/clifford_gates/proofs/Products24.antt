-- The 24 products of H and SZ: each is a gate, and no two are the same.
use mathlib.Core.Path.{◌≡◌, refl, sym, ap, ◌∙◌, subst}
use mathlib.Core.Logic.{◌≢◌}
use mathlib.Core.List.{List, [], ◌∷◌}
use Prim.Native.Nat.{ℕ, suc, ◌<◌}
use native.Mathlib.Omega.{arith}
use lib.Dec.{T, eqb, ltb}
use lib.ListN.{get_or}
use borrow.Author.Tests.{ltb-true, eqb-true}
use Rattle.pauli_group.specs.Phase.{◌·◌, negate, turn}
use Rattle.pauli_group.specs.Letter.{letter_product, letter_phase, letter_mul}
use Rattle.pauli_group.specs.PauliString.{PauliString, qubits}
use Rattle.clifford_group.specs.Tableau.{Tableau, identity_tableau, compose, all_to, Same}
use Rattle.clifford_group.specs.Conjugation.{of_x, of_z}
use Rattle.clifford_group.proofs.Rows.{same_row}
use Rattle.clifford_group.proofs.Same.{same_refl, same_sym, same_trans, compose-same}
use Rattle.clifford_group.proofs.Valid.{all_each}
use Rattle.clifford_gates.specs.Gates.{Image, OneQubit, one_qubit, one_qubit_gates}
use Rattle.clifford_gates.specs.GateTableaux.{image_string, unchanged, on_qubit}
use Rattle.clifford_gates.specs.Unitaries.{WordGate}
use Rattle.clifford_gates.specs.GateNumbers.{one_qubit_gate, name_of, first_with, word_gate_number, sequences, word_product, single_qubit_clifford, product_gates}
use Rattle.clifford_gates.specs.Updates.{times_i, letter_image, scaled, sent_image, compose_images}
use Rattle.clifford_gates.proofs.GateTables.{same-entry, entry_equal}
use Rattle.clifford_gates.proofs.GateTableaux.{image_phase}
use Rattle.clifford_gates.proofs.OneQubitUpdates.{image_at_lem, width-on_qubit, row_at, on_qubit-I}
use Rattle.clifford_gates.proofs.GateNames.{compose-on_qubit, on_qubit_names}

-- ---- each is a gate
-- the images that a sequence makes, each next gate composed on the right
unfoldable product_images : OneQubit → List WordGate → OneQubit
product_images k [] = k
product_images k (g ∷ w) = product_images (compose_images k (one_qubit_gate (word_gate_number g))) w

module _ (q : ℕ) (l : q < qubits) where
  product-same : (w : List WordGate) (t : Tableau) (k : OneQubit) → Same t (on_qubit k q)
      → Same (word_product q t w) (on_qubit (product_images k w) q)
  unfolding word_product product_images
  product-same [] t k e = e
  product-same (g ∷ w) t k e =
      product-same w (compose t (on_qubit (one_qubit_gate (word_gate_number g)) q)) (compose_images k (one_qubit_gate (word_gate_number g)))
      (same_trans (compose t (on_qubit (one_qubit_gate (word_gate_number g)) q)) (compose (on_qubit k q) (on_qubit (one_qubit_gate (word_gate_number g)) q))
      (on_qubit (compose_images k (one_qubit_gate (word_gate_number g))) q)
      (compose-same t (on_qubit k q) (on_qubit (one_qubit_gate (word_gate_number g)) q) (on_qubit (one_qubit_gate (word_gate_number g)) q) e (same_refl _))
      (compose-on_qubit k (one_qubit_gate (word_gate_number g)) q l))

product-images : (k : ℕ) → k < 24 → product_images unchanged (get_or sequences k []) ≡ one_qubit_gate (get_or product_gates k 0)
unfolding all_to sequences product_images product_gates word_gate_number one_qubit_gate one_qubit_gates compose_images sent_image scaled letter_image times_i letter_phase letter_mul letter_product ◌·◌ negate turn
product-images k h =
    entry_equal _ _
    (subst T (sym (all_each 24 (λ k. same-entry (product_images unchanged (get_or sequences k [])) (one_qubit_gate (get_or product_gates k 0))) refl k h)) tt)

pub products : (k q : ℕ) → k < 24 → q < qubits → Same (single_qubit_clifford k q) (on_qubit (one_qubit_gate (get_or product_gates k 0)) q)
unfolding single_qubit_clifford
products k q h l =
    subst (λ g. Same (single_qubit_clifford k q) (on_qubit g q)) (product-images k h)
    (product-same q l (get_or sequences k []) (identity_tableau (suc q)) unchanged (same_sym (on_qubit unchanged q) (identity_tableau (suc q)) (on_qubit-I q)))

pub product_small : (k : ℕ) → k < 24 → get_or product_gates k 0 < 24
unfolding all_to product_gates
product_small k h = ltb-true _ 24 (all_each 24 (λ k. ltb (get_or product_gates k 0) 24) refl k h)

-- ---- no two are the same
-- an image is read off its string
image_known : (i j : Image) (q : ℕ) → image_string i q ≡ image_string j q → i ≡ j
image_known i j q e =
    let phase : i.phase ≡ j.phase = sym (image_phase i q) ∙ ap (λ (s : PauliString). s.phase) e ∙ image_phase j q in
    let letter : i.letter ≡ j.letter = sym (image_at_lem q i q refl) ∙ ap (λ (s : PauliString). s.letters q) e ∙ image_at_lem q j q refl in
    λ n. record { phase = phase n; letter = letter n }

-- and a gate off its tableau
pub on_qubit-known : (g h : OneQubit) (q : ℕ) → Same (on_qubit g q) (on_qubit h q) → g ≡ h
on_qubit-known g h q e =
    let own : q < (on_qubit g q).width = omega (arith, width-on_qubit g q) in
    let x : g.x ≡ h.x =
    image_known g.x h.x q (sym (row_at g q of_x) ∙ same_row (on_qubit g q) (on_qubit h q) e of_x q own ∙ row_at h q of_x) in
    let z : g.z ≡ h.z =
    image_known g.z h.z q (sym (row_at g q of_z) ∙ same_row (on_qubit g q) (on_qubit h q) e of_z q own ∙ row_at h q of_z) in
    λ n. one_qubit (x n) (z n)

pub on_qubit-different : (g h q : ℕ) → g < 24 → h < 24 → g ≢ h → Same (on_qubit (one_qubit_gate g) q) (on_qubit (one_qubit_gate h) q) → ⊥
on_qubit-different g h q l m d e =
    d (sym (on_qubit_names g l) ∙ ap (λ k. name_of (on_qubit k 0)) (on_qubit-known (one_qubit_gate g) (one_qubit_gate h) q e) ∙ on_qubit_names h m)

-- a gate stands in the list of products once
product-place : (k : ℕ) → k < 24 → first_with (eqb (get_or product_gates k 0)) product_gates ≡ k
unfolding all_to product_gates first_with
product-place k h = eqb-true _ k (all_each 24 (λ k. eqb (first_with (eqb (get_or product_gates k 0)) product_gates) k) refl k h)

pub products-different : (j k q : ℕ) → j < 24 → k < 24 → j ≢ k → q < qubits → Same (single_qubit_clifford j q) (single_qubit_clifford k q) → ⊥
products-different j k q hj hk d l e =
    on_qubit-different (get_or product_gates j 0) (get_or product_gates k 0) q (product_small j hj) (product_small k hk)
    (λ f. d (sym (product-place j hj) ∙ ap (λ g. first_with (eqb g) product_gates) f ∙ product-place k hk))
    (same_trans (gate j) (single_qubit_clifford j q) (gate k) (same_sym (single_qubit_clifford j q) (gate j) (products j q hj l))
    (same_trans (single_qubit_clifford j q) (single_qubit_clifford k q) (gate k) e (products k q hk l)))
  where
    gate : ℕ → Tableau
    gate i = on_qubit (one_qubit_gate (get_or product_gates i 0)) q

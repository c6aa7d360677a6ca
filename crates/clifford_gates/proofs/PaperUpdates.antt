-- H, SZ and CX change a row as Aaronson and Gottesman say (section III, the cases "Hadamard", "Phase" and "CNOT").
use mathlib.Core.Path.{◌≡◌, ap, ap₂, ◌∙◌}
use mathlib.Core.Bool.{◌&&◌}
use mathlib.Core.Logic.{◌≢◌}
use Prim.Native.Nat.{ℕ, ◌<◌}
use native.Mathlib.Omega.{arith}
use Rattle.pauli_group.specs.Phase.{◌·◌, negate, turn, sign}
use Rattle.pauli_group.specs.Letter.{Letter, letter_product, letter_phase, letter_mul}
use Rattle.pauli_group.specs.PauliString.{PauliString, qubits, Within}
use Rattle.pauli_group.proofs.Finite.{letters, phases, law1, law2}
use Rattle.pauli_group.proofs.Strings.{string_ext}
use Rattle.clifford_group.specs.Tableau.{apply, has_x, has_z, letter_of_bits}
use Rattle.clifford_gates.specs.Gates.{one_qubit_gates, two_qubit_gates}
use Rattle.clifford_gates.specs.GateTableaux.{on_qubit, on_qubits}
use Rattle.clifford_gates.specs.GateNumbers.{one_qubit_gate, two_qubit_gate}
use Rattle.clifford_gates.specs.Updates.{times_i, letter_image, pair_times, pair_times_i, own_image, pair_image, with_letter, image_at, pair_at}
use Rattle.clifford_gates.specs.Updates.{◌xor◌, hadamard_update, phase_update, cnot_sign, cnot_update}
use Rattle.clifford_gates.proofs.OneQubitUpdates.{apply-on_qubit}
use Rattle.clifford_gates.proofs.TwoQubitUpdates.{apply-on_qubits}
use Rattle.clifford_gates.proofs.GateNames.{gate-valid, pair_gate_valid}

-- ---- what the images of letters are, in bits
hadamard-phase : (l : Letter) → (letter_image (one_qubit_gate 4) l).phase ≡ sign (has_x l && has_z l)
unfolding one_qubit_gate one_qubit_gates letter_image times_i letter_phase letter_mul letter_product ◌·◌ negate turn sign has_x has_z
hadamard-phase = law1 letters phases (λ l. (letter_image (one_qubit_gate 4) l).phase) (λ l. sign (has_x l && has_z l)) tt

hadamard-letter : (l : Letter) → (letter_image (one_qubit_gate 4) l).letter ≡ letter_of_bits (has_z l) (has_x l)
unfolding one_qubit_gate one_qubit_gates letter_image times_i letter_mul letter_product letter_of_bits has_x has_z
hadamard-letter = law1 letters letters (λ l. (letter_image (one_qubit_gate 4) l).letter) (λ l. letter_of_bits (has_z l) (has_x l)) tt

phase-phase : (l : Letter) → (letter_image (one_qubit_gate 14) l).phase ≡ sign (has_x l && has_z l)
unfolding one_qubit_gate one_qubit_gates letter_image times_i letter_phase letter_mul letter_product ◌·◌ negate turn sign has_x has_z
phase-phase = law1 letters phases (λ l. (letter_image (one_qubit_gate 14) l).phase) (λ l. sign (has_x l && has_z l)) tt

phase-letter : (l : Letter) → (letter_image (one_qubit_gate 14) l).letter ≡ letter_of_bits (has_x l) (has_z l xor has_x l)
unfolding one_qubit_gate one_qubit_gates letter_image times_i letter_mul letter_product letter_of_bits has_x has_z ◌xor◌
phase-letter = law1 letters letters (λ l. (letter_image (one_qubit_gate 14) l).letter) (λ l. letter_of_bits (has_x l) (has_z l xor has_x l)) tt

cnot-phase : (l m : Letter) → (pair_image (two_qubit_gate 24) l m).phase ≡ sign (cnot_sign l m)
unfolding two_qubit_gate two_qubit_gates pair_image own_image pair_times pair_times_i letter_phase letter_mul letter_product ◌·◌ negate turn sign cnot_sign has_x has_z ◌xor◌
cnot-phase = law2 letters letters phases (λ l m. (pair_image (two_qubit_gate 24) l m).phase) (λ l m. sign (cnot_sign l m)) tt

cnot-first : (l m : Letter) → (pair_image (two_qubit_gate 24) l m).first ≡ letter_of_bits (has_x l) (has_z l xor has_z m)
unfolding two_qubit_gate two_qubit_gates pair_image own_image pair_times pair_times_i letter_mul letter_product letter_of_bits has_x has_z ◌xor◌
cnot-first = law2 letters letters letters (λ l m. (pair_image (two_qubit_gate 24) l m).first) (λ l m. letter_of_bits (has_x l) (has_z l xor has_z m)) tt

cnot-second : (l m : Letter) → (pair_image (two_qubit_gate 24) l m).second ≡ letter_of_bits (has_x m xor has_x l) (has_z m)
unfolding two_qubit_gate two_qubit_gates pair_image own_image pair_times pair_times_i letter_mul letter_product letter_of_bits has_x has_z ◌xor◌
cnot-second = law2 letters letters letters (λ l m. (pair_image (two_qubit_gate 24) l m).second) (λ l m. letter_of_bits (has_x m xor has_x l) (has_z m)) tt

-- ---- strings
module _ (a : ℕ) (h : a < qubits) (s : PauliString) (w : Within qubits s) where
  pub hadamard_update_lem : apply (on_qubit (one_qubit_gate 4) a) s ≡ hadamard_update a s
  unfolding image_at hadamard_update
  hadamard_update_lem =
      apply-on_qubit (one_qubit_gate 4) (gate-valid 4 (omega arith)) a h s w
      ∙ string_ext _ _ (ap (λ p. s.phase · p) (hadamard-phase (s.letters a)))
      (λ k. ap (λ l. with_letter a l s.letters k) (hadamard-letter (s.letters a)))

  pub phase_update_lem : apply (on_qubit (one_qubit_gate 14) a) s ≡ phase_update a s
  unfolding image_at phase_update
  phase_update_lem =
      apply-on_qubit (one_qubit_gate 14) (gate-valid 14 (omega arith)) a h s w
      ∙ string_ext _ _ (ap (λ p. s.phase · p) (phase-phase (s.letters a)))
      (λ k. ap (λ l. with_letter a l s.letters k) (phase-letter (s.letters a)))

  pub cnot_update_lem : (b : ℕ) → b < qubits → a ≢ b → apply (on_qubits (two_qubit_gate 24) a b) s ≡ cnot_update a b s
  unfolding pair_at cnot_update
  cnot_update_lem b hb d =
      apply-on_qubits (two_qubit_gate 24) (pair_gate_valid 24 (omega arith) (omega arith)) a b h hb d s w
      ∙ string_ext _ _ (ap (λ p. s.phase · p) (cnot-phase (s.letters a) (s.letters b)))
      (λ k. ap₂ (λ l m. with_letter a l (with_letter b m s.letters) k)
      (cnot-first (s.letters a) (s.letters b)) (cnot-second (s.letters a) (s.letters b)))

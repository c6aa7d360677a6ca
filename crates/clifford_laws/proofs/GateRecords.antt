-- The gates on bytes: each gate's record is valid, and products and inverses by number are those of the records, byte for byte.
use mathlib.Core.Path.{◌≡◌, refl, ◌∙◌}
use mathlib.Core.Logic.{◌≢◌}
use Prim.Native.Nat.{ℕ, ◌<◌, ◌≤◌}
use Rattle.pauli_group.specs.PauliString.{qubits}
use Rattle.clifford_group.specs.Tableau.{Proper, Clifford}
use Rattle.clifford_group.proofs.Same.{same_sym, proper-same, is_valid-same, compose-same, inverse-same}
use Rattle.clifford_gates.specs.Gates.{two_qubit_gates}
use Rattle.clifford_gates.specs.GateTableaux.{on_qubit}
use Rattle.clifford_gates.specs.GateNumbers.{one_qubit_gate, two_qubit_gate, gate_tableau, compose_gate, inverse_gate, single_qubit_clifford}
use Rattle.clifford_gates.proofs.GateTableaux.{clifford_on_qubit}
use Rattle.clifford_gates.proofs.GateNames.{gate-valid, gate_clifford, compose_gates}
use Rattle.clifford_gates.proofs.GateInverses.{inverse_gates}
use Rattle.clifford_gates.proofs.Products24.{products, product_small, products-different}
use Rattle.clifford.specs.Layout.{tableau_of, tableau_record}
use Rattle.clifford.specs.Tableaux.{record_valid, Good, compose_record, inverse_record}
use Rattle.clifford.specs.GateAnswers.{gate_record, one_qubit_record, single_qubit_clifford_record}
use Rattle.clifford.proofs.Records.{record-back, record-formed, same-record, record_same}

-- ---- one gate
pub gate-good : (g q r : ℕ) → g < 38 → q < qubits → r < qubits → (24 ≤ g → q ≢ r) → Good (gate_record g q r)
unfolding gate_record record_valid
gate-good g q r hg hq hr d =
    let c : Clifford (gate_tableau g q r) = gate_clifford g q r hg hq hr d in
    record {
      formed = record-formed (gate_tableau g q r) c.proper.narrow;
      valid = is_valid-same (tableau_of (tableau_record (gate_tableau g q r))) (gate_tableau g q r) (record-back (gate_tableau g q r) c.proper) ∙ c.valid;
    }

-- "Gdg has G's own tableau"
pub gdg_as_g : (q r : ℕ) → gate_record 37 q r ≡ gate_record 36 q r
unfolding gate_record gate_tableau two_qubit_gate two_qubit_gates
gdg_as_g q r = refl

-- ---- products and inverses
pub one_clifford : (g q : ℕ) → g < 24 → q < qubits → Clifford (on_qubit (one_qubit_gate g) q)
one_clifford g q hg hq = clifford_on_qubit (one_qubit_gate g) (gate-valid g hg) q hq

pub compose_records : (g h q : ℕ) → g < 24 → h < 24 → q < qubits → compose_record (one_qubit_record g q) (one_qubit_record h q) ≡ one_qubit_record (compose_gate g h) q
unfolding compose_record one_qubit_record
compose_records g h q hg hh hq =
    same-record _ _ (compose-same _ _ _ _ (record-back _ (one_clifford g q hg hq).proper) (record-back _ (one_clifford h q hh hq).proper))
    ∙ same-record _ _ (compose_gates g h hg hh q hq)

pub inverse_records : (g q r : ℕ) → g < 38 → q < qubits → r < qubits → (24 ≤ g → q ≢ r) → inverse_record (gate_record g q r) ≡ gate_record (inverse_gate g) q r
unfolding inverse_record gate_record
inverse_records g q r hg hq hr d =
    same-record _ _ (inverse-same _ _ (record-back _ (gate_clifford g q r hg hq hr d).proper))
    ∙ same-record _ _ (inverse_gates g q r hg hq hr d)

-- ---- the 24 products are 24 different records on every qubit
product-proper : (k q : ℕ) → k < 24 → q < qubits → Proper (single_qubit_clifford k q)
product-proper k q hk hq = proper-same _ _ (same_sym _ _ (products k q hk hq)) (one_clifford _ q (product_small k hk) hq).proper

pub products_apart : (j k q : ℕ) → j < 24 → k < 24 → j ≢ k → q < qubits → single_qubit_clifford_record j q ≡ single_qubit_clifford_record k q → ⊥
unfolding single_qubit_clifford_record
products_apart j k q hj hk d hq e = products-different j k q hj hk d hq (record_same _ _ (product-proper j q hj hq) (product-proper k q hk hq) e)

-- `clifford::check_qubits` meets its contract.
use Rattle.pauli.proofs.Asking.{exit_not}
use Rattle.clifford.proofs.GateAsking.{qubits-first}
use Rattle.clifford.proofs.clifford.check_qubits.Goals as goal

pub returns-in_err-check_own_qubit : goal.returns-in_err-check_own_qubit
returns-in_err-check_own_qubit c = exit_not _ (qubits-first _ _ _ _ c.in_err-check_own_qubit.ensures) c.from_residual.ensures.1

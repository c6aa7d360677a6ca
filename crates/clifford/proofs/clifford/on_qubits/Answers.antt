-- `clifford::on_qubits` meets its contract.
use Rattle.clifford.proofs.GateAsking.{gate_answers}
use Rattle.clifford.proofs.clifford.on_qubits.Goals as goal

pub returns-in_err-check_gate : goal.returns-in_err-check_gate
returns-in_err-check_gate c = rw (← c.from-g.ensures) (search (gate_answers, c.in_err-check_gate.ensures))

pub returns : goal.returns
returns c = rw (← c.from-g.ensures) (search (gate_answers, c.in_ok-check_gate.ensures, c.in_ok-check_qubits.ensures))

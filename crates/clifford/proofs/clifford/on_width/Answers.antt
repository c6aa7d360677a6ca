-- `clifford::on_width` meets its contract.
use Rattle.clifford.proofs.GateAsking.{width_answers}
use Rattle.clifford.proofs.clifford.on_width.Goals as goal

pub returns-in_err-check_width : goal.returns-in_err-check_width
returns-in_err-check_width c = search (width_answers, c.in_err-check_width.ensures)

pub returns-in_err-check_gate : goal.returns-in_err-check_gate
returns-in_err-check_gate c = rw (← c.from-g.ensures) (search (width_answers, c.in_err-check_gate.ensures, c.in_ok-check_width.ensures))

pub returns : goal.returns
returns c = rw (← c.from-g.ensures) (search (width_answers, c.in_ok-check_width.ensures, c.in_ok-check_gate.ensures, c.in_ok-check_qubits.ensures))

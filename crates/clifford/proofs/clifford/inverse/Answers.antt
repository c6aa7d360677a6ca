-- `clifford::inverse` meets its contract.
use Rattle.clifford.proofs.GateAnswers.{gate_numbers}
use Rattle.clifford.proofs.clifford.inverse.Goals as goal

pub returns : goal.returns
returns c = rw (← c.from-gate.ensures) (search (gate_numbers, c.in_ok-check_gate.ensures))

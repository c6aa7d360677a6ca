-- `clifford::write_on_qubit` meets its contract.
use Rattle.clifford.proofs.GateAnswers.{one_made}
use Rattle.clifford.proofs.clifford.write_on_qubit.Goals as goal

pub returns : goal.returns
returns c = one_made c.requires.small c.width.ensures _ _ c.write_gate.ensures

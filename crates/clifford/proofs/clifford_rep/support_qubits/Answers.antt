-- `clifford_rep::support_qubits` meets its contract: the questions, and the support where they let it by.
use Rattle.clifford.proofs.SupportQubits.{support_answers}
use Rattle.clifford.proofs.clifford_rep.support_qubits.Goals as goal

pub returns : goal.returns
returns c = search (support_answers, c.in_ok-check_tableau.ensures, c.in_ok-check_room.ensures)

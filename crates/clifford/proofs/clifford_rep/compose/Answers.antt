-- `clifford_rep::compose` meets its contract.
use Rattle.clifford.proofs.Answers.{compositions}
use Rattle.clifford.proofs.clifford_rep.compose.Goals as goal

pub returns : goal.returns
returns c = search (compositions, c.in_ok-check_tableaux.ensures)

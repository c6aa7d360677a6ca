-- `clifford_rep::inverse` meets its contract.
use Rattle.clifford.proofs.Answers.{inverses}
use Rattle.clifford.proofs.clifford_rep.inverse.Goals as goal

pub returns : goal.returns
returns c = search (inverses, c.in_ok-check_tableau.ensures)

-- `clifford_rep::extended_to` meets its contract.
use Rattle.clifford.proofs.Answers.{extensions}
use Rattle.clifford.proofs.clifford_rep.extended_to.Goals as goal

pub returns-in_err-check_tableau : goal.returns-in_err-check_tableau
returns-in_err-check_tableau c = search (extensions, c.in_err-check_tableau.ensures)

pub returns : goal.returns
returns c = search (extensions, c.in_ok-check_tableau.ensures, c.in_ok-check_width.ensures)

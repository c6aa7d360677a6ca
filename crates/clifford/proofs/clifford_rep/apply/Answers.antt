-- `clifford_rep::apply` meets its contract.
use Rattle.clifford.proofs.Answers.{applying}
use Rattle.clifford.proofs.clifford_rep.apply.Goals as goal

pub returns-in_err-check_tableau : goal.returns-in_err-check_tableau
returns-in_err-check_tableau c = search (applying, c.in_err-check_tableau.ensures)

pub returns-in_err-check_string : goal.returns-in_err-check_string
returns-in_err-check_string c = search (applying, c.in_err-check_string.ensures, c.in_ok-check_tableau.ensures)

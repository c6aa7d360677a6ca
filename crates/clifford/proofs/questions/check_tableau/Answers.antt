-- `questions::check_tableau` meets its contract: the questions in their order.
use Rattle.clifford.proofs.Asking.{asked_tableaux}
use Rattle.clifford.proofs.questions.check_tableau.Goals as goal

pub returns-in_err-check_width : goal.returns-in_err-check_width
returns-in_err-check_width c = search (asked_tableaux, c.in_err-check_width.ensures)

-- `clifford_rep::display` meets its contract: the questions, and the text where they let it by.
use Rattle.clifford.proofs.Display.{displays}
use Rattle.clifford.proofs.clifford_rep.display.Goals as goal

pub returns : goal.returns
returns c = search (displays, c.in_ok-check_display.ensures)

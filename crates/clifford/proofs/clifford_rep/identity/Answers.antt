-- `clifford_rep::identity` meets its contract.
use Rattle.clifford.proofs.Answers.{identities}
use Rattle.clifford.proofs.clifford_rep.identity.Goals as goal

pub returns : goal.returns
returns c = search (identities, c.in_ok-check_width.ensures)

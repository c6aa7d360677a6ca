-- `clifford_rep::set_image` meets its contract.
use Rattle.clifford.proofs.SetImage.{image_setting}
use Rattle.clifford.proofs.clifford_rep.set_image.Goals as goal

pub returns-in_err-check_set : goal.returns-in_err-check_set
returns-in_err-check_set g c = search (image_setting, c.in_err-check_set.ensures)

pub returns : goal.returns
returns g c = search (image_setting, c.in_ok-check_set.ensures)

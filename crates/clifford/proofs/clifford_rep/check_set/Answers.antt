-- `clifford_rep::check_set` meets its contract.
use Rattle.pauli.proofs.Asking.{exit_not}
use Rattle.clifford.proofs.SetImage.{set-first, set_beside}
use Rattle.clifford.proofs.clifford_rep.check_set.Goals as goal

pub returns-in_err-check_tableau : goal.returns-in_err-check_tableau
returns-in_err-check_tableau c = exit_not _ (set-first _ _ _ c.in_err-check_tableau.ensures) c.from_residual.ensures.1

pub check_inside-requires : goal.check_inside-requires
check_inside-requires c = set_beside _ c.args.slot _ c.in_ok-check_tableau.ensures c.in_ok-check_string.ensures c.width-n.ensures

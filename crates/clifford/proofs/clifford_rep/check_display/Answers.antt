-- `clifford_rep::check_display` meets its contract.
use Rattle.clifford.proofs.Asking.{checked}
use Rattle.clifford.proofs.clifford_rep.check_display.Goals as goal

pub invariant_of-display_length : goal.invariant_of-display_length
invariant_of-display_length c = record { formed = checked c.in_ok-check_tableau.ensures }

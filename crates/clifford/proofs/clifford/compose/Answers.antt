-- `clifford::compose` meets its contract.
use Rattle.clifford.proofs.GateAnswers.{gate-products}
use Rattle.clifford.proofs.clifford.compose.Goals as goal

pub invariant_of-composed : goal.invariant_of-composed
invariant_of-composed c = record { small = search (gate-products, c.in_ok-check_gate.ensures) }

pub invariant_of-composed-2 : goal.invariant_of-composed-2
invariant_of-composed-2 c = record { small = search (gate-products, c.in_ok-check_gate-2.ensures) }

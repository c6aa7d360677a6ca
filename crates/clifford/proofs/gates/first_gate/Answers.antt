-- `gates::first_gate` meets its contract: no gate before this one has the images.
use Rattle.clifford.proofs.GateNaming.{gate_searches}
use Rattle.clifford.proofs.gates.first_gate.Goals as goal

pub returns-then-eq : goal.returns-then-eq
returns-then-eq c = search gate_searches

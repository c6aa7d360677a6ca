-- `gates::first_gate` meets its contract: no gate before this one has the images.
use Rattle.std.proofs.Common.{◌-◌}
use Rattle.clifford.proofs.GateNaming.{NoneBefore}
use Rattle.clifford.proofs.gates.first_gate.Given as goal

abbrev pub invariant-loop-gate : goal.invariant-loop-gate
invariant-loop-gate l = NoneBefore l.images l.gate

abbrev pub decreases-loop-gate : goal.decreases-loop-gate
decreases-loop-gate l = 24 - l.gate

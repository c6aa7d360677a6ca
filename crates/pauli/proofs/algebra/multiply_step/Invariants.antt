-- `algebra::multiply_step` meets its contract, by the laws of `StepTo`.
use Rattle.std.proofs.Common.{length}
use Rattle.pauli.proofs.Multiplying.{StepTo}
use Rattle.pauli.proofs.algebra.multiply_step.Given as goal

abbrev pub invariant-loop-q : goal.invariant-loop-q
invariant-loop-q l = StepTo l.s l.t l.at l.initial.row (length l.yielded) l.row l.turns

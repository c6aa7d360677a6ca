-- `algebra::look` meets its contract, by the laws of `SeenTo`.
use Rattle.std.proofs.Common.{length}
use Rattle.pauli.proofs.Looking.{SeenTo}
use Rattle.pauli.proofs.algebra.look.Given as goal

abbrev pub invariant-loop-q : goal.invariant-loop-q
invariant-loop-q l = SeenTo l.s l.t (length l.yielded) l.sight

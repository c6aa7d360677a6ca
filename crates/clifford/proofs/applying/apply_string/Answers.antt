-- `applying::apply_string` meets its contract, by the laws of `AppliedTo`.
use Rattle.std.proofs.Common.{arith}
use Rattle.clifford.proofs.Apply.{applied_strings, applied-same}
use Rattle.clifford.proofs.applying.apply_string.Goals as goal

pub loop-q-preserved : goal.loop-q-preserved
loop-q-preserved c = search applied_strings

pub loop-q-preserved-then-letter-eq0 : goal.loop-q-preserved-then-letter-eq0
loop-q-preserved-then-letter-eq0 c = applied-same c.loop-q.invariant c.loop-q-test.true (omega (arith, c.if-letter-eq0.true))

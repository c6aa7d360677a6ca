use Rattle.std.proofs.Common.{◌≤◌, length}
use Rattle.vectors.proofs.decode.bytes.Given as goal

abbrev pub invariant-loop-rest : goal.invariant-loop-rest
invariant-loop-rest l = l.n ≤ length l.buf

abbrev pub decreases-loop-rest : goal.decreases-loop-rest
decreases-loop-rest l = length l.rest

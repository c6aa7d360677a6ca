-- `read_input`: the bytes so far lie in the buffer, which keeps its length.
use Rattle.std.proofs.Common.{◌-◌, length}
use Rattle.clifford_run.proofs.ProgramTexts.{Reading}
use Rattle.clifford_run.proofs.read_input.Given as goal

abbrev pub invariant-loop-done : goal.invariant-loop-done
invariant-loop-done g l = Reading l.initial.input l.input l.done

abbrev pub decreases-loop-done : goal.decreases-loop-done
decreases-loop-done g l = length l.input - l.done

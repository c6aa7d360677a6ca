-- The lines so far are counted.
use Rattle.vectors.specs.Replays.{Counts, Matches}
use Rattle.vectors.proofs.replaying.replay_lines.Given as goal

abbrev pub invariant-loop-line : goal.invariant-loop-line
invariant-loop-line g l = goal.F-IsAlwaysCallable g l.call × Counts (Matches (goal.F-step g)) l.yielded l.fn.call l.call l.tally

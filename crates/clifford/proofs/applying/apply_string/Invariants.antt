-- `applying::apply_string` meets its contract, by the laws of `AppliedTo`.
use Rattle.clifford.proofs.Apply.{AppliedTo}
use Rattle.clifford.proofs.applying.apply_string.Given as goal

abbrev pub invariant-loop-q : goal.invariant-loop-q
invariant-loop-q l = AppliedTo l.t.bytes.now l.s l.initial.work l.q l.work

use Rattle.clifford.proofs.Asking.{RowsGood}
use Rattle.clifford.proofs.questions.check_rows.Given as goal

abbrev pub invariant-loop-r : goal.invariant-loop-r
invariant-loop-r l = RowsGood l.t l.rows l.r l.first

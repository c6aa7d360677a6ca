-- `writing::write_rows` meets its contract, by the laws of `RowsTo`.
use Rattle.clifford.specs.Layout.{row_of}
use Rattle.clifford.proofs.RowWriting.{RowsTo}
use Rattle.clifford.proofs.writing.write_rows.Given as goal

abbrev pub invariant-loop-r : goal.invariant-loop-r
invariant-loop-r g l = RowsTo l.width (row_of (g.M.RowMaker.made l.maker)) l.initial.dst l.r l.dst

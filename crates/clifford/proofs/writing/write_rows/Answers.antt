-- `writing::write_rows` meets its contract, by the laws of `RowsTo`.
use Rattle.clifford.proofs.Made.{all_rows}
use Rattle.clifford.proofs.writing.write_rows.Goals as goal

pub bounds-dst-0 : goal.bounds-dst-0
bounds-dst-0 g c = search all_rows

pub loop-r-init : goal.loop-r-init
loop-r-init g c = search all_rows

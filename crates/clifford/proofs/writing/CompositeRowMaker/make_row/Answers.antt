-- `writing::Composite::make_row` meets its contract.
use Rattle.clifford.proofs.Made.{made_rows}
use Rattle.clifford.proofs.writing.CompositeRowMaker.make_row.Goals as goal

pub apply_string-requires : goal.apply_string-requires
apply_string-requires c = search made_rows

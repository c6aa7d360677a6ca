-- `layout::check_row` meets its contract.
use Rattle.clifford.proofs.RowAccess.{row_checks}
use Rattle.clifford.proofs.layout.check_row.Goals as goal

pub check_codes-requires : goal.check_codes-requires
check_codes-requires c = search row_checks

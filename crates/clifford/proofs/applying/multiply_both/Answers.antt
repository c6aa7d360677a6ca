-- `applying::multiply_both` meets its contract.
use Rattle.clifford.proofs.WorkRows.{work_as, turned-work, times-work, times_both}
use Rattle.clifford.proofs.applying.multiply_both.Goals as goal

pub multiply_by-requires : goal.multiply_by-requires
multiply_by-requires c = work_as c.row.ensures.bytes (turned-work _ c.requires c.phase_times.ensures)

pub multiply_by-requires-2 : goal.multiply_by-requires-2
multiply_by-requires-2 c = work_as c.row-2.ensures.bytes (times-work _ (turned-work _ c.requires c.phase_times.ensures) c.multiply_by.ensures)

pub returns : goal.returns
returns c =
    times_both _ _ c.requires c.args.qubit.now.own c.row.ensures.image c.row-2.ensures.image c.phase_times.ensures c.multiply_by.ensures c.multiply_by-2.ensures

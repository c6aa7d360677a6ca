-- `reporting::report_run` meets its contract. An attribute with `shows` leaves the goals open.
use Rattle.gate_list.proofs.RunReports.{shows}
use Rattle.gate_list.proofs.reporting.report_run.Goals as goal

pub write_run-requires : goal.write_run-requires
write_run-requires c = search shows

pub slice_bounds-display-end : goal.slice_bounds-display-end
slice_bounds-display-end c = search shows

pub returns : goal.returns
returns c = search shows

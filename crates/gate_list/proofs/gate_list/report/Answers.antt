-- `gate_list::report` meets its contract. An attribute with `reports` leaves both goals open.
use Rattle.gate_list.proofs.RunReports.{reports}
use Rattle.gate_list.proofs.gate_list.report.Goals as goal

pub returns-in-Ok : goal.returns-in-Ok
returns-in-Ok c = search reports

pub returns-in-Err : goal.returns-in-Err
returns-in-Err c = search reports

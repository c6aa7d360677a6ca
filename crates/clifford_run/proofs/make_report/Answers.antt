-- `make_report` meets its contract. An attribute with `program_texts` leaves the goal open.
use Rattle.clifford_run.proofs.ProgramTexts.{program_texts}
use Rattle.clifford_run.proofs.make_report.Goals as goal

pub returns : goal.returns
returns c = search program_texts

-- `entries::check_entry_letters` meets its contract.
use Rattle.pauli.proofs.EntryMarks.{entry_scans}
use Rattle.pauli.proofs.entries.check_entry_letters.Goals as goal

pub returns : goal.returns
returns c = search entry_scans

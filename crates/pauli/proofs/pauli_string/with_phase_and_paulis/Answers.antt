-- `pauli_string::with_phase_and_paulis` meets its contract: the questions, and the record where they let it by.
use Rattle.pauli.proofs.Answers.{written-exit}
use Rattle.pauli.proofs.EntryStrings.{read_refused, read_fit, read_asked, marks_fit, entries_written}
use Rattle.pauli.proofs.pauli_string.with_phase_and_paulis.Goals as goal

pub returns-in_err-check_entries : goal.returns-in_err-check_entries
returns-in_err-check_entries c = written-exit _ _ (read_refused _ _ _ c.in_err-check_entries.ensures) c.from_residual.ensures.1

pub of-marks-requires : goal.of-marks-requires
of-marks-requires c = read_fit _ _ c.in_ok-check_entries.ensures

pub returns-in_err-check : goal.returns-in_err-check
returns-in_err-check c = written-exit _ _ (read_asked _ _ _ c.in_ok-check_entries.ensures c.of-marks.ensures c.in_err-check.ensures) c.from_residual-in_err-check.ensures.1

pub write-requires : goal.write-requires
write-requires c = marks_fit _ _ _ (read_asked _ _ _ c.in_ok-check_entries.ensures c.of-marks.ensures c.in_ok-check.ensures) c.of-marks.ensures

pub returns : goal.returns
returns c = entries_written _ _ _ (read_asked _ _ _ c.in_ok-check_entries.ensures c.of-marks.ensures c.in_ok-check.ensures) c.of-marks.ensures c.write.ensures

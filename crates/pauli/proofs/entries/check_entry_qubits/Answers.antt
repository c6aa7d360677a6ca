-- `entries::check_entry_qubits` meets its contract.
use Rattle.pauli.proofs.EntryMarks.{entry_scans}
use Rattle.pauli.proofs.entries.check_entry_qubits.Goals as goal

pub returns-then-qubit-ge-QUBITS : goal.returns-then-qubit-ge-QUBITS
returns-then-qubit-ge-QUBITS c = search entry_scans

pub returns : goal.returns
returns c = search entry_scans

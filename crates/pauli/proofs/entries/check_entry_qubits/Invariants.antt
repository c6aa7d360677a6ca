-- `entries::check_entry_qubits` meets its contract: no qubit above 127 before the entry reached.
use Rattle.std.proofs.Common.{leb}
use Rattle.pauli.specs.Entries.{entry_count, entry_qubit}
use Rattle.pauli.proofs.Places.{NoneBefore}
use Rattle.pauli.proofs.entries.check_entry_qubits.Given as goal

abbrev pub invariant-loop-qubit : goal.invariant-loop-qubit
invariant-loop-qubit l = NoneBefore (entry_count l.entries) (λ k. leb 128 (entry_qubit l.entries k)) l.qubit-index

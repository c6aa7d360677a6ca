-- `clifford_rep::from_pauli_string` meets its contract.
use Rattle.clifford.proofs.Answers.{pauli_tableaux}
use Rattle.clifford.proofs.clifford_rep.from_pauli_string.Goals as goal

pub returns : goal.returns
returns c = search (pauli_tableaux, c.in_ok-check_string.ensures)

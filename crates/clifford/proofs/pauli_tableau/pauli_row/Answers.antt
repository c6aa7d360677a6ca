-- `pauli_tableau::pauli_row` meets its contract.
use Rattle.clifford.proofs.PauliTableau.{pauli_rows}
use Rattle.clifford.proofs.pauli_tableau.pauli_row.Goals as goal

pub clear_row-requires : goal.clear_row-requires
clear_row-requires c = search pauli_rows

pub multiply_letter-requires : goal.multiply_letter-requires
multiply_letter-requires c = search pauli_rows

pub returns : goal.returns
returns c = search pauli_rows

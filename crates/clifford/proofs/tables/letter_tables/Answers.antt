-- `tables::letter_tables` meets its contract: the numbers of the tables are what the gates' images compute to.
use Rattle.std.proofs.Common.{refl}
use Rattle.pauli_group.specs.Phase.{◌·◌, negate, turn}
use Rattle.pauli_group.specs.Letter.{letter_mul, letter_phase, letter_product}
use Rattle.clifford_gates.specs.Gates.{one_qubit_gates}
use Rattle.clifford_gates.specs.GateNumbers.{one_qubit_gate}
use Rattle.clifford_gates.specs.Updates.{times_i, letter_image}
use Rattle.pauli.specs.Places.{listed}
use Rattle.pauli.specs.Layout.{phase_byte, letter_byte, letter_of}
use Rattle.clifford.specs.Playing.{letter_column, letter_table, letter_tables}
use Rattle.clifford.proofs.tables.letter_tables.Goals as goal

pub returns : goal.returns
unfolding letter_tables letter_table letter_column listed letter_image times_i one_qubit_gate one_qubit_gates phase_byte letter_byte letter_of letter_mul letter_phase letter_product ◌·◌ negate turn
returns c = refl

-- `tables::pair_tables` meets its contract: the numbers of the tables are what the gates' images compute to.
use Rattle.std.proofs.Common.{refl}
use Rattle.pauli_group.specs.Phase.{◌·◌, negate, turn}
use Rattle.pauli_group.specs.Letter.{not_i, letter_mul, letter_phase, letter_product}
use Rattle.clifford_gates.specs.Gates.{two_qubit_gates}
use Rattle.clifford_gates.specs.GateNumbers.{two_qubit_gate}
use Rattle.clifford_gates.specs.Updates.{pair_times, pair_times_i, own_image, pair_image}
use Rattle.pauli.specs.Places.{listed}
use Rattle.pauli.specs.Layout.{phase_byte, letter_byte, letter_of}
use Rattle.clifford.specs.Layout.{pair_weight, weight_change}
use Rattle.clifford.specs.Playing.{pair_column, pair_table, pair_tables}
use Rattle.clifford.proofs.tables.pair_tables.Goals as goal

pub returns : goal.returns
unfolding pair_tables pair_table pair_column weight_change pair_weight not_i listed pair_image pair_times pair_times_i own_image two_qubit_gate two_qubit_gates phase_byte letter_byte letter_of letter_mul letter_phase letter_product ◌·◌ negate turn
returns c = refl

-- `OneQubitGate::images` meets its contract: the numbers of the table are what the gates' images compute to.
use Rattle.clifford_gates.specs.Gates.{one_qubit_gates}
use Rattle.clifford_gates.specs.GateTableaux.{unchanged}
use Rattle.clifford_gates.specs.GateNumbers.{one_qubit_gate}
use Rattle.pauli.specs.Layout.{phase_byte, letter_byte}
use Rattle.clifford.specs.GateRows.{image_bytes}
use Rattle.clifford.proofs.GateImages.{entry-bytes}
use Rattle.clifford.proofs.numbering.OneQubitGate.images.Goals as goal

pub returns : goal.returns
unfolding one_qubit_gate one_qubit_gates image_bytes phase_byte letter_byte
returns c = entry-bytes image_bytes one_qubit_gates unchanged c.args.self.number c.args.self.small

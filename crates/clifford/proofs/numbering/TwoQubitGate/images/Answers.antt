-- `TwoQubitGate::images` meets its contract: the numbers of the table are what the gates' images compute to.
use Rattle.std.proofs.Common.{◌-◌, arith}
use Rattle.clifford_gates.specs.Gates.{two_qubit_gates}
use Rattle.clifford_gates.specs.GateNumbers.{pair_unchanged, two_qubit_gate}
use Rattle.pauli.specs.Layout.{phase_byte, letter_byte}
use Rattle.clifford.specs.Inside.GateRows.{pair_bytes}
use Rattle.clifford.proofs.GateImages.{entry-bytes}
use Rattle.clifford.proofs.numbering.TwoQubitGate.images.Goals as goal

pub returns : goal.returns
unfolding two_qubit_gate two_qubit_gates pair_bytes phase_byte letter_byte
returns c = entry-bytes pair_bytes two_qubit_gates pair_unchanged (c.args.self.number - 24) (omega (arith, c.args.self.from, c.args.self.below))

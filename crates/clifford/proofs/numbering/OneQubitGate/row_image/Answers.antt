-- `OneQubitGate::row_image` meets its contract.
use Rattle.clifford.proofs.GateWriting.{one_made}
use Rattle.std.proofs.Common.{rules}
use Rattle.clifford.proofs.numbering.OneQubitGate.row_image.Goals as goal

pub returns : goal.returns
returns c = search (one_made, rules)

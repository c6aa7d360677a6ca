-- `OneQubitGate::sent_image` meets its contract.
use Rattle.clifford.proofs.GateNaming.{sent_made}
use Rattle.std.proofs.Common.{rules}
use Rattle.clifford.proofs.numbering.OneQubitGate.sent_image.Goals as goal

pub returns : goal.returns
returns c = search (sent_made, rules)

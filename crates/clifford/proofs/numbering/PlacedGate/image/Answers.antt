-- `PlacedGate::image` meets its contract.
use Rattle.clifford.proofs.GateWriting.{gate-images}
use Rattle.clifford.proofs.numbering.PlacedGate.image.Goals as goal

pub returns-then-k-self : goal.returns-then-k-self
returns-then-k-self c = search gate-images

pub returns-else-k-self : goal.returns-else-k-self
returns-else-k-self c = search gate-images

pub returns-then-k-self-2 : goal.returns-then-k-self-2
returns-then-k-self-2 c = search gate-images

pub returns-then-k-self-3 : goal.returns-then-k-self-3
returns-then-k-self-3 c = search gate-images

pub returns-else-k-self-3 : goal.returns-else-k-self-3
returns-else-k-self-3 c = search gate-images

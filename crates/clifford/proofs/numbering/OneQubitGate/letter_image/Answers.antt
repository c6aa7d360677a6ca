-- `OneQubitGate::letter_image` meets its contract.
use Rattle.clifford.proofs.GateImages.{letter-images}
use Rattle.clifford.proofs.numbering.OneQubitGate.letter_image.Goals as goal

pub returns-in-0 : goal.returns-in-0
returns-in-0 c = search letter-images

pub returns-in-1 : goal.returns-in-1
returns-in-1 c = search letter-images

pub returns-in-2 : goal.returns-in-2
returns-in-2 c = search letter-images

pub returns-in_default : goal.returns-in_default
returns-in_default c = search letter-images

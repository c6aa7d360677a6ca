-- `applying::apply_letter` meets its contract.
use Rattle.clifford.proofs.Apply.{applied_letters}
use Rattle.clifford.proofs.applying.apply_letter.Goals as goal

pub multiply_image-requires : goal.multiply_image-requires
multiply_image-requires c = search applied_letters

pub returns : goal.returns
returns c = search applied_letters

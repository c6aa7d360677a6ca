-- `inverting::InverseRow::body_letter` meets its contract.
use Rattle.clifford.proofs.Inverse.{body_letters}
use Rattle.clifford.proofs.inverting.InverseRow.body_letter.Goals as goal

pub returns : goal.returns
returns c = search body_letters

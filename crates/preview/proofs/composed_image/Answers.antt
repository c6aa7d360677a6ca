-- `composed_image` meets its contract.
use Rattle.preview.proofs.Previews.{previewing}
use Rattle.preview.proofs.composed_image.Goals as goal

pub send_letter-requires : goal.send_letter-requires
send_letter-requires g c = search previewing

pub returns-in-Ok : goal.returns-in-Ok
returns-in-Ok g c = search previewing

pub returns-in-Err : goal.returns-in-Err
returns-in-Err g c = search previewing

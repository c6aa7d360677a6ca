-- `writing::write_made` meets its contract.
use Rattle.pauli.proofs.Answers.{written-exit}
use Rattle.clifford.proofs.Made.{made_asked, made_answers}
use Rattle.clifford.proofs.writing.write_made.Goals as goal

pub returns-in_err-check_room : goal.returns-in_err-check_room
returns-in_err-check_room g c =
    written-exit _ _ (made_asked _ _ c.in_err-check_room.ensures c.record_length.ensures c.width.ensures) c.from_residual.ensures.1

pub write_rows-requires : goal.write_rows-requires
write_rows-requires g c = search (made_answers, c.in_ok-check_room.ensures)

pub returns : goal.returns
returns g c = search (made_answers, c.in_ok-check_room.ensures)

-- `refusal_line` meets its contract.
use Rattle.pauli.proofs.TextAnswers.{text-answered, text_no_room}
use Rattle.refusal_lines.proofs.refusal_line.Goals as goal

pub returns-in_err-check_room : goal.returns-in_err-check_room
returns-in_err-check_room c = text_no_room c.write.ensures.count c.in_err-check_room.ensures c.from_residual.ensures.1

pub returns : goal.returns
returns c = text-answered c.write.ensures.count c.in_ok-check_room.ensures c.write-2.ensures

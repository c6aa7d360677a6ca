-- `reporting::report_refusal` meets its contract.
use Rattle.pauli.proofs.TextAnswers.{text-answered, text_no_room}
use Rattle.gate_list.proofs.reporting.report_refusal.Goals as goal

pub returns-in_err-check_room : goal.returns-in_err-check_room
returns-in_err-check_room c = text_no_room c.write_refusal.ensures.count c.in_err-check_room.ensures c.from_residual.ensures.1

pub returns : goal.returns
returns c = text-answered c.write_refusal.ensures.count c.in_ok-check_room.ensures c.write_refusal-2.ensures

-- `Record::check` meets its contract: the questions in their order.
use Rattle.pauli.proofs.Asking.{exit_not, first_not}
use Rattle.gate_list.specs.ListQuestions.{record_questions}
use Rattle.gate_list.proofs.reading.Record.check.Goals as goal

pub returns-in_err-check_zeros : goal.returns-in_err-check_zeros
unfolding record_questions
returns-in_err-check_zeros c = exit_not _ (first_not _ c.in_err-check_zeros.ensures) c.from_residual.ensures.1

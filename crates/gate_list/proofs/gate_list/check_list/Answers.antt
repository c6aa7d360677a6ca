-- `gate_list::check_list` meets its contract: the questions in their order.
use Rattle.pauli.proofs.Asking.{exit_not, first_not}
use Rattle.gate_list.specs.ListQuestions.{list_questions}
use Rattle.gate_list.proofs.ListAdmitted.{list_unmarked}
use Rattle.gate_list.proofs.gate_list.check_list.Goals as goal

pub returns-in_err-check_size : goal.returns-in_err-check_size
unfolding list_questions
returns-in_err-check_size c = exit_not _ (first_not _ c.in_err-check_size.ensures) c.from_residual.ensures.1

pub check_chain-requires : goal.check_chain-requires
check_chain-requires c = list_unmarked c.check_size.ensures c.in_ok-check_size.was

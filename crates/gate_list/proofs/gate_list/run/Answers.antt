-- `gate_list::run` meets its contract: the questions, and the run where they let it by.
use Rattle.pauli.proofs.Answers.{number-exit}
use Rattle.gate_list.proofs.RunAnswers.{run_done}
use Rattle.gate_list.proofs.gate_list.run.Goals as goal

pub returns-in_err-check_run : goal.returns-in_err-check_run
returns-in_err-check_run c = number-exit _ _ _ c.in_err-check_run.ensures c.from_residual.ensures.1

pub returns : goal.returns
returns c = run_done c.in_ok-check_run.ensures c.write_run.ensures

-- `play` meets its contract: the questions, and the gate played where they let it by.
use Rattle.std.proofs.Common.{arith}
use Rattle.pauli.proofs.Answers.{written_given, none_written}
use Rattle.gate_play.proofs.Plays.{play_done}
use Rattle.gate_play.proofs.play.Goals as goal

pub returns-in_err-check_play : goal.returns-in_err-check_play
returns-in_err-check_play c = written_given (grind arith) (grind (arith, none_written))

pub returns : goal.returns
returns c = written_given (grind arith) (play_done _ _ _ _ (grind arith) c.in_ok-check_play.was c.play_gate.ensures)

-- What `play` promises of its answer r: the gate g on qubits q and p composed on the left of the record, which was t at entry and is e
-- at exit.
use Rattle.std.specs.Prelude.{ℕ, List}
use Rattle.pauli.specs.Answers.{Written, Outcome}
use Rattle.clifford.specs.Tableaux.{compose_record}
use Rattle.clifford.specs.GateAnswers.{gate_record}
use Rattle.gate_play.specs.PlayQuestions.{play_questions}

abbrev pub Played : (g q p : ℕ) (t e : List ℕ) (r : Outcome) → Type 0
Played g q p t e r = Written (play_questions t g q p) (compose_record (gate_record g q p) t) t e r

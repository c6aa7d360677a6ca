-- The questions that `play` puts (scope document, "Questions on entry"), in their order. It works in the record itself and needs no room.
use Rattle.std.specs.Prelude.{ℕ, List}
use Rattle.pauli.specs.Questions.{◌and_then◌}
use Rattle.clifford.specs.Layout.{width_of}
use Rattle.clifford.specs.Questions.{tableau_questions}
use Rattle.clifford.specs.GateQuestions.{gate_question, qubits_questions}
use Rattle.pauli.specs.Answers.{Outcome}

-- the tableau's own, and then 4, 5, 6
unfoldable pub play_questions : List ℕ → ℕ → ℕ → ℕ → Outcome
play_questions t g q r = tableau_questions t and_then gate_question 38 g and_then qubits_questions (width_of t) g q r

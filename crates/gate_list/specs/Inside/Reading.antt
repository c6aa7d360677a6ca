-- What the functions that read a list may count on, and the parts of its questions that have functions of their own.
use Rattle.std.specs.Prelude.{ℕ, ◌-◌, ◌<◌, ◌≤◌, ◌≡◌, List, [], Bool, false, not, eqb, length, get_or}
use Rattle.pauli.specs.declared.refusal.Refusal.TheVariants.{StepSameQubit}
use Rattle.pauli.specs.Questions.{ask, ◌and_then◌}
use Rattle.gate_list.specs.Lists.{most_records, record_count, byte_of, next_of}
use Rattle.gate_list.specs.ListQuestions.{step_qubit_question, step_second_questions, link_question, chain_questions}
use Rattle.pauli.specs.Answers.{Outcome}

-- a mark for each record that a list can have, none of them set
pub record NoneMet (met : List Bool) : Type 0 where
  pub long : length met ≡ most_records
  pub clear : (k : ℕ) → get_or met k false ≡ false

-- beside a list of at least one record, and of no more than there are marks
pub record BeforeChain (l : List ℕ) (met : List Bool) : Type 0 where
  pub blank : NoneMet met
  pub some : 0 < record_count l
  pub few : record_count l ≤ most_records

-- parts of step_second_questions, record_questions and list_questions
unfoldable pub step_different_question : ℕ → ℕ → ℕ → Outcome
step_different_question i q r = ask (not (eqb q r)) (StepSameQubit i)

unfoldable pub two_questions : List ℕ → ℕ → Outcome
two_questions l i = step_qubit_question l i (byte_of l i 2) and_then step_different_question i (byte_of l i 1) (byte_of l i 2)

unfoldable pub links_question : List ℕ → Outcome
links_question l = link_question l 0 and_then chain_questions l [] (record_count l - 1) (next_of l 0)

-- a record's qubits, and then its link
unfoldable pub step_qubits_questions : List ℕ → ℕ → Outcome
step_qubits_questions l i = step_qubit_question l i (byte_of l i 1) and_then step_second_questions l i and_then link_question l i

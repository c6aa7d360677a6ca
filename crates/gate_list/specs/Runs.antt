-- The run of a gate list: "The run starts at the identity of that width and composes each gate on the left. It reports its steps: the
-- gates on the chain."
use Rattle.std.specs.Prelude.{ℕ, List, [], ◌∷◌, length}
use Rattle.pauli.specs.Answers.{Outcome}
use Rattle.pauli.specs.Questions.{◌and_then◌, room_question}
use Rattle.clifford.specs.Layout.{record_length}
use Rattle.clifford.specs.GateAnswers.{gate_record}
use Rattle.clifford_laws.specs.WayBack.{product_of}
use Rattle.gate_list.specs.Lists.{Play, list_width, gates_of}
use Rattle.gate_list.specs.ListQuestions.{list_questions}

-- the gates' own tableaux
unfoldable pub tableaux_of : List Play → List (List ℕ)
tableaux_of [] = []
tableaux_of (p ∷ rest) = gate_record p.gate p.first p.second ∷ tableaux_of rest

-- each composed on the left, from the identity: the product of the steps on the way back
unfoldable pub run_record : List ℕ → List ℕ
run_record l = product_of (list_width l) (tableaux_of (gates_of l))

unfoldable pub step_count : List ℕ → ℕ
step_count l = length (gates_of l)

unfoldable pub run_answer : List ℕ → ℕ → Outcome
run_answer l room = list_questions l and_then room_question (record_length (list_width l)) room

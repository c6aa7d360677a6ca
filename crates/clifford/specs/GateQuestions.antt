-- The questions put to gates (scope document, "Questions on entry"), and those of each public function on gates in their order.
use Rattle.std.specs.Prelude.{ℕ, suc, max, cond, not, ◌==◌, nat_lt, Ok}
use Rattle.pauli_group.specs.PauliString.{qubits}
use Rattle.pauli.specs.declared.refusal.Refusal.TheVariants.{Gate, Qubit, SameQubit}
use Rattle.pauli.specs.Questions.{ask, ◌and_then◌, qubit_question, room_question}
use Rattle.clifford.specs.Layout.{record_length}
use Rattle.clifford.specs.Questions.{width_question}
use Rattle.pauli.specs.Answers.{Outcome}

-- "Is the gate at most 37, or 23 where one qubit is meant? 4": below the limit of 38 or of 24. An index of the 24 products too.
unfoldable pub gate_question : ℕ → ℕ → Outcome
gate_question limit g = ask (nat_lt g limit) Gate

-- "Are two qubits different? 6, detail the qubit"
unfoldable pub different_question : ℕ → ℕ → Outcome
different_question q r = ask (not (q == r)) (SameQubit q)

-- "Is each qubit below 128 .., or below the list's width? 5, detail the first that isn't": below the width w
unfoldable pub own_qubit_question : ℕ → ℕ → Outcome
own_qubit_question w q = ask (nat_lt q w) (Qubit q)

-- "A second qubit given with a gate of 0 to 23 isn't looked at"
unfoldable pub qubits_questions : ℕ → ℕ → ℕ → ℕ → Outcome
qubits_questions w g q r = own_qubit_question w q and_then cond (nat_lt g 24) (Ok tt) (own_qubit_question w r and_then different_question q r)

-- "A one-qubit gate on q has width q+1, a two-qubit gate the larger qubit plus 1"
unfoldable pub gate_width : ℕ → ℕ → ℕ → ℕ
gate_width g q r = cond (nat_lt g 24) (suc q) (suc (max q r))

-- ---- the questions of each public function, in their order

unfoldable pub on_qubits_questions : ℕ → ℕ → ℕ → Outcome
on_qubits_questions g q r = gate_question 38 g and_then qubits_questions qubits g q r

unfoldable pub on_qubits_answer : ℕ → ℕ → ℕ → ℕ → Outcome
on_qubits_answer g q r room = on_qubits_questions g q r and_then room_question (record_length (gate_width g q r)) room

-- a gate at the width n: 1 for the width, then 4, 5, 6
unfoldable pub on_width_questions : ℕ → ℕ → ℕ → ℕ → Outcome
on_width_questions n g q r = width_question n and_then gate_question 38 g and_then qubits_questions n g q r

unfoldable pub on_width_answer : ℕ → ℕ → ℕ → ℕ → ℕ → Outcome
on_width_answer n g q r room = on_width_questions n g q r and_then room_question (record_length n) room

unfoldable pub on_qubit_questions : ℕ → ℕ → Outcome
on_qubit_questions g q = gate_question 24 g and_then qubit_question q

unfoldable pub on_qubit_answer : ℕ → ℕ → ℕ → Outcome
on_qubit_answer g q room = on_qubit_questions g q and_then room_question (record_length (suc q)) room

unfoldable pub compose_gate_questions : ℕ → ℕ → Outcome
compose_gate_questions g h = gate_question 24 g and_then gate_question 24 h

-- The scope document's example, H on 0 and then CX 0 to 1: what the program writes is computed.
use Rattle.std.specs.Prelude.{Ok}
use mathlib.Core.Path.{◌≡◌, refl, ap, ap₂, ◌∙◌}
use Rattle.pauli_group.specs.PauliString.{qubits}
use Rattle.pauli.specs.Questions.{ask, ◌and_then◌}
use Rattle.clifford.specs.Display.{text_of_tableau}
use Rattle.clifford.specs.GateAnswers.{gate_record}
use Rattle.clifford.specs.Questions.{width_question}
use Rattle.clifford.specs.Tableaux.{identity_record, compose_record}
use Rattle.clifford.proofs.Display.{display_reading}
use Rattle.clifford_laws.specs.WayBack.{product_from, product_of}
use Rattle.gate_list.specs.ListQuestions.{size_question, head_question, link_question, zeros_question, step_gate_question, step_qubit_question, step_second_questions, record_questions, is_met, chain_questions, list_questions}
use Rattle.gate_list.specs.Lists.{record_count, byte_of, list_width, next_of}
use Rattle.gate_list.specs.Reports.{text_after, report_text}
use Rattle.gate_list.specs.Runs.{tableaux_of, run_record}
use Rattle.gate_list.proofs.ListReadings.{example, example_gates}
use Rattle.pauli.specs.QuotedText.{bytes_of}

example_runs : list_questions example ≡ Ok tt
unfolding ask ◌and_then◌ width_question qubits record_count byte_of list_width next_of size_question head_question link_question zeros_question step_gate_question step_qubit_question step_second_questions record_questions is_met chain_questions list_questions
example_runs = refl

-- H on 0, and then CX from 0 to 1
example_record : run_record example ≡ compose_record (gate_record 24 0 1) (compose_record (gate_record 4 0 0) (identity_record 2))
unfolding run_record product_of product_from tableaux_of list_width byte_of
example_record = ap (λ ps. product_of (list_width example) (tableaux_of ps)) example_gates

pub report_example : report_text example ≡ bytes_of "CliffordRep(2 qubits):\n  X_0 -> +Z0\n  Z_0 -> +X0 X1\n  X_1 -> +X1\n  Z_1 -> +Z0 Z1\n"
unfolding report_text text_after
report_example = ap₂ text_after example_runs (ap text_of_tableau example_record ∙ display_reading)

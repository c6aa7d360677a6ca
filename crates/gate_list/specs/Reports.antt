-- What the program writes (scope document, "Program"): "the `Display` text" of the run; "A refusal writes `refused N at D` and a
-- newline, number and detail in decimal."
use Rattle.std.specs.Prelude.{ℕ, List, [], ◌∷◌, ◌++◌, length, Ok, Err}
use Rattle.pauli.specs.declared.refusal.Refusal.{Refusal}
use Rattle.pauli.specs.Answers.{refusal_number, refusal_detail, Outcome}
use Rattle.pauli.specs.QuotedText.{bytes_of}
use Rattle.pauli.specs.Questions.{room_question}
use Rattle.pauli.specs.SparseText.{decimal}
use Rattle.clifford.specs.Display.{text_of_tableau, newline}
use Rattle.gate_list.specs.ListQuestions.{list_questions}
use Rattle.gate_list.specs.Runs.{run_record}

abbrev pub refused_text : List ℕ
refused_text = bytes_of "refused "

abbrev pub at_text : List ℕ
at_text = bytes_of " at "

unfoldable pub refusal_text : Refusal → List ℕ
refusal_text r = refused_text ++ (decimal (refusal_number r) ++ (at_text ++ (decimal (refusal_detail r) ++ (newline ∷ []))))

unfoldable pub text_after : Outcome → List ℕ → List ℕ
text_after (Ok tt) t = t
text_after (Err r) t = refusal_text r

unfoldable pub report_text : List ℕ → List ℕ
report_text l = text_after (list_questions l) (text_of_tableau (run_record l))

-- any list has a report; only the room can be short
unfoldable pub report_answer : List ℕ → ℕ → Outcome
report_answer l room = room_question (length (report_text l)) room

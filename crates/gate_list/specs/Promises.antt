-- What the public functions on a gate list l promise of their answer r: the questions, the answer, and the destination, which held d
-- at entry and holds e at exit.
use Rattle.std.specs.Prelude.{List, ℕ, length}
use Rattle.pauli.specs.Answers.{Answer, NumberWritten, CountWritten}
use Rattle.gate_list.specs.Runs.{run_answer, run_record, step_count}
use Rattle.gate_list.specs.Reports.{report_answer, report_text}

-- the number is that of the steps
abbrev pub ListRun : (l d e : List ℕ) (r : Answer ℕ) → Type 0
ListRun l d e r = NumberWritten (run_answer l (length d)) (step_count l) (run_record l) d e r

abbrev pub Reported : (l d e : List ℕ) (r : Answer ℕ) → Type 0
Reported l d e r = CountWritten (report_answer l (length d)) (report_text l) d e r

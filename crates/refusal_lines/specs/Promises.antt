-- What `refusal_line` promises of its answer r: the line of number n, detail d and width w, in a destination that held b at entry and
-- holds e at exit. Any three numbers have a line; only the room for it can be short.
use Rattle.std.specs.Prelude.{ℕ, List, length}
use Rattle.pauli.specs.Answers.{CountWritten, Answer}
use Rattle.pauli.specs.Questions.{room_question}
use Rattle.refusal_wording.specs.RefusalLines.{refusal_line}

abbrev pub LineWritten : (n d w : ℕ) (b e : List ℕ) (r : Answer ℕ) → Type 0
LineWritten n d w b e r = CountWritten (room_question (length (refusal_line n d w)) (length b)) (refusal_line n d w) b e r

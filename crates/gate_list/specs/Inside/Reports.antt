-- What the functions that write a report promise.
use Rattle.std.specs.Prelude.{ℕ, List, length}
use Rattle.pauli.specs.Answers.{CountWritten, Answer}
use Rattle.pauli.specs.Questions.{room_question}

-- a text where there is room for it
abbrev pub TextReported : (text d e : List ℕ) (r : Answer ℕ) → Type 0
TextReported text d e r = CountWritten (room_question (length text) (length d)) text d e r

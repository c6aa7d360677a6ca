-- The image of X or Z on one qubit after a composition, told before it (change requests, "Preview of one image").
use Rattle.std.specs.Prelude.{ℕ, max, List}
use Rattle.clifford_group.specs.Conjugation.{Generator, row}
use Rattle.pauli.specs.Layout.{string_length, string_record}
use Rattle.pauli.specs.Questions.{◌and_then◌, room_question}
use Rattle.clifford.specs.Layout.{width_of, tableau_of}
use Rattle.clifford.specs.Questions.{slot_question, compose_questions}
use Rattle.clifford.specs.Tableaux.{compose_record}
use Rattle.pauli.specs.Answers.{Outcome}

-- "those of composing other than 7, then 15 for a row's qubit outside the larger width"
unfoldable pub preview_questions : List ℕ → List ℕ → ℕ → Outcome
preview_questions a b q = compose_questions a b and_then slot_question q (max (width_of a) (width_of b))

-- "then 7 for the string's destination"
unfoldable pub preview_answer : List ℕ → List ℕ → ℕ → ℕ → Outcome
preview_answer a b q room = preview_questions a b q and_then room_question string_length room

-- "the string that this row would hold after composing a after b": the row of the composed copy, read as a string
unfoldable pub composed_image : Generator → List ℕ → List ℕ → ℕ → List ℕ
composed_image g a b q = string_record (row (tableau_of (compose_record a b)) g q)

-- Tableaux made row by row, and what the functions that make and write them may count on.
use Rattle.std.specs.Prelude.{◌≡◌, ℕ, ◌+◌, ◌≤◌, List, length}
use Rattle.clifford_group.specs.Tableau.{Tableau, Proper}
use Rattle.pauli.specs.Answers.{Written, Outcome}
use Rattle.pauli.specs.Questions.{room_question}
use Rattle.pauli.specs.Layout.{WellFormed}
use Rattle.clifford.specs.Layout.{row_length, record_length, width_of, tableau_record}
use Rattle.clifford.specs.GateQuestions.{gate_width}
use Rattle.clifford.specs.Inside.Writing.{Span}

-- t has the width w, at most 128, and rows of w letters
pub record Made (w : ℕ) (t : Tableau) : Type 0 where
  pub wide : t.width ≡ w
  pub narrow : w ≤ 128
  pub proper : Proper t

-- with room in out for a row of the width n; and with room for all rows in d
pub record WritesRow (w : ℕ) (t : Tableau) (n : ℕ) (out : List ℕ) : Type 0 where
  pub made : Made w t
  pub place : n ≡ w
  pub room : row_length w ≤ length out

pub record WritesAll (w : ℕ) (t : Tableau) (d : List ℕ) : Type 0 where
  pub made : Made w t
  pub room : record_length w ≤ length d

-- a row of the width n, which is w, by way of work rows s and k of any content
pub record MakesRow (w n : ℕ) (s k : List ℕ) : Type 0 where
  pub place : n ≡ w
  pub source : length s ≡ w + 1
  pub work : length k ≡ w + 1

-- t's record over the front of what was d and is e, where there is room for it; r is the answer
abbrev pub TableauWritten : (w : ℕ) (t : Tableau) (d e : List ℕ) (r : Outcome) → Type 0
TableauWritten w t d e r = Written (room_question (record_length w) (length d)) (tableau_record t) d e r

-- ---- what a tableau of width w is made from: the bytes of tableaux or of a string, or a gate

pub record Widens (t : List ℕ) (w : ℕ) : Type 0 where
  pub wide : width_of t ≤ w
  pub narrow : w ≤ 128

pub record Spans (s : List ℕ) (w : ℕ) : Type 0 where
  pub string : WellFormed 128 s
  pub wide : Span s w

pub record GateInside (g q r w : ℕ) : Type 0 where
  pub wide : gate_width g q r ≤ w
  pub narrow : w ≤ 128

-- The number and the value of each answer, as the scope document gives them under "Questions on entry".
use Rattle.std.specs.Prelude.{◌≡◌, ℕ, ◌+◌, ◌*◌, Bool, true, false, List, ◌++◌, length, drop, Option, Some, None, Result, Ok, Err}
use Rattle.pauli.specs.declared.algebra.PhasedLetter.{PhasedLetter}
use Rattle.pauli.specs.declared.refusal.Refusal.{Refusal}
use Rattle.pauli.specs.declared.refusal.Refusal.TheVariants.{Width, Length, BadByte, Gate, Qubit, SameQubit, Room, NotAscii, NotLetter, NoIndex, NotNumeral, Duplicate, TextQubit, ImageWidth, Slot, ListLength, ListRecord, StepGate, StepQubit, StepSameQubit, Link, Loop, FalseWeight}
use Rattle.pauli.specs.declared.refusal.Reply.{Reply}

-- what an answer names, or the refusal; and what questions come to
abbrev pub Answer : Type 0 → Type 0
Answer T = Result T Refusal

abbrev pub Outcome : Type 0
Outcome = Answer (Unit {0})

unfoldable pub refusal_number : Refusal → ℕ
refusal_number Width = 1
refusal_number Length = 2
refusal_number (BadByte offset) = 3
refusal_number Gate = 4
refusal_number (Qubit qubit) = 5
refusal_number (SameQubit qubit) = 6
refusal_number Room = 7
refusal_number (NotAscii offset) = 8
refusal_number (NotLetter offset) = 9
refusal_number (NoIndex offset) = 10
refusal_number (NotNumeral offset) = 11
refusal_number (Duplicate qubit) = 12
refusal_number (TextQubit offset) = 13
refusal_number (ImageWidth qubit width) = 14
refusal_number (Slot slot width) = 15
refusal_number ListLength = 16
refusal_number (ListRecord at) = 17
refusal_number (StepGate at) = 4
refusal_number (StepQubit at) = 5
refusal_number (StepSameQubit at) = 6
refusal_number (Link at) = 18
refusal_number (Loop at) = 19
refusal_number (FalseWeight offset) = 24

-- "Detail is 0 unless named"
unfoldable pub refusal_detail : Refusal → ℕ
refusal_detail Width = 0
refusal_detail Length = 0
refusal_detail (BadByte offset) = offset
refusal_detail Gate = 0
refusal_detail (Qubit qubit) = qubit
refusal_detail (SameQubit qubit) = qubit
refusal_detail Room = 0
refusal_detail (NotAscii offset) = offset
refusal_detail (NotLetter offset) = offset
refusal_detail (NoIndex offset) = offset
refusal_detail (NotNumeral offset) = offset
refusal_detail (Duplicate qubit) = qubit
refusal_detail (TextQubit offset) = offset
refusal_detail (ImageWidth qubit width) = qubit
refusal_detail (Slot slot width) = slot
refusal_detail ListLength = 0
refusal_detail (ListRecord at) = at
refusal_detail (StepGate at) = at
refusal_detail (StepQubit at) = at
refusal_detail (StepSameQubit at) = at
refusal_detail (Link at) = at
refusal_detail (Loop at) = at
refusal_detail (FalseWeight offset) = offset

abbrev pub reply : ℕ → ℕ → Reply
reply n v = record { number = n; value = v }

unfoldable pub refusal_reply : Refusal → Reply
refusal_reply r = reply (refusal_number r) (refusal_detail r)

-- what is told where the questions let a call by, with a value, and where they do not
unfoldable pub reply_to : Outcome → ℕ → Reply
reply_to (Ok tt) v = reply 0 v
reply_to (Err r) v = refusal_reply r

-- ---- an answer: its number and value by case, where `value` says what its kind tells of the thing named

unfoldable pub reply_of : {T : Type 0} → (T → ℕ) → Answer T → Reply
reply_of value (Ok x) = reply 0 (value x)
reply_of value (Err r) = refusal_reply r

-- of a function that only writes
abbrev pub no_value : Unit {0} → ℕ
no_value x = 0

-- of a phase, a letter, a count, an offset
abbrev pub number_value : ℕ → ℕ
number_value n = n

abbrev pub one_or_zero : Bool → ℕ
one_or_zero true = 1
one_or_zero false = 0

-- of a product of letters
abbrev pub letter_value : PhasedLetter → ℕ
letter_value x = 4 * x.0 + x.1

-- of a gate; 255 stands for none
abbrev pub gate_value : Option ℕ → ℕ
gate_value (Some g) = g
gate_value None = 255

-- ---- the answer after the questions

unfoldable pub answer_to : {T : Type 0} → Outcome → T → Answer T
answer_to (Ok tt) x = Ok x
answer_to (Err r) x = Err r

-- "An answer changes only the bytes it writes"; a refusal changes none
unfoldable pub written : Outcome → List ℕ → List ℕ → List ℕ
written (Ok tt) out d = out ++ drop (length out) d
written (Err r) out d = d

-- ---- what the contracts promise of the answer r to questions q: the case, its number and value, and the destination, which
-- held d at entry and holds e at exit

pub record Answered {T : Type 0} (value : T → ℕ) (q : Outcome) (x : T) (r : Answer T) : Type 0 where
  pub answer : r ≡ answer_to q x
  pub told : reply_of value r ≡ reply_to q (value x)

pub record Written (q : Outcome) (out d e : List ℕ) (r : Outcome) : Type 0 where
  pub answer : r ≡ q
  pub told : reply_of no_value r ≡ reply_to q 0
  pub bytes : e ≡ written q out d

-- with a number n that is answered
pub record NumberWritten (q : Outcome) (n : ℕ) (out d e : List ℕ) (r : Answer ℕ) : Type 0 where
  pub answer : r ≡ answer_to q n
  pub told : reply_of number_value r ≡ reply_to q n
  pub bytes : e ≡ written q out d

-- as many bytes are written as are counted
abbrev pub CountWritten : (q : Outcome) (out d e : List ℕ) (r : Answer ℕ) → Type 0
CountWritten q out d e r = NumberWritten q (length out) out d e r

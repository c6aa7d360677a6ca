-- The text of a refusal, written part by part.
use mathlib.Core.Path.{◌≡◌, ap, ap₂}
use mathlib.Core.List.{List, [], ◌∷◌, ◌++◌}
use Prim.Native.Nat.{ℕ, ◌+◌, ◌^◌, ◌<◌, ◌≤◌}
use native.Mathlib.Omega.{arith}
use lib.ListN.{length, length-append}
use Rattle.pauli.specs.declared.refusal.Refusal.{Refusal}
use Rattle.pauli.specs.declared.refusal.Refusal.TheVariants.{Width, Length, BadByte, Gate, Qubit, SameQubit, Room, NotAscii, NotLetter, NoIndex, NotNumeral, Duplicate, TextQubit, ImageWidth, Slot, ListLength, ListRecord, StepGate, StepQubit, StepSameQubit, Link, Loop, FalseWeight}
use Rattle.pauli.specs.Answers.{refusal_number, refusal_detail}
use Rattle.pauli.specs.SparseText.{decimal}
use Rattle.pauli.specs.declared.text_writer.TextWriter.{TextWriter}
use Rattle.pauli.specs.TextWriters.{Put}
use Rattle.pauli.specs.Inside.TextWriting.{TextWritten}
use Rattle.pauli.proofs.Decimals.{decimal-most}
use Rattle.pauli.proofs.TextWriters.{put_join, put_as, put_whole}
use Rattle.clifford.specs.Display.{newline}
use Rattle.gate_list.specs.Reports.{refused_text, at_text, refusal_text}

-- ---- its number
number_small : (r : Refusal) → refusal_number r < 100
unfolding refusal_number
number_small Width = omega arith
number_small Length = omega arith
number_small (BadByte offset) = omega arith
number_small Gate = omega arith
number_small (Qubit qubit) = omega arith
number_small (SameQubit qubit) = omega arith
number_small Room = omega arith
number_small (NotAscii offset) = omega arith
number_small (NotLetter offset) = omega arith
number_small (NoIndex offset) = omega arith
number_small (NotNumeral offset) = omega arith
number_small (Duplicate qubit) = omega arith
number_small (TextQubit offset) = omega arith
number_small (ImageWidth qubit width) = omega arith
number_small (Slot slot width) = omega arith
number_small ListLength = omega arith
number_small (ListRecord at) = omega arith
number_small (StepGate at) = omega arith
number_small (StepQubit at) = omega arith
number_small (StepSameQubit at) = omega arith
number_small (Link at) = omega arith
number_small (Loop at) = omega arith
number_small (FalseWeight offset) = omega arith

-- ---- its length
pub number_short : (r : Refusal) → length (decimal (refusal_number r)) ≤ 2
number_short r = decimal-most 1 (refusal_number r) (omega (arith, number_small r))

pub refusal-length : (r : Refusal) → length (refusal_text r) ≡ 13 + length (decimal (refusal_number r)) + length (decimal (refusal_detail r))
unfolding refusal_text
refusal-length r =
    let n = decimal (refusal_number r) in
    let d = decimal (refusal_detail r) in
    omega (arith, length-append n (at_text ++ (d ++ (newline ∷ []))), length-append d (newline ∷ []))

-- ---- its parts, one after another
pub refusal_written : (x : Refusal) {n m r : ℕ} {s t u v w y : TextWriter} {d e : List ℕ} → n ≡ refusal_number x → m ≡ refusal_detail x → m < 2 ^ 64 → s.at ≡ 0
    → s.dst.now ≡ d → Put refused_text s t → Put (decimal n) t u → Put at_text u v → Put (decimal m) v w → Put (newline ∷ []) w y → e ≡ y.dst.now → r ≡ y.at
    → TextWritten (refusal_text x) d e r
unfolding refusal_text
refusal_written x {m = m} en em fits f i a b c l k =
    put_whole
    (omega (arith, refusal-length x, number_short x, ap (λ (j : ℕ). length (decimal j)) em, decimal-most 19 m (omega arith)))
    f
    i
    (put_as
    (ap₂ (λ (j h : ℕ). refused_text ++ (decimal j ++ (at_text ++ (decimal h ++ (newline ∷ []))))) en em)
    (put_join a (put_join b (put_join c (put_join l k)))))

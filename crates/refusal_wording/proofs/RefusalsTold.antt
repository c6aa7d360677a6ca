-- The refusals of the library: each has a sentence, and its line tells the whole reply.
use mathlib.Core.Path.{◌≡◌, refl, sym, ap, ap₂, ◌∙◌}
use mathlib.Core.Bool.{Bool, true, false, not, ◌||◌, false≢true}
use mathlib.Core.List.{List, ◌++◌, append_cancel_left}
use Prim.Native.Nat.{ℕ}
use native.Mathlib.Decide.{dec_lt}
use native.Mathlib.Omega.{arith}
use lib.Dec.{eqb}
use lib.ListN.{get_or}
use borrow.Author.Tests.{eqb-false}
use Rattle.pauli.specs.declared.refusal.Refusal.{Refusal}
use Rattle.pauli.specs.declared.refusal.Refusal.TheVariants.{Width, Length, BadByte, Gate, Qubit, SameQubit, Room, NotAscii, NotLetter, NoIndex, NotNumeral, Duplicate, TextQubit, ImageWidth, Slot, ListLength, ListRecord, StepGate, StepQubit, StepSameQubit, Link, Loop, FalseWeight}
use Rattle.pauli.specs.Answers.{refusal_number, refusal_detail, refusal_reply, reply}
use Rattle.pauli.specs.QuotedText.{bytes_of}
use Rattle.pauli.specs.SparseText.{decimal}
use Rattle.refusal_wording.specs.RefusalLines.{sentences, sentence_among, sentence, has_detail, is_width_error, width_error_text, wording, refusal_line}
use Rattle.refusal_wording.specs.LineLaws.{ShownAlike}
use Rattle.refusal_wording.proofs.NumberRanges.{steady, steady_at, detail-high}
use Rattle.refusal_wording.proofs.LineParts.{worded, detailed}
use Rattle.refusal_wording.proofs.LineTells.{lines_differ}

-- no u at its front, and a detail that is 0 where it is not shown
record Told (r : Refusal) (d w : ℕ) : Type 0 where
  own : eqb (get_or (wording (refusal_number r) d w) 0 0) 117 ≡ false
  hidden : has_detail (refusal_number r) ≡ false → refusal_detail r ≡ 0

shown : {b : Bool} {n : ℕ} → b ≡ true → b ≡ false → n ≡ 0
shown h k = absurd (false≢true (sym k ∙ h))

told : (r : Refusal) (d w : ℕ) → Told r d w
unfolding refusal_number refusal_detail has_detail wording sentence sentence_among sentences width_error_text
told Width d w = record { own = refl; hidden = λ h. refl }
told Length d w = record { own = refl; hidden = λ h. refl }
told (BadByte offset) d w = record { own = refl; hidden = shown refl }
told Gate d w = record { own = refl; hidden = λ h. refl }
told (Qubit qubit) d w = record { own = refl; hidden = shown refl }
told (SameQubit qubit) d w = record { own = refl; hidden = shown refl }
told Room d w = record { own = refl; hidden = λ h. refl }
told (NotAscii offset) d w = record { own = refl; hidden = shown refl }
told (NotLetter offset) d w = record { own = refl; hidden = shown refl }
told (NoIndex offset) d w = record { own = refl; hidden = shown refl }
told (NotNumeral offset) d w = record { own = refl; hidden = shown refl }
told (Duplicate qubit) d w = record { own = refl; hidden = shown refl }
told (TextQubit offset) d w = record { own = refl; hidden = shown refl }
told (ImageWidth qubit width) d w = record { own = refl; hidden = shown refl }
told (Slot slot width) d w = record { own = refl; hidden = shown refl }
told ListLength d w = record { own = refl; hidden = λ h. refl }
told (ListRecord at) d w = record { own = refl; hidden = shown refl }
told (StepGate at) d w = record { own = refl; hidden = shown refl }
told (StepQubit at) d w = record { own = refl; hidden = shown refl }
told (StepSameQubit at) d w = record { own = refl; hidden = shown refl }
told (Link at) d w = record { own = refl; hidden = shown refl }
told (Loop at) d w = record { own = refl; hidden = shown refl }
told (FalseWeight offset) d w = record { own = refl; hidden = shown refl }

-- none begins with "unknown"
pub refusal-known : (r : Refusal) (d w : ℕ) (t : List ℕ) → refusal_line (refusal_number r) d w ≡ decimal (refusal_number r) ++ (bytes_of ": unknown" ++ t) → ⊥
unfolding refusal_line
refusal-known r d w t h =
    eqb-false (get_or (wording (refusal_number r) d w) 0 0) 117 (told r d w).own
    (ap (λ (l : List ℕ). get_or l 2 0)
    (append_cancel_left (decimal (refusal_number r)) (bytes_of ": " ++ wording (refusal_number r) d w) (bytes_of ": unknown" ++ t) h))

-- refusals that share a line have one number and one detail, whatever widths are told
pub reply_told : (r s : Refusal) (v w : ℕ) → refusal_line (refusal_number r) (refusal_detail r) v ≡ refusal_line (refusal_number s) (refusal_detail s) w
    → refusal_reply r ≡ refusal_reply s
unfolding refusal_reply
reply_told r s v w h = ap₂ reply alike.number (by (has_detail (refusal_number r)) refl)
  where
    alike : ShownAlike (refusal_number r) (refusal_detail r) v (refusal_number s) (refusal_detail s) w
    alike = (lines_differ (refusal_number r) (refusal_detail r) v (refusal_number s) (refusal_detail s) w).tells h

    by : (b : Bool) → has_detail (refusal_number r) ≡ b → refusal_detail r ≡ refusal_detail s
    by true p = alike.detail p
    by false p = (told r v v).hidden p ∙ sym ((told s w w).hidden (ap has_detail (sym alike.number) ∙ p))

-- ---- a number without a meaning shows no detail: where one is shown, the sentence is not "unknown"
-- no detail, or the wording of `PauliWidthError`, or no u at the front
unfoldable is_bare : ℕ → Bool
is_bare n = (not (has_detail n) || is_width_error n) || not (eqb (get_or (sentence n) 0 0) 117)

all_bare : steady is_bare true 0 25 ≡ true
unfolding steady is_bare has_detail sentence sentence_among sentences
all_bare = refl

no_detail : (n : ℕ) → sentence n ≡ bytes_of "unknown" → is_width_error n ≡ false → has_detail n ≡ false
unfolding is_bare
no_detail n u e = elim (dec_lt n 25) [
  | yes h ↦ by (has_detail n) refl (steady_at is_bare 0 25 all_bare (omega arith) h ∙ (λ i. (not (has_detail n) || e i) || not (eqb (get_or (u i) 0 0) 117)))
  | no h ↦ sym (detail-high n (omega arith) (λ k. omega arith))
]
  where
    by : (b : Bool) → has_detail n ≡ b → true ≡ ((not b || false) || false) → has_detail n ≡ false
    by true p h = absurd (false≢true (sym h))
    by false p h = p

pub unknown_bare : (n d w : ℕ) → sentence n ≡ bytes_of "unknown" → is_width_error n ≡ false → refusal_line n d w ≡ decimal n ++ bytes_of ": unknown"
unfolding refusal_line
unknown_bare n d w u e =
    ap (λ (t : List ℕ). decimal n ++ (bytes_of ": " ++ t)) (worded n d w e ∙ ap₂ (λ (s t : List ℕ). s ++ t) u (detailed n d (no_detail n u e)))

-- What follows the number of a line, by its number.
use mathlib.Core.Path.{◌≡◌, ap}
use mathlib.Core.Bool.{Bool, cond}
use mathlib.Core.List.{[], ◌∷◌, ◌++◌}
use Prim.Native.Nat.{ℕ}
use Rattle.pauli.specs.SparseText.{decimal}
use Rattle.refusal_wording.specs.RefusalLines.{sentence, has_detail, detail_text, is_width_error, width_error_text, wording}

pub worded : (n d w : ℕ) {b : Bool} → is_width_error n ≡ b → wording n d w ≡ cond b (width_error_text d w) (sentence n ++ detail_text n d)
unfolding wording
worded n d w h = ap (λ b. cond b (width_error_text d w) (sentence n ++ detail_text n d)) h

pub detailed : (n d : ℕ) {b : Bool} → has_detail n ≡ b → detail_text n d ≡ cond b (32 ∷ decimal d) []
unfolding detail_text
detailed n d h = ap (λ b. cond b (32 ∷ decimal d) []) h

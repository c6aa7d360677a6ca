-- What a line tells: its number, its detail where that has a meaning, and the width for 14 and 15.
use mathlib.Core.Path.{◌≡◌, refl, sym, ap, ap₂, ◌∙◌}
use mathlib.Core.Bool.{Bool, true, false}
use mathlib.Core.List.{List, ◌∷◌, ◌++◌, tail-eq_of_cons-eq, append_cancel_left}
use Prim.Native.Nat.{ℕ}
use native.Mathlib.Omega.{arith}
use lib.Dec.{leb}
use lib.ListN.{drop}
use borrow.Author.Tests.{leb-true}
use Rattle.pauli_group.proofs.Finite.{and_both}
use Rattle.pauli.specs.QuotedText.{bytes_of}
use Rattle.pauli.specs.SparseText.{decimal}
use Rattle.pauli.specs.Text.{is_digit}
use Rattle.refusal_wording.specs.RefusalLines.{sentence, has_detail, detail_text, is_width_error, width_error_text, wording, refusal_line}
use Rattle.refusal_wording.specs.LineLaws.{ShownAlike, LineTheorem}
use Rattle.refusal_wording.proofs.DecimalLaws.{same-decimal, number_read, rest_read}
use Rattle.refusal_wording.proofs.NumberRanges.{detail-second}
use Rattle.refusal_wording.proofs.LineParts.{worded, detailed}

-- ---- the bytes behind a number: a colon, a space, a semicolon
colon_apart : is_digit 58 ≡ false
unfolding is_digit
colon_apart = refl

space_apart : is_digit 32 ≡ false
unfolding is_digit
space_apart = refl

semicolon_apart : is_digit 59 ≡ false
unfolding is_digit
semicolon_apart = refl

-- ---- the wording of `PauliWidthError` shows both numbers
module _ (d w e v : ℕ) (h : width_error_text d w ≡ width_error_text e v) where
  from-qubit : drop 6 (width_error_text d w) ≡ drop 6 (width_error_text e v)
  from-qubit = ap (drop 6) h

  error_detail : d ≡ e
  unfolding width_error_text
  error_detail = number_read 32 space_apart d e _ _ from-qubit

  error_width : w ≡ v
  unfolding width_error_text
  error_width = number_read 59 semicolon_apart w v _ _ (ap (drop 22) (rest_read 32 space_apart d e _ _ from-qubit))

-- ---- read back
wording-detail : (n d w e v : ℕ) → wording n d w ≡ wording n e v → has_detail n ≡ true → d ≡ e
wording-detail n d w e v h k = by (is_width_error n) refl
  where
    by : (b : Bool) → is_width_error n ≡ b → d ≡ e
    by true p = error_detail d w e v (sym (worded n d w p) ∙ h ∙ worded n e v p)
    by false p =
        let text = append_cancel_left (sentence n) (detail_text n d) (detail_text n e) (sym (worded n d w p) ∙ h ∙ worded n e v p) in
        same-decimal d e (tail-eq_of_cons-eq (sym (detailed n d k) ∙ text ∙ detailed n e k))

wording-width : (n d w e v : ℕ) → wording n d w ≡ wording n e v → is_width_error n ≡ true → w ≡ v
wording-width n d w e v h p = error_width d w e v (sym (worded n d w p) ∙ h ∙ worded n e v p)

module _ (n d w m e v : ℕ) (h : refusal_line n d w ≡ refusal_line m e v) where
  same_number : n ≡ m
  unfolding refusal_line
  same_number = number_read 58 colon_apart n m _ _ h

  same-wording : wording n d w ≡ wording n e v
  unfolding refusal_line
  same-wording =
      tail-eq_of_cons-eq (rest_read 58 colon_apart n m (32 ∷ wording n d w) (32 ∷ wording m e v) h) ∙ ap (λ (k : ℕ). wording k e v) (sym same_number)

  line-tells : ShownAlike n d w m e v
  line-tells = record { number = same_number; detail = wording-detail n d w e v same-wording; width = wording-width n d w e v same-wording }

-- ---- what is not shown is not looked at
error_has_detail : (n : ℕ) → is_width_error n ≡ true → has_detail n ≡ true
error_has_detail n h =
    let both = and_both (leb 14 n) (leb n 15) h in
    sym (detail-second n (omega (arith, leb-true 14 n both.0)) (omega (arith, leb-true n 15 both.1)))

module _ (n d w e v : ℕ) (detail : has_detail n ≡ true → d ≡ e) (width : is_width_error n ≡ true → w ≡ v) where
  detail_shared : detail_text n d ≡ detail_text n e
  detail_shared = by (has_detail n) refl
    where
      by : (b : Bool) → has_detail n ≡ b → detail_text n d ≡ detail_text n e
      by true p = ap (detail_text n) (detail p)
      by false p = detailed n d p ∙ sym (detailed n e p)

  wording_shared : wording n d w ≡ wording n e v
  wording_shared = by (is_width_error n) refl
    where
      by : (b : Bool) → is_width_error n ≡ b → wording n d w ≡ wording n e v
      by true p = ap₂ (wording n) (detail (error_has_detail n p)) (width p)
      by false p = worded n d w p ∙ ap (λ (t : List ℕ). sentence n ++ t) detail_shared ∙ sym (worded n e v p)

line-shares : (n d w m e v : ℕ) → ShownAlike n d w m e v → refusal_line n d w ≡ refusal_line m e v
unfolding refusal_line
line-shares n d w m e v h =
    ap (λ (t : List ℕ). decimal n ++ (bytes_of ": " ++ t)) (wording_shared n d w e v h.detail h.width) ∙ ap (λ (k : ℕ). refusal_line k e v) h.number

pub lines_differ : (n d w m e v : ℕ) → LineTheorem n d w m e v
lines_differ n d w m e v = record { tells = line-tells n d w m e v; shares = line-shares n d w m e v }

-- How a line is written: every byte printed, and never more than 140.
use mathlib.Core.Path.{◌≡◌, refl, ap, ap₂, ◌∙◌}
use mathlib.Core.Bool.{Bool, true, false, ◌&&◌}
use mathlib.Core.List.{List, [], ◌∷◌, ◌++◌}
use Prim.Native.Nat.{ℕ, zero, suc, ◌+◌, ◌-◌, ◌^◌, ◌<◌, ◌≤◌}
use native.Mathlib.Omega.{arith}
use lib.Dec.{leb}
use lib.ListN.{length, get_or, length-append}
use borrow.Author.Tests.{leb-true, le-leb}
use Rattle.pauli_group.proofs.Finite.{and_both}
use Rattle.pauli.specs.QuotedText.{bytes_of}
use Rattle.pauli.specs.SparseText.{decimal}
use Rattle.pauli.specs.Text.{is_digit, all_digits}
use Rattle.pauli.proofs.Decimals.{decimal-more, decimal-one, decimal-digits, decimal-most}
use Rattle.refusal_wording.specs.RefusalLines.{sentence, has_detail, detail_text, is_width_error, width_error_text, wording, refusal_line}
use Rattle.refusal_wording.specs.LineLaws.{Printed}
use Rattle.refusal_wording.proofs.DecimalLaws.{decimal-least}
use Rattle.refusal_wording.proofs.LineParts.{worded, detailed}
use Rattle.refusal_wording.proofs.SentenceLaws.{each, is_printed, sentence_printed, sentence-most}

-- ---- printed bytes
each_append : (f : ℕ → Bool) (a b : List ℕ) → each f a ≡ true → each f b ≡ true → each f (a ++ b) ≡ true
unfolding each
each_append f [] b h k = k
each_append f (c ∷ a) b h k =
    let both = and_both (f c) (each f a) h in
    ap₂ (λ x y. x && y) both.0 (each_append f a b both.1 k)

each_at : (f : ℕ → Bool) (t : List ℕ) (k : ℕ) → each f t ≡ true → k < length t → f (get_or t k 0) ≡ true
unfolding each
each_at f [] k h l = absurd (omega arith)
each_at f (c ∷ t) zero h l = (and_both (f c) (each f t) h).0
each_at f (c ∷ t) (suc k) h l = each_at f t k (and_both (f c) (each f t) h).1 (omega arith)

printed_is : {t : List ℕ} → each is_printed t ≡ true → Printed t
unfolding is_printed
printed_is {t} h = record { low = λ k l. leb-true 32 (get_or t k 0) (at k l).0; high = λ k l. leb-true (get_or t k 0) 126 (at k l).1 }
  where
    at : (k : ℕ) → k < length t → (leb 32 (get_or t k 0) ≡ true) × (leb (get_or t k 0) 126 ≡ true)
    at k l = and_both (leb 32 (get_or t k 0)) (leb (get_or t k 0) 126) (each_at is_printed t k h l)

digits_printed : (ds : List ℕ) → all_digits ds ≡ true → each is_printed ds ≡ true
unfolding each all_digits is_digit is_printed
digits_printed [] h = refl
digits_printed (c ∷ ds) h =
    let both = and_both (is_digit c) (all_digits ds) h in
    let digit = and_both (leb 48 c) (leb c 57) both.0 in
    ap₂ (λ x y. x && y)
    (ap₂ (λ x y. x && y) (le-leb 32 c (omega (arith, leb-true 48 c digit.0))) (le-leb c 126 (omega (arith, leb-true c 57 digit.1))))
    (digits_printed ds both.1)

number_printed : (n : ℕ) → each is_printed (decimal n) ≡ true
number_printed n = digits_printed (decimal n) (decimal-digits n)

space_printed : each is_printed (32 ∷ []) ≡ true
unfolding each is_printed
space_printed = refl

none_printed : each is_printed [] ≡ true
unfolding each
none_printed = refl

error_printed : (d w : ℕ) → each is_printed (width_error_text d w) ≡ true
unfolding width_error_text each is_printed
error_printed d w =
    each_append is_printed (decimal d) _ (number_printed d) (each_append is_printed (decimal w) _ (number_printed w) refl)

detail_printed : (n d : ℕ) → each is_printed (detail_text n d) ≡ true
detail_printed n d = by (has_detail n) refl
  where
    shown : each is_printed (32 ∷ decimal d) ≡ true
    shown = each_append is_printed (32 ∷ []) (decimal d) space_printed (number_printed d)

    by : (b : Bool) → has_detail n ≡ b → each is_printed (detail_text n d) ≡ true
    by true p = ap (each is_printed) (detailed n d p) ∙ shown
    by false p = ap (each is_printed) (detailed n d p) ∙ none_printed

wording_printed : (n d w : ℕ) → each is_printed (wording n d w) ≡ true
wording_printed n d w = by (is_width_error n) refl
  where
    by : (b : Bool) → is_width_error n ≡ b → each is_printed (wording n d w) ≡ true
    by true p = ap (each is_printed) (worded n d w p) ∙ error_printed d w
    by false p =
        ap (each is_printed) (worded n d w p) ∙ each_append is_printed (sentence n) (detail_text n d) (sentence_printed n) (detail_printed n d)

-- "The line has no newline"
pub line_printed : (n d w : ℕ) → Printed (refusal_line n d w)
unfolding refusal_line each is_printed
line_printed n d w = printed_is (each_append is_printed (decimal n) _ (number_printed n) (wording_printed n d w))

-- ---- its length
number-most : {n : ℕ} → n < 2 ^ 64 → length (decimal n) ≤ 20
number-most {n} h = decimal-most 19 n (omega arith)

error_length : (d w : ℕ) → length (width_error_text d w) ≡ 96 + length (decimal d) + length (decimal w)
unfolding width_error_text
error_length d w =
    let last = bytes_of "; pass a width greater than the maximum qubit index (max qubit + 1)" in
    omega (arith, length-append (decimal d) (bytes_of " is outside num_qubits " ++ (decimal w ++ last)), length-append (decimal w) last)

detail-most : (n : ℕ) {d : ℕ} → d < 2 ^ 64 → length (detail_text n d) ≤ 21
detail-most n {d} h = by (has_detail n) refl
  where
    by : (b : Bool) → has_detail n ≡ b → length (detail_text n d) ≤ 21
    by true p = omega (arith, ap length (detailed n d p), number-most h)
    by false p = omega (arith, ap length (detailed n d p))

longest-number : length (decimal (2 ^ 64 - 1)) ≡ 20
longest-number = omega (arith, decimal-least 19 (2 ^ 64 - 1) (omega arith), number-most {n = 2 ^ 64 - 1} (omega arith))

-- no line is longer than 140 bytes, and one is as long
line-length : (n d w : ℕ) → length (refusal_line n d w) ≡ length (decimal n) + 2 + length (wording n d w)
unfolding refusal_line
line-length n d w = omega (arith, length-append (decimal n) (bytes_of ": " ++ wording n d w))

pub line-most : {n d w : ℕ} → n < 2 ^ 64 → d < 2 ^ 64 → w < 2 ^ 64 → length (refusal_line n d w) ≤ 140
line-most {n} {d} {w} hn hd hw = by (is_width_error n) refl
  where
    by : (b : Bool) → is_width_error n ≡ b → length (refusal_line n d w) ≤ 140
    by true p =
        omega (
          arith,
          line-length n d w,
          decimal-most 1 n (omega (arith, leb-true n 15 (and_both (leb 14 n) (leb n 15) p).1)),
          ap length (worded n d w p) ∙ error_length d w,
          number-most hd,
          number-most hw,
        )
    by false p =
        omega (
          arith,
          line-length n d w,
          number-most hn,
          ap length (worded n d w p) ∙ length-append (sentence n) (detail_text n d),
          sentence-most n,
          detail-most n hd,
        )

pub line-longest : length (refusal_line 14 (2 ^ 64 - 1) (2 ^ 64 - 1)) ≡ 140
line-longest =
    omega (
      arith,
      line-length 14 (2 ^ 64 - 1) (2 ^ 64 - 1),
      ap length (decimal-more 14 (omega arith)) ∙ length-append (decimal 1) (52 ∷ []),
      ap length (decimal-one 1 (omega arith)),
      ap length (worded 14 (2 ^ 64 - 1) (2 ^ 64 - 1) refl) ∙ error_length (2 ^ 64 - 1) (2 ^ 64 - 1),
      longest-number,
    )

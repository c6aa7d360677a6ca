-- Decimals: read one way before a byte that is no digit, and the shortest digits of their value.
use mathlib.Core.Path.{◌≡◌, refl, sym, ap, ap₂, ◌∙◌}
use mathlib.Core.Bool.{true, false, false≢true}
use mathlib.Core.List.{List, [], ◌∷◌, ◌++◌, head-eq_of_cons-eq, tail-eq_of_cons-eq, append_cancel_left}
use Prim.Native.Nat.{ℕ, suc, ◌+◌, ◌*◌, ◌-◌, ◌^◌, ◌<◌, ◌≤◌}
use native.Mathlib.Nat.{mul_assoc, mul-le-mul_right, pow-succ', pow-le-pow_right}
use native.Mathlib.Decide.{dec_lt}
use native.Mathlib.Omega.{arith}
use lib.Dec.{leb}
use lib.ListN.{length}
use borrow.Author.Tests.{leb-true}
use Rattle.pauli_group.proofs.Finite.{and_both}
use Rattle.pauli.specs.SparseText.{decimal}
use Rattle.pauli.specs.Text.{is_digit, all_digits, digits_value}
use Rattle.pauli.proofs.Decimals.{decimal-some, decimal-value, decimal-digits, decimal-first, decimal-most}
use Rattle.refusal_wording.specs.LineLaws.{Shortest}

-- ---- a number by its digits
pub same-decimal : (n m : ℕ) → decimal n ≡ decimal m → n ≡ m
same-decimal n m e = sym (decimal-value n) ∙ ap (digits_value 0) e ∙ decimal-value m

-- ---- digits before a byte that is none
module _ (x : ℕ) (no : is_digit x ≡ false) where
  digits_apart : (a b s t : List ℕ) → all_digits a ≡ true → all_digits b ≡ true → a ++ (x ∷ s) ≡ b ++ (x ∷ t) → a ≡ b
  unfolding all_digits
  digits_apart [] [] s t h k e = refl
  digits_apart [] (c ∷ b) s t h k e = absurd (false≢true (sym no ∙ ap is_digit (head-eq_of_cons-eq e) ∙ (and_both (is_digit c) (all_digits b) k).0))
  digits_apart (c ∷ a) [] s t h k e = absurd (false≢true (sym no ∙ ap is_digit (sym (head-eq_of_cons-eq e)) ∙ (and_both (is_digit c) (all_digits a) h).0))
  digits_apart (c ∷ a) (d ∷ b) s t h k e =
      ap₂ (λ (y : ℕ) (l : List ℕ). y ∷ l) (head-eq_of_cons-eq e)
      (digits_apart a b s t (and_both (is_digit c) (all_digits a) h).1 (and_both (is_digit d) (all_digits b) k).1 (tail-eq_of_cons-eq e))

  -- the number, and what stands behind that byte
  pub number_read : (n m : ℕ) (s t : List ℕ) → decimal n ++ (x ∷ s) ≡ decimal m ++ (x ∷ t) → n ≡ m
  number_read n m s t e = same-decimal n m (digits_apart (decimal n) (decimal m) s t (decimal-digits n) (decimal-digits m) e)

  pub rest_read : (n m : ℕ) (s t : List ℕ) → decimal n ++ (x ∷ s) ≡ decimal m ++ (x ∷ t) → s ≡ t
  rest_read n m s t e =
      tail-eq_of_cons-eq (append_cancel_left (decimal m) (x ∷ s) (x ∷ t) (ap (λ (k : ℕ). decimal k ++ (x ∷ s)) (sym (number_read n m s t e)) ∙ e))

-- ---- shortest: k digits have a value below 10^k
digit_most : (c : ℕ) → is_digit c ≡ true → c - 48 ≤ 9
unfolding is_digit
digit_most c h = omega (arith, leb-true c 57 (and_both (leb 48 c) (leb c 57) h).1)

value-below : (v : ℕ) (ds : List ℕ) → all_digits ds ≡ true → digits_value v ds < suc v * 10 ^ length ds
unfolding all_digits digits_value
value-below v [] h = omega arith
value-below v (c ∷ ds) h =
    let p = 10 ^ length ds in
    omega (
      arith,
      value-below (10 * v + (c - 48)) ds (and_both (is_digit c) (all_digits ds) h).1,
      mul-le-mul_right {m = suc (10 * v + (c - 48))} {n = suc v * 10} p (omega (arith, digit_most c (and_both (is_digit c) (all_digits ds) h).0)),
      mul_assoc (suc v) 10 p,
      ap (λ (j : ℕ). suc v * j) (pow-succ' 10 (length ds)),
    )

-- a number from 10^k on has more than k digits
pub decimal-least : (k n : ℕ) → 10 ^ k ≤ n → k < length (decimal n)
decimal-least k n h = elim (dec_lt k (length (decimal n))) [
  | yes l ↦ l
  | no l ↦
      let fewer = pow-le-pow_right {n = 10} (omega arith) {i = length (decimal n)} {j = k} (omega arith) in
      absurd (omega (arith, value-below 0 (decimal n) (decimal-digits n), decimal-value n, fewer))
]

pub decimal_shortest : (n : ℕ) → Shortest n (decimal n)
decimal_shortest n = record { some = decimal-some n; digits = decimal-digits n; value = decimal-value n; first = decimal-first n; least = least }
  where
    least : (cs : List ℕ) → 0 < length cs → all_digits cs ≡ true → digits_value 0 cs ≡ n → length (decimal n) ≤ length cs
    least [] some h e = absurd (omega arith)
    least (c ∷ cs) some h e = decimal-most (length cs) n (omega (arith, e, value-below 0 (c ∷ cs) h))

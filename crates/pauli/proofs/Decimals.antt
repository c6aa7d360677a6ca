-- Decimal numerals: by their digits, and read back.
use Rattle.std.proofs.Common.{◌≡◌, ℕ, zero, suc, ◌+◌, ◌-◌, ◌*◌, ◌/◌, ◌%◌, ◌^◌, ◌<◌, ◌≤◌, Bool, true, false, cond, ◌&&◌, List, [], ◌∷◌, ◌++◌, length, get_or, sym, refl, ap, ◌∙◌, ap₂, not-suc-le-zero, pow-suc, arith, length-append, le-ltb, lt-ltb, le-leb}
use native.Mathlib.Decide.{dec_lt}
use lib.ListN.{get_or-append}
use Rattle.pauli.specs.SparseText.{digit_text, digits_to, decimal}
use Rattle.pauli.specs.Text.{is_digit, all_digits, digits_value}

-- ---- one digit, and one digit more
digits-one : (k n : ℕ) → n < 10 → digits_to (suc k) n ≡ digit_text n ∷ []
unfolding digits_to
digits-one k n h = ap (λ b. cond b (digit_text n ∷ []) (digits_to k (n / 10) ++ (digit_text (n % 10) ∷ []))) (lt-ltb n 10 h)

digits_more : (k n : ℕ) → 10 ≤ n → digits_to (suc k) n ≡ digits_to k (n / 10) ++ (digit_text (n % 10) ∷ [])
unfolding digits_to
digits_more k n h = ap (λ b. cond b (digit_text n ∷ []) (digits_to k (n / 10) ++ (digit_text (n % 10) ∷ []))) (le-ltb n 10 h)

digits-enough : (k j n : ℕ) → n < k → n < j → digits_to k n ≡ digits_to j n
digits-enough zero j n h l = absurd (not-suc-le-zero h)
digits-enough (suc k) zero n h l = absurd (not-suc-le-zero l)
digits-enough (suc k) (suc j) n h l = elim (dec_lt n 10) [
  | yes b ↦ digits-one k n b ∙ sym (digits-one j n b)
  | no b ↦ digits_more k n (omega arith) ∙ ap (λ (t : List ℕ). t ++ (digit_text (n % 10) ∷ [])) (digits-enough k j (n / 10) (omega arith) (omega arith))
      ∙ sym (digits_more j n (omega arith))
]

pub decimal-one : (n : ℕ) → n < 10 → decimal n ≡ digit_text n ∷ []
unfolding decimal
decimal-one n h = digits-one n n h

pub decimal-more : (n : ℕ) → 10 ≤ n → decimal n ≡ decimal (n / 10) ++ (digit_text (n % 10) ∷ [])
unfolding decimal
decimal-more n h =
    digits_more n n h ∙ ap (λ (t : List ℕ). t ++ (digit_text (n % 10) ∷ [])) (digits-enough n (suc (n / 10)) (n / 10) (omega arith) (omega arith))

-- ---- how many digits: a number below 10^k has k at most
pub decimal-most : (k n : ℕ) → n < 10 ^ suc k → length (decimal n) ≤ suc k
decimal-most zero n h = omega (arith, ap length (decimal-one n (omega arith)))
decimal-most (suc k) n h = elim (dec_lt n 10) [
  | yes b ↦ omega (arith, ap length (decimal-one n b))
  | no b ↦
      omega (
        arith,
        ap length (decimal-more n (omega arith)),
        length-append (decimal (n / 10)) (digit_text (n % 10) ∷ []),
        decimal-most k (n / 10) (omega (arith, pow-suc 10 (suc k))),
      )
]

-- ---- read back
pub value_append : (v : ℕ) (a b : List ℕ) → digits_value v (a ++ b) ≡ digits_value (digits_value v a) b
unfolding digits_value
value_append v [] b = refl
value_append v (c ∷ a) b = value_append (10 * v + (c - 48)) a b

value-more : (v c : ℕ) → digits_value v (digit_text c ∷ []) ≡ 10 * v + c
unfolding digits_value
value-more v c = omega arith

digits_value_lem : (k n : ℕ) → n < k → digits_value 0 (digits_to k n) ≡ n
digits_value_lem zero n h = absurd (not-suc-le-zero h)
digits_value_lem (suc k) n h = elim (dec_lt n 10) [
  | yes b ↦ ap (digits_value 0) (digits-one k n b) ∙ value-more 0 n ∙ omega arith
  | no b ↦ ap (digits_value 0) (digits_more k n (omega arith)) ∙ value_append 0 (digits_to k (n / 10)) (digit_text (n % 10) ∷ [])
      ∙ ap (λ (v : ℕ). digits_value v (digit_text (n % 10) ∷ [])) (digits_value_lem k (n / 10) (omega arith)) ∙ value-more (n / 10) (n % 10) ∙ omega arith
]

pub decimal-value : (n : ℕ) → digits_value 0 (decimal n) ≡ n
unfolding decimal
decimal-value n = digits_value_lem (suc n) n (omega arith)

pub all_append : (a b : List ℕ) → all_digits a ≡ true → all_digits b ≡ true → all_digits (a ++ b) ≡ true
unfolding all_digits
all_append [] b h k = k
all_append (c ∷ a) b h k = step (is_digit c) (all_append a b) h
  where
    step : (x : Bool) → (all_digits a ≡ true → all_digits b ≡ true → all_digits (a ++ b) ≡ true) → (x && all_digits a) ≡ true → (x && all_digits (a ++ b)) ≡ true
    step true rest h = rest h k
    step false rest h = h

digit_is : (c : ℕ) → c < 10 → all_digits (digit_text c ∷ []) ≡ true
unfolding all_digits is_digit
digit_is c h = ap₂ (λ x y. (x && y) && true) (le-leb 48 (48 + c) (omega arith)) (le-leb (48 + c) 57 (omega arith))

digits_all : (k n : ℕ) → all_digits (digits_to k n) ≡ true
unfolding digits_to all_digits
digits_all zero n = refl
digits_all (suc k) n = elim (dec_lt n 10) [
  | yes b ↦ ap all_digits (digits-one k n b) ∙ digit_is n b
  | no b ↦ ap all_digits (digits_more k n (omega arith)) ∙ all_append (digits_to k (n / 10)) (digit_text (n % 10) ∷ []) (digits_all k (n / 10)) (digit_is (n % 10) (omega arith))
]

pub decimal-digits : (n : ℕ) → all_digits (decimal n) ≡ true
unfolding decimal
decimal-digits n = digits_all (suc n) n

pub decimal-some : (n : ℕ) → 0 < length (decimal n)
unfolding decimal
decimal-some n = elim (dec_lt n 10) [
  | yes b ↦ omega (arith, ap length (digits-one n n b))
  | no b ↦ omega (arith, ap length (digits_more n n (omega arith)), length-append (digits_to n (n / 10)) (digit_text (n % 10) ∷ []))
]

-- its first digit is 0 for 0 alone
tenth_some : (n : ℕ) → 0 < length (digits_to (suc n) n)
unfolding decimal
tenth_some n = decimal-some n

digits-first : (k n : ℕ) → n < k → 0 < n → 48 < get_or (digits_to k n) 0 0
digits-first zero n h l = absurd (not-suc-le-zero h)
digits-first (suc k) n h l = elim (dec_lt n 10) [
  | yes b ↦ omega (arith, ap (λ (t : List ℕ). get_or t 0 0) (digits-one k n b))
  | no b ↦
      let rest = digits_to k (n / 10) in
      let some : 0 < length rest = omega (arith, ap length (digits-enough k (suc (n / 10)) (n / 10) (omega arith) (omega arith)), tenth_some (n / 10)) in
      omega (
        arith,
        ap (λ (t : List ℕ). get_or t 0 0) (digits_more k n (omega arith)) ∙ get_or-append rest (digit_text (n % 10) ∷ []) 0 0 some,
        digits-first k (n / 10) (omega arith) (omega arith),
      )
]

pub decimal-first : (n : ℕ) → get_or (decimal n) 0 0 ≡ 48 → n ≡ 0
unfolding decimal
decimal-first zero h = refl
decimal-first (suc n) h = absurd (never (suc n) h (omega arith))
  where
    never : (m : ℕ) → get_or (digits_to (suc m) m) 0 0 ≡ 48 → 0 < m → ⊥
    never m h l = omega (arith, digits-first (suc m) m (omega arith) l)

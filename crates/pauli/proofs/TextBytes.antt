-- Bytes of text: what the tests on them find.
use Rattle.std.proofs.Common.{◌≡◌, ℕ, zero, suc, ◌+◌, ◌<◌, ◌≤◌, Bool, true, false, cond, ◌&&◌, ◌||◌, leb, ◌⊎◌, List, length, get_or, get_or-drop, add-one, drop, sym, refl, ap, ◌∙◌, ap₂, inl, inr, arith, length-drop, ne_eqb, eqb-true, le-leb, Some, None, Ok, Err}
use Rattle.std.specs.List.{position}
use Rattle.std.specs.Option.{unwrap_or, is_none}
use native.Mathlib.Decide.{dec_lt}
use lib.ListN.{get_or-eq_default}
use borrow.Author.Tests.{lt-leb}
use Rattle.pauli_group.specs.Phase.{PlusOne, MinusOne, PlusI, MinusI}
use Rattle.pauli.specs.declared.refusal.Refusal.TheVariants.{NotAscii}
use Rattle.pauli.specs.Layout.{phase_byte}
use Rattle.pauli.specs.declared.text.Head.{Head}
use Rattle.pauli.specs.Inside.Reading.{Skipped, PrefixRead, HeadRead, letter_if, leading_word}
use Rattle.pauli.specs.Questions.{ask}
use Rattle.pauli.specs.Text.{is_space, is_digit, is_sign, is_small_i, letter_named, leading_spaces, text_start, prefix_phase, prefix_length, text_phase, body_start, first_not_ascii, ascii_question}
use Rattle.pauli.proofs.Asking.{asked_yes, asked_no}
use Rattle.pauli.proofs.Places.{from, from_is, position-at, position-none, first_le}

-- ---- white space and digits
pub space-high : {c : ℕ} → (c ≡ 32 → ⊥) → 9 ≤ c → 13 < c → false ≡ is_space c
unfolding is_space
space-high {c} d k h = sym ((λ i. (le-leb 9 c k i && lt-leb c 13 h i) || ne_eqb c 32 d i))

pub digit_low : {c : ℕ} → c < 48 → false ≡ is_digit c
unfolding is_digit
digit_low {c} h = sym (ap (λ a. a && leb c 57) (lt-leb 48 c h))

pub digit_high : {c : ℕ} → 48 ≤ c → 57 < c → false ≡ is_digit c
unfolding is_digit
digit_high {c} k h = sym (ap₂ ◌&&◌ (le-leb 48 c k) (lt-leb c 57 h))

-- what the default arm of the match on letters finds
pub named_none : {c : ℕ}
    → ((((((Unit {0} × (c ≡ 88 → ⊥)) × (c ≡ 120 → ⊥)) × (c ≡ 90 → ⊥)) × (c ≡ 122 → ⊥)) × (c ≡ 89 → ⊥)) × (c ≡ 121 → ⊥)) → 0 ≡ letter_named c
unfolding letter_named
named_none {c} h =
    sym (λ i. cond (ne_eqb c 88 h.0.0.0.0.0.1 i || ne_eqb c 120 h.0.0.0.0.1 i) 1
    (cond (ne_eqb c 90 h.0.0.0.1 i || ne_eqb c 122 h.0.0.1 i) 2 (cond (ne_eqb c 89 h.0.1 i || ne_eqb c 121 h.1 i) 3 0)))

-- the letter's byte, where there is one
pub named_some : (n : ℕ) {l : ℕ} → Some l ≡ letter_if n → (l ≡ n) × (l ≡ 0 → ⊥)
unfolding letter_if
named_some zero e = cc
named_some (suc n) {l} e = let same : l ≡ suc n = cc in (same, λ z. omega arith)

pub named_not : (n : ℕ) → None ≡ letter_if n → n ≡ 0
unfolding letter_if
named_not zero e = refl
named_not (suc n) e = cc

pub named_or : (n : ℕ) → unwrap_or (letter_if n) 0 ≡ n
unfolding letter_if
named_or zero = refl
named_or (suc n) = refl

pub named_lacks : (n : ℕ) → is_none (letter_if n) ≡ true → n ≡ 0
unfolding letter_if
named_lacks zero e = refl
named_lacks (suc n) e = cc

pub named_has : (n : ℕ) → is_none (letter_if n) ≡ false → n ≡ 0 → ⊥
unfolding letter_if
named_has zero e z = cc
named_has (suc n) e z = omega arith

-- ---- the first byte that is not ASCII
ascii_asked : (t : List ℕ) (i : ℕ) → first_not_ascii t ≡ i → ask (leb (length t) i) (NotAscii i) ≡ ascii_question t
unfolding ascii_question
ascii_asked t i e = ap (λ (j : ℕ). ask (leb (length t) j) (NotAscii j)) (sym e)

pub ascii_not : (t : List ℕ) {k : ℕ} → Some k ≡ position (leb 128) t → Err (NotAscii k) ≡ ascii_question t
unfolding first_not_ascii
ascii_not t {k} e =
    let at = position-at (leb 128) t e in
    asked_no (NotAscii k) (lt-leb (length t) k at.0) ∙ ascii_asked t k (sym at.1)

pub ascii_all : (t : List ℕ) → None ≡ position (leb 128) t → Ok tt ≡ ascii_question t
unfolding first_not_ascii
ascii_all t e = asked_yes (NotAscii (length t)) (le-leb (length t) (length t) (omega arith)) ∙ ascii_asked t (length t) (sym (position-none (leb 128) t e))

pub past_end : (t : List ℕ) (k : ℕ) → length t ≤ k → 0 ≡ get_or t k 0
past_end t k h = sym (get_or-eq_default t 0 h)

pub unnamed_past : (t : List ℕ) (k : ℕ) → length t ≤ k → letter_named (get_or t k 0) ≡ 0
unfolding letter_named
unnamed_past t k h = ap letter_named (sym (past_end t k h))

small_i : (b : ℕ) → is_small_i b ≡ true → b ≡ 105
unfolding is_small_i
small_i b e = eqb-true b 105 e

-- ---- the prefix
module _ {a b : ℕ} where
  pub plus_i_lem : a ≡ 43 → b ≡ 105 → PrefixRead a b (record { phase = 2; at = 2 })
  unfolding prefix_phase prefix_length is_sign is_small_i phase_byte
  plus_i_lem e h = record { phase = sym (ap₂ (λ x y. phase_byte (prefix_phase x y)) e h); length = sym (ap₂ prefix_length e h); small = omega arith }

  pub minus_i : a ≡ 45 → b ≡ 105 → PrefixRead a b (record { phase = 3; at = 2 })
  unfolding prefix_phase prefix_length is_sign is_small_i phase_byte
  minus_i e h = record { phase = sym (ap₂ (λ x y. phase_byte (prefix_phase x y)) e h); length = sym (ap₂ prefix_length e h); small = omega arith }

  pub plus : a ≡ 43 → (b ≡ 105 → ⊥) → PrefixRead a b (record { phase = 0; at = 1 })
  unfolding prefix_phase prefix_length is_sign is_small_i phase_byte
  plus e h = record {
    phase = sym (ap (λ x. phase_byte (prefix_phase x b)) e ∙ ap (λ y. phase_byte (cond y PlusI PlusOne)) (ne_eqb b 105 h));
    length = sym (ap (λ x. prefix_length x b) e ∙ ap (λ y. cond y 2 1) (ne_eqb b 105 h));
    small = omega arith;
  }

  pub minus : a ≡ 45 → (b ≡ 105 → ⊥) → PrefixRead a b (record { phase = 1; at = 1 })
  unfolding prefix_phase prefix_length is_sign is_small_i phase_byte
  minus e h = record {
    phase = sym (ap (λ x. phase_byte (prefix_phase x b)) e ∙ ap (λ y. phase_byte (cond y MinusI MinusOne)) (ne_eqb b 105 h));
    length = sym (ap (λ x. prefix_length x b) e ∙ ap (λ y. cond y 2 1) (ne_eqb b 105 h));
    small = omega arith;
  }

  pub just_i : a ≡ 105 → PrefixRead a b (record { phase = 2; at = 1 })
  unfolding prefix_phase prefix_length is_sign is_small_i phase_byte
  just_i e = record { phase = sym (ap (λ x. phase_byte (prefix_phase x b)) e); length = sym (ap (λ x. prefix_length x b) e); small = omega arith }

  pub no_prefix : (a ≡ 43 → ⊥) → (a ≡ 45 → ⊥) → (a ≡ 105 → ⊥) → PrefixRead a b (record { phase = 0; at = 0 })
  unfolding prefix_phase prefix_length is_sign is_small_i phase_byte
  no_prefix p q r = record {
    phase = sym (λ i. phase_byte (cond (ne_eqb a 43 p i) (cond (is_small_i b) PlusI PlusOne)
        (cond (ne_eqb a 45 q i) (cond (is_small_i b) MinusI MinusOne) (cond (ne_eqb a 105 r i) PlusI PlusOne))));
    length = sym (λ i. cond (ne_eqb a 43 p i || ne_eqb a 45 q i) (cond (is_small_i b) 2 1) (cond (ne_eqb a 105 r i) 1 0));
    small = omega arith;
  }

-- ---- the head of a text
-- a prefix of two bytes ends with an i
prefix-two : (a b : ℕ) → (prefix_length a b ≤ 1) ⊎ ((prefix_length a b ≤ 2) × (b ≡ 105))
unfolding prefix_length
prefix-two a b = go (is_sign a) (is_small_i a) (is_small_i b) refl
  where
    small : is_small_i b ≡ true → b ≡ 105
    small e = small_i b e

    go : (p q r : Bool) → is_small_i b ≡ r → (cond p (cond r 2 1) (cond q 1 0) ≤ 1) ⊎ ((cond p (cond r 2 1) (cond q 1 0) ≤ 2) × (b ≡ 105))
    go true q true e = inr (omega arith, small e)
    go true q false e = inl (omega arith)
    go false true r e = inl (omega arith)
    go false false r e = inl (omega arith)

nothing : (b : ℕ) → 0 ≡ prefix_length 0 b
unfolding prefix_length is_sign is_small_i
nothing b = refl

-- a prefix is made of bytes of the text: past its end there is no i
prefix-within : (t : List ℕ) (k : ℕ) → k ≤ length t → k + prefix_length (get_or t k 0) (get_or t (suc k) 0) ≤ length t
prefix-within t k h = elim (prefix-two (get_or t k 0) (get_or t (suc k) 0)) [
  | inl l ↦ elim (dec_lt k (length t)) [ yes b ↦ omega arith | no b ↦ omega (arith, ap (λ (x : ℕ). prefix_length x (get_or t (suc k) 0)) (past_end t k (omega arith)), nothing (get_or t (suc k) 0)) ]
  | inr l ↦ elim (dec_lt (suc k) (length t)) [
    | yes b ↦ omega (arith, l.0)
    | no b ↦ absurd (never (past_end t (suc k) (omega arith) ∙ l.1))
  ]
]
  where
    never : ◌≡◌ {A = ℕ} 0 105 → ⊥
    never e = omega arith

-- the head where white space ends at k
head_at : (t : List ℕ) (k : ℕ) → k ≡ leading_spaces t
    → (prefix_phase (get_or t k 0) (get_or t (suc k) 0) ≡ text_phase t) × (k + prefix_length (get_or t k 0) (get_or t (suc k) 0) ≡ body_start t)
unfolding text_phase body_start text_start
head_at t k e =
    (ap (λ (j : ℕ). prefix_phase (get_or t j 0) (get_or t (suc j) 0)) e, ap (λ (j : ℕ). j + prefix_length (get_or t j 0) (get_or t (suc j) 0)) e)

pub spaces_within : (t : List ℕ) → leading_spaces t ≤ length t
unfolding leading_spaces
spaces_within t = first_le (length t) _

phase-none : (b : ℕ) → PlusOne ≡ prefix_phase 0 b
unfolding prefix_phase is_small_i
phase-none b = refl

pub head-none : (t : List ℕ) {k : ℕ} → k ≡ leading_spaces t → length t ≤ k → HeadRead t (record { phase = 0; at = k })
unfolding phase_byte
head-none t {k} e h =
    let first : 0 ≡ get_or t k 0 = past_end t k h in
    let second : ℕ = get_or t (suc k) 0 in
    let phase : PlusOne ≡ text_phase t = phase-none second ∙ ap (λ (x : ℕ). prefix_phase x second) first ∙ (head_at t k e).0 in
    let none : 0 ≡ prefix_length (get_or t k 0) second = nothing second ∙ ap (λ (x : ℕ). prefix_length x second) first in
    record { phase = ap phase_byte phase; place = omega (arith, none, (head_at t k e).1); within = omega (arith, spaces_within t) }

pub head-some : (t : List ℕ) {k b : ℕ} {p : Head} → k ≡ leading_spaces t → k < length t → b ≡ get_or t (k + 1) 0 → PrefixRead (get_or t k 0) b p
    → HeadRead t (record { phase = p.phase; at = k + p.at })
head-some t {k} {b} {p} e h eb r =
    let second : b ≡ get_or t (suc k) 0 = eb ∙ ap (λ (j : ℕ). get_or t j 0) (add-one k) in
    let long : p.at ≡ prefix_length (get_or t k 0) (get_or t (suc k) 0) = r.length ∙ ap (prefix_length (get_or t k 0)) second in
    record {
      phase = r.phase ∙ ap (λ (x : ℕ). phase_byte (prefix_phase (get_or t k 0) x)) second ∙ ap phase_byte (head_at t k e).0;
      place = omega (arith, long, (head_at t k e).1);
      within = omega (arith, long, prefix-within t k (omega arith));
    }

pub head_read : (t : List ℕ) {k : ℕ} {p : Head} → k ≡ leading_spaces t → PrefixRead (get_or (from k t) 0 0) (get_or (from k t) 1 0) p
    → HeadRead t (record { phase = p.phase; at = k + p.at })
head_read t {k} {p} e r =
    let long : p.at ≡ prefix_length (get_or t k 0) (get_or t (suc k) 0) = r.length ∙ ap₂ prefix_length (byte 0 k (omega arith)) (byte 1 (suc k) (omega arith)) in
    record {
      phase = r.phase ∙ ap₂ (λ (x y : ℕ). phase_byte (prefix_phase x y)) (byte 0 k (omega arith)) (byte 1 (suc k) (omega arith)) ∙ ap phase_byte (head_at t k e).0;
      place = omega (arith, long, (head_at t k e).1);
      within = omega (arith, long, prefix-within t k (omega (arith, spaces_within t)));
    }
  where
    byte : (i j : ℕ) → k + i ≡ j → get_or (from k t) i 0 ≡ get_or t j 0
    byte i j h = ap (λ (s : List ℕ). get_or s i 0) (from_is k t) ∙ get_or-drop k t i 0 ∙ ap (λ (n : ℕ). get_or t n 0) h

-- ---- where white space or a word ends
pub words-within : (t : List ℕ) → leading_word t ≤ length t
unfolding leading_word
words-within t = first_le (length t) _

pub skipped : (count : List ℕ → ℕ) → ((s : List ℕ) → count s ≤ length s) → (t : List ℕ) (k : ℕ) {r : ℕ} → r ≡ count (from k t) → k ≤ length t
    → Skipped count t k (k + r)
skipped count bound t k {r} e h =
    let is : r ≡ count (drop k t) = e ∙ ap count (from_is k t) in
    record { is = omega arith; onward = omega arith; within = omega (arith, bound (drop k t), length-drop k t) }

pub skipped-all : (count : List ℕ → ℕ) (t : List ℕ) {r : ℕ} → Skipped count t 0 r → r ≡ count t
skipped-all count t s = let is = s.is in omega arith

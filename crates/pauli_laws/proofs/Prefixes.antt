-- The prefix of a text: how it is read, and that every text begins with one.
use mathlib.Core.Path.{◌≡◌, refl, sym, ap, ap₂, subst, ◌∙◌}
use mathlib.Core.Bool.{true, false, ◌||◌, true≢false}
use mathlib.Core.List.Memᴰ
use mathlib.Core.List.{List, [], ◌∷◌, ◌++◌, append_assoc}
use Prim.Native.Nat.{ℕ, ◌+◌, ◌≤◌}
use native.Mathlib.Decide.{ℕ_discrete, dec_lt}
use native.Mathlib.Omega.{arith}
use lib.ListN.{length, get_or, length-append}
use lib.Seq.{drop-append_seam}
use borrow.Author.Tests.{ne_eqb}
use Rattle.pauli_group.specs.Phase.{Phase, PlusOne, MinusOne, PlusI, MinusI, is_real}
use Rattle.pauli.specs.Layout.{phase_byte, phase_of}
use Rattle.pauli.specs.Inside.Reading.{PrefixRead, HeadRead}
use Rattle.pauli.specs.Text.{is_space, is_sign, is_small_i, text_phase, dense_body}
use Rattle.pauli.proofs.Records.{phase-back}
use Rattle.pauli.proofs.TextBytes.{space-high, plus_i_lem, minus_i, plus, minus, just_i, no_prefix, head-none, head-some}
use Rattle.pauli.proofs.Words.{Each, none, more}
use Rattle.pauli_laws.specs.DenseTexts.{◌among◌, prefixes, White}
use Rattle.pauli_laws.proofs.Spellings.{each_among}
use Rattle.pauli_laws.proofs.TrimmedText.{Between, starts-within, starts-at, starts, start_is, body_is, blank_start}

-- p is written as pre before the text r, and takes no more of it
pub record Prefixed (p : Phase) (pre r : List ℕ) : Type 0 where
  pub written : pre among prefixes p
  pub longest : is_real p ≡ true → is_small_i (get_or r 0 0) ≡ false
  pub unsigned : length pre ≡ 0 → is_sign (get_or r 0 0) ≡ false

-- ---- bytes that are no part of a prefix
not_i_lem : {c : ℕ} → is_small_i c ≡ false → c ≡ 105 → ⊥
unfolding is_small_i
not_i_lem h e = true≢false (sym (ap is_small_i e) ∙ h)

not-plus : {c : ℕ} → is_sign c ≡ false → c ≡ 43 → ⊥
unfolding is_sign
not-plus h e = true≢false (sym (ap is_sign e) ∙ h)

not-minus : {c : ℕ} → is_sign c ≡ false → c ≡ 45 → ⊥
unfolding is_sign
not-minus h e = true≢false (sym (ap is_sign e) ∙ h)

no_i : (c : ℕ) → (c ≡ 105 → ⊥) → is_small_i c ≡ false
unfolding is_small_i
no_i c h = ne_eqb c 105 h

no_sign : (c : ℕ) → (c ≡ 43 → ⊥) → (c ≡ 45 → ⊥) → is_sign c ≡ false
unfolding is_sign
no_sign c h k = ap₂ ◌||◌ (ne_eqb c 43 h) (ne_eqb c 45 k)

pub space-small : (c : ℕ) → is_space c ≡ true → c ≤ 32
space-small c h = elim (dec_lt 32 c) [
  | yes l ↦ absurd (true≢false (sym h ∙ sym (space-high {c = c} (λ e. omega arith) (omega arith) (omega arith))))
  | no l ↦ omega arith
]

white_plain : {z : List ℕ} → White z → (is_small_i (get_or z 0 0) ≡ false) × (is_sign (get_or z 0 0) ≡ false)
unfolding is_small_i is_sign
white_plain White.none = (refl, refl)
white_plain (White.space {c} h w) =
    let small : c ≤ 32 = space-small c h in (no_i c (λ e. omega arith), no_sign c (λ e. omega arith) (λ e. omega arith))

-- ---- it is read from the first two bytes
module _ (p : Phase) (r : List ℕ) where
  abbrev Read : List ℕ → Type 0
  Read pre =
      (is_real p ≡ true → is_small_i (get_or r 0 0) ≡ false) → (length pre ≡ 0 → is_sign (get_or r 0 0) ≡ false)
      → PrefixRead (get_or (pre ++ r) 0 0) (get_or (pre ++ r) 1 0) (record { phase = phase_byte p; at = length pre })

reads_all : (p : Phase) (r : List ℕ) → Each (Read p r) (prefixes p)
unfolding prefixes phase_byte is_real
reads_all PlusOne r =
    more (λ l u. no_prefix (not-plus (u refl)) (not-minus (u refl)) (not_i_lem (l refl))) (more (λ l u. plus refl (not_i_lem (l refl))) none)
reads_all MinusOne r = more (λ l u. minus refl (not_i_lem (l refl))) none
reads_all PlusI r = more (λ l u. plus_i_lem refl refl) (more (λ l u. just_i refl) none)
reads_all MinusI r = more (λ l u. minus_i refl refl) none

prefix_read : {p : Phase} {pre r : List ℕ} → Prefixed p pre r
    → PrefixRead (get_or (pre ++ r) 0 0) (get_or (pre ++ r) 1 0) (record { phase = phase_byte p; at = length pre })
prefix_read {p} {pre} {r} f = each_among (Read p r) (reads_all p r) f.written f.longest f.unsigned

-- white space behind the text adds nothing to it
prefixed_more : {p : Phase} {pre body z : List ℕ} → White z → Prefixed p pre body → Prefixed p pre (body ++ z)
prefixed_more {body = []} w f = record { written = f.written; longest = λ h. (white_plain w).0; unsigned = λ h. (white_plain w).1 }
prefixed_more {body = c ∷ body} w f = record { written = f.written; longest = f.longest; unsigned = f.unsigned }

-- ---- the phase and the body of a text
phases_equal : (p q : Phase) → phase_byte p ≡ phase_byte q → p ≡ q
phases_equal p q h = sym (phase-back p) ∙ ap phase_of h ∙ phase-back q

pub blank-phase : {t : List ℕ} → White t → text_phase t ≡ PlusOne
unfolding phase_byte
blank-phase {t} w = phases_equal _ PlusOne (sym (head-none t (blank_start w) (omega arith)).phase)

module _ {p : Phase} {a z : List ℕ} (pre body : List ℕ) (b : Between a (pre ++ body) z) (f : Prefixed p pre body) where
  head : HeadRead (a ++ ((pre ++ body) ++ z)) (record { phase = phase_byte p; at = length a + length pre })
  head = head-some _ (start_is b) (starts-within b) refl (rw (starts b, starts-at b 1, append_assoc pre body z) (prefix_read (prefixed_more b.after f)))

  pub phase-is : text_phase (a ++ ((pre ++ body) ++ z)) ≡ p
  phase-is = phases_equal _ p (sym head.phase)

  pub dense-is : dense_body (a ++ ((pre ++ body) ++ z)) ≡ body
  dense-is = body_is b (length pre) (sym head.place) (omega (arith, length-append pre body)) ∙ drop-append_seam pre body

-- ---- every text begins with one
pub record PrefixSplit (c : List ℕ) : Type 0 where
  pub phase : Phase
  pub pre : List ℕ
  pub body : List ℕ
  pub bytes : c ≡ pre ++ body
  pub is : Prefixed phase pre body

split_at : {c : List ℕ} (p : Phase) (pre body : List ℕ) → c ≡ pre ++ body → Prefixed p pre body → PrefixSplit c
split_at p pre body e f = record { phase = p; pre = pre; body = body; bytes = e; is = f }

-- a prefix of some bytes, which a real phase has only where no i comes next
prefixed_some : {p : Phase} (x : ℕ) (l : List ℕ) {body : List ℕ} → (x ∷ l) among prefixes p → (is_real p ≡ true → is_small_i (get_or body 0 0) ≡ false)
    → Prefixed p (x ∷ l) body
prefixed_some x l w h = record { written = w; longest = h; unsigned = λ e. absurd (omega arith) }

pub prefixed_none : {body : List ℕ} → is_small_i (get_or body 0 0) ≡ false → is_sign (get_or body 0 0) ≡ false → Prefixed PlusOne [] body
unfolding prefixes
prefixed_none h k = record { written = Memᴰ.head refl; longest = λ r. h; unsigned = λ r. k }

-- a sign, alone or with an i
module _ (x : ℕ) (real imaginary : Phase) (one : (x ∷ []) among prefixes real) (two : (x ∷ 105 ∷ []) among prefixes imaginary)
    (unreal : is_real imaginary ≡ false) where
  sign_split : (c : List ℕ) → PrefixSplit (x ∷ c)
  unfolding is_small_i
  sign_split [] = split_at real (x ∷ []) [] refl (prefixed_some x [] one (λ h. refl))
  sign_split (y ∷ c) = elim (ℕ_discrete y 105) [
    | yes e ↦ split_at imaginary (x ∷ 105 ∷ []) c (ap (λ (b : ℕ). x ∷ b ∷ c) e) (prefixed_some x (105 ∷ []) two (λ h. absurd (true≢false (sym h ∙ unreal))))
    | no e ↦ split_at real (x ∷ []) (y ∷ c) refl (prefixed_some x [] one (λ h. no_i y e))
  ]

plus_split : (c : List ℕ) → PrefixSplit (43 ∷ c)
unfolding prefixes is_real
plus_split = sign_split 43 PlusOne PlusI (Memᴰ.tail (Memᴰ.head refl)) (Memᴰ.head refl) refl

minus_split : (c : List ℕ) → PrefixSplit (45 ∷ c)
unfolding prefixes is_real
minus_split = sign_split 45 MinusOne MinusI (Memᴰ.head refl) (Memᴰ.head refl) refl

i_split : (c : List ℕ) → PrefixSplit (105 ∷ c)
unfolding prefixes is_real
i_split c = split_at PlusI (105 ∷ []) c refl (prefixed_some 105 [] (Memᴰ.tail (Memᴰ.head refl)) (λ h. absurd (true≢false (sym h))))

pub prefix_split : (c : List ℕ) → PrefixSplit c
unfolding is_small_i is_sign
prefix_split [] = split_at PlusOne [] [] refl (prefixed_none refl refl)
prefix_split (x ∷ c) = elim (ℕ_discrete x 43) [
  | yes e ↦ subst (λ (y : ℕ). PrefixSplit (y ∷ c)) (sym e) (plus_split c)
  | no p ↦ elim (ℕ_discrete x 45) [
    | yes e ↦ subst (λ (y : ℕ). PrefixSplit (y ∷ c)) (sym e) (minus_split c)
    | no m ↦ elim (ℕ_discrete x 105) [
      | yes e ↦ subst (λ (y : ℕ). PrefixSplit (y ∷ c)) (sym e) (i_split c)
      | no i ↦ split_at PlusOne [] (x ∷ c) refl (prefixed_none (no_i x i) (no_sign x p m))
    ]
  ]
]

-- The bytes that a dense text may have for a letter, and what the tests on them find.
use mathlib.Core.Path.{◌≡◌, refl, sym, ap, ap₂, subst, ◌∙◌}
use mathlib.Core.Bool.{true, false, ◌||◌, true≢false}
use mathlib.Core.Logic.{◌⊎◌, inl, inr}
use mathlib.Core.List.Memᴰ
use mathlib.Core.List.{List, [], ◌∷◌}
use Prim.Native.Nat.{ℕ, ◌<◌}
use native.Mathlib.Decide.{ℕ_discrete}
use lib.Dec.{ltb, eqb}
use borrow.Author.Tests.{eqb-true, ltb-true}
use Rattle.pauli_group.specs.Letter.{Letter, I, X, Z, Y}
use Rattle.pauli.specs.Layout.{letter_byte, letter_of}
use Rattle.pauli.specs.Text.{is_space, is_sign, is_identity, letter_named}
use Rattle.pauli.proofs.DenseReading.{identity-not}
use Rattle.pauli.proofs.Records.{letter-back}
use Rattle.pauli.proofs.TextBytes.{named_none}
use Rattle.pauli.proofs.Words.{Each, none, more}
use Rattle.pauli_laws.specs.DenseTexts.{◌among◌, spellings}

-- ---- one of a list
pub each_among : {A : Type 0} (P : A → Type 0) {l : List A} {a : A} → Each P l → a among l → P a
each_among P none m = absurd (Memᴰ.not-nil m)
each_among P {a = a} (more {a = b} {l = l} p r) m = go (Memᴰ.cases_cons m) (each_among P r)
  where
    go : (a ≡ b) ⊎ (a among l) → (a among l → P a) → P a
    go (inl e) rest = subst P (sym e) p
    go (inr m) rest = rest m

among_or_not : (c : ℕ) (l : List ℕ) → (c among l) ⊎ Each (λ x. c ≡ x → ⊥) l
among_or_not c [] = inr none
among_or_not c (x ∷ l) = go (ℕ_discrete c x) (among_or_not c l)
  where
    go : Dec (c ≡ x) → (c among l) ⊎ Each (λ x. c ≡ x → ⊥) l → (c among (x ∷ l)) ⊎ Each (λ x. c ≡ x → ⊥) (x ∷ l)
    go (yes e) r = inl (Memᴰ.head e)
    go (no e) (inl m) = inl (Memᴰ.tail m)
    go (no e) (inr n) = inr (more e n)

-- ---- the byte c, which may be written for the letter l
pub record Spelled (l : Letter) (c : ℕ) : Type 0 where
  pub named : letter_named c ≡ letter_byte l
  pub identity : is_identity c ≡ eqb (letter_byte l) 0
  pub known : (is_identity c || ltb 0 (letter_named c)) ≡ true
  pub ascii : c < 128
  pub solid : is_space c ≡ false
  pub unsigned : is_sign c ≡ false

byte : {l : Letter} (c : ℕ) → letter_named c ≡ letter_byte l → is_identity c ≡ eqb (letter_byte l) 0 → (is_identity c || ltb 0 (letter_named c)) ≡ true
    → ltb c 128 ≡ true → is_space c ≡ false → is_sign c ≡ false → Spelled l c
byte c n i k a s u = record { named = n; identity = i; known = k; ascii = ltb-true c 128 a; solid = s; unsigned = u }

spelled_all : (l : Letter) → Each (Spelled l) (spellings l)
unfolding spellings letter_named letter_byte is_identity is_space is_sign
spelled_all I = more (byte 73 refl refl refl refl refl refl) (more (byte 105 refl refl refl refl refl refl) (more (byte 49 refl refl refl refl refl refl) none))
spelled_all X = more (byte 88 refl refl refl refl refl refl) (more (byte 120 refl refl refl refl refl refl) none)
spelled_all Y = more (byte 89 refl refl refl refl refl refl) (more (byte 121 refl refl refl refl refl refl) none)
spelled_all Z = more (byte 90 refl refl refl refl refl refl) (more (byte 122 refl refl refl refl refl refl) none)

pub spelled : (l : Letter) (c : ℕ) → c among spellings l → Spelled l c
spelled l c m = each_among (Spelled l) (spelled_all l) m

-- ---- a known byte is one of nine, and is written for the letter that it names
abbrev nine : List ℕ
nine = 73 ∷ 105 ∷ 49 ∷ 88 ∷ 120 ∷ 90 ∷ 122 ∷ 89 ∷ 121 ∷ []

not_known : (c : ℕ) → Each (λ x. c ≡ x → ⊥) nine → (is_identity c || ltb 0 (letter_named c)) ≡ false
not_known c (more a (more b (more d (more e (more f (more g (more h (more i (more j none))))))))) =
    sym (ap₂ (λ x (n : ℕ). x || ltb 0 n) (identity-not a b d) (named_none ((((((tt, e), f), g), h), i), j)))

abbrev OwnSpelling : ℕ → Type 0
OwnSpelling c = c among spellings (letter_of (letter_named c))

nine_spelled : Each OwnSpelling nine
unfolding spellings letter_named letter_of
nine_spelled =
    more first (more second (more (Memᴰ.tail second) (more first (more second (more first (more second (more first (more second none))))))))
  where
    first : {x : ℕ} {l : List ℕ} → x among (x ∷ l)
    first = Memᴰ.head refl

    second : {x y : ℕ} {l : List ℕ} → x among (y ∷ x ∷ l)
    second = Memᴰ.tail (Memᴰ.head refl)

pub known_spelled : (c : ℕ) → (is_identity c || ltb 0 (letter_named c)) ≡ true → c among spellings (letter_of (letter_named c))
known_spelled c k = go (among_or_not c nine)
  where
    go : (c among nine) ⊎ Each (λ x. c ≡ x → ⊥) nine → OwnSpelling c
    go (inl m) = each_among OwnSpelling nine_spelled m
    go (inr n) = absurd (true≢false (sym k ∙ not_known c n))

no_letter : (l : Letter) → eqb (letter_byte l) 0 ≡ true → l ≡ I
unfolding letter_of
no_letter l h = sym (letter-back l) ∙ ap letter_of (eqb-true (letter_byte l) 0 h)

pub identity_unnamed : (c : ℕ) → is_identity c ≡ true → letter_of (letter_named c) ≡ I
identity_unnamed c h =
    let own : OwnSpelling c = known_spelled c (ap (λ x. x || ltb 0 (letter_named c)) h) in
    no_letter _ (sym (spelled (letter_of (letter_named c)) c own).identity ∙ h)

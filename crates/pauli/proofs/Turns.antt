-- Quarter turns: sums of them are products of phases. What the functions on one place need.
use Rattle.std.proofs.Common.{◌≡◌, ℕ, zero, suc, min, inl, inr, subst, ◌+◌, ◌*◌, ◌/◌, ◌%◌, ◌<◌, ◌≤◌, Bool, cond, T, eqb, sym, refl, ap, ◌∙◌, ap₂, suc-mul, div-add-mod', zero-mul, arith, eqb→eq, w8, Fits, rules}
use Rattle.std.proofs.lemmas.Bool.{cases_lt}
use lib.Bits.{bit_xor, bit_and, and_le_l}
use Rattle.pauli_group.specs.Phase.{Phase, PlusOne, negate, turn, ◌·◌}
use Rattle.pauli_group.specs.Letter.{Letter, letter_product, letter_phase, letter_mul, anticommute, not_i}
use Rattle.pauli_group.specs.Papers.{power}
use Rattle.pauli_group.proofs.Finite.{letters, phases, law2}
use Rattle.pauli_group.proofs.PaperForms.{power_add}
use Rattle.pauli.specs.Layout.{phase_byte, phase_of, letter_byte, letter_of}
use Rattle.pauli.specs.Rows.{phase_bytes_product}
use Rattle.pauli.specs.Inside.Turns.{LetterByte, LetterBytes, for_y, ForY, LetterTurns, PhaseTurns, anticommuting, lettered}
use Rattle.pauli.proofs.Records.{letter-back, letter_there, letter-small, some-letter}

-- ---- powers of i
power-times : (k m : ℕ) → power m ≡ PlusOne → power (k * m) ≡ PlusOne
unfolding power ◌·◌ negate turn
power-times zero m e = ap power (zero-mul m)
power-times (suc k) m e = ap power (suc-mul k m) ∙ power_add (k * m) m ∙ ap₂ ◌·◌ (power-times k m e) e

power_mod : (n m : ℕ) → power m ≡ PlusOne → power (n % m) ≡ power n
unfolding ◌·◌
power_mod n m e =
    sym (ap power (sym (div-add-mod' n m)) ∙ power_add (n / m * m) (n % m) ∙ ap (λ (p : Phase). p · power (n % m)) (power-times (n / m) m e))

-- a byte's sum of turns
pub power_sum : (s t : ℕ) → power ((s + t) % 256) ≡ power s · power t
unfolding power turn
power_sum s t = power_mod (s + t) 256 refl ∙ power_add s t

-- ---- letters as bytes, by computed tests over the sixteen pairs
module _ (f g : Letter → Letter → ℕ) where
  by_pairs : T (letters.all (λ a. letters.all (λ b. eqb (f a b) (g a b)))) → (a b : Letter) → f a b ≡ g a b
  by_pairs t a b = eqb→eq (f a b) (g a b) (letters.each (λ b. eqb (f a b) (g a b)) (letters.each (λ a. letters.all (λ b. eqb (f a b) (g a b))) t a) b)

letter-xor : (a b : Letter) → bit_xor (letter_byte a) (letter_byte b) ≡ letter_byte (letter_mul a b)
unfolding letter_mul letter_product letter_byte
letter-xor = by_pairs (λ a b. bit_xor (letter_byte a) (letter_byte b)) (λ a b. letter_byte (letter_mul a b)) tt

-- the turns of a place, where Y counts c in one letter, d in the other, and e in their product
abbrev turns_of : ℕ → ℕ → ℕ → ℕ → ℕ → ℕ
turns_of c d e x y = for_y c x + for_y d y + for_y e (bit_xor x y) + bit_and x (y + y)

abbrev pub turns_test : ℕ → ℕ → ℕ → Bool
turns_test c d e = letters.all (λ a. letters.all (λ b. phases.same (power (turns_of c d e (letter_byte a) (letter_byte b))) (letter_phase a b)))

abbrev crossing : ℕ → ℕ → ℕ
crossing x y = bit_xor (bit_and x (y + y)) (bit_and y (x + x)) / 2

letter_crossing : (a b : Letter) → crossing (letter_byte a) (letter_byte b) ≡ cond (anticommute a b) 1 0
unfolding anticommute letter_byte
letter_crossing = by_pairs (λ a b. crossing (letter_byte a) (letter_byte b)) (λ a b. cond (anticommute a b) 1 0) tt

-- ---- what the functions on one place need
byte_low : (x : ℕ) → x < 3 → LetterByte x x
unfolding letter_byte letter_of
byte_low zero h = record { is = refl; small = omega arith }
byte_low (suc zero) h = record { is = refl; small = omega arith }
byte_low (suc (suc zero)) h = record { is = refl; small = omega arith }
byte_low (suc (suc (suc n))) h = absurd (omega arith)

byte_high : (x : ℕ) → 3 ≤ x → LetterByte x 3
unfolding letter_byte letter_of
byte_high zero h = absurd (omega arith)
byte_high (suc zero) h = absurd (omega arith)
byte_high (suc (suc zero)) h = absurd (omega arith)
byte_high (suc (suc (suc n))) h = record { is = refl; small = omega arith }

pub byte_capped : (x : ℕ) → LetterByte x (min x 3)
byte_capped x = elim (cases_lt x 3) [
  | inl l ↦ subst (LetterByte x) (let e : x ≡ min x 3 = omega arith in e) (byte_low x l)
  | inr l ↦ subst (LetterByte x) (let e : 3 ≡ min x 3 = omega arith in e) (byte_high x l)
]

byte-letter : (x : ℕ) → x ≤ 3 → LetterByte x x
byte-letter x h = record { is = sym (letter_there x h); small = h }

pub byte-first : {x y : ℕ} → LetterBytes x y → LetterByte x x
byte-first {x} m = byte-letter x m.first

pub byte-second : {x y : ℕ} → LetterBytes x y → LetterByte y y
byte-second {x} {y} m = byte-letter y m.second

pub both_bytes : {a b x y : ℕ} → LetterByte a x → LetterByte b y → LetterBytes x y
both_bytes f g = record { first = f.small; second = g.small }

pub y_not : (k x : ℕ) → x ≤ 3 → (x ≡ 3 → ⊥) → ForY k x 0
unfolding for_y
y_not k zero h d = record { is = refl; small = omega arith }
y_not k (suc zero) h d = record { is = refl; small = omega arith }
y_not k (suc (suc zero)) h d = record { is = refl; small = omega arith }
y_not k (suc (suc (suc n))) h d = absurd (omega arith)

pub y_is : (k x : ℕ) → x ≡ 3 → ForY k x k
unfolding for_y
y_is k x e = record { is = sym (ap (for_y k) e); small = omega arith }

pub letter-is : {a b x y : ℕ} → LetterByte a x → LetterByte b y → bit_xor x y ≡ letter_byte (letter_mul (letter_of a) (letter_of b))
letter-is {a} {b} f g = rw (f.is, g.is) (letter-xor (letter_of a) (letter_of b))

-- a product's letter is the sum of the bits of its factors
pub letter_sum : {x y : ℕ} → LetterBytes x y → bit_xor x y ≡ letter_byte (letter_mul (letter_of x) (letter_of y))
letter_sum m = letter-is (byte-first m) (byte-second m)

pub sum_small : {x y : ℕ} → LetterBytes x y → bit_xor x y ≤ 3
sum_small {x} {y} m = omega (arith, letter_sum m, letter-small (letter_mul (letter_of x) (letter_of y)))

pub turns_fit : {a x y z c d e k m n : ℕ} → LetterByte a x → ForY c x k → ForY d y m → ForY e z n → c + d + e ≤ 252 → Fits w8 (k + m + n + bit_and x (y + y))
turns_fit {x = x} {y = y} f p q r h = record { fits = omega (arith, and_le_l x (y + y), f.small, p.small, q.small, r.small) }

pub turns_are : {a b x y c d e k m n : ℕ} → LetterByte a x → LetterByte b y → ForY c x k → ForY d y m → ForY e (bit_xor x y) n → T (turns_test c d e)
    → LetterTurns a b (k + m + n + bit_and x (y + y))
turns_are {a} {b} {c = c} {d = d} {e = e} f g p q r t = record {
  is = rw (p.is, q.is, r.is, f.is, g.is)
      (law2 letters letters phases (λ a b. power (turns_of c d e (letter_byte a) (letter_byte b))) letter_phase t (letter_of a) (letter_of b));
}

-- the kernel's numbers pass the test
pub kernel_turns : {x y k m n t : ℕ} → LetterBytes x y → ForY 1 x k → ForY 1 y m → ForY 3 (bit_xor x y) n → t ≡ k + m + n + bit_and x (y + y)
    → power t ≡ letter_phase (letter_of x) (letter_of y)
unfolding letter_phase letter_product letter_byte turn power for_y
kernel_turns m p q r e = ap power e ∙ (turns_are (byte-first m) (byte-second m) p q r tt).is

pub turns_read : {a b x y t : ℕ} → LetterByte a x → LetterByte b y → LetterTurns x y t → LetterTurns a b t
turns_read {a} {b} f g m = record {
  is = m.is ∙ ap₂ letter_phase (ap letter_of f.is ∙ letter-back (letter_of a)) (ap letter_of g.is ∙ letter-back (letter_of b));
}

pub crossing_is : {a b x y : ℕ} → LetterByte a x → LetterByte b y → crossing x y ≡ anticommuting a b
unfolding anticommuting
crossing_is {a} {b} f g = rw (f.is, g.is) (letter_crossing (letter_of a) (letter_of b))

-- a letter other than I by its byte
pub none-lettered : {x : ℕ} → x ≡ 0 → 0 ≡ lettered x
unfolding lettered letter_of not_i
none-lettered e = sym (ap (λ (j : ℕ). cond (not_i (letter_of j)) 1 0) e)

pub some-lettered : {x : ℕ} → (x ≡ 0 → ⊥) → 1 ≡ lettered x
unfolding lettered
some-lettered {x} d = sym (ap (λ b. cond b 1 0) (some-letter x d))

pub turns-added : {x y t r : ℕ} (v : ℕ) → LetterTurns x y t → r ≡ (v + t) % 256 → power r ≡ power v · letter_phase (letter_of x) (letter_of y)
turns-added {t = t} v m e = ap power e ∙ power_sum v t ∙ ap (λ p. power v · p) m.is

pub turn_key : (t m : ℕ) {r : ℕ} → t % 4 ≡ m → r ≡ phase_byte (power m) → r ≡ phase_byte (power t)
unfolding power turn
turn_key t m e h = h ∙ ap (λ (x : ℕ). phase_byte (power x)) (sym e) ∙ ap phase_byte (power_mod t 4 refl)

pub phases_are : {a b s t u r : ℕ} → PhaseTurns a s → PhaseTurns b t → u ≡ (s + t) % 256 → r ≡ phase_byte (power u) → r ≡ phase_bytes_product a b
unfolding phase_bytes_product
phases_are {s = s} {t = t} f g e h = h ∙ ap (λ (x : ℕ). phase_byte (power x)) e ∙ ap phase_byte (power_sum s t ∙ ap₂ ◌·◌ f.is g.is)

pub turned : {a b s t u v r : ℕ} (turns : ℕ) → PhaseTurns a s → PhaseTurns b t → u ≡ (s + t) % 256 → v ≡ (u + turns) % 256 → r ≡ phase_byte (power v)
    → r ≡ phase_byte (phase_of a · phase_of b · power turns)
turned {s = s} {t = t} {u = u} turns f g e k h =
    h ∙ ap phase_byte (ap power k ∙ power_sum u turns ∙ ap (λ p. p · power turns) (ap power e ∙ power_sum s t ∙ ap₂ ◌·◌ f.is g.is))

pub ruleset places = (
  byte_capped,
  byte-first,
  byte-second,
  both_bytes,
  y_not,
  y_is,
  letter-is,
  sum_small,
  turns_fit,
  kernel_turns,
  turns_read,
  turns-added,
  crossing_is,
  none-lettered,
  some-lettered,
  phases_are,
  turned,
  rules,
)

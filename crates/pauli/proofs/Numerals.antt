-- Numerals in text: digits, their value, and an index.
use Rattle.std.proofs.Common.{◌≡◌, ℕ, ◌+◌, ◌-◌, ◌*◌, ◌/◌, ◌^◌, ◌<◌, ◌≤◌, Bool, true, false, cond, Option, Some, None, not, ◌&&◌, ltb, List, [], ◌∷◌, length, get_or, drop, sym, refl, ap, ◌∙◌, ap₂, add-one, arith, drop_of_length-le, drop-cons, rules, le-ltb, lt-ltb, eq-eqb, ne_eqb}
use Rattle.pauli.specs.Inside.Reading.{numeral_if, are_digits, digits_numeral, index_numeral}
use Rattle.pauli.specs.Text.{is_digit, all_digits, digits_value, without_plus, index_value, is_index}
use Rattle.pauli.proofs.Places.{from, from_is}

-- ---- the value grows with each digit
value_grows : (v : ℕ) (cs : List ℕ) → v ≤ digits_value v cs
unfolding digits_value
value_grows v [] = omega arith
value_grows v (c ∷ cs) = omega (arith, value_grows (10 * v + (c - 48)) cs)

-- ---- the digits before place i
pub record Digits (ds : List ℕ) (i v : ℕ) : Type 0 where
  pub within : i ≤ length ds
  pub digits : all_digits ds ≡ all_digits (drop i ds)
  pub value : digits_value 0 ds ≡ digits_value v (drop i ds)
  pub small : v < 2 ^ 64

pub digits-none : (ds : List ℕ) → Digits ds 0 0
digits-none ds = record { within = omega arith; digits = refl; value = refl; small = omega arith }

digits_here : (ds : List ℕ) (i : ℕ) → i < length ds → all_digits (drop i ds) ≡ (is_digit (get_or ds i 0) && all_digits (drop (i + 1) ds))
unfolding all_digits
digits_here ds i h = rw (drop-cons ds i 0 h, add-one i)

value_here : (ds : List ℕ) (i v : ℕ) → i < length ds → digits_value v (drop i ds) ≡ digits_value (10 * v + (get_or ds i 0 - 48)) (drop (i + 1) ds)
unfolding digits_value
value_here ds i v h = rw (drop-cons ds i 0 h, add-one i)

none_if : {b : Bool} (v : ℕ) → b ≡ false → None ≡ numeral_if b v
none_if v e = sym (ap (λ x. numeral_if x v) e)

&&-false : (a b c : Bool) → b ≡ false → ((a && b) && c) ≡ false
&&-false true b c e = ap (λ x. x && c) e
&&-false false b c e = refl

last_false : (a c : Bool) → c ≡ false → (a && c) ≡ false
last_false true c e = e
last_false false c e = refl

pub digits_empty : (ds : List ℕ) → length ds ≡ 0 → None ≡ digits_numeral ds
unfolding digits_numeral are_digits
digits_empty ds h = none_if (digits_value 0 ds) (ap (λ (n : ℕ). (ltb 0 n && all_digits ds) && ltb (digits_value 0 ds) (2 ^ 64)) h)

pub digits-other : (ds : List ℕ) {i v : ℕ} → Digits ds i v → i < length ds → is_digit (get_or ds i 0) ≡ false → None ≡ digits_numeral ds
unfolding digits_numeral are_digits
digits-other ds {i} {v} m h e =
    none_if (digits_value 0 ds) (&&-false (ltb 0 (length ds)) (all_digits ds) _ (m.digits ∙ digits_here ds i h ∙ ap (λ x. x && all_digits (drop (i + 1) ds)) e))

pub digits_over : (ds : List ℕ) {i v : ℕ} → Digits ds i v → i < length ds → 2 ^ 64 ≤ v * 10 + (get_or ds i 0 - 48) → None ≡ digits_numeral ds
unfolding digits_numeral are_digits
digits_over ds {i} {v} m h o =
    none_if (digits_value 0 ds) (last_false (ltb 0 (length ds) && all_digits ds) (ltb (digits_value 0 ds) (2 ^ 64)) (le-ltb (digits_value 0 ds) (2 ^ 64) large))
  where
    large : 2 ^ 64 ≤ digits_value 0 ds
    large = omega (arith, m.value, value_here ds i v h, value_grows (10 * v + (get_or ds i 0 - 48)) (drop (i + 1) ds))

pub digits_step : (ds : List ℕ) {i v w : ℕ} → Digits ds i v → i < length ds → is_digit (get_or ds i 0) ≡ true → w ≡ v * 10 + (get_or ds i 0 - 48) → w < 2 ^ 64
    → Digits ds (i + 1) w
digits_step ds {i} {v} {w} m h e is o = record {
  within = omega arith;
  digits = m.digits ∙ digits_here ds i h ∙ ap (λ x. x && all_digits (drop (i + 1) ds)) e;
  value = m.value ∙ value_here ds i v h ∙ ap (λ (x : ℕ). digits_value x (drop (i + 1) ds)) same;
  small = o;
}
  where
    same : 10 * v + (get_or ds i 0 - 48) ≡ w
    same = omega arith

pub digits_all : (ds : List ℕ) {i v : ℕ} → (length ds ≡ 0 → ⊥) → Digits ds i v → length ds ≤ i → Some v ≡ digits_numeral ds
unfolding digits_numeral are_digits all_digits digits_value
digits_all ds {i} {v} n m h =
    sym (ap₂ numeral_if (λ j. (lt-ltb 0 (length ds) (omega arith) j && digits j) && (ap (λ (x : ℕ). ltb x (2 ^ 64)) value ∙ lt-ltb v (2 ^ 64) m.small) j) value)
  where
    empty : drop i ds ≡ []
    empty = drop_of_length-le ds h

    digits : all_digits ds ≡ true
    digits = m.digits ∙ ap all_digits empty

    value : digits_value 0 ds ≡ v
    value = m.value ∙ ap (digits_value v) empty

pub ruleset numerals = (digits-none, digits_empty, digits-other, digits_over, digits_step, digits_all, rules)

-- ---- an index: an optional plus
plus_index : (bs : List ℕ) → get_or bs 0 0 ≡ 43 → digits_numeral (drop 1 bs) ≡ index_numeral bs
unfolding digits_numeral are_digits index_numeral is_index index_value without_plus
plus_index [] h = absurd (omega arith)
plus_index (c ∷ cs) h = sym (ap (λ b. with_bytes (cond b cs (c ∷ cs))) (eq-eqb c 43 h))
  where
    with_bytes : List ℕ → Option ℕ
    with_bytes ds = numeral_if ((ltb 0 (length ds) && all_digits ds) && ltb (digits_value 0 ds) (2 ^ 64)) (digits_value 0 ds)

bare_index : (bs : List ℕ) → (get_or bs 0 0 ≡ 43 → ⊥) → digits_numeral bs ≡ index_numeral bs
unfolding digits_numeral are_digits index_numeral is_index index_value without_plus
bare_index [] h = refl
bare_index (c ∷ cs) h = sym (ap (λ b. with_bytes (cond b cs (c ∷ cs))) (ne_eqb c 43 h))
  where
    with_bytes : List ℕ → Option ℕ
    with_bytes ds = numeral_if ((ltb 0 (length ds) && all_digits ds) && ltb (digits_value 0 ds) (2 ^ 64)) (digits_value 0 ds)

pub index_plus : (bs : List ℕ) {r : Option ℕ} → get_or bs 0 0 ≡ 43 → r ≡ digits_numeral (from 1 bs) → r ≡ index_numeral bs
index_plus bs h er = er ∙ ap digits_numeral (from_is 1 bs) ∙ plus_index bs h

pub index_bare : (bs : List ℕ) {r : Option ℕ} → (get_or bs 0 0 ≡ 43 → ⊥) → r ≡ digits_numeral bs → r ≡ index_numeral bs
index_bare bs h er = er ∙ bare_index bs h

pub ruleset indexes = (index_plus, index_bare, rules)

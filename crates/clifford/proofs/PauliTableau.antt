-- The tableau of a Pauli string: its width, its signs and its rows.
use Rattle.std.proofs.Common.{◌≡◌, ℕ, zero, suc, ◌+◌, ◌-◌, ◌*◌, ◌<◌, ◌≤◌, Bool, true, false, not, Option, Some, None, reverse, cond, eqb, List, length, get_or, sym, refl, ap, ◌∙◌, subst, ap₂, not-suc-le-zero, add-one, arith, w64, Fits, rules, eq-eqb, ne_eqb}
use native.Mathlib.Decide.{ℕ_discrete}
use Rattle.std.proofs.lemmas.List.{get_or-reverse, length-reverse}
use Rattle.pauli_group.specs.Phase.{sign}
use Rattle.pauli_group.specs.Letter.{X, Z, anticommute}
use Rattle.pauli_group.specs.PauliString.{PauliString, qubits, last_to, has_letter, mul, scale, identity_string, single, commutation_sign}
use Rattle.pauli_group.proofs.Laws.{anticommute_self}
use Rattle.pauli_group.proofs.Strings.{scale-mul, identity-mul, sign-single, within-scale, within-single}
use Rattle.pauli.specs.Layout.{phase_byte, phase_of, letter_byte, letter_of, encode_string, decode_string, string_of, WellFormed}
use Rattle.std.specs.List.{position}
use Rattle.pauli.proofs.Places.{from, from_at, length_from, first_of, first-before, first_has, position-at, position-none}
use Rattle.pauli.proofs.Records.{phase-back, phase-small, letter_of_lem, has_none, has_one}
use Rattle.clifford.specs.Layout.{row_of, row_qubit, row_letter}
use Rattle.clifford.specs.Images.{pauli_width, pauli_tableau}
use Rattle.clifford.specs.Inside.Rows.{RowIndex, ClearRow, WorkPlace, row_times, cleared_row, sign_byte, letters_in}
use Rattle.clifford.specs.Inside.Writing.{Span, conjugated}
use Rattle.clifford.proofs.RowWriting.{IsGenerator, generator-is, letter_of-row, row_made}
use Rattle.clifford_group.specs.Tableau.{Proper}
use Rattle.clifford.proofs.Apply.{length_cleared, cleared_formed, decoded_clear}

-- ---- the width
abbrev last : List ℕ → ℕ → ℕ
last s n = last_to n (has_letter (string_of s))

pub record SpanFrom (s : List ℕ) (n : ℕ) : Type 0 where
  pub within : n ≤ 128
  pub is : last s 128 ≡ last s n

span_start : (s : List ℕ) → SpanFrom s 128
span_start s = record { within = omega arith; is = refl }

span_less : {s : List ℕ} {n : ℕ} → SpanFrom s n → 0 < n → get_or s (n - 1 + 1) 0 ≡ 0 → SpanFrom s (n - 1)
unfolding last_to
span_less {s} {n} m h e =
    let k : n ≡ n - 1 + 1 = omega arith in
    let none = has_none s (n - 1) (omega (arith, m.within)) e in
    record {
      within = omega (arith, m.within);
      is = m.is ∙ ap (last s) (k ∙ add-one (n - 1)) ∙ ap (λ b. cond b (suc (n - 1)) (last s (n - 1))) none;
    }

span_found : {s : List ℕ} {n : ℕ} → SpanFrom s n → 0 < n → (get_or s (n - 1 + 1) 0 ≡ 0 → ⊥) → Span s (n - 1 + 1)
unfolding pauli_width qubits last_to
span_found {s} {n} m h e =
    let k : n ≡ n - 1 + 1 = omega arith in
    let some = has_one s (n - 1) (omega (arith, m.within)) e in
    let here : last s 128 ≡ suc (n - 1) = m.is ∙ ap (last s) (k ∙ add-one (n - 1)) ∙ ap (λ b. cond b (suc (n - 1)) (last s (n - 1))) some in
    record { is = omega (arith, here); small = omega (arith, m.within) }

span_none : {s : List ℕ} {n : ℕ} → SpanFrom s n → n ≤ 0 → Span s 1
unfolding pauli_width qubits last_to
span_none {s} {n} m h =
    let z : n ≡ 0 = omega arith in
    let none : last s 128 ≡ 0 = m.is ∙ ap (last s) z in
    record { is = omega (arith, none); small = omega arith }

abbrev pub some_letter : ℕ → Bool
some_letter x = not (eqb x 0)

none_is : (x : ℕ) → some_letter x ≡ false → x ≡ 0
none_is x e = elim (ℕ_discrete x 0) [ yes z ↦ z | no d ↦ absurd (never (sym (ap not (ne_eqb x 0 d)) ∙ e)) ]
  where
    never : true ≡ false → ⊥
    never h = cc

one_is : (x : ℕ) → some_letter x ≡ true → x ≡ 0 → ⊥
one_is x e z = never (sym (ap not (eq-eqb x 0 z)) ∙ e)
  where
    never : false ≡ true → ⊥
    never h = cc

-- the letters from the highest qubit down
abbrev pub back : List ℕ → List ℕ
back s = reverse (from 1 s)

module _ {s : List ℕ} (f : WellFormed 128 s) where
  long_back : length (back s) ≡ 128
  long_back = length-reverse (from 1 s) ∙ length_from 1 s ∙ omega (arith, f.long)

  at_back : (k : ℕ) → k < 128 → get_or (back s) k 0 ≡ get_or s (128 - k - 1 + 1) 0
  at_back k l =
      let place : length (from 1 s) - 1 - k ≡ 128 - k - 1 = omega (arith, length_from 1 s, f.long) in
      get_or-reverse (from 1 s) k 0 (omega (arith, length_from 1 s, f.long)) ∙ ap (λ (j : ℕ). get_or (from 1 s) j 0) place ∙ from_at s (128 - k - 1)
      ∙ ap (λ (j : ℕ). get_or s j 0) (sym (add-one (128 - k - 1)))

  none_after : (k : ℕ) → k ≤ 128 → ((j : ℕ) → j < k → get_or (back s) j 0 ≡ 0) → SpanFrom s (128 - k)
  none_after zero h none = span_start s
  none_after (suc k) h none =
      let e : 128 - k - 1 ≡ 128 - suc k = omega arith in
      subst (SpanFrom s) e (span_less (none_after k (omega arith) (λ j l. none j (omega arith))) (omega arith) (sym (at_back k (omega arith)) ∙ none k (omega arith)))

  abbrev passes : ℕ → Bool
  passes j = some_letter (get_or (back s) j 0)

  none_before : {k : ℕ} → k ≡ first_of some_letter (back s) → (j : ℕ) → j < k → get_or (back s) j 0 ≡ 0
  none_before e j l = none_is _ (first-before (length (back s)) passes j (omega (arith, e)))

  pub span_some : {k : ℕ} → Some k ≡ position some_letter (back s) → Span s (128 - k)
  span_some {k} e =
      let at = position-at some_letter (back s) e in
      let below : k < 128 = omega (arith, at.0, long_back) in
      let one : some_letter (get_or (back s) k 0) ≡ true = ap passes at.1 ∙ first_has (length (back s)) passes (omega (arith, at.0, at.1)) in
      let is : 128 - k - 1 + 1 ≡ 128 - k = omega arith in
      subst (Span s) is
      (span_found (none_after k (omega arith) (none_before at.1)) (omega arith) (λ z. one_is _ one (at_back k below ∙ z)))

  pub span_one : None ≡ position some_letter (back s) → Span s 1
  span_one e =
      let all : 128 ≡ first_of some_letter (back s) = sym long_back ∙ position-none some_letter (back s) e in
      span_none (none_after 128 (omega arith) (none_before all)) (omega arith)

-- ---- the sign
pub sign-none : {a : ℕ} (l : ℕ) → a ≡ 0 → 0 ≡ sign_byte a l
unfolding sign_byte letter_of anticommute sign phase_byte
sign-none {a} l e = sym (ap (λ (x : ℕ). phase_byte (sign (anticommute (letter_of x) (letter_of l)))) e)

differ : (a l : ℕ) → (a ≡ 0 → ⊥) → (a ≡ l → ⊥) → 0 < l → l < 3 → anticommute (letter_of a) (letter_of l) ≡ true
unfolding anticommute letter_of
differ zero l h k p q = absurd (h refl)
differ (suc a) zero h k p q = absurd (not-suc-le-zero p)
differ (suc zero) (suc zero) h k p q = absurd (k refl)
differ (suc zero) (suc (suc zero)) h k p q = refl
differ (suc zero) (suc (suc (suc l))) h k p q = absurd (high l q)
  where
    high : (l : ℕ) → suc (suc (suc l)) < 3 → ⊥
    high l q = omega arith
differ (suc (suc zero)) (suc zero) h k p q = refl
differ (suc (suc zero)) (suc (suc zero)) h k p q = absurd (k refl)
differ (suc (suc zero)) (suc (suc (suc l))) h k p q = absurd (high l q)
  where
    high : (l : ℕ) → suc (suc (suc l)) < 3 → ⊥
    high l q = omega arith
differ (suc (suc (suc a))) (suc zero) h k p q = refl
differ (suc (suc (suc a))) (suc (suc zero)) h k p q = refl
differ (suc (suc (suc a))) (suc (suc (suc l))) h k p q = absurd (high l q)
  where
    high : (l : ℕ) → suc (suc (suc l)) < 3 → ⊥
    high l q = omega arith

module _ {w r : ℕ} (i : RowIndex w r) {a l : ℕ} (el : l ≡ letter_byte (row_letter w r)) where
  pub sign_same : a ≡ l → 0 ≡ sign_byte a (letter_byte (row_letter w r))
  unfolding sign_byte sign phase_byte
  sign_same e =
      let byte : ℕ = letter_byte (row_letter w r) in
      sym (ap (λ (x : ℕ). phase_byte (sign (anticommute (letter_of x) (letter_of byte)))) (e ∙ el)
      ∙ ap (λ b. phase_byte (sign b)) (anticommute_self (letter_of byte)))

  pub sign-minus : (a ≡ 0 → ⊥) → (a ≡ l → ⊥) → 1 ≡ sign_byte a (letter_byte (row_letter w r))
  unfolding sign_byte sign phase_byte
  sign-minus h k =
      let g : IsGenerator l = generator-is w r el in
      sym (ap (λ (x : ℕ). phase_byte (sign (anticommute (letter_of a) (letter_of x)))) (sym el) ∙ ap (λ b. phase_byte (sign b)) (differ a l h k g.some g.small))

pub ruleset sign_bytes = (sign-none, sign_same, sign-minus, rules)

-- ---- one row
module _ {w r : ℕ} (i : RowIndex w r) (k : List ℕ) (ok : length k ≡ w + 1) where
  some : 0 < length k
  some = omega (arith, ok)

  pub sign_clear : (a l : ℕ) {p : ℕ} → p ≡ sign_byte a l → ClearRow k p
  unfolding sign_byte
  sign_clear a l e = record { some = some; phase = omega (arith, phase-small (sign (anticommute (letter_of a) (letter_of l)))) }

  module _ (p : ℕ) {k₁ : List ℕ} (ek : k₁ ≡ cleared_row (length k) p) {q : ℕ} (below : q < w) where
    long : length k₁ ≡ length k
    long = length_cleared p some ek

    pub sign-work : WorkPlace k₁ q
    sign-work = record { row = cleared_formed p some ek; place = omega (arith, long, ok); narrow = omega (arith, long, ok, i.narrow) }

    module _ (s : List ℕ) (ep : p ≡ sign_byte (get_or s (q + 1) 0) (letter_byte (row_letter w r))) {l : ℕ} (el : l ≡ letter_byte (row_letter w r)) (eq : q ≡ row_qubit w r) where
      abbrev S : PauliString
      S = string_of s

      abbrev one : PauliString
      one = single (letter_of l) q

      sign_of : phase_of p ≡ commutation_sign S one
      unfolding sign_byte qubits
      sign_of =
          ap phase_of (ep ∙ ap (sign_byte (get_or s (q + 1) 0)) (sym el)) ∙ phase-back _
          ∙ sym (sign-single S (letter_of l) q (omega (arith, i.narrow))
          ∙ ap (λ a. sign (anticommute a (letter_of l))) (letter_of_lem s q (omega (arith, i.narrow)) ∙ ap (λ (j : ℕ). letter_of (get_or s j 0)) (sym (add-one q))))

      pub sign_made : {k₂ : List ℕ} → k₂ ≡ row_times k₁ one → k₂ ≡ encode_string w (conjugated S (single (row_letter w r) (row_qubit w r)))
      unfolding row_times conjugated
      sign_made e =
          let same : letters_in k₁ ≡ w = omega (arith, long, ok) in
          let before : length k - 1 ≡ w = omega (arith, ok) in
          e ∙ ap (λ (j : ℕ). encode_string j (mul (decode_string j k₁) one)) same
          ∙ ap (λ x. encode_string w (mul x one)) (ap (λ (j : ℕ). decode_string j k₁) (sym before) ∙ decoded_clear k₁ (length k) p ek)
          ∙ ap (encode_string w) (scale-mul (phase_of p) identity_string one ∙ ap (scale (phase_of p)) (identity-mul one) ∙ ap (λ x. scale x one) sign_of)
          ∙ ap (λ x. encode_string w (scale (commutation_sign S x) x)) (ap₂ single (letter_of-row w r el) eq)

pub ruleset pauli_rows = (sign_clear, sign-work, sign_made, rules)

-- ---- all rows
pub width_pauli : (s : PauliString) → (pauli_tableau s).width ≡ pauli_width s
unfolding pauli_tableau
width_pauli s = refl

pub row_pauli : (s : PauliString) (w r : ℕ) → w ≡ pauli_width s → r < 2 * w → row_of (pauli_tableau s) r ≡ conjugated s (single (row_letter w r) (row_qubit w r))
unfolding pauli_tableau conjugated
row_pauli s w r e h = row_made (pauli_tableau s) (λ q a. scale (commutation_sign s (single a q)) (single a q)) (λ q. refl) (λ q. refl) w r (sym e) h

pub proper_pauli : (s : PauliString) → pauli_width s ≤ 128 → Proper (pauli_tableau s)
unfolding pauli_tableau qubits
proper_pauli s h = record {
  narrow = h;
  x_within = λ q l. within-scale (pauli_width s) _ _ (within-single (pauli_width s) X q l);
  z_within = λ q l. within-scale (pauli_width s) _ _ (within-single (pauli_width s) Z q l);
}

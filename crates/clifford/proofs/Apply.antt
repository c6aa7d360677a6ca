-- Tableaux applied to strings: what the loop over the letters has made before a qubit.
use Rattle.std.proofs.Common.{◌≡◌, ℕ, zero, suc, ◌+◌, ◌-◌, ◌<◌, ◌≤◌, List, length, get_or, sym, refl, ap, ◌∙◌, subst, ap₂, add-one, arith, rules}
use native.Mathlib.Decide.{ℕ_discrete}
use Rattle.pauli_group.specs.Letter.{I}
use Rattle.pauli_group.specs.PauliString.{PauliString, qubits, mul, scale, identity_string, Within}
use Rattle.pauli_group.proofs.Strings.{mul-identity, identity-mul, within-scale, within-identity, scale_one}
use Rattle.clifford_group.specs.Tableau.{Tableau, image_of, apply_to, apply}
use Rattle.clifford_group.proofs.Images.{image_I, within_image}
use Rattle.clifford_group.proofs.Apply.{apply_to_start}
use Rattle.pauli.specs.Layout.{phase_of, letter_byte, letter_of, encode_string, decode_string, WellFormed}
use Rattle.pauli.proofs.Places.{from, from_at, length_from}
use Rattle.pauli.proofs.Records.{length_encode, encode_formed, decode_encode, encode_decode, decode_within, decode_letter, decode_phase}
use Rattle.clifford.specs.Layout.{FormedTableau, tableau_of, row_qubit, row_letter}
use Rattle.clifford.specs.Inside.Rows.{RowIndex, WorkOnQubit, ClearRow, AppliesString, AppliesLetter, cleared_row, row_times, letters_in, string_in}
use Rattle.clifford.proofs.Rows.{width_of_lem}
use Rattle.clifford.proofs.Records.{proper_of}
use Rattle.clifford.proofs.RowWriting.{letter_of-row}
use Rattle.clifford.proofs.WorkRows.{decoded_times, times-formed, length-times}

-- ---- a cleared row
pub length_cleared : {e : List ℕ} {n : ℕ} (p : ℕ) → 0 < n → e ≡ cleared_row n p → length e ≡ n
unfolding cleared_row
length_cleared {e} {n} p h k = ap length k ∙ length_encode (n - 1) _ ∙ omega arith

pub cleared_formed : {e : List ℕ} {n : ℕ} (p : ℕ) → 0 < n → e ≡ cleared_row n p → WellFormed (letters_in e) e
unfolding cleared_row
cleared_formed {e} {n} p h k =
    let same : n - 1 ≡ letters_in e = ap (λ (j : ℕ). j - 1) (sym (length_cleared p h k)) in
    subst (λ (w : ℕ). WellFormed w e) same (subst (WellFormed (n - 1)) (sym k) (encode_formed (n - 1) _))

pub decoded_clear : (e : List ℕ) (n p : ℕ) → e ≡ cleared_row n p → decode_string (n - 1) e ≡ scale (phase_of p) identity_string
unfolding cleared_row
decoded_clear e n p k =
    ap (decode_string (n - 1)) k
    ∙ decode_encode (n - 1) (scale (phase_of p) identity_string) (within-scale (n - 1) (phase_of p) identity_string (within-identity (n - 1)))

-- ---- the letters before q have been sent
pub record AppliedTo (b s d₀ : List ℕ) (q : ℕ) (d : List ℕ) : Type 0 where
  pub fits : AppliesString b s d₀
  pub within : q ≤ letters_in s
  pub long : length d ≡ length d₀
  pub row : WellFormed (letters_in d) d
  pub is : decode_string (letters_in d₀) d ≡ apply_to q (tableau_of b) (string_in s)

pub string-clear : (b : List ℕ) {s d : List ℕ} → AppliesString b s d → ClearRow d (get_or s 0 0)
string-clear b o = record { some = omega (arith, o.wide); phase = o.string.small 0 (omega (arith, o.string.long)) }

-- the loop starts with a cleared row, from which on it counts
started : {b s d e : List ℕ} → AppliesString b s d → e ≡ cleared_row (length d) (get_or s 0 0) → AppliesString b s e
started {b} {s} {d} {e} o k =
    let long : length e ≡ length d = length_cleared (get_or s 0 0) (omega (arith, o.wide)) k in
    record {
      string = o.string;
      wide = omega (arith, o.wide);
      reach = omega (arith, o.reach);
      narrow = omega (arith, o.narrow);
    }

pub applied-none : {b s d e : List ℕ} → AppliesString b s d → e ≡ cleared_row (length d) (get_or s 0 0) → AppliedTo b s e 0 e
applied-none {b} {s} {d} {e} o k =
    let some : 0 < length d = omega (arith, o.wide) in
    let same : letters_in e ≡ length d - 1 = ap (λ (j : ℕ). j - 1) (length_cleared (get_or s 0 0) some k) in
    record {
      fits = started o k;
      within = omega arith;
      long = refl;
      row = cleared_formed (get_or s 0 0) some k;
      is = ap (λ (j : ℕ). decode_string j e) same ∙ decoded_clear e (length d) (get_or s 0 0) k
          ∙ ap (λ p. scale p identity_string) (sym (decode_phase (letters_in s) s)) ∙ sym (apply_to_start (tableau_of b) (string_in s));
    }

pub applied-work : {b s d : List ℕ} {q : ℕ} {e : List ℕ} → AppliedTo b s d q e → q < length s - 1 → WorkOnQubit b e q
applied-work {b} {s} {d} m h = let o : AppliesString b s d = m.fits in record {
  work = record {
    row = m.row;
    wide = omega (arith, o.wide, m.long);
    narrow = omega (arith, o.narrow, m.long);
  };
  place = omega (arith, o.reach, m.long, o.string.long);
}

pub applied-step : {b s d : List ℕ} {q : ℕ} {e f : List ℕ} → FormedTableau b → AppliedTo b s d q e → q < length (from 1 s)
    → f ≡ row_times e (image_of (tableau_of b) q (letter_of (get_or (from 1 s) q 0))) → AppliedTo b s d (q + 1) f
applied-step {b} {s} {d} {q} {e} {f} formed m l k =
    let o : AppliesString b s d = m.fits in
    let h : q < length s - 1 = omega (arith, length_from 1 s) in
    let t = tableau_of b in
    let image : PauliString = image_of t q (letter_of (get_or (from 1 s) q 0)) in
    let w = letters_in d in
    let same : letters_in e ≡ w = ap (λ (j : ℕ). j - 1) m.long in
    let letter : letter_of (get_or (from 1 s) q 0) ≡ (string_in s).letters q = ap letter_of (from_at s q) ∙ sym (decode_letter (letters_in s) s q h) in
    let inside : Within (letters_in e) image =
    within_image t (proper_of formed) (letters_in e) (omega (arith, width_of_lem b, o.wide)) q (letter_of (get_or (from 1 s) q 0))
    (omega (arith, o.reach, o.string.long)) in
    record {
      fits = o;
      within = omega arith;
      long = length-times f image m.row k ∙ m.long;
      row = times-formed image m.row k;
      is = ap₂ decode_string (sym same) k ∙ decoded_times e image inside
          ∙ ap₂ mul (ap (λ (j : ℕ). decode_string j e) same ∙ m.is) (ap (image_of t q) letter)
          ∙ step t q ∙ ap (λ (j : ℕ). apply_to j t (string_in s)) (sym (add-one q));
    }
  where
    step : (t : Tableau) (q : ℕ) → mul (apply_to q t (string_in s)) (image_of t q ((string_in s).letters q)) ≡ apply_to (suc q) t (string_in s)
    step t q = unfold apply_to in refl

-- I on qubit q is sent to I
pub applied-same : {b s d : List ℕ} {q : ℕ} {e : List ℕ} → AppliedTo b s d q e → q < length (from 1 s) → get_or (from 1 s) q 0 ≡ 0 → AppliedTo b s d (q + 1) e
unfolding letter_of
applied-same {b} {s} {d} {q} m l z =
    let h : q < length s - 1 = omega (arith, length_from 1 s) in
    let none : (string_in s).letters q ≡ I = sym (ap letter_of (from_at s q) ∙ sym (decode_letter (letters_in s) s q h)) ∙ ap letter_of z in
    record { fits = m.fits; within = omega arith; long = m.long; row = m.row; is = m.is ∙ sym (same (tableau_of b) none) ∙ ap (λ (j : ℕ). apply_to j (tableau_of b) (string_in s)) (sym (add-one q)) }
  where
    same : (t : Tableau) → (string_in s).letters q ≡ I → apply_to (suc q) t (string_in s) ≡ apply_to q t (string_in s)
    same t e = unfold apply_to in (ap (λ x. mul (apply_to q t (string_in s)) (image_of t q x)) e ∙ ap (mul (apply_to q t (string_in s))) (image_I t q) ∙ mul-identity (apply_to q t (string_in s)))

-- letters at k and above are I, and change nothing
apply_to-cut : (t : Tableau) (s : PauliString) (k n : ℕ) → k ≤ n → Within k s → apply_to n t s ≡ apply_to k t s
unfolding apply_to
apply_to-cut t s k zero h w = let e : zero ≡ k = omega arith in ap (λ (j : ℕ). apply_to j t s) e
apply_to-cut t s k (suc n) h w = elim (ℕ_discrete k (suc n)) [
  | yes e ↦ ap (λ (j : ℕ). apply_to j t s) (sym e)
  | no e ↦ ap (λ l. mul (apply_to n t s) (image_of t n l)) (w n (omega arith)) ∙ ap (mul (apply_to n t s)) (image_I t n)
      ∙ mul-identity (apply_to n t s) ∙ apply_to-cut t s k n (omega arith) w
]

applied_end : {b s d : List ℕ} {q : ℕ} {e : List ℕ} → AppliedTo b s d q e → length s - 1 ≤ q
    → e ≡ encode_string (letters_in d) (apply (tableau_of b) (string_in s))
unfolding apply qubits
applied_end {b} {s} {d} {q} {e} m h =
    let o : AppliesString b s d = m.fits in
    let t = tableau_of b in
    let same : letters_in e ≡ letters_in d = ap (λ (j : ℕ). j - 1) m.long in
    let end : q ≡ letters_in s = omega (arith, m.within) in
    sym (encode_decode m.row) ∙ ap (λ (j : ℕ). encode_string j (decode_string j e)) same
    ∙ ap (encode_string (letters_in d)) (m.is ∙ ap (λ (j : ℕ). apply_to j t (string_in s)) end
    ∙ sym (apply_to-cut t (string_in s) (letters_in s) 128 (omega (arith, o.reach, o.narrow)) (decode_within (letters_in s) s)))

pub applied_all : {b s d d₀ : List ℕ} {q : ℕ} {e : List ℕ} → AppliesString b s d → d₀ ≡ cleared_row (length d) (get_or s 0 0)
    → AppliedTo b s d₀ q e → length (from 1 s) ≤ q
    → e ≡ encode_string (letters_in d) (apply (tableau_of b) (string_in s))
applied_all {b} {s} {d} {d₀} o k m h =
    applied_end m (omega (arith, length_from 1 s))
    ∙ ap (λ (j : ℕ). encode_string (j - 1) (apply (tableau_of b) (string_in s))) (length_cleared (get_or s 0 0) (omega (arith, o.wide)) k)

pub ruleset applied_strings = (string-clear, applied-none, applied-work, applied-step, applied_all, rules)

-- ---- one letter
pub letter-clear : (b : List ℕ) {w : ℕ} {d : List ℕ} → AppliesLetter b w d → ClearRow d 0
letter-clear b o = record { some = omega (arith, o.work); phase = omega arith }

module _ {w r : ℕ} (i : RowIndex w r) {b d e : List ℕ} (o : AppliesLetter b w d) (k : e ≡ cleared_row (length d) 0) where
  some : 0 < length d
  some = omega (arith, o.work)

  long : length e ≡ length d
  long = length_cleared 0 some k

  pub letter-work : {q : ℕ} → q < w → WorkOnQubit b e q
  letter-work h = record {
    work = record { row = cleared_formed 0 some k; wide = omega (arith, long, o.wide, o.work); narrow = omega (arith, long, i.narrow, o.work) };
    place = omega (arith, long, o.work);
  }

  pub letter-applied : {f : List ℕ} {q l : ℕ} → q ≡ row_qubit w r → l ≡ letter_byte (row_letter w r)
      → f ≡ row_times e (image_of (tableau_of b) q (letter_of l)) → f ≡ encode_string w (image_of (tableau_of b) (row_qubit w r) (row_letter w r))
  unfolding row_times phase_of
  letter-applied {f} {q} {l} eq el m =
      let image : PauliString = image_of (tableau_of b) q (letter_of l) in
      let same : letters_in e ≡ w = omega (arith, long, o.work) in
      let before : length d - 1 ≡ w = omega (arith, o.work) in
      m ∙ ap (λ (j : ℕ). encode_string j (mul (decode_string j e) image)) same
      ∙ ap (λ s. encode_string w (mul s image)) (ap (λ (j : ℕ). decode_string j e) (sym before) ∙ decoded_clear e (length d) 0 k ∙ scale_one identity_string)
      ∙ ap (encode_string w) (identity-mul image ∙ ap₂ (image_of (tableau_of b)) eq (letter_of-row w r el))

pub ruleset applied_letters = (letter-clear, letter-work, letter-applied, rules)

-- The images of a gate on any qubit, as strings and as work rows.
use Rattle.std.proofs.Common.{◌≡◌, ℕ, zero, suc, ◌+◌, ◌-◌, ◌*◌, ◌<◌, ◌≤◌, max, Bool, true, false, cond, eqb, ltb, List, length, sym, refl, ap, ◌∙◌, subst, ap₂, not-suc-le-zero, arith, w64, Fits, rules, ltb-false, le-ltb, lt-ltb, eq-eqb, ne_eqb}
use native.Mathlib.Decide.{dec_lt}
use Rattle.pauli_group.specs.Phase.{Phase}
use Rattle.pauli_group.specs.Letter.{I, X, Z}
use Rattle.pauli_group.specs.PauliString.{PauliString, qubits, mul, scale, identity_string, single, Within}
use Rattle.pauli_group.proofs.Strings.{scale-mul, identity-mul, mul-identity, scale_one, within-scale, within-single, within-mul, within-identity}
use Rattle.clifford_group.specs.Tableau.{Tableau, row_image, image_of, widen, Proper, Same}
use Rattle.clifford_group.proofs.Images.{image_own, image_above}
use Rattle.clifford_group.proofs.Singles.{single-I}
use Rattle.clifford_gates.specs.Gates.{Image, one_qubit_gates, PairImage}
use Rattle.clifford_gates.specs.GateTableaux.{image_string, gate_on_each, unchanged, on_qubit, pair_string, pair_row, on_qubits}
use Rattle.clifford_gates.specs.GateNumbers.{one_qubit_gate, two_qubit_gate, gate_tableau}
use Rattle.clifford_gates.specs.Updates.{letter_image}
use Rattle.clifford_gates.proofs.GateNames.{gate-one, gate_clifford}
use Rattle.pauli.specs.declared.algebra.PhasedLetter.{PhasedLetter}
use Rattle.pauli.specs.Layout.{phase_of, letter_byte, letter_of, encode_string}
use Rattle.pauli.proofs.Records.{phase-back, phase-small, letter-back, length_encode}
use Rattle.clifford.specs.declared.gates.RowImage.{RowImage}
use Rattle.clifford.specs.declared.numbering.Gate.{Gate}
use Rattle.clifford.specs.declared.numbering.Gate.TheVariants.{One, Two}
use Rattle.clifford.specs.declared.numbering.OneQubitGate.{OneQubitGate}
use Rattle.clifford.specs.declared.numbering.TwoQubitGate.{TwoQubitGate}
use Rattle.clifford.specs.Inside.Numbering.{gate_number}
use Rattle.clifford.specs.Inside.Rows.{RowIndex, ClearRow, WorkPlace, row_times, cleared_row, letters_in}
use Rattle.clifford.specs.Layout.{row_qubit, row_letter}
use Rattle.clifford.specs.GateQuestions.{gate_width}
use Rattle.clifford.specs.GateRows.{ImageOf}
use Rattle.clifford.specs.Inside.GateRows.{GateSpan, pair_bytes, PairOf, generator_image, row_image_string, OneRow, entry_pair, RowImageOf, GateOn, PutsImage}
use Rattle.clifford.proofs.GateImages.{at-x0, at-x1, at-z0, at-z1}
use Rattle.clifford.proofs.RowWriting.{IsGenerator, generator-is, letter_of-row, encoded_row}
use Rattle.clifford.proofs.Apply.{length_cleared, cleared_formed}
use Rattle.clifford.proofs.WorkRows.{length-times, times-formed}

-- the number of a gate of either kind
pub one_number : {g : Gate} {x : OneQubitGate} {n : ℕ} → gate_number g ≡ n → g ≡ One x → x.number ≡ n
unfolding gate_number
one_number e h = sym (ap gate_number h) ∙ e

pub two_number : {g : Gate} {x : TwoQubitGate} {n : ℕ} → gate_number g ≡ n → g ≡ Two x → x.number ≡ n
unfolding gate_number
two_number e h = sym (ap gate_number h) ∙ e

-- ---- images as strings
image_string_lem : (i : Image) (k : ℕ) {r : PhasedLetter} → ImageOf i r → scale (phase_of r.0) (mul (single (letter_of r.1) k) (single I k)) ≡ image_string i k
unfolding image_string
image_string_lem i k {r} h =
    ap₂ scale (ap phase_of h.phase ∙ phase-back i.phase)
    (ap₂ mul (ap (λ (l : ℕ). single (letter_of l) k) h.letter ∙ ap (λ l. single l k) (letter-back i.letter)) (single-I k) ∙ mul-identity (single i.letter k))

pub one_made : (i : Image) (k : ℕ) {r : PhasedLetter} → ImageOf i r
    → OneRow (image_string i k) k (record { sign = r.0; first_letter = r.1; first_qubit = k; second_letter = 0; second_qubit = k })
unfolding row_image_string letter_of
one_made i k {r} h = record { string = image_string_lem i k h; sign = omega (arith, h.phase, phase-small i.phase); first = refl; second = refl }

pair_made : (i : PairImage) {q r : ℕ} {x : RowImage} → PairOf i x → x.first_qubit ≡ q → x.second_qubit ≡ r → row_image_string x ≡ pair_string i q r
unfolding row_image_string pair_string
pair_made i {q} {r} {x} h ep eo =
    ap₂ scale (ap phase_of h.phase ∙ phase-back i.phase)
    (ap₂ mul (ap₂ single (ap letter_of h.first ∙ letter-back i.first) ep) (ap₂ single (ap letter_of h.second ∙ letter-back i.second) eo))

-- ---- the width
pub gate-width : (g q r : ℕ) → (gate_tableau g q r).width ≡ gate_width g q r
unfolding gate_tableau gate_width on_qubit gate_on_each on_qubits
gate-width g q r = by (ltb g 24)
  where
    by : (b : Bool) → (cond b (on_qubit (one_qubit_gate g) q) (on_qubits (two_qubit_gate g) q r)).width ≡ cond b (suc q) (suc (max q r))
    by true = refl
    by false = refl

pub width_narrow : {g q r w : ℕ} → GateOn g q r → w ≡ gate_width g q r → w ≤ 128
unfolding gate_width
width_narrow {g} {q} {r} {w} o e = by (ltb g 24) refl
  where
    by : (b : Bool) → ltb g 24 ≡ b → w ≤ 128
    by true h = omega (arith, o.first, e ∙ ap (λ b. cond b (suc q) (suc (max q r))) h)
    by false h = omega (arith, o.first, o.second (ltb-false g 24 h), e ∙ ap (λ b. cond b (suc q) (suc (max q r))) h)

pub width_one : (g q r : ℕ) → g < 24 → gate_width g q r ≡ suc q
unfolding gate_width
width_one g q r h = ap (λ b. cond b (suc q) (suc (max q r))) (lt-ltb g 24 h)

pub width_two : (g q r : ℕ) → 24 ≤ g → gate_width g q r ≡ suc (max q r)
unfolding gate_width
width_two g q r h = ap (λ b. cond b (suc q) (suc (max q r))) (le-ltb g 24 h)

module _ {g q r : ℕ} (o : GateOn g q r) where
  span : {w : ℕ} → w ≡ gate_width g q r → GateSpan g q r w
  span e = record { is = e; small = width_narrow o e }

  pub span_one : {G : Gate} {x : OneQubitGate} → gate_number G ≡ g → G ≡ One x → GateSpan g q r (q + 1)
  span_one {G} {x} n e = let low : g < 24 = omega (arith, one_number n e, x.small) in span (omega (arith, width_one g q r low))

  pub span_two : {G : Gate} {x : TwoQubitGate} {m : ℕ} → gate_number G ≡ g → G ≡ Two x → m ≡ max q r → GateSpan g q r (m + 1)
  span_two {G} {x} n e em = let high : 24 ≤ g = omega (arith, two_number n e, x.from) in span (omega (arith, em, width_two g q r high))

  pub span_fits : {G : Gate} {x : TwoQubitGate} {m : ℕ} → gate_number G ≡ g → G ≡ Two x → m ≡ max q r → Fits w64 (m + 1)
  span_fits n e em = record { fits = omega (arith, (span_two n e em).small) }

pub ruleset gate_spans = (span_one, span_two, span_fits, rules)

-- ---- a gate's image of X or of Z
by_generator : (P : ℕ → Type 0) → P 1 → P 2 → (l : ℕ) → IsGenerator l → P l
by_generator P x z zero h = absurd (not-suc-le-zero h.some)
by_generator P x z (suc zero) h = x
by_generator P x z (suc (suc zero)) h = z
by_generator P x z (suc (suc (suc l))) h = absurd (high h.small)
  where
    high : suc (suc (suc l)) < 3 → ⊥
    high q = omega arith

gate_zero : one_qubit_gate 0 ≡ unchanged
unfolding one_qubit_gate one_qubit_gates
gate_zero = refl

keep_X : (k : ℕ) → image_string (letter_image unchanged (letter_of 1)) k ≡ single (letter_of 1) k
unfolding image_string letter_image letter_of
keep_X k = scale_one (single X k)

keep_Z : (k : ℕ) → image_string (letter_image unchanged (letter_of 2)) k ≡ single (letter_of 2) k
unfolding image_string letter_image letter_of
keep_Z k = scale_one (single Z k)

gate-on : (b : Bool) (g : ℕ) → cond b (one_qubit_gate g) unchanged ≡ one_qubit_gate (cond b g 0)
gate-on true g = refl
gate-on false g = sym gate_zero

module _ (g q r k : ℕ) where
  abbrev T : Tableau
  T = gate_tableau g q r

  is_one : g < 24 → T ≡ on_qubit (one_qubit_gate g) q
  unfolding gate_tableau
  is_one h = ap (λ b. cond b (on_qubit (one_qubit_gate g) q) (on_qubits (two_qubit_gate g) q r)) (lt-ltb g 24 h)

  is-two : 24 ≤ g → T ≡ on_qubits (two_qubit_gate g) q r
  unfolding gate_tableau
  is-two h = ap (λ b. cond b (on_qubit (one_qubit_gate g) q) (on_qubits (two_qubit_gate g) q r)) (le-ltb g 24 h)

  row_on : (l : ℕ) → IsGenerator l
      → row_image (on_qubit (one_qubit_gate g) q) k (letter_of l) ≡ image_string (letter_image (cond (eqb k q) (one_qubit_gate g) unchanged) (letter_of l)) k
  unfolding row_image on_qubit gate_on_each letter_image letter_of
  row_on l h = by_generator (λ l. row_image (on_qubit (one_qubit_gate g) q) k (letter_of l) ≡ image_string (letter_image (cond (eqb k q) (one_qubit_gate g) unchanged) (letter_of l)) k) refl refl l h

  row_one : (l : ℕ) → IsGenerator l → g < 24 → row_image T k (letter_of l) ≡ image_string (letter_image (one_qubit_gate (cond (eqb k q) g 0)) (letter_of l)) k
  row_one l h s = ap (λ t. row_image t k (letter_of l)) (is_one s) ∙ row_on l h ∙ ap (λ x. image_string (letter_image x (letter_of l)) k) (gate-on (eqb k q) g)

  abbrev first_of : ℕ → PairImage
  first_of l = generator_image (two_qubit_gate g).x0 (two_qubit_gate g).z0 l

  abbrev second_of : ℕ → PairImage
  second_of l = generator_image (two_qubit_gate g).x1 (two_qubit_gate g).z1 l

  row_pair : (l : ℕ) → IsGenerator l → row_image (on_qubits (two_qubit_gate g) q r) k (letter_of l) ≡ pair_row q r (first_of l) (second_of l) (letter_of l) k
  unfolding row_image on_qubits generator_image letter_of
  row_pair l h = by_generator (λ l. row_image (on_qubits (two_qubit_gate g) q r) k (letter_of l) ≡ pair_row q r (first_of l) (second_of l) (letter_of l) k) refl refl l h

  row-two : (l : ℕ) → IsGenerator l → 24 ≤ g → row_image T k (letter_of l) ≡ pair_row q r (first_of l) (second_of l) (letter_of l) k
  row-two l h s = ap (λ t. row_image t k (letter_of l)) (is-two s) ∙ row_pair l h

  itself : (l : ℕ) → IsGenerator l → image_string (letter_image (one_qubit_gate 0) (letter_of l)) k ≡ single (letter_of l) k
  itself l h = ap (λ x. image_string (letter_image x (letter_of l)) k) gate_zero
      ∙ by_generator (λ l. image_string (letter_image unchanged (letter_of l)) k ≡ single (letter_of l) k) (keep_X k) (keep_Z k) l h

  -- the image of X or Z on any qubit
  image_one : (l : ℕ) → IsGenerator l → g < 24 → image_of T k (letter_of l) ≡ image_string (letter_image (one_qubit_gate (cond (eqb k q) g 0)) (letter_of l)) k
  image_one l h s = elim (dec_lt k T.width) [
    | yes b ↦ image_own T k (letter_of l) b ∙ row_one l h s
    | no b ↦ image_above T k (letter_of l) (omega arith)
        ∙ sym (ap (λ c. image_string (letter_image (one_qubit_gate (cond c g 0)) (letter_of l)) k) (ne_eqb k q (λ e. b (omega (arith, gate-width g q r, width_one g q r s)))) ∙ itself l h)
  ]

  abbrev pair_at_row : ℕ → Bool → Bool → PauliString
  pair_at_row l b c = cond b (pair_string (first_of l) q r) (cond c (pair_string (second_of l) q r) (single (letter_of l) k))

  image_two : (l : ℕ) → IsGenerator l → 24 ≤ g → image_of T k (letter_of l) ≡ pair_at_row l (eqb k q) (eqb k r)
  unfolding pair_row
  image_two l h s = elim (dec_lt k T.width) [
    | yes b ↦ image_own T k (letter_of l) b ∙ row-two l h s
    | no b ↦ let away : suc (max q r) ≤ k = omega (arith, gate-width g q r, width_two g q r s) in
        image_above T k (letter_of l) (omega arith)
        ∙ sym (ap₂ (pair_at_row l) (ne_eqb k q (λ e. omega arith)) (ne_eqb k r (λ e. omega arith)))
  ]

  -- the image of row j of a record of width w
  module _ {w j : ℕ} (place : RowIndex w j) {l : ℕ} (ek : k ≡ row_qubit w j) (el : l ≡ letter_byte (row_letter w j)) where
    a : IsGenerator l
    a = generator-is w j el

    abbrev RowIs : RowImage → Type 0
    RowIs i = RowImageOf (max (gate_width g q r) (suc (row_qubit w j))) (image_of T (row_qubit w j) (row_letter w j)) i

    same_image : image_of T k (letter_of l) ≡ image_of T (row_qubit w j) (row_letter w j)
    same_image = ap₂ (image_of T) ek (letter_of-row w j el)

    row_one_is : (m : ℕ) {i : RowImage} → OneRow (image_string (letter_image (one_qubit_gate m) (letter_of l)) k) k i
        → image_of T k (letter_of l) ≡ image_string (letter_image (one_qubit_gate m) (letter_of l)) k → RowIs i
    row_one_is m o e = record { string = o.string ∙ sym e ∙ same_image; sign = o.sign; first = omega (arith, o.first, ek); second = omega (arith, o.second, ek) }

    module _ {G : Gate} {x : OneQubitGate} (n : gate_number G ≡ g) (is : G ≡ One x) where
      own_number : x.number ≡ g
      own_number = one_number n is

      low : g < 24
      low = omega (arith, own_number, x.small)

      pub own_row : {i : RowImage} → k ≡ q → OneRow (image_string (letter_image (one_qubit_gate x.number) (letter_of l)) k) k i
          → RowIs i
      own_row e o = row_one_is x.number o (
          image_one l a low
          ∙ ap (λ b. image_string (letter_image (one_qubit_gate (cond b g 0)) (letter_of l)) k) (eq-eqb k q e)
          ∙ ap (λ (j : ℕ). image_string (letter_image (one_qubit_gate j) (letter_of l)) k) (sym own_number))

      pub away_row : {i : RowImage} → (k ≡ q → ⊥) → OneRow (image_string (letter_image (one_qubit_gate 0) (letter_of l)) k) k i
          → RowIs i
      away_row d o = row_one_is 0 o (image_one l a low ∙ ap (λ b. image_string (letter_image (one_qubit_gate (cond b g 0)) (letter_of l)) k) (ne_eqb k q d))

    module _ {G : Gate} {x : TwoQubitGate} (n : gate_number G ≡ g) (is : G ≡ Two x) where
      pair_number : x.number ≡ g
      pair_number = two_number n is

      high : 24 ≤ g
      high = omega (arith, pair_number, x.from)

      pub other_row : {i : RowImage} → (k ≡ q → ⊥) → (k ≡ r → ⊥) → OneRow (image_string (letter_image (one_qubit_gate 0) (letter_of l)) k) k i
          → RowIs i
      other_row d e o = row_one_is 0 o (image_two l a high ∙ ap₂ (pair_at_row l) (ne_eqb k q d) (ne_eqb k r e) ∙ sym (itself l a))

      pair_row_lem : {y : RowImage} (i : PairImage) (p : ℕ) → PairOf i (entry_pair (pair_bytes (two_qubit_gate g)) p q r) → image_of T k (letter_of l) ≡ pair_string i q r
          → y ≡ entry_pair (pair_bytes (two_qubit_gate g)) p q r → RowIs y
      unfolding entry_pair
      pair_row_lem i p h e f = subst RowIs (sym f) (record {
        string = pair_made i h refl refl ∙ sym e ∙ same_image;
        sign = omega (arith, h.phase, phase-small i.phase);
        first = omega (arith, width_two g q r high);
        second = omega (arith, width_two g q r high);
      })

      entry_of : (p : ℕ) → entry_pair (pair_bytes (two_qubit_gate x.number)) p q r ≡ entry_pair (pair_bytes (two_qubit_gate g)) p q r
      entry_of p = ap (λ (j : ℕ). entry_pair (pair_bytes (two_qubit_gate j)) p q r) pair_number

      -- the images of X start at 0 and 3 of an entry, those of Z at 6 and 9
      module _ {m : ℕ} (em : m ≡ l) where
        pub first-row : {y : RowImage} → k ≡ q → y ≡ entry_pair (pair_bytes (two_qubit_gate x.number)) (6 * m - 6) q r → RowIs y
        unfolding generator_image
        first-row e h =
            pair_row_lem (first_of l) (6 * l - 6)
            (by_generator (λ (j : ℕ). PairOf (first_of j) (entry_pair (pair_bytes (two_qubit_gate g)) (6 * j - 6) q r)) (at-x0 (two_qubit_gate g) q r) (at-z0 (two_qubit_gate g) q r) l a)
            (image_two l a high ∙ ap (λ b. pair_at_row l b (eqb k r)) (eq-eqb k q e))
            (h ∙ entry_of (6 * m - 6) ∙ ap (λ (j : ℕ). entry_pair (pair_bytes (two_qubit_gate g)) (6 * j - 6) q r) em)

        pub second-row : {y : RowImage} → (k ≡ q → ⊥) → k ≡ r → y ≡ entry_pair (pair_bytes (two_qubit_gate x.number)) (6 * m - 3) q r
            → RowIs y
        unfolding generator_image
        second-row d e h =
            pair_row_lem (second_of l) (6 * l - 3)
            (by_generator (λ (j : ℕ). PairOf (second_of j) (entry_pair (pair_bytes (two_qubit_gate g)) (6 * j - 3) q r)) (at-x1 (two_qubit_gate g) q r) (at-z1 (two_qubit_gate g) q r) l a)
            (image_two l a high ∙ ap₂ (pair_at_row l) (ne_eqb k q d) (eq-eqb k r e))
            (h ∙ entry_of (6 * m - 3) ∙ ap (λ (j : ℕ). entry_pair (pair_bytes (two_qubit_gate g)) (6 * j - 3) q r) em)

pub ruleset gate-images = (
  own_row,
  away_row,
  other_row,
  first-row,
  second-row,
  rules,
)

-- ---- an image as a work row
-- a work row that holds the string s, multiplied by t
times-string : (w : ℕ) {k e : List ℕ} (s t : PauliString) → k ≡ encode_string w s → Within w s → e ≡ row_times k t → e ≡ encode_string w (mul s t)
unfolding row_times
times-string w {k} s t ek h e =
    let long : length k ≡ suc w = ap length ek ∙ length_encode w s in
    let same : letters_in k ≡ w = omega (arith, long) in
    e ∙ ap₂ (λ (j : ℕ) x. encode_string j (mul x t)) same (encoded_row w s long ek h)

module _ {i : RowImage} {d : List ℕ} (o : PutsImage i d) where
  pub put_clear : ClearRow d i.sign
  put_clear = record { some = omega (arith, o.first); phase = o.sign }

  abbrev w : ℕ
  w = letters_in d

  abbrev sign : Phase
  sign = phase_of i.sign

  abbrev one : PauliString
  one = single (letter_of i.first_letter) i.first_qubit

  abbrev two : PauliString
  two = single (letter_of i.second_letter) i.second_qubit

  module _ {k₁ : List ℕ} (e₁ : k₁ ≡ cleared_row (length d) i.sign) where
    some : 0 < length d
    some = omega (arith, o.first)

    long₁ : length k₁ ≡ length d
    long₁ = length_cleared i.sign some e₁

    pub put_first : WorkPlace k₁ i.first_qubit
    put_first = record { row = cleared_formed i.sign some e₁; place = omega (arith, long₁, o.first); narrow = omega (arith, long₁, o.narrow) }

    module _ {k₂ : List ℕ} (e₂ : k₂ ≡ row_times k₁ one) where
      long₂ : length k₂ ≡ length d
      long₂ = length-times k₂ one (cleared_formed i.sign some e₁) e₂ ∙ long₁

      pub put_second : WorkPlace k₂ i.second_qubit
      put_second = record { row = times-formed one (cleared_formed i.sign some e₁) e₂; place = omega (arith, long₂, o.second); narrow = omega (arith, long₂, o.narrow) }

      cleared_is : k₁ ≡ encode_string w (scale sign identity_string)
      unfolding cleared_row
      cleared_is = e₁

      within-clear : Within w (scale sign identity_string)
      within-clear = within-scale w sign identity_string (within-identity w)

      within-one : Within w (mul (scale sign identity_string) one)
      within-one = within-mul w (scale sign identity_string) one within-clear (within-single w (letter_of i.first_letter) i.first_qubit (omega (arith, o.first)))

      pub put_made : {k₃ : List ℕ} → k₃ ≡ row_times k₂ two → k₃ ≡ encode_string w (row_image_string i)
      unfolding row_image_string
      put_made e₃ =
          times-string w (mul (scale sign identity_string) one) two (times-string w (scale sign identity_string) one cleared_is within-clear e₂) within-one e₃
          ∙ ap (encode_string w) (ap (λ x. mul x two) (scale-mul sign identity_string one ∙ ap (scale sign) (identity-mul one)) ∙ scale-mul sign one two)

pub ruleset image_puts = (put_clear, put_first, put_second, put_made, rules)

-- ---- a tableau of the width of a record
pub gate-proper : {g q r : ℕ} → GateOn g q r → Proper (gate_tableau g q r)
unfolding qubits
gate-proper {g} {q} {r} o = elim (dec_lt g 24) [
  | yes l ↦ subst Proper (gate-one g q q l ∙ sym (gate-one g q r l)) (gate_clifford g q q o.gate o.first o.first (λ h. absurd (never l h))).proper
  | no l ↦ let m : 24 ≤ g = omega arith in (gate_clifford g q r o.gate o.first (o.second m) (λ h. o.different h)).proper
]
  where
    never : g < 24 → 24 ≤ g → ⊥
    never l h = omega arith

-- ---- a tableau at its own width
pub widened_own : (w : ℕ) (t : Tableau) → w ≤ t.width → Same (widen w t) t
unfolding widen row_image
widened_own w t h = record { width = omega arith; x_image = λ q l. image_own t q X (omega arith); z_image = λ q l. image_own t q Z (omega arith) }

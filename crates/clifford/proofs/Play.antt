-- A gate on each row of a record: its table, a row changed as the table says, all rows, and when the gate has a place in the record.
use Rattle.std.proofs.Common.{◌≡◌, ℕ, zero, suc, ◌+◌, ◌-◌, ◌*◌, ◌/◌, ◌%◌, ◌<◌, ◌≤◌, Bool, true, false, cond, not, ◌&&◌, eqb, ltb, leb, ◌≢◌, List, [], ◌∷◌, ◌++◌, length, get_or, take, drop, sym, refl, ap, ◌∙◌, subst, ap₂, arith, rules, ltb-true, le-ltb, lt-ltb, eq-eqb, ne_eqb, eqb-true, le-leb, leb-true}
use native.Mathlib.Decide.{dec_lt}
use lib.Bits.{bit_xor}
use borrow.Author.Tests.{eqb-false, not-true, not-false}
use borrow.Rule.Slice.PartMut.{put_mid}
use Rattle.pauli_group.specs.Phase.{Phase, PlusOne, MinusOne, PlusI, MinusI, ◌·◌, negate, turn}
use Rattle.pauli_group.specs.Letter.{Letter, letter_mul, letter_phase, letter_product}
use Rattle.clifford_group.specs.Tableau.{all_to}
use Rattle.clifford_group.proofs.Valid.{and_both, all_each}
use Rattle.clifford_gates.specs.Gates.{Image, PairImage, one_qubit_gates, two_qubit_gates}
use Rattle.clifford_gates.specs.GateNumbers.{one_qubit_gate, two_qubit_gate}
use Rattle.clifford_gates.specs.Updates.{times_i, letter_image, pair_times, pair_times_i, own_image, pair_image}
use Rattle.pauli.specs.Layout.{phase_byte, phase_of, letter_byte, letter_of}
use Rattle.pauli.proofs.Places.{from, get_d_listed}
use Rattle.pauli.proofs.Records.{phase-back, letter-back, letter-small}
use Rattle.clifford.specs.Layout.{row_length, row_offset, record_length, joined, width_of, weight_place, row_part, letter_in, row_with, with_image, row_with_pair, weight_change, with_pair, each_row}
use Rattle.clifford.specs.Inside.Rows.{Sized, Laid}
use Rattle.clifford.specs.Playing.{gate_on_row, second_fits, playable, played, GatePlayed, letter_column, letter_table, pair_column, pair_table, letter_tables, pair_tables, table_entry, letter_table_on_row, pair_table_on_row, table_on_row, played_by, PlayedBy}
use Rattle.clifford.specs.Inside.Playing.{PlaysLetters, PlaysPairs}
use Rattle.clifford.proofs.Joining.{joined_ext}
use Rattle.clifford.proofs.Rows.{RowChange, change_by, byte_front, letter_front, change_letter, change_pair, place_is, row-some, letter_in-row, length_part}
use Rattle.clifford.specs.declared.numbering.Gate.{Gate}
use Rattle.clifford.specs.declared.numbering.Gate.TheVariants.{One, Two}
use Rattle.clifford.specs.Inside.Numbering.{gate_number}
use Rattle.clifford.specs.declared.numbering.OneQubitGate.{OneQubitGate}
use Rattle.clifford.specs.declared.numbering.TwoQubitGate.{TwoQubitGate}
use Rattle.clifford.proofs.GateWriting.{one_number, two_number}
use Rattle.clifford.proofs.RowBytes.{BytesTo, bytes-none, bytes-room, bytes_start, bytes_rest, bytes-more, bytes_end}

-- ---- the table says what the gate makes of a letter, or of two
-- a sign is put into a phase byte by the lowest bit
sign_bit : (p : Phase) (k : ℕ) → k < 2 → bit_xor (phase_byte p) k ≡ phase_byte (p · phase_of k)
unfolding phase_byte phase_of ◌·◌ negate turn
sign_bit PlusOne zero h = refl
sign_bit MinusOne zero h = refl
sign_bit PlusI zero h = refl
sign_bit MinusI zero h = refl
sign_bit PlusOne (suc zero) h = refl
sign_bit MinusOne (suc zero) h = refl
sign_bit PlusI (suc zero) h = refl
sign_bit MinusI (suc zero) h = refl
sign_bit p (suc (suc k)) h = absurd (omega arith)

signed : (p i : Phase) → phase_byte i < 2 → bit_xor (phase_byte p) (phase_byte i) ≡ phase_byte (p · i)
signed p i h = sign_bit p (phase_byte i) h ∙ ap (λ x. phase_byte (p · x)) (phase-back i)

-- the entries of a column
letter-entry : (g : ℕ) (f : Image → ℕ) (a : Letter) → get_or (letter_column g f) (letter_byte a) 0 ≡ f (letter_image (one_qubit_gate g) a)
unfolding letter_column
letter-entry g f a =
    get_d_listed 4 _ (letter_byte a) 0 (omega (arith, letter-small a)) ∙ ap (λ l. f (letter_image (one_qubit_gate g) l)) (letter-back a)

pair_entry : (g : ℕ) (f : Letter → Letter → PairImage → ℕ) (a b : Letter)
    → get_or (pair_column g f) (4 * letter_byte a + letter_byte b) 0 ≡ f a b (pair_image (two_qubit_gate g) a b)
unfolding pair_column
pair_entry g f a b =
    let k : ℕ = 4 * letter_byte a + letter_byte b in
    let first : k / 4 ≡ letter_byte a = omega (arith, letter-small b) in
    let second : k % 4 ≡ letter_byte b = omega (arith, letter-small b) in
    get_d_listed 16 _ k 0 (omega (arith, letter-small a, letter-small b))
    ∙ ap₂ (λ x y. f x y (pair_image (two_qubit_gate g) x y)) (ap letter_of first ∙ letter-back a) (ap letter_of second ∙ letter-back b)

-- by one computed test over the gates of each kind: the phases of their images are signs
each_letter : (P : Letter → Bool) → all_to 4 (λ k. P (letter_of k)) ≡ true → (a : Letter) → P a ≡ true
each_letter P e a = sym (ap P (letter-back a)) ∙ all_each 4 (λ k. P (letter_of k)) e (letter_byte a) (omega (arith, letter-small a))

abbrev sign : Phase → Bool
sign p = ltb (phase_byte p) 2

letter-sign : (g : ℕ) → g < 24 → (a : Letter) → phase_byte (letter_image (one_qubit_gate g) a).phase < 2
unfolding all_to letter_image times_i one_qubit_gate one_qubit_gates phase_byte letter_of letter_mul letter_phase letter_product ◌·◌ negate turn
letter-sign g h a =
    let test : ℕ → Letter → Bool = λ g a. sign (letter_image (one_qubit_gate g) a).phase in
    ltb-true _ 2 (each_letter (test g) (all_each 24 (λ g. all_to 4 (λ k. test g (letter_of k))) refl g h) a)

pair_sign : (g : ℕ) → 24 ≤ g → g < 38 → (a b : Letter) → phase_byte (pair_image (two_qubit_gate g) a b).phase < 2
unfolding all_to pair_image pair_times pair_times_i own_image two_qubit_gate two_qubit_gates phase_byte letter_of letter_mul letter_phase letter_product ◌·◌ negate turn
pair_sign g l h a b =
    let test : ℕ → Letter → Letter → Bool = λ k a b. sign (pair_image (two_qubit_gate (24 + k)) a b).phase in
    let own : 24 + (g - 24) ≡ g = omega arith in
    subst (λ (n : ℕ). phase_byte (pair_image (two_qubit_gate n) a b).phase < 2) own
    (ltb-true _ 2
    (each_letter (test (g - 24) a)
    (each_letter (λ a. all_to 4 (λ j. test (g - 24) a (letter_of j)))
    (all_each 14 (λ k. all_to 4 (λ i. all_to 4 (λ j. test k (letter_of i) (letter_of j)))) refl (g - 24) (omega arith)) a) b))

-- ---- one row, at the front of b
letter_change : {w q : ℕ} (e : List (List ℕ)) → q < w → RowChange w (letter_table_on_row e q)
unfolding letter_table_on_row
letter_change {w} {q} e h =
    let row : ℕ → Letter → List ℕ → List ℕ = λ p x. row_with q (bit_xor (phase_byte (phase_of p)) (table_entry e 0 (letter_byte x))) (table_entry e 1 (letter_byte x)) in
    change_by (λ b. get_or b 0 0) (λ p b. row p (letter_in b q) b) (byte_front w 0 (omega (arith, row-some w)))
    (λ p. change_by (λ b. letter_in b q) (row p) (letter_front w q h) (λ x. change_letter _ _ h))

pair_change : {w q r : ℕ} (e : List (List ℕ)) → q < w → r < w → RowChange w (pair_table_on_row e q r)
unfolding pair_table_on_row
pair_change {w} {q} {r} e hq hr =
    let at : ℕ → Letter → Letter → ℕ = λ j x y. table_entry e j (4 * letter_byte x + letter_byte y) in
    let row : ℕ → ℕ → Letter → Letter → List ℕ → List ℕ = λ p v x y.
    row_with_pair q r (bit_xor (phase_byte (phase_of p)) (at 0 x y)) ((v + at 1 x y) % 256) (at 2 x y) (at 3 x y) in
    change_by (λ b. get_or b 0 0) (λ p b. row p (get_or b weight_place 0) (letter_in b q) (letter_in b r) b) (byte_front w 0 (omega (arith, row-some w)))
    (λ p. change_by (λ b. get_or b weight_place 0) (λ v b. row p v (letter_in b q) (letter_in b r) b) (byte_front w weight_place (row-some w))
    (λ v. change_by (λ b. letter_in b q) (λ x b. row p v x (letter_in b r) b) (letter_front w q hq)
    (λ x. change_by (λ b. letter_in b r) (row p v x) (letter_front w r hr) (λ y. change_pair _ _ _ _ hq hr))))

-- ---- all rows
-- the rows before i are changed
pub record PlayedTo (f : List ℕ → List ℕ) (w : ℕ) (t₀ : List ℕ) (i : ℕ) (t : List ℕ) : Type 0 where
  pub change : RowChange w f
  pub wide : w ≡ width_of t₀
  pub laid : length t₀ ≡ record_length w
  pub rows : BytesTo w (λ k. f (row_part t₀ k)) t₀ i t

played-none : {f : List ℕ → List ℕ} {w : ℕ} {t : List ℕ} → RowChange w f → w ≡ width_of t → Laid t → PlayedTo f w t 0 t
played-none {w = w} {t} c e o =
    let long : length t ≡ record_length w = o.long ∙ ap record_length (sym e) in
    record {
      change = c;
      wide = e;
      laid = long;
      rows = bytes-none w _ t (omega (arith, o.narrow)) (omega arith) (sym e) (λ i h. c.long (row_part t i) ∙ length_part t w i e long h);
    }

pub letters-none : {q w : ℕ} {t : List ℕ} (e : List (List ℕ)) → PlaysLetters q t → w ≡ width_of t → PlayedTo (letter_table_on_row e q) w t 0 t
letters-none e o h = played-none (letter_change e (omega (arith, o.qubit))) h o.laid

pub pairs-none : {q r w : ℕ} {t : List ℕ} (e : List (List ℕ)) → PlaysPairs q r t → w ≡ width_of t → PlayedTo (pair_table_on_row e q r) w t 0 t
pairs-none e o h = played-none (pair_change e (omega (arith, o.first)) (omega (arith, o.second))) h o.laid

module _ {f : List ℕ → List ℕ} {w : ℕ} {t₀ : List ℕ} {i : ℕ} {t : List ℕ} (m : PlayedTo f w t₀ i t) where
  pub played_all : 2 * w ≤ i → t ≡ each_row f t₀
  unfolding each_row
  played_all h = bytes_end m.rows h m.laid ∙ ap (λ (v : ℕ). v ∷ joined (2 * v) (λ k. f (row_part t₀ k))) m.wide

  module _ (h : i < 2 * w) where
    module _ {at : ℕ} (z : Sized (row_offset w i) at) where
      pub played_start : at ≤ length t
      played_start = bytes_start m.rows h z

      pub row-place : (q : ℕ) → q < width_of t₀ → q + 2 < length (from at t)
      row-place q l = omega (arith, bytes-room m.rows h z, place_is q, letter_in-row w q (omega (arith, m.wide)))

      pub played-more : {ys : List ℕ} → ys ≡ f (from at t) → PlayedTo f w t₀ (i + 1) (put_mid at (length t - at) t ys)
      played-more {ys} k = record {
        change = m.change;
        wide = m.wide;
        laid = m.laid;
        rows = bytes-more m.rows h z
            (k ∙ m.change.front (from at t) (bytes-room m.rows h z) ∙ ap (λ (l : List ℕ). f l ++ drop (row_length w) (from at t)) own);
      }
        where
          own : take (row_length w) (from at t) ≡ row_part t₀ i
          own = unfold row_part in
              ap (take (row_length w)) (bytes_rest m.rows h z ∙ ap (λ (j : ℕ). drop j t₀) z.is)
              ∙ ap (λ (v : ℕ). take (row_length v) (drop (row_offset v i) t₀)) m.wide

pub ruleset plays = (letters-none, pairs-none, played_all, played_start, row-place, played-more, rules)

-- ---- whether the second qubit fits
pub fits-none : {g : ℕ} (q r w : ℕ) → g < 24 → true ≡ second_fits g q r w
unfolding second_fits
fits-none {g} q r w h = sym (ap (λ b. cond b true (ltb r w && not (eqb q r))) (lt-ltb g 24 h))

fits_tested : {g : ℕ} (q r w : ℕ) → 24 ≤ g → (ltb r w && not (eqb q r)) ≡ second_fits g q r w
unfolding second_fits
fits_tested {g} q r w h = sym (ap (λ b. cond b true (ltb r w && not (eqb q r))) (le-ltb g 24 h))

pub fits-other : {g : ℕ} (q r w : ℕ) → 24 ≤ g → r < w → not (eqb q r) ≡ second_fits g q r w
fits-other q r w h l = sym (ap (λ b. b && not (eqb q r)) (lt-ltb r w l)) ∙ fits_tested q r w h

fits_parts : {g : ℕ} (q r w : ℕ) → 24 ≤ g → second_fits g q r w ≡ true → (ltb r w ≡ true) × (not (eqb q r) ≡ true)
fits_parts q r w h e = and_both (ltb r w) (not (eqb q r)) (fits_tested q r w h ∙ e)

fits_yes : (g q r w : ℕ) → (24 ≤ g → r < w) → (24 ≤ g → q ≢ r) → second_fits g q r w ≡ true
fits_yes g q r w hr d = elim (dec_lt g 24) [
  | yes l ↦ sym (fits-none q r w l)
  | no l ↦ let m : 24 ≤ g = omega arith in sym (fits-other q r w m (hr m)) ∙ ap not (ne_eqb q r (d m))
]

-- ---- when the gate has a place in the record
pub record Playable (g q r : ℕ) (t : List ℕ) : Type 0 where
  pub gate : g < 38
  pub first : q < width_of t
  pub second : 24 ≤ g → r < width_of t
  pub different : 24 ≤ g → q ≢ r
  pub laid : Laid t

pub playable-is : (g q r : ℕ) (t : List ℕ) → playable g q r t ≡ true → Playable g q r t
unfolding playable
playable-is g q r t e =
    let w : ℕ = width_of t in
    let first = and_both (ltb g 38) _ e in
    let second = and_both (ltb q w) _ first.1 in
    let third = and_both (second_fits g q r w) _ second.1 in
    let fourth = and_both (leb w 128) (eqb (length t) (record_length w)) third.1 in
    record {
      gate = ltb-true g 38 first.0;
      first = ltb-true q w second.0;
      second = λ m. ltb-true r w (fits_parts q r w m third.0).0;
      different = λ m. eqb-false q r (not-true (eqb q r) (fits_parts q r w m third.0).1);
      laid = record { narrow = leb-true w 128 fourth.0; long = eqb-true (length t) (record_length w) fourth.1 };
    }

-- all but the length is asked
playable_by : (g q r : ℕ) {n : ℕ} (t : List ℕ) → n ≡ width_of t → g < 38 → q < n → second_fits g q r n ≡ true → n ≤ 128
    → playable g q r t ≡ eqb (length t) (record_length n)
unfolding playable
playable_by g q r {n} t e hg hq hr hn =
    ap (λ (w : ℕ). ltb g 38 && (ltb q w && (second_fits g q r w && (leb w 128 && eqb (length t) (record_length w))))) (sym e)
    ∙ ap₂ ◌&&◌ (lt-ltb g 38 hg) (ap₂ ◌&&◌ (lt-ltb q n hq) (ap₂ ◌&&◌ hr (ap (λ b. b && eqb (length t) (record_length n)) (le-leb n 128 hn))))

pub playable-long : (g q r : ℕ) {n k : ℕ} {b : Bool} (t : List ℕ) → n ≡ width_of t → g < 38 → q < n → b ≡ second_fits g q r n
    → not b ≡ false → n ≤ 128 → Sized (record_length n) k
    → eqb (length t) k ≡ playable g q r t
playable-long g q r {b = b} t e hg hq eb hb hn z = ap (eqb (length t)) z.is ∙ sym (playable_by g q r t e hg hq (sym eb ∙ not-false b hb) hn)

pub playable_yes : (g q r : ℕ) (t : List ℕ) → g < 38 → q < width_of t → (24 ≤ g → r < width_of t) → (24 ≤ g → q ≢ r) → width_of t ≤ 128
    → length t ≡ record_length (width_of t)
    → playable g q r t ≡ true
playable_yes g q r t hg hq hr d hn long =
    playable_by g q r t refl hg hq (fits_yes g q r (width_of t) hr d) hn ∙ eq-eqb (length t) (record_length (width_of t)) long

not-playable : (g q r : ℕ) (t : List ℕ) → (Playable g q r t → ⊥) → false ≡ playable g q r t
not-playable g q r t never = by (playable g q r t) refl
  where
    by : (b : Bool) → playable g q r t ≡ b → false ≡ b
    by true e = absurd (never (playable-is g q r t e))
    by false e = refl

module _ (g q r : ℕ) (t : List ℕ) where
  pub no_gate : 38 ≤ g → false ≡ playable g q r t
  no_gate h = not-playable g q r t (λ p. omega (arith, p.gate))

  module _ {n : ℕ} (e : n ≡ width_of t) where
    pub no_first : n ≤ q → false ≡ playable g q r t
    no_first h = not-playable g q r t (λ p. omega (arith, p.first))

    pub no_second : {b : Bool} → b ≡ second_fits g q r n → not b ≡ true → false ≡ playable g q r t
    unfolding playable
    no_second {b} eb h =
        sym (without (ltb g 38) (ltb q (width_of t)) _ (sym (ap (second_fits g q r) e) ∙ sym eb ∙ not-true b h))
      where
        without : (x y z : Bool) {s : Bool} → s ≡ false → (x && (y && (s && z))) ≡ false
        without true true z e = ap (λ b. b && z) e
        without true false z e = refl
        without false y z e = refl

    pub no_width : 128 < n → false ≡ playable g q r t
    no_width h = not-playable g q r t (λ p. omega (arith, p.laid.narrow))

pub ruleset playables = (no_gate, no_first, no_second, no_width, playable-long, rules)

-- ---- the gate on a row: by its table, and by the tables of all gates
by_letters : (ones twos : List (List (List ℕ))) (g q r : ℕ) → g < 24 → table_on_row ones twos g q r ≡ letter_table_on_row (get_or ones g []) q
unfolding table_on_row
by_letters ones twos g q r h = ap (λ c. cond c (letter_table_on_row (get_or ones g []) q) (pair_table_on_row (get_or twos (g - 24) []) q r)) (lt-ltb g 24 h)

by_pairs : (ones twos : List (List (List ℕ))) (g q r : ℕ) → 24 ≤ g → table_on_row ones twos g q r ≡ pair_table_on_row (get_or twos (g - 24) []) q r
unfolding table_on_row
by_pairs ones twos g q r h = ap (λ c. cond c (letter_table_on_row (get_or ones g []) q) (pair_table_on_row (get_or twos (g - 24) []) q r)) (le-ltb g 24 h)

module _ (g q r : ℕ) (b : List ℕ) where
  abbrev one : List ℕ
  one = with_image q (letter_image (one_qubit_gate g) (letter_in b q)) b

  abbrev two : List ℕ
  two = with_pair q r (pair_image (two_qubit_gate g) (letter_in b q) (letter_in b r)) b

  pub gate_on_letter : g < 24 → gate_on_row g q r b ≡ one
  unfolding gate_on_row
  gate_on_letter h = ap (λ c. cond c one two) (lt-ltb g 24 h)

  pub gate_on_pair : 24 ≤ g → gate_on_row g q r b ≡ two
  unfolding gate_on_row
  gate_on_pair h = ap (λ c. cond c one two) (le-ltb g 24 h)

  letter_table-is : g < 24 → letter_table_on_row (letter_table g) q b ≡ one
  unfolding letter_table_on_row with_image letter_table table_entry
  letter_table-is h =
      let x : Letter = letter_in b q in
      let p : Phase = phase_of (get_or b 0 0) in
      ap₂ (λ (i j : ℕ). row_with q (bit_xor (phase_byte p) i) j b) (letter-entry g (λ i. phase_byte i.phase) x) (letter-entry g (λ i. letter_byte i.letter) x)
      ∙ ap (λ (i : ℕ). row_with q i (letter_byte (letter_image (one_qubit_gate g) x).letter) b) (signed p _ (letter-sign g h x))

  pair_table-is : 24 ≤ g → g < 38 → pair_table_on_row (pair_table g) q r b ≡ two
  unfolding pair_table_on_row with_pair pair_table table_entry
  pair_table-is l h =
      let x : Letter = letter_in b q in
      let y : Letter = letter_in b r in
      let p : Phase = phase_of (get_or b 0 0) in
      let v : ℕ = get_or b weight_place 0 in
      let i : PairImage = pair_image (two_qubit_gate g) x y in
      let row : ℕ → ℕ → ℕ → ℕ → List ℕ = λ z n k m. row_with_pair q r z ((v + n) % 256) k m b in
      let k : ℕ = 4 * letter_byte x + letter_byte y in
      ap₂ (λ (z n : ℕ). row (bit_xor (phase_byte p) z) n (table_entry (pair_table g) 2 k) (table_entry (pair_table g) 3 k)) (pair_entry g (λ a b i. phase_byte i.phase) x y) (pair_entry g weight_change x y)
      ∙ ap₂ (row (bit_xor (phase_byte p) (phase_byte i.phase)) (weight_change x y i)) (pair_entry g (λ a b i. letter_byte i.first) x y) (pair_entry g (λ a b i. letter_byte i.second) x y)
      ∙ ap (λ (z : ℕ). row z (weight_change x y i) (letter_byte i.first) (letter_byte i.second)) (signed p _ (pair_sign g l h x y))

  -- with the gates' own tables
  own_tables : g < 38 → table_on_row letter_tables pair_tables g q r b ≡ gate_on_row g q r b
  unfolding letter_tables pair_tables
  own_tables h = elim (dec_lt g 24) [
    | yes l ↦ ap (λ f. f b) (by_letters letter_tables pair_tables g q r l)
        ∙ ap (λ (e : List (List ℕ)). letter_table_on_row e q b) (get_d_listed 24 letter_table g [] l) ∙ letter_table-is l ∙ sym (gate_on_letter l)
    | no l ↦ let m : 24 ≤ g = omega arith in
        let own : 24 + (g - 24) ≡ g = omega arith in
        ap (λ f. f b) (by_pairs letter_tables pair_tables g q r m)
        ∙ ap (λ (e : List (List ℕ)). pair_table_on_row e q r b) (get_d_listed 14 (λ k. pair_table (24 + k)) (g - 24) [] (omega arith) ∙ ap pair_table own)
        ∙ pair_table-is m h ∙ sym (gate_on_pair m)
  ]

-- ---- the gate on the record
played_by_lem : (g q r : ℕ) (t : List ℕ) → played_by letter_tables pair_tables g q r t ≡ played g q r t
unfolding played_by played each_row
played_by_lem g q r t = by (playable g q r t) refl
  where
    by : (b : Bool) → playable g q r t ≡ b
        → cond b (each_row (table_on_row letter_tables pair_tables g q r) t) t ≡ cond b (each_row (gate_on_row g q r) t) t
    by true e =
        ap (λ (l : List ℕ). width_of t ∷ l) (joined_ext (2 * width_of t) _ _ (λ i l. own_tables g q r (row_part t i) (playable-is g q r t e).gate))
    by false e = refl

pub gate-played : {ones twos : List (List (List ℕ))} {g q r : ℕ} {t e : List ℕ} {b : Bool} → ones ≡ letter_tables → twos ≡ pair_tables
    → PlayedBy ones twos g q r t e b → GatePlayed g q r t e b
gate-played {g = g} {q} {r} {t} h k p = record {
  flag = p.flag;
  bytes = p.bytes ∙ ap₂ (λ (x y : List (List (List ℕ))). played_by x y g q r t) h k ∙ played_by_lem g q r t;
}

module _ (g q r : ℕ) (t : List ℕ) {b : Bool} (e : b ≡ playable g q r t) where
  module _ (h : not b ≡ false) where
    is_true : true ≡ playable g q r t
    is_true = sym (not-false b h) ∙ e

    fits : Playable g q r t
    fits = playable-is g q r t (sym is_true)

    made : {ones twos : List (List (List ℕ))} {d : List ℕ} → d ≡ each_row (table_on_row ones twos g q r) t → PlayedBy ones twos g q r t d true
    unfolding played_by
    made {ones} {twos} k = record { flag = is_true; bytes = k ∙ ap (λ c. cond c (each_row (table_on_row ones twos g q r) t) t) is_true }

    pub plays_gate : g < 38
    plays_gate = fits.gate

    pub plays-letters : PlaysLetters q t
    plays-letters = record { laid = fits.laid; qubit = fits.first }

    pub letters_by : {G : Gate} {x : OneQubitGate} {ones twos : List (List (List ℕ))} {d : List ℕ} → gate_number G ≡ g → G ≡ One x
        → d ≡ each_row (letter_table_on_row (get_or ones x.number []) q) t → PlayedBy ones twos g q r t d true
    letters_by {G} {x} {ones} {twos} n e k =
        let own = one_number n e in
        let low : g < 24 = omega (arith, own, x.small) in
        made (k ∙ ap (λ (j : ℕ). each_row (letter_table_on_row (get_or ones j []) q) t) own ∙ ap (λ f. each_row f t) (sym (by_letters ones twos g q r low)))

    pub letters_own : {G : Gate} {x : OneQubitGate} {ones : List (List (List ℕ))} {d : List ℕ} → gate_number G ≡ g → G ≡ One x → ones ≡ letter_tables
        → d ≡ each_row (letter_table_on_row (get_or ones x.number []) q) t → GatePlayed g q r t d true
    letters_own n e o k = gate-played o refl (letters_by {twos = pair_tables} n e k)

    module _ {G : Gate} {x : TwoQubitGate} (n : gate_number G ≡ g) (is : G ≡ Two x) where
      high : 24 ≤ g
      high = omega (arith, two_number n is, x.from)

      pub plays-pairs : PlaysPairs q r t
      plays-pairs = record { laid = fits.laid; first = fits.first; second = fits.second high }

      pub pairs_by : {ones twos : List (List (List ℕ))} {d : List ℕ} → d ≡ each_row (pair_table_on_row (get_or twos (x.number - 24) []) q r) t
          → PlayedBy ones twos g q r t d true
      pairs_by {ones} {twos} k =
          made (k ∙ ap (λ (j : ℕ). each_row (pair_table_on_row (get_or twos (j - 24) []) q r) t) (two_number n is) ∙ ap (λ f. each_row f t) (sym (by_pairs ones twos g q r high)))

      pub pairs_own : {twos : List (List (List ℕ))} {d : List ℕ} → twos ≡ pair_tables
          → d ≡ each_row (pair_table_on_row (get_or twos (x.number - 24) []) q r) t → GatePlayed g q r t d true
      pairs_own o k = gate-played refl o (pairs_by {ones = letter_tables} k)

  module _ (h : not b ≡ true) where
    is_false : false ≡ playable g q r t
    is_false = sym (not-true b h) ∙ e

    pub stays_by : {ones twos : List (List (List ℕ))} → PlayedBy ones twos g q r t t false
    unfolding played_by
    stays_by {ones} {twos} = record { flag = is_false; bytes = ap (λ c. cond c (each_row (table_on_row ones twos g q r) t) t) is_false }

    pub stays_own : GatePlayed g q r t t false
    stays_own = gate-played refl refl (stays_by {ones = letter_tables} {twos = pair_tables})

pub ruleset own_playing = (plays_gate, plays-letters, letters_own, plays-pairs, pairs_own, stays_own, rules)

pub ruleset playing = (plays_gate, plays-letters, letters_by, plays-pairs, pairs_by, stays_by, rules)

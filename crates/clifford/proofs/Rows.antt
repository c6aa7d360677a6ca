-- Laws of one row of a tableau: its bytes, its phase, its letters and its length, and row r of a record.
use Rattle.std.proofs.Common.{◌≡◌, ℕ, zero, suc, ◌+◌, ◌-◌, ◌*◌, ◌%◌, ◌<◌, ◌≤◌, min, Bool, true, false, cond, ◌&&◌, ltb, ◌≢◌, List, ◌∷◌, ◌++◌, length, get_or, take, drop, set, sym, refl, ap, ◌∙◌, subst, ap₂, mul-le-mul_right, zero-mul, arith, length-drop, length-set, take-append-drop, length-take-le, get_or-drop, get_or-set_other, get_or-take, get_or-set_same, take_at, ext_get_or, drop_at, le-ltb, lt-ltb, le-leb}
use native.Mathlib.Decide.{dec_lt, ℕ_discrete}
use lib.Seq.{set-append_left}
use borrow.Author.Tests.{lt-leb}
use Rattle.pauli_group.specs.Phase.{◌·◌}
use Rattle.pauli_group.specs.Letter.{Letter, I, not_i}
use Rattle.pauli_group.specs.PauliString.{PauliString, qubits, identity_string, count_to, has_letter, weight_to, Within}
use Rattle.pauli_group.proofs.Products.{count_to_le, count_to_ext, count_changed}
use Rattle.pauli_group.proofs.Strings.{string_ext}
use Rattle.clifford_group.specs.Tableau.{Tableau, Proper, Same}
use Rattle.clifford_gates.specs.Gates.{Image, PairImage}
use Rattle.clifford_gates.specs.Updates.{with_letter, image_at, pair_at}
use Rattle.clifford_gates.proofs.OneQubitUpdates.{with_at, with_off}
use Rattle.pauli.specs.Layout.{phase_byte, phase_of, letter_byte, letter_of, decode_string, WellFormed}
use Rattle.pauli.specs.Rows.{letter_at, letter_count}
use Rattle.pauli.proofs.Places.{length-listed, get_d_listed, from, from_is}
use Rattle.pauli.proofs.RowProducts.{weight_of_row}
use Rattle.pauli.proofs.Records.{phase-back, letter-back, phase_there, letter_there, phase-small, letter-small, decode_phase, decode_letter, decode_within}
use Rattle.clifford.specs.Layout.{weight_place, letter_place, row_length, encode_row, decode_row, letter_in, row_with, with_image, row_with_pair, pair_weight, weight_change, with_pair, letters_of, FormedRow, row_offset, record_length, row_of, width_of, row_part, tableau_of, read_row}
use Rattle.clifford.specs.Inside.Rows.{OwnRow, row_letters}

-- ---- the bytes of a row: where the phase, the weight and the letters are, and how many they are
pub place_is : (q : ℕ) → letter_place q ≡ q + 2
unfolding letter_place
place_is q = omega arith

pub row-some : (w : ℕ) → 1 < row_length w
unfolding row_length letter_place
row-some w = omega arith

pub letter_in-row : (w q : ℕ) → q < w → letter_place q < row_length w
unfolding row_length letter_place
letter_in-row w q h = omega arith

pub length-row : (w : ℕ) (s : PauliString) → length (encode_row w s) ≡ row_length w
unfolding encode_row row_length letter_place
length-row w s = ap (λ (n : ℕ). suc (suc n)) (length-listed w _)

encoded_phase : (w : ℕ) (s : PauliString) → get_or (encode_row w s) 0 0 ≡ phase_byte s.phase
unfolding encode_row
encoded_phase w s = refl

encoded_weight : (w : ℕ) (s : PauliString) → get_or (encode_row w s) weight_place 0 ≡ weight_to w s
unfolding encode_row
encoded_weight w s = refl

encoded_letter : (w : ℕ) (s : PauliString) (q : ℕ) → q < w → get_or (encode_row w s) (letter_place q) 0 ≡ letter_byte (s.letters q)
unfolding encode_row letter_place
encoded_letter w s q h = get_d_listed w (λ q. letter_byte (s.letters q)) q 0 h

-- a list is the row whose phase, weight and letters it shows
pub row-bytes : (w : ℕ) (b : List ℕ) (s : PauliString) → length b ≡ row_length w → get_or b 0 0 ≡ phase_byte s.phase → get_or b weight_place 0 ≡ weight_to w s
    → ((q : ℕ) → q < w → get_or b (letter_place q) 0 ≡ letter_byte (s.letters q)) → b ≡ encode_row w s
unfolding row_length letter_place
row-bytes w b s long first second rest = ext_get_or 0 b (encode_row w s) (long ∙ sym (length-row w s)) bytes
  where
    bytes : (i : ℕ) → i < length b → get_or b i 0 ≡ get_or (encode_row w s) i 0
    bytes zero h = first ∙ sym (encoded_phase w s)
    bytes (suc zero) h = second ∙ sym (encoded_weight w s)
    bytes (suc (suc q)) h = let l : q < w = omega arith in rest q l ∙ sym (encoded_letter w s q l)

-- ---- as it is read, whatever its bytes
pub row_phase_at : (w : ℕ) (b : List ℕ) → (decode_row w b).phase ≡ phase_of (get_or b 0 0)
unfolding decode_row
row_phase_at w b = refl

pub row-letter_at : (w : ℕ) (b : List ℕ) (q : ℕ) → q < w → (decode_row w b).letters q ≡ letter_in b q
unfolding decode_row
row-letter_at w b q h = ap (λ c. cond c (letter_in b q) I) (lt-ltb q w h)

pub row_within : (w : ℕ) (b : List ℕ) → Within w (decode_row w b)
unfolding decode_row
row_within w b q h = ap (λ c. cond c (letter_in b q) I) (le-ltb q w h)

pub row-letter_byte : {w : ℕ} {b : List ℕ} → FormedRow w b → (q : ℕ) → q < w → get_or b (letter_place q) 0 ≡ letter_byte ((decode_row w b).letters q)
unfolding letter_in
row-letter_byte {w} {b} f q h = sym (letter_there (get_or b (letter_place q) 0) (f.letters q h)) ∙ ap letter_byte (sym (row-letter_at w b q h))

-- its letter bytes, as `&row[2..]` and by place
pub letters-from : (b : List ℕ) → from 2 b ≡ letters_of b
unfolding letters_of letter_place
letters-from b = from_is 2 b

pub letters-at : (b : List ℕ) (q : ℕ) → get_or (letters_of b) q 0 ≡ get_or b (letter_place q) 0
unfolding letters_of letter_place
letters-at b q = let e : 2 + q ≡ suc (suc q) = omega arith in get_or-drop 2 b q 0 ∙ ap (λ (j : ℕ). get_or b j 0) e

pub letters_read : (b : List ℕ) (q : ℕ) → letter_at (letters_of b) q ≡ letter_in b q
unfolding letter_at letter_in
letters_read b q = ap letter_of (letters-at b q)

pub letters-long : (w : ℕ) (b : List ℕ) → length b ≡ row_length w → length (letters_of b) ≡ w
unfolding letters_of row_length letter_place
letters-long w b e = length-drop 2 b ∙ omega arith

-- ---- its weight goes by its letters
pub weight_ext : (w : ℕ) (s t : PauliString) → ((q : ℕ) → q < w → s.letters q ≡ t.letters q) → weight_to w s ≡ weight_to w t
unfolding weight_to has_letter
weight_ext w s t e = count_to_ext w _ _ (λ q l. ap not_i (e q l))

pair_small : (a b : Letter) → pair_weight a b ≤ 2
unfolding pair_weight
pair_small a b = omega (arith, bit (not_i a), bit (not_i b))
  where
    bit : (c : Bool) → cond c 1 0 ≤ 1
    bit true = omega arith
    bit false = omega arith

pub weight-small : (w : ℕ) (s : PauliString) → weight_to w s ≤ w
unfolding weight_to
weight-small w s = count_to_le w (has_letter s)

-- counted in its letter bytes
pub weight_counted : (w : ℕ) (b : List ℕ) → w ≤ 255 → length b ≡ row_length w → {n : ℕ} → n ≡ letter_count (letters_of b) % 256 → n ≡ weight_to w (decode_row w b)
weight_counted w b h long e =
    e ∙ weight_of_row (decode_row w b) w (letters_of b) h (letters-long w b long) (λ q l. letters_read b q ∙ sym (row-letter_at w b q l))

-- ---- both round trips
encoded_back : (w : ℕ) (s : PauliString) (q : ℕ) → q < w → (decode_row w (encode_row w s)).letters q ≡ s.letters q
unfolding letter_in
encoded_back w s q l = row-letter_at w (encode_row w s) q l ∙ ap letter_of (encoded_letter w s q l) ∙ letter-back (s.letters q)

pub encoded_row_formed : (w : ℕ) (s : PauliString) → FormedRow w (encode_row w s)
encoded_row_formed w s = record {
  long = length-row w s;
  phase = omega (arith, encoded_phase w s, phase-small s.phase);
  letters = λ q h. omega (arith, encoded_letter w s q h, letter-small (s.letters q));
  weight = encoded_weight w s ∙ sym (weight_ext w (decode_row w (encode_row w s)) s (encoded_back w s));
}

pub row_back : (w : ℕ) (s : PauliString) → Within w s → decode_row w (encode_row w s) ≡ s
row_back w s within =
    string_ext (decode_row w (encode_row w s)) s (row_phase_at w (encode_row w s) ∙ ap phase_of (encoded_phase w s) ∙ phase-back s.phase)
    (λ q. elim (dec_lt q w) [
      | yes l ↦ encoded_back w s q l
      | no l ↦ let h : w ≤ q = omega arith in row_within w (encode_row w s) q h ∙ sym (within q h)
    ])

pub row_there : {w : ℕ} {b : List ℕ} → FormedRow w b → encode_row w (decode_row w b) ≡ b
row_there {w} {b} f = sym (
    row-bytes w b (decode_row w b) f.long (sym (phase_there (get_or b 0 0) f.phase) ∙ ap phase_byte (sym (row_phase_at w b))) f.weight (row-letter_byte f))

-- ---- its phase and its letters are a string's bytes
pub row-string : {w : ℕ} {b : List ℕ} → FormedRow w b → WellFormed w (get_or b 0 0 ∷ letters_of b)
row-string {w} {b} f = record { long = ap suc (letters-long w b f.long); small = bytes }
  where
    bytes : (k : ℕ) → k < suc (length (letters_of b)) → get_or (get_or b 0 0 ∷ letters_of b) k 0 ≤ 3
    bytes zero h = f.phase
    bytes (suc q) h = omega (arith, letters-at b q, f.letters q (omega (arith, letters-long w b f.long)))

pub row_as_string_lem : (w : ℕ) (b : List ℕ) → decode_row w b ≡ decode_string w (get_or b 0 0 ∷ letters_of b)
row_as_string_lem w b =
    let s : List ℕ = get_or b 0 0 ∷ letters_of b in
    string_ext (decode_row w b) (decode_string w s) (row_phase_at w b ∙ sym (decode_phase w s))
    (λ q. elim (dec_lt q w) [
      | yes l ↦ row-letter_at w b q l ∙ sym (decode_letter w s q l ∙ read q)
      | no l ↦ let h : w ≤ q = omega arith in row_within w b q h ∙ sym (decode_within w s q h)
    ])
  where
    read : (q : ℕ) → letter_of (get_or (letters_of b) q 0) ≡ letter_in b q
    read q = unfold letter_in in ap letter_of (letters-at b q)

-- the bytes of a string of its letters, made a row
pub row_of-work : {w n : ℕ} {d : List ℕ} → WellFormed w d → w ≤ 255 → n ≡ letter_count (drop 1 d) % 256 → encode_row w (decode_string w d) ≡ get_or d 0 0 ∷ n ∷ drop 1 d
unfolding row_length letter_place
row_of-work {w} {n} {d} f h e = sym (
    row-bytes w (get_or d 0 0 ∷ n ∷ drop 1 d) (decode_string w d) (ap (λ (k : ℕ). suc (suc k)) long)
    (sym (phase_there (get_or d 0 0) (f.small 0 (omega (arith, f.long)))) ∙ ap phase_byte (sym (decode_phase w d)))
    (e ∙ weight_of_row (decode_string w d) w (drop 1 d) h long read)
    (λ q l. at q ∙ sym (letter_there (get_or d (suc q) 0) (f.small (suc q) (omega (arith, f.long)))) ∙ ap letter_byte (sym (decode_letter w d q l))))
  where
    long : length (drop 1 d) ≡ w
    long = length-drop 1 d ∙ omega (arith, f.long)

    at : (q : ℕ) → get_or (drop 1 d) q 0 ≡ get_or d (suc q) 0
    at q = let z : 1 + q ≡ suc q = omega arith in get_or-drop 1 d q 0 ∙ ap (λ (j : ℕ). get_or d j 0) z

    read : (q : ℕ) → q < w → letter_at (drop 1 d) q ≡ (decode_string w d).letters q
    read q l = unfold letter_at in ap letter_of (at q) ∙ sym (decode_letter w d q l)

-- ---- a change of the row at the front of b: it keeps the length, and what comes after the row
pub record RowChange (w : ℕ) (f : List ℕ → List ℕ) : Type 0 where
  pub long : (b : List ℕ) → length (f b) ≡ length b
  pub front : (b : List ℕ) → row_length w ≤ length b → f b ≡ f (take (row_length w) b) ++ drop (row_length w) b

change_set : {w : ℕ} (k x : ℕ) → k < row_length w → RowChange w (λ b. set b k x)
change_set {w} k x h = record {
  long = λ b. length-set b k x;
  front = λ b l. ap (λ (c : List ℕ). set c k x) (sym (take-append-drop (row_length w) b))
      ∙ set-append_left (take (row_length w) b) (drop (row_length w) b) k x (omega (arith, length-take-le (row_length w) b l));
}

-- one after another
change_after : {w : ℕ} {f g : List ℕ → List ℕ} → RowChange w f → RowChange w g → RowChange w (λ b. f (g b))
change_after {w} {f} {g} cf cg = record {
  long = λ b. cf.long (g b) ∙ cg.long b;
  front = λ b l.
      let a : List ℕ = take (row_length w) b in
      let c : List ℕ = drop (row_length w) b in
      let same : length (g a) ≡ row_length w = cg.long a ∙ length-take-le (row_length w) b l in
      cf.front (g b) (omega (arith, cg.long b)) ∙ ap (λ (d : List ℕ). f (take (row_length w) d) ++ drop (row_length w) d) (cg.front b l)
      ∙ ap₂ (λ (d e : List ℕ). f d ++ e) (take_at (g a) c (row_length w) same) (drop_at (g a) c (row_length w) same);
}

-- by what is read of the row
pub change_by : {w : ℕ} {A : Type 0} (read : List ℕ → A) (f : A → List ℕ → List ℕ) → ((b : List ℕ) → read b ≡ read (take (row_length w) b))
    → ((x : A) → RowChange w (f x)) → RowChange w (λ b. f (read b) b)
change_by {w} read f same c = record {
  long = λ b. (c (read b)).long b;
  front = λ b l. (c (read b)).front b l ∙ ap (λ x. f x (take (row_length w) b) ++ drop (row_length w) b) (same b);
}

pub byte_front : (w k : ℕ) → k < row_length w → (b : List ℕ) → get_or b k 0 ≡ get_or (take (row_length w) b) k 0
byte_front w k h b = sym (get_or-take (row_length w) b k 0 h)

pub letter_front : (w q : ℕ) → q < w → (b : List ℕ) → letter_in b q ≡ letter_in (take (row_length w) b) q
unfolding letter_in
letter_front w q h b = ap letter_of (byte_front w (letter_place q) (letter_in-row w q h) b)

-- the changes that gates make
pub change_letter : {w q : ℕ} (p x : ℕ) → q < w → RowChange w (row_with q p x)
unfolding row_with
change_letter {w} {q} p x h = change_after (change_set (letter_place q) x (letter_in-row w q h)) (change_set 0 p (omega (arith, row-some w)))

pub change_pair : {w q r : ℕ} (p v x y : ℕ) → q < w → r < w → RowChange w (row_with_pair q r p v x y)
unfolding row_with_pair
change_pair {w} {q} {r} p v x y hq hr =
    change_after (change_set (letter_place r) y (letter_in-row w r hr)) (change_after (change_letter p x hq) (change_set weight_place v (row-some w)))

pub length_with : (q p x : ℕ) (b : List ℕ) → length (row_with q p x b) ≡ length b
unfolding row_with
length_with q p x b = simp length-set

pub length-with_pair : (q r p v x y : ℕ) (b : List ℕ) → length (row_with_pair q r p v x y b) ≡ length b
unfolding row_with_pair
length-with_pair q r p v x y b = length-set (row_with q p x (set b weight_place v)) (letter_place r) y ∙ length_with q p x (set b weight_place v) ∙ length-set b weight_place v

-- ---- the bytes of a row with its phase and a letter changed
module _ {w q : ℕ} (p x : ℕ) (b : List ℕ) (long : length b ≡ row_length w) (h : q < w) where
  with_letter_lem : get_or (row_with q p x b) (letter_place q) 0 ≡ x
  unfolding row_with
  with_letter_lem = get_or-set_same (set b 0 p) (letter_place q) x 0 (omega (arith, length-set b 0 p, letter_in-row w q h))

  with_phase : get_or (row_with q p x b) 0 0 ≡ p
  unfolding row_with
  with_phase = get_or-set_other (set b 0 p) (letter_place q) 0 x 0 (omega (arith, place_is q)) ∙ get_or-set_same b 0 p 0 (omega (arith, row-some w))

  with_other : (k : ℕ) → k ≢ 0 → k ≢ letter_place q → get_or (row_with q p x b) k 0 ≡ get_or b k 0
  unfolding row_with
  with_other k d e = get_or-set_other (set b 0 p) (letter_place q) k x 0 e ∙ get_or-set_other b 0 k p 0 d

apart : {i j : ℕ} → i ≢ j → letter_place i ≢ letter_place j
apart {i} {j} d e = d (omega (arith, place_is i, place_is j))

-- and with two letters and the weight
module _ {w q r : ℕ} (p v x y : ℕ) (b : List ℕ) (long : length b ≡ row_length w) (hq : q < w) (hr : r < w) where
  abbrev weighed : List ℕ
  weighed = set b weight_place v

  abbrev first : List ℕ
  first = row_with q p x weighed

  weighed-long : length weighed ≡ row_length w
  weighed-long = length-set b weight_place v ∙ long

  pair_second : get_or (row_with_pair q r p v x y b) (letter_place r) 0 ≡ y
  unfolding row_with_pair
  pair_second = get_or-set_same first (letter_place r) y 0 (omega (arith, length_with q p x weighed, weighed-long, letter_in-row w r hr))

  pair_first : q ≢ r → get_or (row_with_pair q r p v x y b) (letter_place q) 0 ≡ x
  unfolding row_with_pair
  pair_first d = get_or-set_other first (letter_place r) (letter_place q) y 0 (apart d) ∙ with_letter_lem p x weighed weighed-long hq

  pair_phase : get_or (row_with_pair q r p v x y b) 0 0 ≡ p
  unfolding row_with_pair
  pair_phase = get_or-set_other first (letter_place r) 0 y 0 (omega (arith, place_is r)) ∙ with_phase p x weighed weighed-long hq

  pair_weight_lem : get_or (row_with_pair q r p v x y b) weight_place 0 ≡ v
  unfolding row_with_pair
  pair_weight_lem =
      get_or-set_other first (letter_place r) weight_place y 0 (omega (arith, place_is r))
      ∙ with_other p x weighed weighed-long hq weight_place (omega arith) (omega (arith, place_is q)) ∙ get_or-set_same b weight_place v 0 (omega (arith, row-some w))

  pair_other : (k : ℕ) → k ≢ q → k ≢ r → get_or (row_with_pair q r p v x y b) (letter_place k) 0 ≡ get_or b (letter_place k) 0
  unfolding row_with_pair
  pair_other k d e =
      get_or-set_other first (letter_place r) (letter_place k) y 0 (apart e)
      ∙ with_other p x weighed weighed-long hq (letter_place k) (omega (arith, place_is k)) (apart d)
      ∙ get_or-set_other b weight_place (letter_place k) v 0 (omega (arith, place_is k))

-- ---- the weight of a string after a letter changed, and after two
one_changed : (w q : ℕ) (l : Letter) (f : ℕ → Letter) → q < w
    → count_to w (λ k. not_i (with_letter q l f k)) + cond (not_i (f q)) 1 0 ≡ count_to w (λ k. not_i (f k)) + cond (not_i l) 1 0
one_changed w q l f h =
    count_changed w (λ k. not_i (f k)) (λ k. not_i (with_letter q l f k)) q h (λ k d. ap not_i (sym (with_off q l f k d)))
    ∙ ap (λ x. count_to w (λ k. not_i (f k)) + cond (not_i x) 1 0) (with_at q l f q refl)

weight_kept : {w q : ℕ} (u : PauliString) (i : Image) → q < w → not_i i.letter ≡ not_i (u.letters q) → weight_to w (image_at q i u) ≡ weight_to w u
unfolding weight_to has_letter image_at
weight_kept {w} {q} u i h kept = omega (arith, one_changed w q i.letter u.letters h, ap {B = ℕ} (λ c. cond c 1 0) kept)

module _ {w q r : ℕ} (u : PauliString) (i : PairImage) (hq : q < w) (hr : r < w) (d : q ≢ r) where
  weight_changed : weight_to w (pair_at q r i u) + pair_weight (u.letters q) (u.letters r) ≡ weight_to w u + pair_weight i.first i.second
  unfolding weight_to has_letter pair_weight pair_at
  weight_changed =
      omega (
        arith,
        one_changed w r i.second u.letters hr,
        one_changed w q i.first (with_letter r i.second u.letters) hq,
        ap {B = ℕ} (λ x. cond (not_i x) 1 0) (with_off r i.second u.letters q d),
      )

  weight_by : w ≤ 255 → (weight_to w u + weight_change (u.letters q) (u.letters r) i) % 256 ≡ weight_to w (pair_at q r i u)
  unfolding weight_change
  weight_by h = omega (arith, weight_changed, weight-small w (pair_at q r i u), pair_small (u.letters q) (u.letters r))

-- ---- the bytes of a row are changed as its string is: by the image of a letter
module _ {w q : ℕ} (i : Image) {b : List ℕ} (f : FormedRow w b) (h : q < w) (kept : not_i i.letter ≡ not_i ((decode_row w b).letters q)) where
  pub image_bytes_lem : encode_row w (image_at q i (decode_row w b)) ≡ with_image q i b
  image_bytes_lem = sym (row-bytes w (with_image q i b) moved long phase weight letter)
    where
      moved : PauliString
      moved = image_at q i (decode_row w b)

      long : length (with_image q i b) ≡ row_length w
      long = unfold with_image in length_with q _ _ b ∙ f.long

      phase : get_or (with_image q i b) 0 0 ≡ phase_byte moved.phase
      phase = unfold with_image image_at in with_phase _ _ b f.long h ∙ ap (λ p. phase_byte (p · i.phase)) (sym (row_phase_at w b))

      weight : get_or (with_image q i b) weight_place 0 ≡ weight_to w moved
      weight = unfold with_image in
          with_other _ _ b f.long h weight_place (omega arith) (omega (arith, place_is q)) ∙ f.weight ∙ sym (weight_kept (decode_row w b) i h kept)

      letter : (k : ℕ) → k < w → get_or (with_image q i b) (letter_place k) 0 ≡ letter_byte (moved.letters k)
      letter k l = unfold with_image image_at in elim (ℕ_discrete k q) [
        | yes e ↦ ap (λ j. get_or (with_image q i b) (letter_place j) 0) e ∙ with_letter_lem _ _ b f.long h ∙ ap letter_byte (sym (with_at q i.letter _ k e))
        | no d ↦ with_other _ _ b f.long h (letter_place k) (omega (arith, place_is k)) (apart d) ∙ row-letter_byte f k l
            ∙ ap letter_byte (sym (with_off q i.letter _ k d))
      ]

-- and by that of two
module _ {w q r : ℕ} (i : PairImage) {b : List ℕ} (f : FormedRow w b) (narrow : w ≤ 255) (hq : q < w) (hr : r < w) (d : q ≢ r) where
  pub pair_bytes_lem : encode_row w (pair_at q r i (decode_row w b)) ≡ with_pair q r i b
  pair_bytes_lem = sym (row-bytes w (with_pair q r i b) moved long phase weight letter)
    where
      string : PauliString
      string = decode_row w b

      moved : PauliString
      moved = pair_at q r i string

      long : length (with_pair q r i b) ≡ row_length w
      long = unfold with_pair in length-with_pair q r _ _ _ _ b ∙ f.long

      phase : get_or (with_pair q r i b) 0 0 ≡ phase_byte moved.phase
      phase = unfold with_pair pair_at in pair_phase _ _ _ _ b f.long hq hr ∙ ap (λ p. phase_byte (p · i.phase)) (sym (row_phase_at w b))

      weight : get_or (with_pair q r i b) weight_place 0 ≡ weight_to w moved
      weight = unfold with_pair in
          pair_weight_lem _ _ _ _ b f.long hq hr ∙ ap (λ (n : ℕ). (n + weight_change (letter_in b q) (letter_in b r) i) % 256) f.weight
          ∙ ap₂ (λ x y. (weight_to w string + weight_change x y i) % 256) (sym (row-letter_at w b q hq)) (sym (row-letter_at w b r hr))
          ∙ weight_by string i hq hr d narrow

      letter : (k : ℕ) → k < w → get_or (with_pair q r i b) (letter_place k) 0 ≡ letter_byte (moved.letters k)
      letter k l = unfold with_pair pair_at in elim (ℕ_discrete k r) [
        | yes e ↦ ap (λ j. get_or (with_pair q r i b) (letter_place j) 0) e ∙ pair_second _ _ _ _ b f.long hq hr
            ∙ ap letter_byte (sym (with_off q i.first _ k (λ z. d (sym z ∙ e)) ∙ with_at r i.second _ k e))
        | no e ↦ elim (ℕ_discrete k q) [
          | yes c ↦ ap (λ j. get_or (with_pair q r i b) (letter_place j) 0) c ∙ pair_first _ _ _ _ b f.long hq hr d
              ∙ ap letter_byte (sym (with_at q i.first _ k c))
          | no c ↦ pair_other _ _ _ _ b f.long hq hr k c e ∙ row-letter_byte f k l
              ∙ ap letter_byte (sym (with_off q i.first _ k c ∙ with_off r i.second _ k e))
        ]
      ]

-- ---- where the rows of a record are
pub first-offset : (w : ℕ) → row_offset w 0 ≡ 1
unfolding row_offset
first-offset w = omega (arith, zero-mul (row_length w))

pub next-offset : (w r : ℕ) → row_offset w r + row_length w ≡ row_offset w (suc r)
unfolding row_offset
next-offset w r = omega arith

pub all_rows : (w : ℕ) → row_offset w (2 * w) ≡ record_length w
unfolding row_offset record_length
all_rows w = refl

pub some_bytes : (w : ℕ) → 0 < record_length w
unfolding record_length
some_bytes w = omega arith

pub row_room : (w r : ℕ) → r < 2 * w → row_offset w r + row_length w ≤ record_length w
unfolding row_offset record_length
row_room w r h = omega (arith, mul-le-mul_right (row_length w) h)

pub length_part : (b : List ℕ) (w r : ℕ) → w ≡ width_of b → length b ≡ record_length w → r < 2 * w → length (row_part b r) ≡ row_length w
unfolding row_part
length_part b w r e long h =
    ap (λ (v : ℕ). length (take (row_length v) (drop (row_offset v r) b))) (sym e)
    ∙ length-take-le (row_length w) (drop (row_offset w r) b) (omega (arith, length-drop (row_offset w r) b, row_room w r h))

-- ---- the rows of a tableau: X rows, then Z rows
pub row-x : (t : Tableau) (q : ℕ) → q < t.width → row_of t q ≡ t.x_image q
unfolding row_of
row-x t q h = ap (λ b. cond b (t.x_image q) (t.z_image (q - t.width))) (lt-ltb q t.width h)

pub row-z : (t : Tableau) (q : ℕ) → row_of t (t.width + q) ≡ t.z_image q
unfolding row_of
row-z t q =
    ap (λ b. cond b (t.x_image (t.width + q)) (t.z_image (t.width + q - t.width))) (le-ltb (t.width + q) t.width (omega arith))
    ∙ (let e : t.width + q - t.width ≡ q = omega arith in ap t.z_image e)

-- a law of the rows by the two kinds
rows_by : (t : Tableau) (P : ℕ → Type 0) → ((q : ℕ) → q < t.width → P q) → ((q : ℕ) → P (t.width + q)) → (r : ℕ) → P r
rows_by t P x z r = elim (dec_lt r t.width) [
  | yes l ↦ x r l
  | no l ↦ let e : t.width + (r - t.width) ≡ r = omega arith in subst P e (z (r - t.width))
]

pub rows_same : (t u : Tableau) → Same t u → (r : ℕ) → r < 2 * t.width → row_of t r ≡ row_of u r
rows_same t u e =
    rows_by t (λ r. r < 2 * t.width → row_of t r ≡ row_of u r)
    (λ q l h. row-x t q l ∙ e.x_image q l ∙ sym (row-x u q (omega (arith, e.width))))
    (λ q h. row-z t q ∙ e.z_image q (omega arith) ∙ sym (row-z u q) ∙ ap (λ (j : ℕ). row_of u (j + q)) (sym e.width))

pub same_rows : (t u : Tableau) → t.width ≡ u.width → ((r : ℕ) → r < 2 * t.width → row_of t r ≡ row_of u r) → Same t u
same_rows t u w e = record {
  width = w;
  x_image = λ q l. sym (row-x t q l) ∙ e q (omega arith) ∙ row-x u q (omega arith);
  z_image = λ q l. sym (row-z t q) ∙ e (t.width + q) (omega arith) ∙ ap (λ (j : ℕ). row_of u (j + q)) w ∙ row-z u q;
}

pub rows-within : (t : Tableau) → Proper t → (r : ℕ) → r < 2 * t.width → Within t.width (row_of t r)
rows-within t p =
    rows_by t (λ r. r < 2 * t.width → Within t.width (row_of t r))
    (λ q l h. subst (Within t.width) (sym (row-x t q l)) (p.x_within q l))
    (λ q h. subst (Within t.width) (sym (row-z t q)) (p.z_within q (omega arith)))

-- ---- the rows of a record, whatever its bytes
pub width_of_lem : (b : List ℕ) → (tableau_of b).width ≡ width_of b
unfolding tableau_of
width_of_lem b = refl

row_decoded : (b : List ℕ) (r : ℕ) → row_of (tableau_of b) r ≡ decode_row (width_of b) (row_part b r)
unfolding tableau_of
row_decoded b =
    rows_by (tableau_of b) (λ r. row_of (tableau_of b) r ≡ decode_row (width_of b) (row_part b r)) (λ q l. row-x (tableau_of b) q l) (λ q. row-z (tableau_of b) q)

pub row_part_lem : (b : List ℕ) (r : ℕ) → r < 2 * width_of b → row_of (tableau_of b) r ≡ decode_row (width_of b) (row_part b r)
row_part_lem b r h = row_decoded b r

pub row-phase : (b : List ℕ) (r : ℕ) → (row_of (tableau_of b) r).phase ≡ phase_of (get_or (row_part b r) 0 0)
row-phase b r = ap (λ s. s.phase) (row_decoded b r) ∙ row_phase_at (width_of b) (row_part b r)

pub row-letter : (b : List ℕ) (r q : ℕ) → q < width_of b → (row_of (tableau_of b) r).letters q ≡ letter_in (row_part b r) q
row-letter b r q h = ap (λ s. s.letters q) (row_decoded b r) ∙ row-letter_at (width_of b) (row_part b r) q h

pub row_inside : (b : List ℕ) (r : ℕ) → Within (width_of b) (row_of (tableau_of b) r)
row_inside b r q h = ap (λ s. s.letters q) (row_decoded b r) ∙ row_within (width_of b) (row_part b r) q h

-- ---- a row read by letter, whatever the bytes
pub get_d_part : (b : List ℕ) (r k : ℕ) → k < row_length (width_of b) → get_or (row_part b r) k 0 ≡ get_or b (row_offset (width_of b) r + k) 0
unfolding row_part
get_d_part b r k h = get_or-take (row_length (width_of b)) (drop (row_offset (width_of b) r) b) k 0 h ∙ get_or-drop (row_offset (width_of b) r) b k 0

pub capped_letter : (x : ℕ) → min x 3 ≡ letter_byte (letter_of x)
unfolding letter_byte letter_of
capped_letter zero = omega arith
capped_letter (suc zero) = omega arith
capped_letter (suc (suc zero)) = omega arith
capped_letter (suc (suc (suc x))) = omega arith

pub capped_phase : (x : ℕ) → min x 3 ≡ phase_byte (phase_of x)
unfolding phase_byte phase_of
capped_phase zero = omega arith
capped_phase (suc zero) = omega arith
capped_phase (suc (suc zero)) = omega arith
capped_phase (suc (suc (suc x))) = omega arith

pub read_own : (b : List ℕ) (r : ℕ) → width_of b ≤ 128 → r < 2 * width_of b → read_row b r ≡ row_of (tableau_of b) r
unfolding read_row qubits
read_own b r n h = ap₂ (λ x y. cond (x && y) (row_of (tableau_of b) r) identity_string) (le-leb (width_of b) 128 n) (lt-ltb r (2 * width_of b) h)

pub read_wide : (b : List ℕ) (r : ℕ) → 128 < width_of b → read_row b r ≡ identity_string
unfolding read_row qubits
read_wide b r h = ap (λ x. cond (x && ltb r (2 * width_of b)) (row_of (tableau_of b) r) identity_string) (lt-leb (width_of b) 128 h)

pub read_over : (b : List ℕ) (r : ℕ) → width_of b ≤ 128 → 2 * width_of b ≤ r → read_row b r ≡ identity_string
unfolding read_row qubits
read_over b r n h = ap₂ (λ x y. cond (x && y) (row_of (tableau_of b) r) identity_string) (le-leb (width_of b) 128 n) (le-ltb r (2 * width_of b) h)

-- ---- the rows of a formed one
module _ {b : List ℕ} {r : ℕ} (o : OwnRow b r) where
  pub own_row : FormedRow (width_of b) (row_part b r)
  own_row = o.tableau.rows r o.own

  pub own-some : {p : List ℕ} → p ≡ row_part b r → 0 < length p
  own-some e = omega (arith, ap length e, own_row.long, row-some (width_of b))

  pub own-more : {p : List ℕ} → p ≡ row_part b r → 1 < length p
  own-more e = omega (arith, ap length e, own_row.long, row-some (width_of b))

  pub own_letters_long : length (row_letters b r) ≡ width_of b
  unfolding row_letters
  own_letters_long = letters-long (width_of b) (row_part b r) own_row.long

  -- its letter on qubit q, as a byte of the row and of its letters
  pub own-letter : (q : ℕ) → q < width_of b → get_or (row_part b r) (letter_place q) 0 ≡ letter_byte ((row_of (tableau_of b) r).letters q)
  own-letter q h = row-letter_byte own_row q h ∙ ap (λ s. letter_byte (s.letters q)) (sym (row_decoded b r))

  pub own-letter_byte : (q : ℕ) → q < width_of b → get_or (row_letters b r) q 0 ≡ letter_byte ((row_of (tableau_of b) r).letters q)
  unfolding row_letters
  own-letter_byte q h = letters-at (row_part b r) q ∙ own-letter q h

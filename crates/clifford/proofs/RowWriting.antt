-- Records written row by row: what a loop over the rows has written before row r, and a row written from a work row.
use Rattle.std.proofs.Common.{◌≡◌, ℕ, zero, suc, ◌+◌, ◌-◌, ◌*◌, ◌<◌, ◌≤◌, Bool, true, false, cond, ltb, List, ◌∷◌, ◌++◌, length, take, drop, set, sym, refl, ap, ◌∙◌, subst, ap₂, le_refl, arith, length-set, get_or-set_same, drop-set-lt, le-ltb, lt-ltb, Ok}
use native.Mathlib.Decide.{dec_lt}
use borrow.Rule.Slice.PartMut.{put_mid}
use Rattle.pauli_group.specs.Letter.{Letter, X, Z}
use Rattle.pauli_group.specs.PauliString.{PauliString, Within}
use Rattle.clifford_group.specs.Tableau.{Tableau}
use Rattle.pauli.specs.Answers.{written}
use Rattle.pauli.specs.Layout.{letter_byte, letter_of, encode_string, decode_string, WellFormed}
use Rattle.pauli.proofs.Places.{from}
use Rattle.pauli.proofs.Records.{letter-back, length_encode, encode_formed, decode_encode}
use Rattle.clifford.specs.Layout.{row_length, encode_row, row_offset, record_length, row_of, joined, width_of, tableau_record, FormedTableau, row_qubit, row_letter}
use Rattle.clifford.specs.Inside.Rows.{Sized, RowIndex, Finished, row_written, letters_in, string_in}
use Rattle.clifford.proofs.Rows.{length-row, some_bytes}
use Rattle.clifford.proofs.RowBytes.{BytesTo, bytes-none, bytes-room, bytes_start, bytes_index, bytes-more, bytes_kept, bytes_all, bytes_end}
use Rattle.clifford.proofs.Records.{length-record}

-- ---- the rows before r stand in d, and then what stood in d₀
pub record RowsTo (w : ℕ) (f : ℕ → PauliString) (d₀ : List ℕ) (r : ℕ) (d : List ℕ) : Type 0 where
  pub rows : BytesTo w (λ i. encode_row w (f i)) d₀ r d

pub rows_none : (w : ℕ) (f : ℕ → PauliString) (d : List ℕ) → w ≤ 128 → record_length w ≤ length d → RowsTo w f (set d 0 w) 0 (set d 0 w)
rows_none w f d n h = record {
  rows = bytes-none w (λ i. encode_row w (f i)) (set d 0 w) n (omega (arith, length-set d 0 w)) (get_or-set_same d 0 w 0 (omega (arith, some_bytes w))) (λ i l. length-row w (f i));
}

pub rows-room : {w : ℕ} {f : ℕ → PauliString} {d₀ : List ℕ} {r : ℕ} (d : List ℕ) (at : ℕ) → RowsTo w f d₀ r d → r < 2 * w → Sized (row_offset w r) at
    → row_length w ≤ length (from at d)
rows-room d at m h s = bytes-room m.rows h s

pub rows_start : {w : ℕ} {f : ℕ → PauliString} {d₀ : List ℕ} {r : ℕ} {d : List ℕ} {at : ℕ} → RowsTo w f d₀ r d → r < 2 * w
    → Sized (row_offset w r) at → at ≤ length d
rows_start m h s = bytes_start m.rows h s

pub rows_index : {w : ℕ} {f : ℕ → PauliString} {d₀ : List ℕ} {r : ℕ} {d : List ℕ} → RowsTo w f d₀ r d → r < 2 * w → RowIndex w r
rows_index m h = bytes_index m.rows h

pub rows-length : {w : ℕ} {f : ℕ → PauliString} (d : List ℕ) {r : ℕ} {e : List ℕ} → RowsTo w f (set d 0 w) r e → length e ≡ length d
rows-length {w} {f} d m = m.rows.long ∙ length-set d 0 w

-- `&mut d[at..]` was lent, and came back with the row at its front
pub rows_more : {w : ℕ} {f : ℕ → PauliString} {d₀ : List ℕ} {r : ℕ} {d : List ℕ} {at : ℕ} {ys : List ℕ} → RowsTo w f d₀ r d
    → r < 2 * w → Sized (row_offset w r) at
    → ys ≡ row_written w (f r) (from at d) → RowsTo w f d₀ (r + 1) (put_mid at (length d - at) d ys)
unfolding row_written
rows_more m h s k = record { rows = bytes-more m.rows h s k }

pub rows_all : (t : Tableau) {w : ℕ} (d : List ℕ) {r : ℕ} {e : List ℕ} → t.width ≡ w → RowsTo w (row_of t) (set d 0 w) r e → 2 * w ≤ r
    → e ≡ written (Ok tt) (tableau_record t) d
unfolding written tableau_record
rows_all t {w} d {r} {e} et m h =
    let rows : ℕ → ℕ → List ℕ = λ v i. encode_row v (row_of t i) in
    bytes_all m.rows h
    ∙ ap (λ (l : List ℕ). (w ∷ joined (2 * w) (rows w)) ++ l) (drop-set-lt (record_length w) d 0 w (some_bytes w))
    ∙ ap (λ (v : ℕ). (v ∷ joined (2 * v) (rows v)) ++ drop (record_length v) d) (sym et)
    ∙ ap (λ (j : ℕ). tableau_record t ++ drop j d) (sym (length-record t))

-- rows that d₀ holds already
pub rows_kept_to : {w : ℕ} {f : ℕ → PauliString} {d₀ : List ℕ} {r : ℕ} {d : List ℕ} (k : ℕ) → RowsTo w f d₀ r d → r + k ≤ 2 * w
    → ((i : ℕ) → r ≤ i → i < r + k → take (row_length w) (drop (row_offset w i) d₀) ≡ encode_row w (f i)) → RowsTo w f d₀ (r + k) d
rows_kept_to {w} {f} {d₀} {r} {d} zero m h each = let e : r ≡ r + 0 = omega arith in subst (λ (j : ℕ). RowsTo w f d₀ j d) e m
rows_kept_to {w} {f} {d₀} {r} {d} (suc k) m h each =
    let e : suc (r + k) ≡ r + suc k = omega arith in
    let before : RowsTo w f d₀ (r + k) d = rows_kept_to k m (omega arith) (λ i a b. each i a (omega arith)) in
    subst (λ (j : ℕ). RowsTo w f d₀ j d) e (record { rows = bytes_kept before.rows (omega arith) (each (r + k) (omega arith) (omega arith)) })

-- a record, with none of its rows looked at yet
pub rows-own : {b : List ℕ} (f : ℕ → PauliString) → FormedTableau b → RowsTo (width_of b) f b 0 b
rows-own {b} f o = record {
  rows = bytes-none (width_of b) (λ i. encode_row (width_of b) (f i)) b o.narrow (omega (arith, o.long)) refl (λ i l. length-row (width_of b) (f i));
}

pub rows_end : (t : Tableau) {w : ℕ} {d₀ : List ℕ} {e : List ℕ} → t.width ≡ w → length d₀ ≡ record_length w
    → RowsTo w (row_of t) d₀ (2 * w) e → e ≡ tableau_record t
unfolding tableau_record
rows_end t {w} {d₀} et long m =
    bytes_end m.rows (le_refl (2 * w)) long ∙ ap (λ (v : ℕ). v ∷ joined (2 * v) (λ i. encode_row v (row_of t i))) (sym et)

-- ---- the generator of row r, and rows that are made from generators
pub letter_of-row : (w r : ℕ) {l : ℕ} → l ≡ letter_byte (row_letter w r) → letter_of l ≡ row_letter w r
letter_of-row w r e = ap letter_of e ∙ letter-back (row_letter w r)

-- the byte of X or of Z
pub record IsGenerator (l : ℕ) : Type 0 where
  pub some : 0 < l
  pub small : l < 3

generator_of : (b : Bool) {l : ℕ} → l ≡ letter_byte (cond b X Z) → IsGenerator l
unfolding letter_byte
generator_of true e = record { some = omega arith; small = omega arith }
generator_of false e = record { some = omega arith; small = omega arith }

pub generator-is : (w r : ℕ) {l : ℕ} → l ≡ letter_byte (row_letter w r) → IsGenerator l
unfolding row_letter
generator-is w r e = generator_of (ltb r w) e

pub qubit-below : (w r : ℕ) {q : ℕ} → q ≡ row_qubit w r → r < 2 * w → q < w
unfolding row_qubit
qubit-below w r {q} e h = elim (dec_lt r w) [
  | yes l ↦ omega (arith, e ∙ ap (λ b. cond b r (r - w)) (lt-ltb r w l))
  | no l ↦ omega (arith, e ∙ ap (λ b. cond b r (r - w)) (le-ltb r w (omega arith)))
]

pub row_made : (t : Tableau) (f : ℕ → Letter → PauliString) → ((q : ℕ) → t.x_image q ≡ f q X) → ((q : ℕ) → t.z_image q ≡ f q Z)
    → (w r : ℕ) → t.width ≡ w → r < 2 * w → row_of t r ≡ f (row_qubit w r) (row_letter w r)
unfolding row_of row_qubit row_letter
row_made t f x z w r e h = elim (dec_lt r w) [
  | yes l ↦ ap (λ (j : ℕ). cond (ltb r j) (t.x_image r) (t.z_image (r - j))) e ∙ ap (λ b. cond b (t.x_image r) (t.z_image (r - w))) (lt-ltb r w l)
      ∙ x r ∙ sym (ap (λ b. f (cond b r (r - w)) (cond b X Z)) (lt-ltb r w l))
  | no l ↦ ap (λ (j : ℕ). cond (ltb r j) (t.x_image r) (t.z_image (r - j))) e ∙ ap (λ b. cond b (t.x_image r) (t.z_image (r - w))) (le-ltb r w (omega arith))
      ∙ z (r - w) ∙ sym (ap (λ b. f (cond b r (r - w)) (cond b X Z)) (le-ltb r w (omega arith)))
]

-- ---- finished rows
pub encoded_row : (w : ℕ) {k : List ℕ} (s : PauliString) → length k ≡ suc w → k ≡ encode_string w s → Within w s → string_in k ≡ s
encoded_row w {k} s long e h =
    let same : letters_in k ≡ w = omega arith in
    ap (λ (j : ℕ). decode_string j k) same ∙ ap (decode_string w) e ∙ decode_encode w s h

pub encoded_formed : (w : ℕ) {k : List ℕ} (s : PauliString) → k ≡ encode_string w s → WellFormed (letters_in k) k
encoded_formed w {k} s e =
    let long : length k ≡ suc w = ap length e ∙ length_encode w s in
    let same : w ≡ letters_in k = omega arith in
    subst (λ (j : ℕ). WellFormed j k) same (subst (WellFormed w) (sym e) (encode_formed w s))

-- a row of the string that a work row holds is written
pub put_row : (w : ℕ) {k e : List ℕ} (out : List ℕ) (s : PauliString) → k ≡ encode_string w s → Within w s
    → e ≡ row_written (letters_in k) (string_in k) out → e ≡ row_written w s out
put_row w {k} out s ek h e =
    let long : length k ≡ suc w = ap length ek ∙ length_encode w s in
    let same : letters_in k ≡ w = omega arith in
    e ∙ ap₂ (λ (j : ℕ) (u : PauliString). row_written j u out) same (encoded_row w s long ek h)

pub put_room : (w : ℕ) {k out : List ℕ} (s : PauliString) → k ≡ encode_string w s → w ≤ 128 → row_length w ≤ length out → Finished k out
put_room w {k} {out} s ek n h =
    let long : length k ≡ suc w = ap length ek ∙ length_encode w s in
    let same : w ≡ letters_in k = omega arith in
    record { row = encoded_formed w s ek; narrow = omega arith; room = subst (λ (j : ℕ). row_length j ≤ length out) same h }

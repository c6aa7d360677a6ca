-- The functions of `layout.rt` by their code: the places where it reads and writes are those of the layout. No other file of laws
-- knows these places.
use Rattle.std.proofs.Common.{◌≡◌, ℕ, suc, ◌+◌, ◌-◌, ◌*◌, ◌%◌, ◌<◌, ◌≤◌, min, cond, eqb, leb, List, [], ◌∷◌, ◌++◌, length, get_or, take, drop, set, sym, refl, ap, ◌∙◌, subst, ap₂, append-nil, not-suc-le-zero, arith, length-append, length-drop, length-set, drop_of_length-le, length-take, take_all, ext_get_or, w64, Fits, rules, le-ltb, lt-ltb, le-leb, Bool, Ok, Err, IsErrAnd, true}
use lib.ListN.{get_or-eq_default}
use borrow.Rule.Slice.PartMut.{put_mid}
use borrow.Author.Tests.{lt-leb}
use Rattle.pauli_group.specs.PauliString.{qubits, mul, identity_string, weight_to}
use Rattle.clifford_group.specs.Conjugation.{Generator, of_x, of_z, row}
use Rattle.pauli.specs.Layout.{phase_byte, phase_of, letter_byte, encode_string}
use Rattle.pauli.specs.Rows.{phase_bytes_product, RowTimes, letter_count, largest_to, Scanned, shorter, copied}
use Rattle.pauli.proofs.Places.{length-listed, get_d_listed, from, from_is, length_from, none_bad}
use Rattle.pauli.proofs.StringProducts.{row-product, row_product-is}
use Rattle.clifford.specs.Layout.{letter_place, row_length, letters_of, decode_row, row_offset, record_length, longest_record, row_of, width_of, row_part, tableau_of, read_row, generator_row, letter_in, row_with, row_with_pair, FormedTableau}
use Rattle.pauli.specs.Places.{listed}
use Rattle.clifford.specs.Inside.Rows.{letter_bytes, Sized, RowIndex, SlotIndex, RowInside, RowAt, OwnQubit, row_answer, OwnRow, WorkRow, Finished, row_times, row_written, letters_in, string_in, row_letters}
use Rattle.clifford.proofs.Records.{record-small}
use Rattle.pauli.specs.declared.refusal.Refusal.TheVariants.{BadByte}
use Rattle.pauli.specs.declared.rows.LetterScan.{LetterScan}
use Rattle.pauli.specs.Questions.{ask, first_bad}
use Rattle.pauli.proofs.Asking.{asked_yes, asked_no, refused, passed}
use Rattle.clifford.specs.Questions.{row_question, true_weight}
use lib.Bits.{bit_xor}
use Rattle.clifford.specs.Playing.{table_entry, letter_table_on_row, pair_table_on_row}
use Rattle.clifford.proofs.Rows.{place_is, row-x, row-z, width_of_lem, row-some, letter_in-row, letters-from, row-letter, row-phase, row_inside, row_part_lem, row_room, row-string, row_as_string_lem, row_of-work, own_letters_long, own-letter_byte, get_d_part, capped_letter, capped_phase, read_own, read_wide, read_over, length_part, own_row, own-some, own-more, own-letter, weight_counted}
use Rattle.clifford.proofs.Asking.{bytes_bad, bytes_good}
use Rattle.pauli.specs.Answers.{Answer, answer_to}
use Rattle.pauli.specs.declared.refusal.Refusal.{Refusal}
use Rattle.pauli.proofs.Answers.{exit-is}

-- ---- the length of a record
pub record_sized : (w : ℕ) → w ≤ 128 → Sized (record_length w) (1 + 2 * w * (w + 2))
record_sized w h = let e : 1 + 2 * w * (w + 2) ≡ record_length w = unfolded in record { is = e; small = omega (arith, record-small w h) }
  where
    unfolded : 1 + 2 * w * (w + 2) ≡ record_length w
    unfolded = unfold record_length row_length letter_place in omega arith

-- ---- where rows are
row_end : (w r : ℕ) → RowIndex w r → 1 + r * (w + 2) + (w + 2) ≤ longest_record
unfolding row_offset record_length row_length letter_place
row_end w r i = omega (arith, row_room w r i.own, record-small w i.narrow)

offset-is : (w r : ℕ) → 1 + r * (w + 2) ≡ row_offset w r
unfolding row_offset row_length letter_place
offset-is w r = omega arith

pub offset_sized : (w r : ℕ) → RowIndex w r → Sized (row_offset w r) (1 + r * (w + 2))
offset_sized w r i = record { is = offset-is w r; small = omega (arith, row_end w r i) }

pub own-inside : {b : List ℕ} {r : ℕ} → OwnRow b r → RowInside b r
own-inside o = record { laid = record { narrow = o.tableau.narrow; long = o.tableau.long }; own = o.own }

pub part_end : {b : List ℕ} {r n at : ℕ} → RowInside b r → n ≡ width_of b → Sized (row_offset n r) at → at + (n + 2) ≤ length b
part_end {b} {r} {n} o e s =
    let long : length b ≡ record_length n = o.laid.long ∙ ap record_length (sym e) in
    omega (arith, s.is, row_room n r (omega (arith, o.own)), (let z : row_length n ≡ n + 2 = unfold row_length letter_place in omega arith in z))

pub part_is : {b : List ℕ} {r n at : ℕ} → RowInside b r → n ≡ width_of b → Sized (row_offset n r) at → take (at + (n + 2) - at) (drop at b) ≡ row_part b r
unfolding row_part row_length letter_place
part_is {b} {r} {n} {at} o e s =
    let size : at + (n + 2) - at ≡ suc (suc n) = omega arith in
    ap₂ (λ (i : ℕ) (j : ℕ). take i (drop j b)) (size ∙ ap (λ (k : ℕ). suc (suc k)) e) (s.is ∙ ap (λ (j : ℕ). row_offset j r) e)

-- a row of b, and its part
pub inside_index : {b : List ℕ} {r n : ℕ} → RowInside b r → n ≡ width_of b → RowIndex n r
inside_index o e = record { narrow = omega (arith, o.laid.narrow); own = omega (arith, o.own) }

pub inside-long : {b p : List ℕ} {r : ℕ} → RowInside b r → p ≡ row_part b r → length p ≡ row_length (width_of b)
inside-long {b} {r = r} o e = ap length e ∙ length_part b (width_of b) r refl o.laid.long o.own

pub inside-more : {b p : List ℕ} {r : ℕ} → RowInside b r → p ≡ row_part b r → 1 < length p
inside-more {b} o e = omega (arith, inside-long o e, row-some (width_of b))

-- ---- the phase and the letters of a row
pub letters_read : (b : List ℕ) {p : List ℕ} (r : ℕ) → p ≡ row_part b r → from 2 p ≡ row_letters b r
unfolding row_letters
letters_read b {p} r e = letters-from p ∙ ap letters_of e

pub ruleset row_reads = (own-more, letters_read, own-inside, rules)

-- of a record that has passed the questions
module _ {b : List ℕ} {r : ℕ} (f : FormedTableau b) (h : r < 2 * width_of b) where
  pub formed-phase : {p : ℕ} → p ≡ phase_byte (read_row b r).phase → p ≡ phase_byte (row_of (tableau_of b) r).phase
  formed-phase e = e ∙ ap (λ s. phase_byte s.phase) (read_own b r f.narrow h)

  pub formed_letters : {l : List ℕ} → l ≡ row_letters b r → l ≡ letter_bytes (tableau_of b) r
  unfolding letter_bytes tableau_of
  formed_letters {l} e =
      let o : OwnRow b r = record { tableau = f; own = h } in
      let w : ℕ = width_of b in
      let long : length (row_letters b r) ≡ w = own_letters_long o in
      let byte : ℕ → ℕ = λ q. letter_byte ((row_of (tableau_of b) r).letters q) in
      e ∙ ext_get_or 0 (row_letters b r) (listed w byte) (long ∙ sym (length-listed w byte))
      (λ q k. own-letter_byte o q (omega arith) ∙ sym (get_d_listed w byte q 0 (omega arith)))

pub ruleset formed_rows = (formed-phase, formed_letters, rules)

-- ---- a qubit of such a record, and its rows
pub qubit_taken : {b : List ℕ} {q : ℕ} → FormedTableau b → q < width_of b → OwnQubit b q
qubit_taken f h = record { tableau = f; own = h }

pub qubit_before : {b : List ℕ} {q r : ℕ} → OwnQubit b q → r < q → OwnQubit b r
qubit_before o h = record { tableau = o.tableau; own = omega (arith, o.own) }

pub qubit-slot : {b : List ℕ} {q n : ℕ} → OwnQubit b q → n ≡ width_of b → SlotIndex n q
qubit-slot o e = record { narrow = omega (arith, e, o.tableau.narrow); own = omega (arith, e, o.own) }

pub generator-row : (g : Generator) {w q : ℕ} → q < w → generator_row g w q < 2 * w
generator-row of_x h = omega arith
generator-row of_z h = omega arith

row-generator : (g : Generator) (t : List ℕ) {q : ℕ} → q < width_of t → row_of (tableau_of t) (generator_row g (width_of t) q) ≡ row (tableau_of t) g q
row-generator of_x t {q} h = row-x (tableau_of t) q (omega (arith, width_of_lem t))
row-generator of_z t {q} h = ap (λ (j : ℕ). row_of (tableau_of t) (j + q)) (sym (width_of_lem t)) ∙ row-z (tableau_of t) q

module _ {b : List ℕ} {q : ℕ} (o : OwnQubit b q) (g : Generator) {n r : ℕ} (en : n ≡ width_of b) (er : r ≡ generator_row g n q) where
  pub row_place : r ≡ generator_row g (width_of b) q
  row_place = er ∙ ap (λ (j : ℕ). generator_row g j q) en

  pub row_taken : OwnRow b r
  row_taken = record { tableau = o.tableau; own = omega (arith, row_place, generator-row g o.own) }

  pub row_is : row_of (tableau_of b) r ≡ row (tableau_of b) g q
  row_is = ap (row_of (tableau_of b)) row_place ∙ row-generator g b o.own

pub ruleset qubit_rows = (qubit_taken, qubit_before, qubit-slot, row_place, row_taken, row_is, rules)

-- ---- one letter of a row
module _ {b : List ℕ} {r : ℕ} (f : FormedTableau b) (h : r < 2 * width_of b) where
  own : OwnRow b r
  own = record { tableau = f; own = h }

  pub letter-row : RowInside b r
  letter-row = own-inside own

  module _ {q : ℕ} (k : q < width_of b) {p : List ℕ} (e : p ≡ row_part b r) where
    pub letter-inside : q + 2 < length p
    letter-inside = omega (arith, place_is q, letter_in-row (width_of b) q k, ap length e, (own_row own).long)

    pub letter_read : get_or p (q + 2) 0 ≡ letter_byte ((row_of (tableau_of b) r).letters q)
    letter_read = ap₂ (λ (l : List ℕ) (j : ℕ). get_or l j 0) e (sym (place_is q)) ∙ own-letter own q k

pub ruleset letter_reads = (letter-row, letter-inside, letter_read, rules)

-- ---- question 3, put to a row
module _ (p : List ℕ) (at : ℕ) where
  pub codes_bad_phase : 3 < get_or p 0 0 → Err (BadByte at) ≡ row_question at p
  unfolding row_question
  codes_bad_phase h = refused _ (asked_no (BadByte at) (lt-leb (get_or p 0 0) 3 h)) refl

  module _ (h : get_or p 0 0 ≤ 3) where
    phase-good : Ok tt ≡ ask (leb (get_or p 0 0) 3) (BadByte at)
    phase-good = asked_yes (BadByte at) (le-leb (get_or p 0 0) 3 h)

    all_good : length (letters_of p) ≤ first_bad (letters_of p) → Ok tt ≡ row_question at p
    unfolding row_question
    all_good l = passed phase-good refl (bytes_good (at + letter_place 0) (letters_of p) l)

    pub codes-clean : {m : ℕ} → RowAt at p m → m < 4 → Ok tt ≡ row_question at p
    codes-clean o l = all_good (omega (arith, none_bad (letters_of p) o.largest l))

    pub codes_bad_letter : {k : ℕ} → k ≡ first_bad (from 2 p) → first_bad (from 2 p) < length (from 2 p) → Err (BadByte (at + 2 + k)) ≡ row_question at p
    unfolding row_question letter_place
    codes_bad_letter {k} ek l =
        let place : k ≡ first_bad (letters_of p) = ek ∙ ap first_bad (letters-from p) in
        ap (λ (j : ℕ). Err (BadByte (at + 2 + j))) place
        ∙ passed phase-good refl (bytes_bad (at + 2) (letters_of p) (omega (arith, place, ap length (letters-from p))))

    pub codes-good : (first_bad (from 2 p) < length (from 2 p) → ⊥) → Ok tt ≡ row_question at p
    codes-good l = all_good (omega (arith, l, ap first_bad (letters-from p), ap length (letters-from p)))

pub ruleset row_codes = (codes_bad_phase, codes-clean, codes_bad_letter, codes-good, rules)

-- and whether its weight is true
module _ {b : List ℕ} {r : ℕ} (o : RowInside b r) {n at : ℕ} (en : n ≡ width_of b) (s : Sized (row_offset n r) at) {p : List ℕ} (ep : p ≡ row_part b r)
    {l : LetterScan} (seen : Scanned (from 2 p) l) where
  pub row_at : RowAt at p l.largest
  unfolding row_length letter_place
  row_at = record {
    small = s.small;
    long = omega (arith, inside-long o ep);
    short = omega (arith, inside-long o ep, o.laid.narrow);
    largest = seen.largest ∙ ap (λ (x : List ℕ). largest_to (length x) x) (letters-from p);
  }

  pub row-weighed : eqb (get_or p 1 0) l.letters ≡ true_weight b r
  unfolding true_weight
  row-weighed =
      ap₂ (λ (x : List ℕ) (c : ℕ). eqb (get_or x 1 0) c) ep
      (weight_counted (width_of b) p (omega (arith, o.laid.narrow)) (inside-long o ep) (seen.letters ∙ ap (λ (x : List ℕ). letter_count x % 256) (letters-from p))
      ∙ ap (λ (x : List ℕ). weight_to (width_of b) (decode_row (width_of b) x)) ep ∙ ap (weight_to (width_of b)) (sym (row_part_lem b r o.own)))

  row_asked : row_question at p ≡ row_question (row_offset (width_of b) r) (row_part b r)
  row_asked = ap₂ row_question (s.is ∙ ap (λ (j : ℕ). row_offset j r) en) ep

  pub row_passed : Ok tt ≡ row_question at p → Ok (eqb (get_or p 1 0) l.letters) ≡ row_answer b r
  unfolding answer_to
  row_passed e = ap {B = Answer Bool} Ok row-weighed ∙ ap (λ q. answer_to q (true_weight b r)) (e ∙ row_asked)

  pub row_refused : {x : Refusal} {q : Answer Bool} → Err x ≡ row_question at p → IsErrAnd q (λ e. e ≡ x) → q ≡ row_answer b r
  unfolding answer_to
  row_refused {q = q} e h = exit-is q h ∙ ap (λ q. answer_to q (true_weight b r)) (e ∙ row_asked)

pub ruleset row_checks = (row_at, row_passed, row_refused, inside_index, inside-more, rules)

-- ---- a row of any bytes, read by letter
module _ (b : List ℕ) (r : ℕ) {n : ℕ} (e : n ≡ width_of b) where
  pub phase-wide : 128 < n → 0 ≡ phase_byte (read_row b r).phase
  unfolding identity_string phase_byte
  phase-wide h = ap (λ s. phase_byte s.phase) (sym (read_wide b r (omega arith)))

  pub phase_over : n ≤ 128 → 2 * n ≤ r → 0 ≡ phase_byte (read_row b r).phase
  unfolding identity_string phase_byte
  phase_over k h = ap (λ s. phase_byte s.phase) (sym (read_over b r (omega arith) (omega arith)))

  pub phase-own : n ≤ 128 → r < 2 * n → {at p : ℕ} → Sized (row_offset n r) at → p ≡ min (get_or b at 0) 3 → p ≡ phase_byte (read_row b r).phase
  phase-own k h {at} s ep =
      let place : at ≡ row_offset (width_of b) r + 0 = s.is ∙ ap (λ (j : ℕ). row_offset j r) e ∙ omega arith in
      ep ∙ ap (λ (j : ℕ). min (get_or b j 0) 3) place ∙ ap (λ (j : ℕ). min j 3) (sym (get_d_part b r 0 (omega (arith, row-some (width_of b)))))
      ∙ capped_phase (get_or (row_part b r) 0 0) ∙ ap phase_byte (sym (row-phase b r) ∙ ap (λ x. x.phase) (sym (read_own b r (omega arith) (omega arith))))

  module _ (q : ℕ) where
    pub letter-wide : 128 < n → 0 ≡ letter_byte ((read_row b r).letters q)
    unfolding identity_string letter_byte
    letter-wide h = ap (λ s. letter_byte (s.letters q)) (sym (read_wide b r (omega arith)))

    pub letter_over : n ≤ 128 → 2 * n ≤ r → 0 ≡ letter_byte ((read_row b r).letters q)
    unfolding identity_string letter_byte
    letter_over k h = ap (λ s. letter_byte (s.letters q)) (sym (read_over b r (omega arith) (omega arith)))

    pub letter_beyond : n ≤ 128 → r < 2 * n → n ≤ q → 0 ≡ letter_byte ((read_row b r).letters q)
    unfolding letter_byte
    letter_beyond k h l =
        sym (ap letter_byte (ap (λ s. s.letters q) (read_own b r (omega arith) (omega arith)) ∙ row_inside b r q (omega arith)))

    pub letter-own : n ≤ 128 → r < 2 * n → q < n → {at x : ℕ} → Sized (row_offset n r) at → x ≡ min (get_or b (at + 2 + q) 0) 3
        → x ≡ letter_byte ((read_row b r).letters q)
    unfolding letter_in
    letter-own k h l {at} s ex =
        let place : at + 2 + q ≡ row_offset (width_of b) r + letter_place q = omega (arith, s.is ∙ ap (λ (j : ℕ). row_offset j r) e, place_is q) in
        ex ∙ ap (λ (j : ℕ). min (get_or b j 0) 3) place ∙ ap (λ (j : ℕ). min j 3) (sym (get_d_part b r (letter_place q) (letter_in-row (width_of b) q (omega arith))))
        ∙ capped_letter (get_or (row_part b r) (letter_place q) 0)
        ∙ ap letter_byte (sym (row-letter b r q (omega arith)) ∙ ap (λ x. x.letters q) (sym (read_own b r (omega arith) (omega arith))))

pub read_none : (b : List ℕ) (k : ℕ) → length b ≤ k → 0 ≡ min (get_or b k 0) 3
read_none b k h = omega (arith, get_or-eq_default b 0 {n = k} h)

pub ruleset row_reading = (read_none, phase-wide, phase_over, phase-own, letter-wide, letter_over, letter_beyond, letter-own, rules)

-- ---- a work row multiplied by a row of a record
pub times-row : {b d f ys : List ℕ} {r p x : ℕ} → WorkRow b d → OwnRow b r → f ≡ row_part b r → p ≡ phase_bytes_product (get_or d 0 0) (get_or f 0 0)
    → RowTimes (from 1 d) (from 2 f) p ys x → set (put_mid 1 (length d - 1) d ys) 0 x ≡ row_times d (row_of (tableau_of b) r)
unfolding row_times qubits
times-row {b} {d} {f} {ys} {r} {p} {x} o h ef ep m =
    let t : List ℕ = get_or (row_part b r) 0 0 ∷ letters_of (row_part b r) in
    let lettered : from 2 f ≡ from 1 t = letters-from f ∙ ap letters_of ef ∙ sym (from_is 1 t) in
    row-product d t (some o.wide) (λ e. absurd (some_more e)) (ep ∙ ap (λ (l : List ℕ). phase_bytes_product (get_or d 0 0) (get_or l 0 0)) ef)
    (subst (λ (z : List ℕ). RowTimes (from 1 d) z p ys x) lettered m)
    ∙ row_product-is (omega (arith, o.wide, o.row.long)) (omega (arith, o.narrow)) o.row (row-string (h.tableau.rows r h.own))
    ∙ ap (λ s. encode_string (letters_in d) (mul (string_in d) s)) (sym (row_part_lem b r h.own ∙ row_as_string_lem (width_of b) (row_part b r)))
  where
    some : {n : ℕ} → n < length d → length d ≡ 0 → ⊥
    some h e = omega arith

    some_more : {n : ℕ} → suc n ≡ 0 → ⊥
    some_more e = omega arith

-- ---- a finished row written
pub finished_room : {d out : List ℕ} → Finished d out → 0 < length out
finished_room {d} f = omega (arith, f.room, row-some (letters_in d))

pub finished_next : {d out : List ℕ} (x : ℕ) → Finished d out → 1 < length (set out 0 x)
finished_next {d} {out} x f = omega (arith, f.room, row-some (letters_in d), length-set out 0 x)

pub finished_letters : {d out : List ℕ} (x n : ℕ) → Finished d out → length d + 1 ≤ length (set (set out 0 x) 1 n)
unfolding row_length letter_place
finished_letters {d} {out} x n f = omega (arith, f.room, length-set (set out 0 x) 1 n, length-set out 0 x)

-- letters copied over as many
pub copied_whole : (a b : List ℕ) → length a ≡ length b → copied a b ≡ a
unfolding copied
copied_whole a b h =
    let short : shorter a b ≡ length a = omega arith in
    ap (λ (j : ℕ). take j a ++ drop j b) short
    ∙ ap₂ (λ (x y : List ℕ). x ++ y) (take_all (length a) a (omega arith)) (drop_of_length-le b (omega arith))
    ∙ append-nil a

-- a row with its phase and weight written, and its letters copied
pub row_written_lem : (d out : List ℕ) {n : ℕ} {ys : List ℕ} → Finished d out → n ≡ letter_count (from 1 d) % 256
    → ys ≡ copied (from 1 d) (take (length d + 1 - 2) (drop 2 (set (set out 0 (get_or d 0 0)) 1 n)))
    → put_mid 2 (length d + 1 - 2) (set (set out 0 (get_or d 0 0)) 1 n) ys ≡ row_written (letters_in d) (string_in d) out
unfolding row_written row_length letter_place
row_written_lem d [] f c h = absurd (not-suc-le-zero f.room)
row_written_lem d (y ∷ []) f c h = absurd (omega (arith, f.room))
row_written_lem d (y ∷ z ∷ out) {n} {ys} f c h =
    let x : ℕ = get_or d 0 0 in
    let size : length d + 1 - 2 ≡ letters_in d = omega arith in
    let room : letters_in d ≤ length out = omega (arith, f.room) in
    let same : length (from 1 d) ≡ length (take (length d + 1 - 2) out) = omega (arith, length_from 1 d, length-take (length d + 1 - 2) out, room) in
    ap₂ (λ (l : List ℕ) (j : ℕ). x ∷ n ∷ (l ++ drop j out)) (h ∙ copied_whole (from 1 d) (take (length d + 1 - 2) out) same ∙ from_is 1 d) size
    ∙ ap (λ (l : List ℕ). l ++ drop (letters_in d) out) (sym (row_of-work f.row (omega (arith, f.narrow)) (c ∙ ap (λ (l : List ℕ). letter_count l % 256) (from_is 1 d))))

pub ruleset row_access = (own-some, own-more, finished_next, finished_room, record_sized, offset_sized, part_end, part_is, times-row, finished_letters, row_written_lem, rules)

-- ---- a row changed by a gate's table
-- a letter as it is read
letter_capped : (b : List ℕ) (q : ℕ) {x : ℕ} → x ≡ min (get_or b (q + 2) 0) 3 → x ≡ letter_byte (letter_in b q)
unfolding letter_in
letter_capped b q e = e ∙ ap (λ (i : ℕ). min (get_or b i 0) 3) (sym (place_is q)) ∙ capped_letter (get_or b (letter_place q) 0)

module _ (e : List (List ℕ)) (b : List ℕ) (q : ℕ) where
  abbrev by_letter : ℕ → ℕ → ℕ → List ℕ
  by_letter i p k = set (set b 0 (bit_xor p (table_entry e 0 k))) i (table_entry e 1 k)

  pub letter_changed : {k x z : ℕ} → k ≡ x → x ≡ min (get_or b (q + 2) 0) 3 → z ≡ min (get_or b 0 0) 3
      → set (set b 0 (bit_xor z (get_or (get_or e 0 []) k 0))) (q + 2) (get_or (get_or e 1 []) k 0) ≡ letter_table_on_row e q b
  unfolding letter_table_on_row row_with table_entry
  letter_changed {k} {x} {z} ek ex ez =
      ap (λ (i : ℕ). by_letter i z k) (sym (place_is q))
      ∙ ap₂ (λ (p j : ℕ). by_letter (letter_place q) p j) (ez ∙ capped_phase (get_or b 0 0)) (ek ∙ letter_capped b q ex)

  module _ (r : ℕ) where
    abbrev by_pair : ℕ → ℕ → ℕ → ℕ → ℕ → List ℕ
    by_pair i j p v k = set (set (set (set b 1 v) 0 (bit_xor p (table_entry e 0 k))) i (table_entry e 2 k)) j (table_entry e 3 k)

    pub pair_changed : {k x y z v : ℕ} → k ≡ 4 * x + y → x ≡ min (get_or b (q + 2) 0) 3 → y ≡ min (get_or b (r + 2) 0) 3 → z ≡ min (get_or b 0 0) 3 → v ≡ (get_or b 1 0 + get_or (get_or e 1 []) k 0) % 256
        → set (set (set (set b 1 v) 0 (bit_xor z (get_or (get_or e 0 []) k 0))) (q + 2) (get_or (get_or e 2 []) k 0)) (r + 2) (get_or (get_or e 3 []) k 0) ≡ pair_table_on_row e q r b
    unfolding pair_table_on_row row_with_pair row_with table_entry
    pair_changed {k} {x} {y} {z} {v} ek ex ey ez ev =
        ap₂ (λ (i j : ℕ). by_pair i j z v k) (sym (place_is q)) (sym (place_is r))
        ∙ ap₂ (λ (p u : ℕ). by_pair (letter_place q) (letter_place r) p u k) (ez ∙ capped_phase (get_or b 0 0)) ev
        ∙ ap (λ (j : ℕ). by_pair (letter_place q) (letter_place r) (phase_byte (phase_of (get_or b 0 0))) ((get_or b 1 0 + table_entry e 1 j) % 256) j)
        (ek ∙ ap₂ (λ (i j : ℕ). 4 * i + j) (letter_capped b q ex) (letter_capped b r ey))

pub ruleset row_changes = (letter_changed, pair_changed, rules)

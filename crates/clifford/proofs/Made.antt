-- Tableaux made row by row: their widths, each row as a work row, and all of them written.
use borrow.Rule.Slice.PartMut.{put_mid}
use Rattle.std.proofs.Common.{◌≡◌, ℕ, suc, ◌+◌, ◌-◌, ◌*◌, ◌<◌, ◌≤◌, max, List, length, replicate, take, drop, set, sym, refl, ap, ◌∙◌, subst, ap₂, arith, length-take, rules, Ok}
use Rattle.pauli_group.specs.Letter.{Letter, X, Z}
use Rattle.pauli_group.specs.PauliString.{PauliString, qubits, single, Within}
use Rattle.clifford_group.specs.Tableau.{Tableau, image_of, apply, widen, compose, inverse}
use Rattle.clifford_group.specs.Conjugation.{of_x, of_z}
use Rattle.clifford_group.proofs.Images.{within_image, proper-widen}
use Rattle.clifford_group.proofs.Compose.{row-compose, width-compose, proper-compose}
use Rattle.clifford_group.proofs.Inverse.{width-inverse, proper-inverse}
use Rattle.clifford_gates.specs.GateNumbers.{gate_tableau}
use Rattle.pauli.specs.Answers.{written, Outcome}
use Rattle.pauli.specs.Layout.{encode_string, string_of}
use Rattle.pauli.specs.Questions.{room_question}
use Rattle.pauli.proofs.Answers.{written-done}
use Rattle.pauli.proofs.Asking.{room-is}
use Rattle.pauli.proofs.Places.{from}
use Rattle.pauli.proofs.Records.{length_encode}
use Rattle.clifford.specs.declared.gates.RowImage.{RowImage}
use Rattle.clifford.specs.Layout.{row_length, row_offset, record_length, row_of, width_of, tableau_of, tableau_record, row_qubit, row_letter, FormedTableau}
use Rattle.clifford.specs.Images.{pauli_tableau}
use Rattle.clifford.specs.GateQuestions.{gate_width}
use Rattle.clifford.specs.Inside.Rows.{Sized, RowIndex, Finished, AppliesString, AppliesLetter, row_written, letters_in, string_in}
use Rattle.clifford.specs.Inside.Writing.{conjugated}
use Rattle.clifford.specs.Inside.InverseRows.{RowBack}
use Rattle.clifford.specs.Inside.GateRows.{row_image_string, RowImageOf, GateOn, PutsImage}
use Rattle.clifford.specs.Inside.Made.{Made, MakesRow, WritesRow, WritesAll, Widens, Spans, GateInside}
use Rattle.clifford.proofs.Rows.{width_of_lem, rows-within, some_bytes}
use Rattle.clifford.proofs.Records.{proper_of}
use Rattle.clifford.proofs.RowWriting.{RowsTo, rows_none, rows-room, rows_start, rows_index, rows-length, rows_more, rows_all, qubit-below, row_made, encoded_row, encoded_formed, put_row, put_room}
use Rattle.clifford.proofs.PauliTableau.{width_pauli, row_pauli, proper_pauli}
use Rattle.clifford.proofs.GateWriting.{gate-width, gate-proper}

-- ---- the width, and rows of that width
width_widened : (t : Tableau) (w : ℕ) → t.width ≤ w → (widen w t).width ≡ w
unfolding widen
width_widened t w h = omega arith

widens_width : {t : List ℕ} {w : ℕ} → Widens t w → (widen w (tableau_of t)).width ≡ w
widens_width {t} {w} o = width_widened (tableau_of t) w (omega (arith, o.wide, width_of_lem t))

composes_width : (a b : List ℕ) {w : ℕ} → w ≡ max (width_of a) (width_of b) → (compose (tableau_of a) (tableau_of b)).width ≡ w
composes_width a b o = width-compose (tableau_of a) (tableau_of b) ∙ ap₂ max (width_of_lem a) (width_of_lem b) ∙ sym o

gate_inside_width : {g p v w : ℕ} → GateInside g p v w → (widen w (gate_tableau g p v)).width ≡ w
gate_inside_width {g} {p} {v} {w} o = width_widened (gate_tableau g p v) w (omega (arith, o.wide, gate-width g p v))

pub widened-made : {t : List ℕ} {w : ℕ} → FormedTableau t → Widens t w → Made w (widen w (tableau_of t))
unfolding qubits
widened-made {t} {w} f o = record { wide = widens_width o; narrow = o.narrow; proper = proper-widen w o.narrow (tableau_of t) (proper_of f) }

pub composite-made : (a b : List ℕ) {w : ℕ} → FormedTableau a → FormedTableau b → w ≡ max (width_of a) (width_of b) → Made w (compose (tableau_of a) (tableau_of b))
composite-made a b f g e = record {
  wide = composes_width a b e;
  narrow = omega (arith, e, f.narrow, g.narrow);
  proper = proper-compose (tableau_of a) (tableau_of b) (proper_of f) (proper_of g);
}

pub inverse-made : {t : List ℕ} → FormedTableau t → Made (width_of t) (inverse (tableau_of t))
inverse-made {t} o = record {
  wide = width-inverse (tableau_of t) ∙ width_of_lem t;
  narrow = o.narrow;
  proper = proper-inverse (tableau_of t) (proper_of o).narrow;
}

pub pauli-made : {s : List ℕ} {w : ℕ} → Spans s w → Made w (pauli_tableau (string_of s))
unfolding qubits
pauli-made {s} o = record {
  wide = width_pauli (string_of s) ∙ sym o.wide.is;
  narrow = o.wide.small;
  proper = proper_pauli (string_of s) (omega (arith, o.wide.is, o.wide.small));
}

pub gate_made : {g p v w : ℕ} → GateOn g p v → GateInside g p v w → Made w (widen w (gate_tableau g p v))
unfolding qubits
gate_made {g} {p} {v} {w} on o = record {
  wide = gate_inside_width o;
  narrow = o.narrow;
  proper = proper-widen w o.narrow (gate_tableau g p v) (gate-proper on);
}

-- ---- a row made as a work row
module _ {w n r : ℕ} {s k : List ℕ} (i : RowIndex n r) (o : MakesRow w n s k) where
  own : r < 2 * w
  own = omega (arith, i.own, o.place)

  below : row_qubit n r < w
  below = qubit-below w r (ap (λ (j : ℕ). row_qubit j r) o.place) own

  pub row_work : length k ≡ n + 1
  row_work = omega (arith, o.work, o.place)

  -- a work row holds a string that is the row
  held : {x row : PauliString} {k' : List ℕ} → k' ≡ encode_string n x → x ≡ row → k' ≡ encode_string w row
  held e h = e ∙ ap₂ encode_string o.place h

  -- the row is what f makes of the letter and the qubit
  by_letter : (t : Tableau) (f : ℕ → Letter → PauliString) → ((q : ℕ) → t.x_image q ≡ f q X) → ((q : ℕ) → t.z_image q ≡ f q Z)
      → t.width ≡ w → f (row_qubit n r) (row_letter n r) ≡ row_of t r
  by_letter t f x z e = sym (row_made t f x z n r (e ∙ sym o.place) i.own)

  pub inverse_back : {t : List ℕ} → w ≡ width_of t → RowBack t n r
  inverse_back e = record { own = omega (arith, own); wide = o.place ∙ e }

  pub widened_letter : {t : List ℕ} → Widens t w → AppliesLetter t n k
  widened_letter d = record { wide = omega (arith, d.wide, o.place); work = row_work }

  pub widened_row : {t k' : List ℕ} → Widens t w → k' ≡ encode_string n (image_of (tableau_of t) (row_qubit n r) (row_letter n r))
      → k' ≡ encode_string w (row_of (widen w (tableau_of t)) r)
  unfolding widen
  widened_row {t} d ek = held ek (by_letter (widen w (tableau_of t)) (image_of (tableau_of t)) (λ q. refl) (λ q. refl) (widens_width d))

  module _ (a b : List ℕ) (c : w ≡ max (width_of a) (width_of b)) where
    pub composite_letter : AppliesLetter b n s
    composite_letter = record { wide = omega (arith, c, o.place); work = omega (arith, o.source, o.place) }

    abbrev image : PauliString
    image = image_of (tableau_of b) (row_qubit n r) (row_letter n r)

    module _ (f : FormedTableau a) (g : FormedTableau b) {s' : List ℕ} (es : s' ≡ encode_string n image) where
      es_w : s' ≡ encode_string w image
      es_w = held es refl

      long_s : length s' ≡ suc w
      long_s = ap length es_w ∙ length_encode w image

      image_in_lem : Within w image
      image_in_lem = within_image (tableau_of b) (proper_of g) w (omega (arith, c, width_of_lem b)) (row_qubit n r) (row_letter n r) below

      pub composite_applies : AppliesString a s' k
      composite_applies = record {
        string = encoded_formed w image es_w;
        wide = omega (arith, o.work, c);
        reach = omega (arith, o.work, long_s);
        narrow = omega (arith, o.work, c, f.narrow, g.narrow);
      }

      pub composite_row : {k' : List ℕ} → k' ≡ encode_string (letters_in k) (apply (tableau_of a) (string_in s'))
          → k' ≡ encode_string w (row_of (compose (tableau_of a) (tableau_of b)) r)
      composite_row ek =
          let A : Tableau = tableau_of a in
          let B : Tableau = tableau_of b in
          let same : letters_in k ≡ w = omega (arith, o.work) in
          ek
          ∙ ap₂ encode_string same (ap (apply A) (encoded_row w image long_s es_w image_in_lem)
          ∙ by_letter (compose A B) (λ q l. apply A (image_of B q l)) (row-compose A B of_x) (row-compose A B of_z) (composes_width a b c))

  pub pauli_made : {t : List ℕ} → Spans t w → {k' : List ℕ} → k' ≡ encode_string n (conjugated (string_of t) (single (row_letter n r) (row_qubit n r)))
      → k' ≡ encode_string w (row_of (pauli_tableau (string_of t)) r)
  pauli_made {t} d ek = held ek (sym (row_pauli (string_of t) n r (o.place ∙ d.wide.is) i.own))

  module _ {g p v : ℕ} (h : GateInside g p v w) where
    module _ {x : RowImage} (im : RowImageOf (max (gate_width g p v) (suc (row_qubit n r))) (image_of (gate_tableau g p v) (row_qubit n r) (row_letter n r)) x) where
      pub gate_puts : PutsImage x k
      gate_puts = record {
        sign = im.sign;
        first = omega (arith, im.first, h.wide, below, o.work);
        second = omega (arith, im.second, h.wide, below, o.work);
        narrow = omega (arith, o.work, h.narrow);
      }

      pub gate_row : {k' : List ℕ} → k' ≡ encode_string (letters_in k) (row_image_string x) → k' ≡ encode_string w (row_of (widen w (gate_tableau g p v)) r)
      unfolding widen
      gate_row ek =
          let same : letters_in k ≡ w = omega (arith, o.work) in
          ek
          ∙ ap₂ encode_string same (im.string
          ∙ by_letter (widen w (gate_tableau g p v)) (image_of (gate_tableau g p v)) (λ q. refl) (λ q. refl) (gate_inside_width h))

pub ruleset made_rows = (
  row_work,
  widened_letter,
  widened_row,
  composite_letter,
  composite_applies,
  composite_row,
  inverse_back,
  pauli_made,
  gate_puts,
  gate_row,
  rules,
)

-- ---- a row made and written
module _ {w n : ℕ} {t : Tableau} {out : List ℕ} (o : WritesRow w t n out) where
  m : Made w t
  m = o.made

  module _ {v : ℕ} (en : v ≡ w) where
    pub row_end : v + 1 ≤ 129
    row_end = omega (arith, m.narrow)

    abbrev zeros : List ℕ
    zeros = take (v + 1 - 0) (drop 0 (replicate 129 0))

    part : length zeros ≡ w + 1
    part = (let all : List ℕ = replicate 129 0 in length-take (v + 1 - 0) all) ∙ omega (arith, m.narrow)

    pub row_makes : MakesRow w n zeros zeros
    row_makes = record { place = o.place; source = part; work = part }

  module _ {r : ℕ} (i : RowIndex n r) {k : List ℕ} (ek : k ≡ encode_string w (row_of t r)) where
    pub row_finished : Finished k out
    row_finished = put_room w (row_of t r) ek m.narrow o.room

    pub row_put : {e : List ℕ} → e ≡ row_written (letters_in k) (string_in k) out → e ≡ row_written w (row_of t r) out
    row_put ee = put_row w out (row_of t r) ek
        (subst (λ (j : ℕ). Within j (row_of t r)) m.wide (rows-within t m.proper r (omega (arith, m.wide, i.own, o.place)))) ee

pub ruleset written_rows = (row_end, row_makes, row_finished, row_put, rules)

-- ---- all rows written
module _ {w : ℕ} {t : Tableau} {d : List ℕ} (o : WritesAll w t d) where
  pub all_first : 0 < length d
  all_first = omega (arith, o.room, some_bytes w)

  module _ {n : ℕ} (en : n ≡ w) where
    pub all_narrow : n ≤ 128
    all_narrow = omega (arith, o.made.narrow)

    pub all_none : RowsTo n (row_of t) (set d 0 n) 0 (set d 0 n)
    all_none = subst (λ (j : ℕ). RowsTo j (row_of t) (set d 0 j) 0 (set d 0 j)) (sym en) (rows_none w (row_of t) d o.made.narrow o.room)

    module _ {d₀ : List ℕ} {r : ℕ} {e : List ℕ} (rows : RowsTo n (row_of t) d₀ r e) where
      module _ (h : r < 2 * n) {at : ℕ} (z : Sized (row_offset n r) at) where
        pub all_here : WritesRow w t n (from at e)
        all_here = record { made = o.made; place = en; room = subst (λ (j : ℕ). row_length j ≤ length (from at e)) en (rows-room e at rows h z) }

        pub all_more : {ys : List ℕ} → ys ≡ row_written w (row_of t r) (from at e) → RowsTo n (row_of t) d₀ (r + 1) (put_mid at (length e - at) e ys)
        all_more k = rows_more rows h z (k ∙ ap (λ (j : ℕ). row_written j (row_of t r) (from at e)) (sym en))

    pub all_written : {r : ℕ} {e : List ℕ} → RowsTo n (row_of t) (set d 0 n) r e → 2 * n ≤ r → e ≡ written (Ok tt) (tableau_record t) d
    all_written rows h = rows_all t d (o.made.wide ∙ sym en) rows h

pub ruleset all_rows = (all_narrow, all_first, all_none, all_here, all_more, all_written, rows_start, rows_index, rows-length, rules)

-- ---- where there is room
pub made_narrow : {w : ℕ} {t : Tableau} {n : ℕ} → Made w t → n ≡ w → n ≤ 128
made_narrow m e = omega (arith, m.narrow)

pub made_asked : (w room : ℕ) {n k : ℕ} {q : Outcome} → q ≡ room_question k room → Sized (record_length n) k → n ≡ w → q ≡ room_question (record_length w) room
made_asked w room e s en = e ∙ ap (λ (j : ℕ). room_question j room) (s.is ∙ ap record_length en)

pub made_let : (w : ℕ) {t : Tableau} (d : List ℕ) → Made w t → Ok tt ≡ room_question (record_length w) (length d) → WritesAll w t d
made_let w d m e = record { made = m; room = room-is _ (length d) (sym e) }

pub ruleset made_answers = (made_narrow, made_asked, made_let, written-done, rules)

-- Images set: the questions, and the record with one row replaced.
use Rattle.std.proofs.Common.{◌≡◌, ℕ, suc, ◌+◌, ◌-◌, ◌*◌, ◌<◌, ◌≤◌, Bool, true, false, cond, ◌&&◌, eqb, leb, List, ◌++◌, length, get_or, take, drop, sym, refl, ap, ◌∙◌, subst, ap₂, append-nil, arith, drop_of_length-le, length-take, get_or-take, w64, Fits, rules, eq-eqb, ne_eqb, le-leb, leb-true, Ok, Err, not, Option, Some, None}
use native.Mathlib.Decide.{dec_lt, ℕ_discrete}
use borrow.Author.Tests.{lt-leb}
use borrow.Rule.Slice.PartMut.{put_mid}
use Rattle.pauli_group.specs.Letter.{I, not_i}
use Rattle.pauli_group.specs.PauliString.{PauliString, qubits, has_letter, Within}
use Rattle.pauli_group.proofs.Strings.{string_ext}
use Rattle.pauli_group.proofs.PlacesTaken.{is-I}
use Rattle.clifford_group.specs.Tableau.{Tableau, Same}
use Rattle.clifford_group.specs.Conjugation.{Generator, of_x, of_z}
use Rattle.pauli.specs.declared.refusal.Refusal.{Refusal}
use Rattle.pauli.specs.declared.refusal.Refusal.TheVariants.{ImageWidth}
use Rattle.pauli.specs.Answers.{written}
use Rattle.pauli.specs.Layout.{phase_of, letter_of, string_of}
use Rattle.pauli.specs.Questions.{◌and_then◌, string_questions}
use Rattle.pauli.proofs.Answers.{written-exit, written-done}
use Rattle.pauli.proofs.Asking.{asked_yes, asked_no, ask_done, first_not, done_first, done_second, string-formed}
use Rattle.pauli.proofs.Places.{first-is, first-before, from, length_from}
use Rattle.pauli.proofs.Records.{decode_within, decode_letter, decode_phase, letter_of_lem, has_none, has_one}
use Rattle.clifford.specs.Layout.{row_length, encode_row, row_offset, record_length, row_of, row_part, width_of, tableau_of, tableau_record, generator_row, FormedTableau}
use Rattle.clifford.specs.Images.{with_x_image, with_z_image}
use Rattle.clifford.specs.Questions.{tableau_questions, apply_questions, lowest_outside, inside_question, slot_question, set_questions}
use Rattle.clifford.specs.Inside.Rows.{Sized, RowIndex, SlotIndex, Finished, Beside, with_row, row_written, letters_in, string_in}
use Rattle.clifford.specs.Tableaux.{set_x_record, set_z_record, set_record}
use Rattle.clifford.specs.Inside.Writing.{SetsRow, Sets}
use Rattle.clifford.proofs.RowWriting.{RowsTo, rows-own, rows_kept_to, rows_more, rows_end}
use Rattle.clifford.proofs.Asking.{tableau-formed, checked, slot_is}
use Rattle.clifford.proofs.Rows.{row_there, row-x, row-z, row_room, row_part_lem, width_of_lem}
use Rattle.clifford.proofs.Records.{length-record, same-record}

-- ---- the lowest qubit outside
abbrev pub outside : ℕ → List ℕ → ℕ → Bool
outside w s q = leb w q && has_letter (string_of s) q

outside_no : (s : List ℕ) (w q : ℕ) → q < 128 → (w ≤ q → get_or s (q + 1) 0 ≡ 0) → outside w s q ≡ false
outside_no s w q l h = elim (dec_lt q w) [
  | yes k ↦ ap (λ b. b && has_letter (string_of s) q) (lt-leb w q k)
  | no k ↦ ap₂ ◌&&◌ (le-leb w q (omega arith)) (has_none s q l (h (omega arith)))
]

-- what `find` says of the qubits that it goes over
module _ {s : List ℕ} {w a b : ℕ} (o : Beside s w) (from_w : a ≡ w) (to_128 : b ≡ 128) where
  pub outside_first : {q : ℕ}
      → (a ≤ q) × (q < b) × (get_or s (q + 1) 0 ≡ 0 → ⊥) × ((k : ℕ) → a ≤ k → k < q → get_or s (k + 1) 0 ≡ 0)
      → (q < 128) × (q ≡ lowest_outside w (string_of s))
  unfolding lowest_outside qubits
  outside_first {q} f =
      let below : q < 128 = omega (arith, f.1, to_128) in (
        below,
        first-is 128 (outside w s) q (omega arith) (λ k l. outside_no s w k (omega arith) (λ h. f.3 k (omega (arith, from_w)) l))
            (λ l. ap₂ ◌&&◌ (le-leb w q (omega (arith, f.0, from_w))) (has_one s q below f.2)),
      )

  pub outside_none : ((k : ℕ) → a ≤ k → k < b → get_or s (k + 1) 0 ≡ 0) → 128 ≡ lowest_outside w (string_of s)
  unfolding lowest_outside qubits
  outside_none f =
      first-is 128 (outside w s) 128 (omega arith) (λ k l. outside_no s w k l (λ h. f k (omega (arith, from_w)) (omega (arith, to_128)))) (λ l. absurd (never l))
    where
      never : 128 < 128 → ⊥
      never l = omega arith

pub inside_no : (w : ℕ) (s : PauliString) {q : ℕ} → q ≡ lowest_outside w s → q < 128 → Err (ImageWidth q w) ≡ inside_question w s
unfolding inside_question qubits
inside_no w s e h = ap (λ (k : ℕ). Err (ImageWidth k w)) e ∙ asked_no (ImageWidth (lowest_outside w s) w) (lt-leb 128 (lowest_outside w s) (omega arith))

pub inside_yes : (w : ℕ) (s : PauliString) {q : ℕ} → q ≡ lowest_outside w s → 128 ≤ q → Ok tt ≡ inside_question w s
unfolding inside_question qubits
inside_yes w s e h = asked_yes (ImageWidth (lowest_outside w s) w) (le-leb 128 (lowest_outside w s) (omega arith))

none-outside : (w : ℕ) (s : PauliString) → inside_question w s ≡ Ok tt → 128 ≤ lowest_outside w s
unfolding inside_question qubits
none-outside w s e = leb-true 128 (lowest_outside w s) (ask_done (leb 128 (lowest_outside w s)) (ImageWidth (lowest_outside w s) w) e)

inside-within : (w : ℕ) (s : List ℕ) → inside_question w (string_of s) ≡ Ok tt → Within w (string_of s)
unfolding lowest_outside has_letter qubits
inside-within w s e q h = elim (dec_lt q 128) [
  | yes l ↦ is-I _ (sym (ap (λ b. b && not_i ((string_of s).letters q)) (le-leb w q h))
      ∙ first-before 128 (outside w s) q (omega (arith, none-outside w (string_of s) e)))
  | no l ↦ above q (omega arith)
]
  where
    above : (q : ℕ) → 128 ≤ q → (string_of s).letters q ≡ I
    above q h = unfold string_of in decode_within 128 s q h

-- ---- the questions in their order
module _ (t : List ℕ) (slot : ℕ) (s : List ℕ) where
  pub set-first : {x : Refusal} → Err x ≡ tableau_questions t → Err x ≡ set_questions t slot s
  unfolding set_questions apply_questions
  set-first h = first_not _ (first_not _ h)

  module _ (ht : Ok tt ≡ tableau_questions t) where
    module _ (hs : Ok tt ≡ string_questions s) {n : ℕ} (en : n ≡ width_of t) where
      pub set_beside : Beside s n
      set_beside = record { string = string-formed s (sym hs); narrow = omega (arith, en, (checked ht).narrow) }

pub sets : {t : List ℕ} {slot : ℕ} {s : List ℕ} → Ok tt ≡ set_questions t slot s → Sets t slot s
unfolding set_questions apply_questions
sets {t} {slot} {s} h =
    let all : (tableau_questions t and_then string_questions s) and_then inside_question (width_of t) (string_of s) and_then slot_question slot (width_of t) ≡ Ok tt = sym h in
    let both : tableau_questions t and_then string_questions s ≡ Ok tt = done_first _ _ all in
    let rest : inside_question (width_of t) (string_of s) and_then slot_question slot (width_of t) ≡ Ok tt = done_second (tableau_questions t and_then string_questions s) _ all in
    record {
      sets = record {
        tableau = tableau-formed t (done_first _ _ both);
        string = string-formed s (done_second (tableau_questions t) _ both);
        inside = inside-within (width_of t) s (done_first _ _ rest);
      };
      slot = slot_is slot (width_of t) (done_second (inside_question (width_of t) (string_of s)) _ rest);
    }

-- ---- one row replaced
replaced_x : (t : Tableau) (r : ℕ) (s : PauliString) (i : ℕ) → i < 2 * t.width → row_of (with_row t r s) i ≡ cond (eqb i r) s (row_of t i)
unfolding with_row
replaced_x t r s i h = elim (dec_lt i t.width) [
  | yes l ↦ row-x (with_row t r s) i l ∙ ap (cond (eqb i r) s) (sym (row-x t i l))
  | no l ↦ let e : t.width + (i - t.width) ≡ i = omega arith in
      ap (row_of (with_row t r s)) (sym e) ∙ row-z (with_row t r s) (i - t.width)
      ∙ ap₂ (λ (j : ℕ) (x : PauliString). cond (eqb j r) s x) e (sym (row-z t (i - t.width)) ∙ ap (row_of t) e)
]

module _ {t : List ℕ} {r : ℕ} {s : List ℕ} (o : SetsRow t r s) where
  abbrev T : Tableau
  T = tableau_of t

  abbrev S : PauliString
  S = string_of s

  abbrev w : ℕ
  w = width_of t

  formed : FormedTableau t
  formed = o.sets.tableau

  pub set_index : {n : ℕ} → n ≡ width_of t → RowIndex n r
  set_index e = record { narrow = omega (arith, formed.narrow); own = omega (arith, o.own) }

  part : {n : ℕ} → n ≡ width_of t → length (take (n + 1 - 0) (drop 0 s)) ≡ n + 1
  part {n} e = length-take (n + 1 - 0) s ∙ omega (arith, o.sets.string.long, formed.narrow)

  pub set_string : {n : ℕ} → n ≡ width_of t → n + 1 ≤ length s
  set_string e = omega (arith, o.sets.string.long, formed.narrow)

  pub set_start : {n at : ℕ} → n ≡ width_of t → Sized (row_offset n r) at → at ≤ length t
  set_start {n} e k =
      omega (arith, k.is ∙ ap (λ (j : ℕ). row_offset j r) e, formed.long, row_room w r o.own)

  pub set_room : {n at : ℕ} → n ≡ width_of t → Sized (row_offset n r) at → Finished (take (n + 1 - 0) (drop 0 s)) (from at t)
  set_room {n} {at} e k =
      let long : length (take (n + 1 - 0) (drop 0 s)) ≡ n + 1 = part e in
      let same : letters_in (take (n + 1 - 0) (drop 0 s)) ≡ w = omega arith in
      record {
        row = record {
          long = omega arith;
          small = λ i l. omega (arith, get_or-take (n + 1 - 0) s i 0 (omega arith), o.sets.string.small i (omega (arith, o.sets.string.long, formed.narrow)));
        };
        narrow = omega (arith, formed.narrow);
        room = subst (λ (j : ℕ). row_length j ≤ length (from at t)) (sym same)
            (omega (arith, length_from at t, k.is ∙ ap (λ (j : ℕ). row_offset j r) e, formed.long, row_room w r o.own));
      }

  -- the string's first letters are all that it has
  part_string : {n : ℕ} → n ≡ width_of t → string_in (take (n + 1 - 0) (drop 0 s)) ≡ S
  part_string {n} e =
      let p : List ℕ = take (n + 1 - 0) (drop 0 s) in
      let long : length p ≡ n + 1 = part e in
      string_ext (string_in p) S
      (decode_phase (letters_in p) p ∙ ap phase_of (get_or-take (n + 1 - 0) s 0 0 (omega arith)) ∙ sym phase_of_lem)
      (λ q. elim (dec_lt q n) [
        | yes l ↦ decode_letter (letters_in p) p q (omega arith) ∙ ap letter_of (get_or-take (n + 1 - 0) s (suc q) 0 (omega arith))
            ∙ sym (letter_of_lem s q (omega (arith, formed.narrow)))
        | no l ↦ decode_within (letters_in p) p q (omega arith) ∙ sym (o.sets.inside q (omega arith))
      ])
    where
      phase_of_lem : S.phase ≡ phase_of (get_or s 0 0)
      phase_of_lem = unfold string_of qubits in decode_phase 128 s

  abbrev new : ℕ → PauliString
  new = row_of (with_row T r S)

  new_here : new r ≡ S
  new_here = replaced_x T r S r (omega (arith, o.own, width_of_lem t)) ∙ ap (λ b. cond b S (row_of T r)) (eq-eqb r r refl)

  old : (i : ℕ) → i < 2 * w → (i ≡ r → ⊥) → take (row_length w) (drop (row_offset w i) t) ≡ encode_row w (new i)
  old i h n = part_of i ∙ sym (row_there (formed.rows i h)) ∙ ap (encode_row w)
      (sym (row_part_lem t i h) ∙ sym (replaced_x T r S i (omega (arith, width_of_lem t)) ∙ ap (λ b. cond b S (row_of T i)) (ne_eqb i r n)))
    where
      part_of : (i : ℕ) → take (row_length w) (drop (row_offset w i) t) ≡ row_part t i
      part_of i = unfold row_part in refl

  pub set_made : {n at : ℕ} {ys : List ℕ} → n ≡ width_of t → Sized (row_offset n r) at
      → ys ≡ row_written (letters_in (take (n + 1 - 0) (drop 0 s))) (string_in (take (n + 1 - 0) (drop 0 s))) (from at t)
      → put_mid at (length t - at) t ys ≡ tableau_record (with_row T r S)
  set_made {n} {at} {ys} e k m =
      let same : letters_in (take (n + 1 - 0) (drop 0 s)) ≡ w = omega (arith, part e) in
      let row : ys ≡ row_written w (new r) (from at t) =
      m ∙ ap₂ (λ (j : ℕ) (x : PauliString). row_written j x (from at t)) same (part_string e ∙ sym new_here) in
      let off : Sized (row_offset w r) at = subst (λ (j : ℕ). Sized (row_offset j r) at) e k in
      let before : RowsTo w new t (0 + r) t = rows_kept_to r (rows-own new formed) (omega (arith, o.own)) (λ i a b. old i (omega (arith, o.own)) (omega arith)) in
      let z : 0 + r ≡ r = omega arith in
      let there : RowsTo w new t (r + 1) (put_mid at (length t - at) t ys) = rows_more (subst (λ (j : ℕ). RowsTo w new t j t) z before) o.own off row in
      let rest : 2 * w ≡ r + 1 + (2 * w - (r + 1)) = omega (arith, o.own) in
      let all : RowsTo w new t (r + 1 + (2 * w - (r + 1))) (put_mid at (length t - at) t ys) =
      rows_kept_to (2 * w - (r + 1)) there (omega (arith, o.own)) (λ i a b. old i (omega (arith, o.own)) (omega arith)) in
      rows_end (with_row T r S) width_new formed.long (subst (λ (j : ℕ). RowsTo w new t j (put_mid at (length t - at) t ys)) (sym rest) all)
    where
      width_new : (with_row T r S).width ≡ w
      width_new = unfold with_row in width_of_lem t

  pub set_length : length (tableau_record (with_row T r S)) ≡ length t
  set_length = length-record (with_row T r S) ∙ ap record_length width_new ∙ sym formed.long
    where
      width_new : (with_row T r S).width ≡ w
      width_new = unfold with_row in width_of_lem t

pub ruleset row_setting = (set_index, set_string, set_start, set_room, set_made, set_length, rules)

-- ---- an image replaced is a row replaced
module _ {t : List ℕ} {slot : ℕ} {s : List ℕ} (o : Sets t slot s) where
  pub set-slot : {n : ℕ} → n ≡ width_of t → SlotIndex n slot
  set-slot e = record { narrow = omega (arith, e, o.sets.tableau.narrow); own = omega (arith, e, o.slot) }

  pub set-row : (g : Generator) {n r : ℕ} → n ≡ width_of t → r ≡ generator_row g n slot → SetsRow t r s
  set-row of_x en er = record { sets = o.sets; own = omega (arith, o.slot, er) }
  set-row of_z en er = record { sets = o.sets; own = omega (arith, o.slot, en, er) }

  -- bytes that are a record of t's length are all that is written
  whole : {out : List ℕ} → length out ≡ length t → out ≡ written (Ok tt) out t
  unfolding written
  whole {out} h = sym (ap (λ (l : List ℕ). out ++ l) (drop_of_length-le t {i = length out} (omega arith)) ∙ append-nil out)

  x-same : Same (with_row (tableau_of t) slot (string_of s)) (with_x_image (tableau_of t) slot (string_of s))
  unfolding with_row with_x_image
  x-same = record {
    width = refl;
    x_image = λ q l. refl;
    z_image = λ q l. ap (λ b. cond b (string_of s) ((tableau_of t).z_image q)) (ne_eqb ((tableau_of t).width + q) slot (apart q));
  }
    where
      apart : (q : ℕ) → (tableau_of t).width + q ≡ slot → ⊥
      apart q e = omega (arith, o.slot, width_of_lem t)

  z-same : Same (with_row (tableau_of t) (width_of t + slot) (string_of s)) (with_z_image (tableau_of t) slot (string_of s))
  unfolding with_row with_z_image
  z-same = record {
    width = refl;
    x_image = λ q l. ap (λ b. cond b (string_of s) ((tableau_of t).x_image q)) (ne_eqb q (width_of t + slot) (apart q l));
    z_image = λ q l. ap (λ b. cond b (string_of s) ((tableau_of t).z_image q)) (sum q);
  }
    where
      apart : (q : ℕ) → q < (tableau_of t).width → q ≡ width_of t + slot → ⊥
      apart q l e = omega (arith, width_of_lem t)

      sum : (q : ℕ) → eqb ((tableau_of t).width + q) (width_of t + slot) ≡ eqb q slot
      sum q = elim (ℕ_discrete q slot) [
        | yes e ↦ eq-eqb ((tableau_of t).width + q) (width_of t + slot) (omega (arith, width_of_lem t)) ∙ sym (eq-eqb q slot e)
        | no n ↦ ne_eqb ((tableau_of t).width + q) (width_of t + slot) (λ e. n (omega (arith, width_of_lem t))) ∙ sym (ne_eqb q slot n)
      ]

  pub set-written : (g : Generator) {e : List ℕ} {n r : ℕ} → n ≡ width_of t → r ≡ generator_row g n slot
      → e ≡ tableau_record (with_row (tableau_of t) r (string_of s)) → e ≡ written (Ok tt) (set_record g t slot s) t
  unfolding set_x_record set_z_record
  set-written of_x en er h =
      h ∙ ap (λ (j : ℕ). tableau_record (with_row (tableau_of t) j (string_of s))) er ∙ whole (set_length (set-row of_x refl refl))
      ∙ ap (λ (l : List ℕ). written (Ok tt) l t) (same-record (with_row (tableau_of t) slot (string_of s)) (with_x_image (tableau_of t) slot (string_of s)) x-same)
  set-written of_z en er h =
      h ∙ ap (λ (j : ℕ). tableau_record (with_row (tableau_of t) j (string_of s))) (er ∙ ap (λ (j : ℕ). j + slot) en) ∙ whole (set_length (set-row of_z refl refl))
      ∙ ap (λ (l : List ℕ). written (Ok tt) l t)
      (same-record (with_row (tableau_of t) (width_of t + slot) (string_of s)) (with_z_image (tableau_of t) slot (string_of s)) z-same)

pub ruleset image_setting = (written-exit, written-done, sets, set-slot, set-row, set-written, rules)

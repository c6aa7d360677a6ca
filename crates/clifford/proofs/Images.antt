-- Images handed out: the row's own part of the record, and where it starts.
use Rattle.std.specs.Result.{result_unwrap_or}
use Rattle.std.proofs.Common.{◌≡◌, ℕ, ◌+◌, ◌*◌, ◌<◌, List, [], length, sym, refl, ap, ◌∙◌, arith, rules, w64, Fits, Result, Ok, Err, IsErrAnd}
use Rattle.clifford_group.specs.Conjugation.{Generator, row}
use Rattle.pauli.specs.declared.refusal.Refusal.{Refusal}
use Rattle.pauli.specs.Questions.{◌and_then◌}
use Rattle.pauli.proofs.Asking.{done_first, done_second}
use Rattle.clifford.specs.Layout.{row_offset, encode_row, width_of, row_part, tableau_of, generator_row, FormedTableau}
use Rattle.pauli.specs.Answers.{answer_to}
use Rattle.pauli.proofs.Answers.{answered-done, answered-exit}
use Rattle.clifford.specs.Questions.{tableau_questions, slot_question, image_questions}
use Rattle.clifford.specs.Inside.Rows.{OwnQubit, OwnRow, RowIndex, SlotIndex, RowInside, Sized}
use Rattle.clifford.specs.Tableaux.{image_part}
use Rattle.clifford.specs.Promises.{ImageAt}
use Rattle.clifford.proofs.Rows.{row_there, row_part_lem, own_row}
use Rattle.clifford.proofs.RowAccess.{own-inside, qubit_taken, qubit-slot, generator-row, row_place, row_taken, row_is}
use Rattle.clifford.proofs.Asking.{checked, slot_is}

-- ---- the row of a generator's image
pub generator_index : (g : Generator) {w q r : ℕ} → SlotIndex w q → r ≡ generator_row g w q → RowIndex w r
generator_index g {w} {q} o e = record { narrow = o.narrow; own = omega (arith, e, generator-row g o.own) }

-- ---- where the questions let by
module _ (t : List ℕ) (slot : ℕ) (h : Ok tt ≡ image_questions t slot) where
  both : tableau_questions t and_then slot_question slot (width_of t) ≡ Ok tt
  unfolding image_questions
  both = sym h

  below : slot < width_of t
  below = slot_is slot (width_of t) (done_second (tableau_questions t) _ both)

  formed : FormedTableau t
  formed = checked (sym (done_first _ _ both))

  taken : OwnQubit t slot
  taken = qubit_taken formed below

  pub image-slot : {n : ℕ} → n ≡ width_of t → SlotIndex n slot
  image-slot e = qubit-slot taken e

  module _ (g : Generator) {n r : ℕ} (en : n ≡ width_of t) (er : r ≡ generator_row g n slot) where
    is_row : r ≡ generator_row g (width_of t) slot
    is_row = row_place taken g en er

    pub image-own : OwnRow t r
    image-own = row_taken taken g en er

    pub image-inside : RowInside t r
    image-inside = own-inside image-own

    pub image-handed : {l : List ℕ} → l ≡ row_part t r → Ok l ≡ image_part g t slot
    unfolding image_part answer_to
    image-handed {l} e =
        ap {B = Result (List ℕ) Refusal} Ok (e ∙ ap (row_part t) is_row) ∙ ap (λ q. answer_to q (row_part t (generator_row g (width_of t) slot))) h

    pub image-offset : {at : ℕ} → Sized (row_offset n r) at → ImageAt g t slot (Ok at)
    image-offset s = answered-done h (s.is ∙ ap (λ (j : ℕ). row_offset j r) en ∙ ap (row_offset (width_of t)) is_row)

  -- it is the image
  pub image_lem : (g : Generator) → image_part g t slot ≡ Ok (encode_row (width_of t) (row (tableau_of t) g slot))
  image_lem g =
      let own : OwnRow t (generator_row g (width_of t) slot) = image-own g refl refl in
      sym (image-handed g refl refl refl)
      ∙ ap {B = Result (List ℕ) Refusal} Ok
      (sym (row_there (own_row own)) ∙ ap (encode_row (width_of t)) (sym (row_part_lem t _ own.own) ∙ row_is taken g refl refl))

pub ruleset images = (image-slot, image-inside, image-handed, rules)

pub ruleset image_offsets = (generator_index, image-slot, image-offset, answered-exit, rules)

-- no bytes are handed out exactly where the questions refuse: a row has some
pub image-none : (g : Generator) (t : List ℕ) (slot : ℕ) {x : Refusal} → image_questions t slot ≡ Err x → result_unwrap_or (image_part g t slot) [] ≡ []
unfolding image_part answer_to
image-none g t slot h = ap (λ q. result_unwrap_or (answer_to q (row_part t (generator_row g (width_of t) slot))) []) h

pub image-some : (g : Generator) (t : List ℕ) (slot : ℕ) → Ok tt ≡ image_questions t slot → result_unwrap_or (image_part g t slot) [] ≡ [] → ⊥
unfolding encode_row
image-some g t slot h e = let none = sym (ap (λ r. result_unwrap_or r []) (image_lem t slot h g)) ∙ e in cc

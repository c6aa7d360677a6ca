-- One letter sent through two tableaux: what is asked on the way, and which row of the composition it gives.
use mathlib.Core.Path.{◌≡◌, refl, sym, ap, ap₂, ◌∙◌, subst}
use mathlib.Core.List.{List, [], ◌++◌, append-nil}
use Prim.Native.Nat.{ℕ, zero, suc, max, ◌+◌, ◌≤◌, ◌<◌}
use native.Mathlib.Numerals.{add-one}
use native.Mathlib.Omega.{arith}
use native.Mathlib.Decide.{ℕ_discrete}
use lib.ListN.{length, drop, get_or, set, replicate, length-set, length-replicate, get_or-replicate, drop_of_length-le}
use lib.Seq.{ext_get_or, set_out, get_or-set_same, get_or-set_other}
use borrow.Author.Rules.{rules}
use Rattle.pauli_group.specs.Letter.{I}
use Rattle.pauli_group.specs.PauliString.{PauliString, qubits, single}
use Rattle.pauli_group.proofs.Strings.{within-single}
use Rattle.clifford_group.specs.Tableau.{Tableau, image_of, apply, compose, Proper, Same}
use Rattle.clifford_group.specs.Conjugation.{Generator, generator}
use Rattle.clifford_group.proofs.Singles.{single-at, single_off}
use Rattle.clifford_group.proofs.Apply.{apply_single, apply-within}
use Rattle.clifford_group.proofs.Compose.{width-compose, row-compose, proper-compose}
use Rattle.clifford_group.proofs.Rows.{same_row}
use Rattle.pauli.specs.declared.refusal.Refusal.{Refusal}
use Rattle.std.specs.Result.{result_and}
use Rattle.pauli.specs.Answers.{reply_to, written, Written, Outcome}
use Rattle.pauli.specs.Layout.{phase_byte, letter_byte, encode_string, string_length, string_of, string_record}
use Rattle.pauli.specs.Questions.{◌and_then◌, string_questions, room_question}
use Rattle.pauli.proofs.Answers.{written_given}
use Rattle.pauli.proofs.Asking.{and_then_assoc, and_then_done, done_first, done_second, has_room, room-is, strings_admitted, record-length}
use Rattle.pauli.proofs.Records.{length_encode, encode_letter, encode_phase, string-back}
use Rattle.clifford.specs.Layout.{width_of, tableau_of}
use Rattle.clifford.specs.Questions.{tableau_questions, slot_question, apply_questions, apply_answer, compose_questions}
use Rattle.clifford.specs.Tableaux.{apply_record, compose_record}
use Rattle.clifford.specs.Promises.{Applied}
use Rattle.clifford.proofs.Asking.{admitted_proper, slot_is}
use Rattle.clifford.proofs.Rows.{width_of_lem}
use Rattle.clifford.proofs.Records.{record-back}
use Rattle.preview.specs.Inside.Sending.{letter_record, sent_through, LetterSent}
use Rattle.preview.specs.Previews.{preview_questions, preview_answer, composed_image}
use Rattle.preview.specs.Promises.{Previewed}
use Rattle.std.specs.Prelude.{Ok, Err}

-- ---- one letter
length-blank : length {A = ℕ} (replicate 129 0) ≡ string_length
length-blank = length-replicate {A = ℕ} 129 0

put_letter : (g : Generator) (q : ℕ) → set (replicate 129 0) (q + 1) (letter_byte (generator g)) ≡ letter_record g q
unfolding string_record qubits
put_letter g q = ext_get_or 0 put (encode_string 128 s) (long ∙ sym (length_encode 128 s)) at
  where
    l : ℕ
    l = letter_byte (generator g)

    s : PauliString
    s = single (generator g) q

    zeros : List ℕ
    zeros = replicate 129 0

    put : List ℕ
    put = set zeros (q + 1) l

    long : length put ≡ 129
    long = length-set zeros (q + 1) l ∙ length-blank

    other : (k : ℕ) → k < 129 → (k ≡ q + 1 → ⊥) → get_or put k 0 ≡ 0
    other k h n = get_or-set_other zeros (q + 1) k l 0 n ∙ get_or-replicate 129 k 0 0 h

    at : (k : ℕ) → k < length put → get_or put k 0 ≡ get_or (encode_string 128 s) k 0
    at zero h = other zero (omega arith) (λ e. omega (arith, e)) ∙ (unfold single phase_byte in sym (encode_phase 128 s))
    at (suc j) h = elim (ℕ_discrete j q) [
      | yes e ↦ here (ap suc e ∙ sym (add-one q)) ∙ sym (ap letter_byte (ap s.letters e ∙ single-at (generator g) q)) ∙ sym letter
      | no e ↦ other (suc j) (omega (arith, long)) (λ k. e (omega (arith, k))) ∙ none ∙ sym (ap letter_byte (single_off (generator g) q j e)) ∙ sym letter
    ]
      where
        letter : get_or (encode_string 128 s) (suc j) 0 ≡ letter_byte (s.letters j)
        letter = encode_letter 128 s j (omega (arith, long))

        here : suc j ≡ q + 1 → get_or put (suc j) 0 ≡ l
        here e = ap (λ (k : ℕ). get_or put k 0) e ∙ get_or-set_same zeros (q + 1) l 0 (omega (arith, e, long, length-blank))

        none : 0 ≡ letter_byte I
        none = unfold letter_byte in refl

pub letter_put : (g : Generator) {l : ℕ} (q : ℕ) → l ≡ letter_byte (generator g) → q < 128 → set (replicate 129 0) (q + 1) l ≡ letter_record g q
letter_put g q e k = ap (set (replicate 129 0) (q + 1)) e ∙ put_letter g q

pub letter_none : (g : Generator) (q : ℕ) → 128 ≤ q → replicate 129 0 ≡ letter_record g q
letter_none g q k = sym (set_out (replicate 129 0) (q + 1) (letter_byte (generator g)) (omega (arith, length-replicate {A = ℕ} 129 0))) ∙ put_letter g q

pub ruleset one_letter = (letter_put, letter_none, rules)

-- ---- questions
-- a string of ours and room enough leave the tableau's own
own-asked : (t s : List ℕ) (n : ℕ) → string_questions s ≡ Ok tt → string_length ≤ n → apply_answer t s n ≡ tableau_questions t
unfolding apply_answer apply_questions
own-asked t s n e h =
    ap₂ (λ x y. (tableau_questions t and_then x) and_then y) e (sym (has_room string_length n h))
    ∙ sym (and_then_done (tableau_questions t) ∙ and_then_done (tableau_questions t and_then Ok tt))

-- std's `and` is the order of questions
and-is : (q y : Outcome) → result_and q y ≡ q and_then y
unfolding ◌and_then◌
and-is (Ok tt) y = refl
and-is (Err x) y = refl

-- after a refusal nothing is written
refused_by : {q r : Outcome} {x : Refusal} (out d : List ℕ) → r ≡ q → r ≡ Err x → Written q out d d r
unfolding written
refused_by out d p h = written_given p (sym (ap (λ z. written z out d) h))

then_not : {q r : Outcome} (p y : Outcome) {x : Refusal} (out d : List ℕ) → r ≡ q → r ≡ p and_then y → y ≡ Err x → Written q out d d r
unfolding ◌and_then◌
then_not (Ok tt) y out d h e f = refused_by out d h (e ∙ f)
then_not (Err z) y out d h e f = refused_by out d h e

-- ---- a letter sent through b and then a
module _ (g : Generator) (a b : List ℕ) {s m : List ℕ} (q : ℕ) {second : Outcome} (e : s ≡ letter_record g q) (w : Applied b s (replicate 129 0) m second) where
  second-asked : second ≡ tableau_questions b
  second-asked =
      let string : string_questions s ≡ Ok tt = ap string_questions e ∙ strings_admitted (single (generator g) q) in
      w.answer ∙ own-asked b s (length {A = ℕ} (replicate 129 0)) string (omega (arith, length-blank))

  -- the image takes the whole blank
  image_is : second ≡ Ok tt → m ≡ apply_record b (letter_record g q)
  unfolding apply_record written
  image_is h =
      let long : length (apply_record b s) ≡ string_length = record-length (apply (tableau_of b) (string_of s)) in
      let none : drop {A = ℕ} (length (apply_record b s)) (replicate 129 0) ≡ [] =
      drop_of_length-le (replicate 129 0) {i = length (apply_record b s)} (omega (arith, long, length-blank)) in
      w.bytes ∙ ap (λ x. written x (apply_record b s) (replicate 129 0)) (sym w.answer ∙ h)
      ∙ ap (λ (r : List ℕ). apply_record b s ++ r) none ∙ append-nil (apply_record b s) ∙ ap (apply_record b) e

  pub sent_done : {d f : List ℕ} {r : Outcome} → string_length ≤ length d → second ≡ Ok tt → Applied a m d f r → LetterSent g a b q d f r
  unfolding compose_questions sent_through
  sent_done {d} {f} {r} o h v = record {
    answer = v.answer ∙ asked;
    told = v.told ∙ ap (λ x. reply_to x 0) asked;
    bytes = v.bytes ∙ ap₂ (λ x i. written x (apply_record a i) d) asked (image_is h);
  }
    where
      string : string_questions m ≡ Ok tt
      string = unfold apply_record in ap string_questions (image_is h) ∙ strings_admitted (apply (tableau_of b) (string_of (letter_record g q)))

      asked : apply_answer a m (length d) ≡ (tableau_questions a and_then tableau_questions b)
      asked = own-asked a m (length d) string o ∙ and_then_done (tableau_questions a)
          ∙ ap (λ x. tableau_questions a and_then x) (sym h ∙ second-asked)

  pub sent-not : {first r : Outcome} {x : Refusal} (d : List ℕ) → second ≡ Err x → first ≡ tableau_questions a → r ≡ result_and first second
      → LetterSent g a b q d d r
  unfolding compose_questions
  sent-not {first} d h k p = then_not first second _ d (p ∙ and-is first second ∙ ap₂ ◌and_then◌ k second-asked) (p ∙ and-is first second) h

pub ruleset sending = (sent_done, sent-not, rules)

-- ---- what is sent is the row
module _ (g : Generator) (a b : List ℕ) (q : ℕ) (e : preview_questions a b q ≡ Ok tt) where
  abbrev A : Tableau
  A = tableau_of a

  abbrev B : Tableau
  B = tableau_of b

  both : compose_questions a b ≡ Ok tt
  both = unfold preview_questions in done_first (compose_questions a b) _ e

  inside : q < max (width_of a) (width_of b)
  inside = unfold preview_questions in slot_is q (max (width_of a) (width_of b)) (done_second (compose_questions a b) _ e)

  first-proper : Proper A
  first-proper = unfold compose_questions in admitted_proper a (done_first (tableau_questions a) _ both)

  second-proper : Proper B
  second-proper = unfold compose_questions in admitted_proper b (done_second (tableau_questions a) _ both)

  small : q < qubits
  small = omega (arith, inside, first-proper.narrow, second-proper.narrow, width_of_lem a, width_of_lem b)

  back : Same (tableau_of (compose_record a b)) (compose A B)
  back = unfold compose_record in record-back (compose A B) (proper-compose A B first-proper second-proper)

  first_image : string_of (apply_record b (letter_record g q)) ≡ image_of B q (generator g)
  unfolding apply_record
  first_image =
      string-back (apply B _) (apply-within B second-proper _)
      ∙ ap (apply B) (string-back (single (generator g) q) (within-single qubits (generator g) q small))
      ∙ apply_single B (generator g) q small

  pub row-sent : sent_through g a b q ≡ composed_image g a b q
  unfolding sent_through apply_record composed_image
  row-sent =
      let own : q < (tableau_of (compose_record a b)).width = omega (arith, inside, back.width, width-compose A B, width_of_lem a, width_of_lem b) in
      ap string_record (ap (apply A) first_image ∙ sym (same_row (tableau_of (compose_record a b)) (compose A B) back g q own ∙ row-compose A B g q))

row-previewed : (g : Generator) (a b : List ℕ) (q : ℕ) {d f : List ℕ} {r : Outcome} → Written (preview_answer a b q (length d)) (sent_through g a b q) d f r
    → Previewed g a b q d f r
unfolding preview_answer
row-previewed g a b q {d} w = record {
  answer = w.answer;
  told = w.told;
  bytes = w.bytes ∙ same (preview_answer a b q (length d)) (λ e. row-sent g a b q (done_first (preview_questions a b q) _ e));
}
  where
    same : (x : Outcome) {out new : List ℕ} → (x ≡ Ok tt → out ≡ new) → written x out d ≡ written x new d
    same (Ok tt) h = ap (λ (o : List ℕ). written (Ok tt) o d) (h refl)
    same (Err y) h = unfold written in refl

-- ---- after the questions to the qubit and the destination
module _ (g : Generator) (a b d : List ℕ) (q : ℕ) {inside room rest : Outcome} (i : inside ≡ slot_question q (max (width_of a) (width_of b)))
    (n : room ≡ room_question string_length (length d)) (e : rest ≡ result_and inside room) where
  asked : compose_questions a b and_then rest ≡ preview_answer a b q (length d)
  unfolding preview_answer preview_questions
  asked = ap (λ x. compose_questions a b and_then x) (e ∙ and-is inside room ∙ ap₂ ◌and_then◌ i n) ∙ sym (and_then_assoc (compose_questions a b) _ _)

  pub preview_room : rest ≡ Ok tt → string_length ≤ length d
  preview_room f = room-is string_length (length d) (sym n ∙ done_second inside room (sym (and-is inside room) ∙ sym e ∙ f))

  pub preview_done : {f : List ℕ} {r : Outcome} → rest ≡ Ok tt → LetterSent g a b q d f r → Previewed g a b q d f r
  preview_done {f} {r} h w = row-previewed g a b q (subst (λ x. Written x (sent_through g a b q) d f r)
      (and_then_done (compose_questions a b) ∙ ap (λ x. compose_questions a b and_then x) (sym h) ∙ asked) w)

  pub preview_not : {both r : Outcome} {x : Refusal} → rest ≡ Err x → both ≡ compose_questions a b → r ≡ result_and both rest
      → Previewed g a b q d d r
  preview_not {both} h k p = then_not both rest _ d (p ∙ and-is both rest ∙ ap (λ x. x and_then rest) k ∙ asked) (p ∙ and-is both rest) h

pub ruleset previewing = (preview_room, preview_done, preview_not, rules)

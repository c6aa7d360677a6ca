-- The answers of the functions that write tableaux: what the questions let by, and what is then written.
use Rattle.std.proofs.Common.{◌≡◌, ℕ, ◌-◌, ◌*◌, ◌<◌, ◌≤◌, max, List, [], ◌∷◌, ◌++◌, length, take, drop, replicate, sym, refl, ap, ◌∙◌, subst, ap₂, zero-mul, arith, length-take, rules, Ok, Err, IsErrAnd}
use borrow.Rule.Slice.PartMut.{put_mid}
use Rattle.pauli_group.specs.Letter.{X, Z}
use Rattle.pauli_group.specs.PauliString.{qubits}
use Rattle.clifford_group.specs.Tableau.{Tableau, identity_tableau, apply, widen, compose, inverse, Same}
use Rattle.clifford_group.proofs.Same.{same_refl}
use Rattle.clifford_group.proofs.Images.{image_above}
use Rattle.pauli.specs.declared.refusal.Refusal.{Refusal}
use Rattle.pauli.specs.Answers.{Written, Outcome}
use Rattle.pauli.specs.Layout.{encode_string, decode_string, string_of, string_record, WellFormed}
use Rattle.pauli.specs.Questions.{◌and_then◌, string_questions, room_question}
use Rattle.pauli.proofs.Answers.{written-exit, written-done}
use Rattle.pauli.proofs.Asking.{first_not, first_done, done_first, done_second, string-formed, room-is, record-bytes}
use Rattle.clifford.specs.Layout.{record_length, row_length, width_of, tableau_of, tableau_record, FormedTableau}
use Rattle.clifford.specs.Questions.{width_question, tableau_questions, identity_answer, apply_questions, apply_answer, compose_questions, compose_answer, extend_questions, extend_answer, inverse_answer, pauli_answer}
use Rattle.clifford.specs.Inside.Rows.{AppliesString, letters_in, string_in}
use Rattle.clifford.specs.Tableaux.{identity_record, apply_record, compose_record, extend_record, inverse_record, pauli_record}
use Rattle.clifford.specs.Images.{pauli_tableau}
use Rattle.clifford.specs.Inside.Writing.{Span}
use Rattle.clifford.specs.Inside.Made.{TableauWritten, Widens, Spans}
use Rattle.clifford.specs.Promises.{IdentityWritten, Applied, Composed, Extended, Inverted, FromPauliString}
use Rattle.clifford.proofs.Rows.{width_of_lem}
use Rattle.clifford.proofs.Records.{same-record}
use Rattle.clifford.proofs.Made.{widened-made, composite-made, inverse-made, pauli-made}
use Rattle.clifford.proofs.Asking.{tableau-formed, checked, width_done}

-- ---- the record made where the questions let by, or the refusal
pub made-answer : {q r : Outcome} {d e : List ℕ} {w v : ℕ} {t u : Tableau} → Ok tt ≡ q → w ≡ v → Same t u
    → TableauWritten w t d e r → Written (q and_then room_question (record_length v) (length d)) (tableau_record u) d e r
made-answer {q} {r} {d} {e} {w} {v} {t} {u} h ew same o =
    subst (λ x. Written x (tableau_record u) d e r)
    (first_done h (ap (λ (j : ℕ). room_question (record_length j) (length d)) ew))
    (subst (λ (l : List ℕ). Written (room_question (record_length w) (length d)) l d e r) (same-record t u same) o)

pub refused-answer : {q r : Outcome} {x : Refusal} (y : Outcome) (out d : List ℕ) → Err x ≡ q → IsErrAnd r (λ e. e ≡ x) → Written (q and_then y) out d d r
refused-answer y out d h e = written-exit out d (first_not y h) e

-- ---- identity
pub none-formed : FormedTableau (replicate 1 0)
unfolding record_length
none-formed = record { some = omega arith; narrow = omega arith; long = omega (arith, zero-mul (row_length 0)); rows = λ r h. absurd (no r h) }
  where
    no : (r : ℕ) → r < 2 * 0 → ⊥
    no r h = omega arith

pub identity-widens : {n : ℕ} → Ok tt ≡ width_question n → Widens (replicate 1 0) n
identity-widens h = record { wide = omega arith; narrow = width_done h }

-- the tableau of width 0 widened is the identity
none-widened : (n : ℕ) → Same (widen n (tableau_of (0 ∷ []))) (identity_tableau n)
unfolding widen identity_tableau
none-widened n = record {
  width = omega (arith, width_of_lem (0 ∷ []));
  x_image = λ q l. image_above (tableau_of (0 ∷ [])) q X (omega (arith, width_of_lem (0 ∷ [])));
  z_image = λ q l. image_above (tableau_of (0 ∷ [])) q Z (omega (arith, width_of_lem (0 ∷ [])));
}

pub identity-written : (n : ℕ) {r : Outcome} (d e : List ℕ) → Ok tt ≡ width_question n → TableauWritten n (widen n (tableau_of (replicate 1 0))) d e r → IdentityWritten n d e r
unfolding identity_answer identity_record
identity-written n d e h o = made-answer h refl (none-widened n) o

pub identity-refused : (n : ℕ) {r : Outcome} {x : Refusal} (d : List ℕ) → Err x ≡ width_question n → IsErrAnd r (λ e. e ≡ x) → IdentityWritten n d d r
unfolding identity_answer
identity-refused n d h e = refused-answer _ _ d h e

pub ruleset identities = (none-formed, widened-made, identity-widens, identity-written, identity-refused, rules)

-- ---- apply
module _ (t s d : List ℕ) (ht : Ok tt ≡ tableau_questions t) where
  module _ {r : Outcome} {x : Refusal} where
    pub apply_string-refused : Err x ≡ string_questions s → IsErrAnd r (λ e. e ≡ x) → Applied t s d d r
    unfolding apply_answer apply_questions
    apply_string-refused h e = refused-answer _ _ d (first_done ht h) e

    pub apply_room-refused : Ok tt ≡ string_questions s → Err x ≡ room_question 129 (length d) → IsErrAnd r (λ e. e ≡ x) → Applied t s d d r
    unfolding apply_answer apply_questions
    apply_room-refused hs h e = written-exit _ d (first_done (first_done ht hs) h) e

  module _ (hs : Ok tt ≡ string_questions s) (hr : Ok tt ≡ room_question 129 (length d)) where
    pub apply-room : 129 ≤ length d
    apply-room = room-is 129 (length d) (sym hr)

    string : WellFormed 128 s
    string = string-formed s (sym hs)

    part-long : length (take 129 (drop 0 d)) ≡ 129
    part-long = length-take 129 d ∙ omega (arith, apply-room)

    string-here : letters_in s ≡ 128
    string-here = omega (arith, string.long)

    pub apply-string : AppliesString t s (take 129 (drop 0 d))
    apply-string =
        let formed : FormedTableau t = checked ht in
        record {
          string = subst (λ (w : ℕ). WellFormed w s) (sym string-here) string;
          wide = omega (arith, formed.narrow, part-long);
          reach = omega (arith, string.long, part-long);
          narrow = omega (arith, part-long);
        }

    pub apply-written : {ys : List ℕ} → ys ≡ encode_string (letters_in (take 129 (drop 0 d))) (apply (tableau_of t) (string_in s))
        → Applied t s d (put_mid 0 129 d ys) (Ok tt)
    unfolding apply_answer apply_questions apply_record string_of string_record qubits
    apply-written {ys} e =
        let long : letters_in (take 129 (drop 0 d)) ≡ 128 = ap (λ (j : ℕ). j - 1) part-long in
        written-done (first_done (first_done ht hs) hr)
        (ap (λ (l : List ℕ). l ++ drop 129 d)
        (e ∙ ap₂ (λ (w : ℕ) (v : ℕ). encode_string w (apply (tableau_of t) (decode_string v s))) long string-here)
        ∙ record-bytes (apply (tableau_of t) (decode_string 128 s)) d)

pub apply_tableau-refused : (t s d : List ℕ) {r : Outcome} {x : Refusal} → Err x ≡ tableau_questions t → IsErrAnd r (λ e. e ≡ x) → Applied t s d d r
unfolding apply_answer apply_questions
apply_tableau-refused t s d h e = refused-answer _ _ d (first_not _ h) e

pub ruleset applying = (checked, apply_tableau-refused, apply_string-refused, apply_room-refused, apply-room, apply-string, apply-written, rules)

-- ---- compose
module _ (a b : List ℕ) where
  both : Ok tt ≡ compose_questions a b → tableau_questions a and_then tableau_questions b ≡ Ok tt
  unfolding compose_questions
  both h = sym h

  pub compose-first : Ok tt ≡ compose_questions a b → FormedTableau a
  compose-first h = tableau-formed a (done_first _ _ (both h))

  pub compose-second : Ok tt ≡ compose_questions a b → FormedTableau b
  compose-second h = tableau-formed b (done_second (tableau_questions a) _ (both h))

  pub compose-width : {w m n : ℕ} → w ≡ max m n → m ≡ width_of a → n ≡ width_of b → w ≡ max (width_of a) (width_of b)
  compose-width ew em en = ew ∙ ap₂ max em en

  pub compose-written : {r : Outcome} {w : ℕ} (d e : List ℕ) → Ok tt ≡ compose_questions a b → w ≡ max (width_of a) (width_of b)
      → TableauWritten w (compose (tableau_of a) (tableau_of b)) d e r → Composed a b d e r
  unfolding compose_answer compose_record
  compose-written d e h c o = made-answer h c (same_refl (compose (tableau_of a) (tableau_of b))) o

  pub compose-refused : {r : Outcome} {x : Refusal} (d : List ℕ) → Err x ≡ compose_questions a b → IsErrAnd r (λ e. e ≡ x) → Composed a b d d r
  unfolding compose_answer
  compose-refused d h e = refused-answer _ _ d h e

pub ruleset compositions = (composite-made, compose-first, compose-second, compose-width, compose-written, compose-refused, rules)

-- ---- extended_to
-- widened to the larger width, or to n
widen-larger : (t : Tableau) (n w : ℕ) → w ≡ max t.width n → Same (widen w t) (widen n t)
unfolding widen
widen-larger t n w e = record { width = omega arith; x_image = λ q l. refl; z_image = λ q l. refl }

module _ (t : List ℕ) (n : ℕ) where
  pub extend-first : {r : Outcome} {x : Refusal} (d : List ℕ) → Err x ≡ tableau_questions t → IsErrAnd r (λ e. e ≡ x) → Extended t n d d r
  unfolding extend_answer extend_questions
  extend-first d h e = refused-answer _ _ d (first_not _ h) e

  module _ (ht : Ok tt ≡ tableau_questions t) where
    pub extend-second : {r : Outcome} {x : Refusal} (d : List ℕ) → Err x ≡ width_question n → IsErrAnd r (λ e. e ≡ x) → Extended t n d d r
    unfolding extend_answer extend_questions
    extend-second d h e = refused-answer _ _ d (first_done ht h) e

    module _ (hn : Ok tt ≡ width_question n) {m w : ℕ} (em : m ≡ width_of t) (ew : w ≡ max m n) where
      pub extend-widens : Widens t w
      extend-widens =
          let formed : FormedTableau t = checked ht in
          record { wide = omega (arith, em, ew); narrow = omega (arith, em, ew, formed.narrow, width_done hn) }

      pub extend-written : {r : Outcome} (d e : List ℕ) → TableauWritten w (widen w (tableau_of t)) d e r → Extended t n d e r
      unfolding extend_answer extend_questions extend_record
      extend-written d e o =
          let larger : w ≡ max (width_of t) n = ew ∙ ap (λ (j : ℕ). max j n) em in
          made-answer (first_done ht hn) larger (widen-larger (tableau_of t) n w (larger ∙ ap (λ (j : ℕ). max j n) (sym (width_of_lem t)))) o

pub ruleset extensions = (checked, widened-made, extend-first, extend-second, extend-widens, extend-written, rules)

-- ---- inverse
module _ (t : List ℕ) where
  pub inverse-written : {r : Outcome} (d e : List ℕ) → Ok tt ≡ tableau_questions t → TableauWritten (width_of t) (inverse (tableau_of t)) d e r → Inverted t d e r
  unfolding inverse_answer inverse_record
  inverse-written d e h o = made-answer h refl (same_refl (inverse (tableau_of t))) o

  pub inverse-refused : {r : Outcome} {x : Refusal} (d : List ℕ) → Err x ≡ tableau_questions t → IsErrAnd r (λ e. e ≡ x) → Inverted t d d r
  unfolding inverse_answer
  inverse-refused d h e = refused-answer _ _ d h e

pub ruleset inverses = (inverse-made, checked, inverse-written, inverse-refused, rules)

-- ---- from_pauli_string
module _ (s : List ℕ) where
  pub pauli-string : Ok tt ≡ string_questions s → WellFormed 128 s
  pauli-string h = string-formed s (sym h)

  pub pauli-spans : {w : ℕ} → Ok tt ≡ string_questions s → Span s w → Spans s w
  pauli-spans h w = record { string = pauli-string h; wide = w }

  pub pauli-written : {r : Outcome} {w : ℕ} (d e : List ℕ) → Ok tt ≡ string_questions s → Span s w
      → TableauWritten w (pauli_tableau (string_of s)) d e r → FromPauliString s d e r
  unfolding pauli_answer pauli_record qubits
  pauli-written d e h w o = made-answer h w.is (same_refl (pauli_tableau (string_of s))) o

  pub pauli-refused : {r : Outcome} {x : Refusal} (d : List ℕ) → Err x ≡ string_questions s → IsErrAnd r (λ e. e ≡ x) → FromPauliString s d d r
  unfolding pauli_answer
  pauli-refused d h e = refused-answer _ _ d h e

pub ruleset pauli_tableaux = (pauli-made, pauli-string, pauli-spans, pauli-written, pauli-refused, rules)

-- Laws of tableaux carried to their records: composition, identity and inverse, byte for byte, and strings sent through them.
use Rattle.std.proofs.Common.{◌≡◌, ℕ, ◌≤◌, max, List, length, sym, refl, ap, ◌∙◌, ap₂, arith, Ok}
use Rattle.pauli_group.specs.PauliString.{qubits}
use Rattle.clifford_group.specs.Tableau.{Tableau, identity_tableau, apply, compose, inverse, Clifford, Same}
use Rattle.clifford_group.proofs.Apply.{apply-within}
use Rattle.clifford_group.proofs.Compose.{width-compose, apply-compose, compose_assoc, identity-compose, proper-compose, clifford_compose}
use Rattle.clifford_group.proofs.Identity.{width-identity, apply-identity_tableau, proper-identity, clifford_identity}
use Rattle.clifford_group.proofs.Inverse.{width-inverse, proper-inverse, compose-inverse, clifford_inverse, inverse-compose}
use Rattle.clifford_group.proofs.Same.{same_refl, apply-same, is_valid-same, compose-same}
use Rattle.pauli.specs.Layout.{string_of, string_record}
use Rattle.pauli.specs.Questions.{string_questions}
use Rattle.pauli.proofs.Asking.{admitted_strings}
use Rattle.pauli.proofs.Records.{string-within, string-back}
use Rattle.clifford.specs.Layout.{width_of, tableau_of, tableau_record, record_length, FormedTableau}
use Rattle.clifford.specs.Tableaux.{record_valid, Good, identity_record, apply_record, compose_record, inverse_record}
use Rattle.clifford.proofs.Rows.{width_of_lem}
use Rattle.clifford.proofs.Records.{length-record, width-record, record-back, record_there, proper_of, record-formed, same-record}

clifford_of : {b : List ℕ} → Good b → Clifford (tableau_of b)
unfolding record_valid
clifford_of g = record { proper = proper_of g.formed; valid = g.valid }

narrow : {b : List ℕ} → FormedTableau b → (tableau_of b).width ≤ qubits
narrow f = (proper_of f).narrow

-- the record of a valid tableau is good
good-record : (t : Tableau) → Clifford t → Good (tableau_record t)
unfolding record_valid
good-record t c = record {
  formed = record-formed t c.proper.narrow;
  valid = is_valid-same (tableau_of (tableau_record t)) t (record-back t c.proper) ∙ c.valid;
}

-- ---- composition
module _ {a b : List ℕ} (fa : FormedTableau a) (fb : FormedTableau b) where
  composed : Same (tableau_of (compose_record a b)) (compose (tableau_of a) (tableau_of b))
  unfolding compose_record
  composed = record-back (compose (tableau_of a) (tableau_of b)) (proper-compose (tableau_of a) (tableau_of b) (proper_of fa) (proper_of fb))

  pub compose-formed : FormedTableau (compose_record a b)
  unfolding compose_record
  compose-formed = record-formed (compose (tableau_of a) (tableau_of b)) (proper-compose (tableau_of a) (tableau_of b) (proper_of fa) (proper_of fb)).narrow

pub compose-width : (a b : List ℕ) → width_of (compose_record a b) ≡ max (width_of a) (width_of b)
unfolding compose_record
compose-width a b =
    width-record (compose (tableau_of a) (tableau_of b)) ∙ width-compose (tableau_of a) (tableau_of b) ∙ ap₂ max (width_of_lem a) (width_of_lem b)

pub compose-length : (a b : List ℕ) → length (compose_record a b) ≡ record_length (max (width_of a) (width_of b))
unfolding compose_record
compose-length a b = length-record (compose (tableau_of a) (tableau_of b)) ∙ ap record_length (width-compose (tableau_of a) (tableau_of b) ∙ ap₂ max (width_of_lem a) (width_of_lem b))

pub compose-good : {a b : List ℕ} → Good a → Good b → Good (compose_record a b)
unfolding compose_record
compose-good {a} {b} ga gb = good-record (compose (tableau_of a) (tableau_of b)) (clifford_compose (tableau_of a) (tableau_of b) (clifford_of ga) (clifford_of gb))

compose-is : (a b : List ℕ) → compose_record a b ≡ tableau_record (compose (tableau_of a) (tableau_of b))
unfolding compose_record
compose-is a b = refl

pub records_assoc : {a b c : List ℕ} → Good a → FormedTableau b → FormedTableau c → compose_record (compose_record a b) c ≡ compose_record a (compose_record b c)
records_assoc {a} {b} {c} ga fb fc =
    let A = tableau_of a in
    let B = tableau_of b in
    let C = tableau_of c in
    compose-is (compose_record a b) c
    ∙ same-record (compose (tableau_of (compose_record a b)) C) (compose (compose A B) C) (compose-same _ _ C C (composed ga.formed fb) (same_refl C))
    ∙ same-record (compose (compose A B) C) (compose A (compose B C)) (compose_assoc A B C (clifford_of ga) (narrow fb) (narrow fc))
    ∙ sym (same-record (compose A (tableau_of (compose_record b c))) (compose A (compose B C)) (compose-same A A _ _ (same_refl A) (composed fb fc)))
    ∙ sym (compose-is a (compose_record b c))

-- ---- identity
identity_of : (w : ℕ) → w ≤ qubits → Same (tableau_of (identity_record w)) (identity_tableau w)
unfolding identity_record
identity_of w h = record-back (identity_tableau w) (proper-identity w h)

pub identity-width : (w : ℕ) → width_of (identity_record w) ≡ w
unfolding identity_record
identity-width w = width-record (identity_tableau w) ∙ width-identity w

pub identity-good : (w : ℕ) → w ≤ qubits → Good (identity_record w)
unfolding identity_record
identity-good w h = good-record (identity_tableau w) (clifford_identity w h)

pub identity-left : {c : List ℕ} (w : ℕ) → FormedTableau c → w ≤ width_of c → compose_record (identity_record w) c ≡ c
identity-left {c} w fc h =
    let C = tableau_of c in
    let small : w ≤ qubits = omega (arith, narrow fc, width_of_lem c) in
    compose-is (identity_record w) c
    ∙ same-record (compose (tableau_of (identity_record w)) C) (compose (identity_tableau w) C) (compose-same _ _ C C (identity_of w small) (same_refl C))
    ∙ same-record (compose (identity_tableau w) C) C (identity-compose w C (proper_of fc) (omega (arith, width_of_lem c)))
    ∙ record_there fc

-- ---- inverse
module _ {a : List ℕ} (fa : FormedTableau a) where
  inverted : Same (tableau_of (inverse_record a)) (inverse (tableau_of a))
  unfolding inverse_record
  inverted = record-back (inverse (tableau_of a)) (proper-inverse (tableau_of a) (narrow fa))

pub inverse-width : (a : List ℕ) → width_of (inverse_record a) ≡ width_of a
unfolding inverse_record
inverse-width a = width-record (inverse (tableau_of a)) ∙ width-inverse (tableau_of a) ∙ width_of_lem a

pub inverse-good : {a : List ℕ} → Good a → Good (inverse_record a)
unfolding inverse_record
inverse-good {a} g = good-record (inverse (tableau_of a)) (clifford_inverse (tableau_of a) (clifford_of g))

pub inverse_left : {a : List ℕ} → Good a → compose_record (inverse_record a) a ≡ identity_record (width_of a)
unfolding identity_record
inverse_left {a} g =
    let A = tableau_of a in
    compose-is (inverse_record a) a
    ∙ same-record (compose (tableau_of (inverse_record a)) A) (compose (inverse A) A) (compose-same _ _ A A (inverted g.formed) (same_refl A))
    ∙ same-record (compose (inverse A) A) (identity_tableau A.width) (inverse-compose A (clifford_of g))
    ∙ ap (λ (w : ℕ). tableau_record (identity_tableau w)) (width_of_lem a)

pub inverse-right : {a : List ℕ} → Good a → compose_record a (inverse_record a) ≡ identity_record (width_of a)
unfolding identity_record
inverse-right {a} g =
    let A = tableau_of a in
    compose-is a (inverse_record a)
    ∙ same-record (compose A (tableau_of (inverse_record a))) (compose A (inverse A)) (compose-same A A _ _ (same_refl A) (inverted g.formed))
    ∙ same-record (compose A (inverse A)) (identity_tableau A.width) (compose-inverse A (clifford_of g))
    ∙ ap (λ (w : ℕ). tableau_record (identity_tableau w)) (width_of_lem a)

-- ---- strings
-- sent through a composition as through b and then a
pub send_compose : {a b : List ℕ} → Good a → FormedTableau b → (s : List ℕ) → apply_record (compose_record a b) s ≡ apply_record a (apply_record b s)
unfolding apply_record
send_compose {a} {b} ga fb s =
    let A = tableau_of a in
    let B = tableau_of b in
    let S = string_of s in
    ap string_record (apply-same (tableau_of (compose_record a b)) (compose A B) (composed ga.formed fb) S ∙ apply-compose A B (clifford_of ga) S
    ∙ ap (apply A) (sym (string-back (apply B S) (apply-within B (proper_of fb) S))))

pub send_identity : (n : ℕ) → n ≤ qubits → (s : List ℕ) → string_questions s ≡ Ok tt → apply_record (identity_record n) s ≡ s
unfolding apply_record
send_identity n h s e =
    ap string_record (apply-same (tableau_of (identity_record n)) (identity_tableau n) (identity_of n h) (string_of s) ∙ apply-identity_tableau n (string_of s) (string-within s))
    ∙ sym (admitted_strings s e)

-- A gate is named exactly when the tableau has width 1 and is valid, and it is the gate whose tableau on qubit 0 the record is.
use mathlib.Core.Path.{◌≡◌, refl, sym, ap, subst, ◌∙◌}
use mathlib.Core.Bool.{Bool, true, false, cond, ◌&&◌}
use mathlib.Core.List.{List}
use Prim.Native.Nat.{ℕ, ◌<◌}
use native.Mathlib.Omega.{arith}
use lib.Dec.{eqb, ltb}
use borrow.Author.Tests.{lt-ltb, ltb-true}
use Rattle.clifford_gates.specs.GateTableaux.{on_qubit}
use Rattle.clifford_gates.specs.GateNumbers.{one_qubit_gate}
use Rattle.clifford_gates.proofs.OneQubitUpdates.{width-on_qubit}
use Rattle.clifford_gates.proofs.GateNames.{some-qubit, name_same, on_qubit_names, named-valid, named-same}
use Rattle.clifford.specs.Layout.{width_of, tableau_of, FormedTableau}
use Rattle.clifford.specs.Tableaux.{record_valid}
use Rattle.clifford.specs.GateAnswers.{named, one_qubit_record, record_name}
use Rattle.clifford.proofs.Rows.{width_of_lem}
use Rattle.clifford.proofs.Asking.{tableau-formed}
use Rattle.clifford.proofs.Records.{record-back, record_there, proper_of, same-record}
use Rattle.clifford_laws.specs.NamedGates.{NameTheorem}
use Rattle.clifford_laws.proofs.GateRecords.{one_clifford}
use Rattle.std.specs.Prelude.{Ok, Some, None, Option}
use Rattle.pauli.specs.Answers.{Answer, answer_to}

-- ---- the name
name_valid : {t : List ℕ} → FormedTableau t → ltb (record_name t) 24 ≡ eqb (width_of t) 1 && record_valid t
unfolding record_name record_valid
name_valid {t} f = named-valid (tableau_of t) (proper_of f) ∙ ap (λ (w : ℕ). eqb w 1 && record_valid t) (width_of_lem t)

name_own : {t : List ℕ} → FormedTableau t → record_name t < 24 → one_qubit_record (record_name t) 0 ≡ t
unfolding record_name one_qubit_record
name_own {t} f h = sym (same-record (tableau_of t) _ (named-same (tableau_of t) (proper_of f) h)) ∙ record_there f

name_only : (g : ℕ) → g < 24 → record_name (one_qubit_record g 0) ≡ g
unfolding record_name one_qubit_record
name_only g h =
    let back = record-back (on_qubit (one_qubit_gate g) 0) (one_clifford g 0 h some-qubit).proper in
    name_same _ _ back (omega (arith, back.width, width-on_qubit (one_qubit_gate g) 0)) ∙ on_qubit_names g h

-- ---- the answer
by-cases : (b : Bool) (n : ℕ) → ◌≡◌ {A = Answer (Option ℕ)} (Ok (cond b (Some n) None)) (cond b (Ok (Some n)) (Ok None))
by-cases true n = refl
by-cases false n = refl

is-named : (b : Bool) {n g : ℕ} → ◌≡◌ {A = Answer (Option ℕ)} (cond b (Ok (Some n)) (Ok None)) (Ok (Some g)) → (b ≡ true) × (n ≡ g)
is-named true e = (refl, cc)
is-named false e = (cc, cc)

pub names_exactly : NameTheorem
names_exactly t q r p = record {
  exactly = answer ∙ ap (λ b. cond b (Ok (Some n)) (Ok None)) (name_valid f);
  own = λ g e. let found = is-named (ltb n 24) (sym answer ∙ e) in
      let small : n < 24 = ltb-true n 24 found.0 in
      subst (λ k. (k < 24) × (one_qubit_record k 0 ≡ t)) found.1 (small, name_own f small);
  only = λ g h e. let same : n ≡ g = sym (ap record_name e) ∙ name_only g h in
      answer ∙ ap (λ b. cond b (Ok (Some n)) (Ok None)) (lt-ltb n 24 (omega arith)) ∙ ap (λ k. Ok (Some k)) same;
}
  where
    n : ℕ
    n = record_name t

    f : FormedTableau t
    f = tableau-formed t q

    answer : r ≡ cond (ltb n 24) (Ok (Some n)) (Ok None)
    answer = unfold answer_to named in p.answer ∙ ap (λ o. answer_to o (named n)) q ∙ by-cases (ltb n 24) n

-- The tableau of a run: it is valid, and it has the list's width.
use mathlib.Core.Path.{◌≡◌, refl, sym, ap, ◌∙◌, subst}
use mathlib.Core.Bool.{true}
use mathlib.Core.List.{List}
use Prim.Native.Nat.{ℕ, ◌<◌, ◌≤◌}
use native.Mathlib.Decide.{dec_lt}
use native.Mathlib.Omega.{arith}
use lib.ListN.{length}
use Rattle.pauli_group.specs.PauliString.{qubits}
use Rattle.clifford.specs.Layout.{record_length, width_of, longest_record}
use Rattle.clifford.specs.GateAnswers.{gate_record}
use Rattle.clifford.specs.Tableaux.{record_valid, Good, identity_record, compose_record}
use Rattle.clifford_laws.specs.WayBack.{Steps, product_from, product_of}
use Rattle.clifford_laws.specs.WayBack as back
use Rattle.clifford_laws.proofs.GateRecords.{gate-good}
use Rattle.clifford_laws.proofs.PlayedGates.{played-is, width-played}
use Rattle.clifford.proofs.RecordLaws.{identity-width, identity-good, compose-good, compose-width}
use Rattle.clifford.proofs.Records.{record-small}
use Rattle.gate_list.specs.Lists.{Play, list_width, gates_of}
use Rattle.gate_list.specs.ListQuestions.{list_questions}
use Rattle.gate_list.specs.OrderedLists.{PlayFits, PlaysFit, none, more}
use Rattle.gate_list.specs.Runs.{tableaux_of, run_record}
use Rattle.gate_list.proofs.GateOrder.{product-first}
use Rattle.gate_list.proofs.AdmittedChains.{admitted_plays, admitted_narrow}
use Rattle.std.specs.Prelude.{Ok}

-- ---- one gate
module _ {w : ℕ} {p : Play} (small : w ≤ qubits) (f : PlayFits w p) where
  second-small : p.second < qubits
  second-small = elim (dec_lt p.gate 24) [
    | yes l ↦ omega (arith, f.unused l, f.first)
    | no l ↦ omega (arith, f.second (omega arith))
  ]

  pub own-good : Good (gate_record p.gate p.first p.second)
  own-good = gate-good p.gate p.first p.second f.gate (omega (arith, f.first)) second-small f.different

  module _ {t : List ℕ} (g : Good t) (e : width_of t ≡ w) where
    then_good : Good (compose_record (gate_record p.gate p.first p.second) t)
    then_good = compose-good own-good g

    then_width : width_of (compose_record (gate_record p.gate p.first p.second) t) ≡ w
    then_width =
        ap width_of (sym (played-is p.gate p.first p.second t g.formed f.gate (omega (arith, f.first)) (λ h. omega (arith, f.second h)) f.different))
        ∙ width-played p.gate p.first p.second t ∙ e

  pub gate-narrow : width_of (gate_record p.gate p.first p.second) ≤ w
  gate-narrow =
      omega (arith, compose-width (gate_record p.gate p.first p.second) (identity_record w), then_width (identity-good w small) (identity-width w), identity-width w)

-- ---- gates, one after another
pub record ValidOf (w : ℕ) (t : List ℕ) : Type 0 where
  pub good : Good t
  pub width : width_of t ≡ w

product-valid : {w : ℕ} {ps : List Play} {t : List ℕ} → w ≤ qubits → PlaysFit w ps → ValidOf w t → ValidOf w (product_from t (tableaux_of ps))
unfolding product_from tableaux_of
product-valid small none v = v
product-valid {w} {t = t} small (more {p} {rest} f g) v =
    subst (ValidOf w) (sym (product-first t p rest))
    (product-valid small g (record { good = then_good small f v.good v.width; width = then_width small f v.good v.width }))

gates_steps : {w : ℕ} {ps : List Play} → w ≤ qubits → PlaysFit w ps → Steps w (tableaux_of ps)
unfolding tableaux_of
gates_steps small none = back.none
gates_steps small (more f g) = back.step (record { valid = (own-good small f).valid; narrow = gate-narrow small f }) (gates_steps small g)

module _ (l : List ℕ) (e : list_questions l ≡ Ok tt) where
  small : list_width l ≤ qubits
  small = unfold qubits in admitted_narrow l e

  run_valid_of : ValidOf (list_width l) (run_record l)
  unfolding run_record product_of
  run_valid_of =
      product-valid small (admitted_plays l e) (record { good = identity-good (list_width l) small; width = identity-width (list_width l) })

  -- the gates' tableaux are steps of clifford's WayBack: valid, and no wider than the list
  pub run_steps : Steps (list_width l) (tableaux_of (gates_of l))
  run_steps = gates_steps small (admitted_plays l e)

  pub run_good : Good (run_record l)
  run_good = run_valid_of.good

  pub run_valid : record_valid (run_record l) ≡ true
  run_valid = run_good.valid

  pub run_width : width_of (run_record l) ≡ list_width l
  run_width = run_valid_of.width

  pub run_length : length (run_record l) ≡ record_length (list_width l)
  run_length = run_good.formed.long ∙ ap record_length run_width

  pub run_small : length (run_record l) ≤ longest_record
  run_small = omega (arith, run_length, record-small (list_width l) (admitted_narrow l e))

-- the run is, as it stands, the product of the gates' own tableaux that WayBack defines
pub run_product : (l : List ℕ) → run_record l ≡ product_of (list_width l) (tableaux_of (gates_of l))
unfolding run_record
run_product l = refl

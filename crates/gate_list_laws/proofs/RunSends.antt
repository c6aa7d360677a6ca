-- A string sent through the record of a run goes as by the gates' own tableaux, one after another.
use Rattle.std.specs.Prelude.{Ok}
use mathlib.Core.Path.{◌≡◌, ap, ◌∙◌}
use mathlib.Core.List.{List}
use Prim.Native.Nat.{ℕ, ◌≤◌}
use Rattle.pauli_group.specs.PauliString.{qubits}
use Rattle.pauli.specs.Questions.{string_questions}
use Rattle.clifford.specs.Tableaux.{identity_record, apply_record}
use Rattle.clifford.proofs.RecordLaws.{identity-good, send_identity}
use Rattle.clifford_laws.specs.WayBack.{product_of, sent_by}
use Rattle.clifford_laws.proofs.WayBacks.{GoodSteps, nil, more as good_more, product-sends}
use Rattle.gate_list.specs.Lists.{Play, list_width, gates_of}
use Rattle.gate_list.specs.ListQuestions.{list_questions}
use Rattle.gate_list.specs.OrderedLists.{PlaysFit, none, more}
use Rattle.gate_list.specs.Runs.{tableaux_of, run_record}
use Rattle.gate_list.proofs.AdmittedChains.{admitted_narrow, admitted_plays}
use Rattle.gate_list.proofs.RunTableaux.{own-good, gate-narrow}

gates_good : {w : ℕ} {ps : List Play} → w ≤ qubits → PlaysFit w ps → GoodSteps w (tableaux_of ps)
unfolding tableaux_of
gates_good small none = nil
gates_good small (more f g) = good_more (own-good small f) (gate-narrow small f) (gates_good small g)

pub run_sends : (l : List ℕ) → list_questions l ≡ Ok tt → (s : List ℕ) → string_questions s ≡ Ok tt
    → apply_record (run_record l) s ≡ sent_by (tableaux_of (gates_of l)) s
unfolding run_record product_of
run_sends l e s h =
    let small : list_width l ≤ qubits = unfold qubits in admitted_narrow l e in
    let gates = tableaux_of (gates_of l) in
    product-sends (list_width l) (identity_record (list_width l)) gates (identity-good (list_width l) small).formed (gates_good small (admitted_plays l e)) s
    ∙ ap (sent_by gates) (send_identity (list_width l) small s h)

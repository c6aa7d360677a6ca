-- The chain of an admitted list: it ends, and each record on it says a gate that can be played.
use mathlib.Core.Path.{◌≡◌, refl, sym, ap, ◌∙◌, subst}
use mathlib.Core.Bool.{Bool, true, false, cond, not, ◌||◌}
use mathlib.Core.List.{List, [], ◌∷◌}
use Prim.Native.Nat.{ℕ, zero, suc, ◌-◌, ◌<◌, ◌≤◌}
use native.Mathlib.Decide.{ℕ_discrete}
use native.Mathlib.Omega.{arith}
use lib.Dec.{eqb}
use lib.ListN.{length}
use borrow.Author.Tests.{eqb-true, eqb-false, leb-true, ltb-true, lt-leb, le-ltb, eq-eqb, ne_eqb, not-true}
use Rattle.pauli_group.specs.PauliString.{qubits}
use Rattle.pauli.specs.declared.refusal.Refusal.TheVariants.{Width, StepGate, StepQubit, StepSameQubit, ListRecord, Loop}
use Rattle.pauli.specs.Questions.{ask, ◌and_then◌}
use Rattle.pauli.proofs.Asking.{ask_done, done_first, done_second, never_done}
use Rattle.clifford_group.proofs.Valid.{and_both}
use Rattle.clifford.specs.Questions.{width_question}
use Rattle.gate_list.specs.Lists.{record_count, byte_of, list_width, next_of, play_of, chain_from, chain_of, plays_of, gates_of}
use Rattle.gate_list.specs.ListQuestions.{size_question, head_question, link_question, zeros_question, step_gate_question, step_qubit_question, step_second_questions, record_questions, is_met, chain_questions, list_questions}
use Rattle.gate_list.specs.OrderedLists.{PlayFits, PlaysFit, none, more, Chain, ends, links}
use Rattle.gate_list.specs.Runs.{step_count}
use Rattle.gate_list.proofs.Chains.{chain_met, chain_more, link_done, record-link}
use Rattle.gate_list.proofs.ListAdmitted.{Sized, size_done, sized_few}
use Rattle.std.specs.Prelude.{Ok}

-- ---- one record
module _ (l : List ℕ) (i : ℕ) (e : record_questions l i ≡ Ok tt) where
  pub zeros_of : zeros_question l i ≡ Ok tt
  unfolding record_questions
  zeros_of = done_first _ _ e

  gate_of : step_gate_question l i ≡ Ok tt
  unfolding record_questions
  gate_of = done_first _ _ (done_second (zeros_question l i) _ e)

  first_of : step_qubit_question l i (byte_of l i 1) ≡ Ok tt
  unfolding record_questions
  first_of = done_first _ _ (done_second (step_gate_question l i) _ (done_second (zeros_question l i) _ e))

  second_of_lem : step_second_questions l i ≡ Ok tt
  unfolding record_questions
  second_of_lem =
      done_first _ _
      (done_second (step_qubit_question l i (byte_of l i 1)) _ (done_second (step_gate_question l i) _ (done_second (zeros_question l i) _ e)))

  two_of : 24 ≤ byte_of l i 0 → step_qubit_question l i (byte_of l i 2) and_then ask (not (eqb (byte_of l i 1) (byte_of l i 2))) (StepSameQubit i) ≡ Ok tt
  unfolding step_second_questions
  two_of h =
      sym (ap (λ b. cond b (Ok tt) (step_qubit_question l i (byte_of l i 2) and_then ask (not (eqb (byte_of l i 1) (byte_of l i 2))) (StepSameQubit i))) (le-ltb (byte_of l i 0) 24 h)) ∙ second_of_lem

  or_second : {a b : Bool} → (a || b) ≡ true → a ≡ false → b ≡ true
  or_second {a} {b} h k = sym (ap (λ x. x || b) k) ∙ h

  pub record-play : PlayFits (list_width l) (play_of l i)
  unfolding play_of zeros_question step_gate_question step_qubit_question
  record-play = record {
    gate = ltb-true _ 38 (ask_done _ (StepGate i) gate_of);
    first = ltb-true _ _ (ask_done _ (StepQubit i) first_of);
    second = λ h. ltb-true _ _ (ask_done _ (StepQubit i) (done_first _ _ (two_of h)));
    different = λ h. eqb-false _ _ (not-true _ (ask_done _ (StepSameQubit i) (done_second (step_qubit_question l i (byte_of l i 2)) _ (two_of h))));
    unused = λ h. eqb-true _ 0 (or_second (and_both (eqb (byte_of l i 3) 0) _ (ask_done _ (ListRecord i) zeros_of)).1 (lt-leb 24 (byte_of l i 0) h));
  }

-- ---- the chain
pub chain_none : (l : List ℕ) (n i : ℕ) → i ≡ 0 → chain_from l n i ≡ []
unfolding chain_from
chain_none l zero i h = refl
chain_none l (suc n) i h = ap (λ b. cond b [] (i ∷ chain_from l n (next_of l i))) (eq-eqb i 0 h)

pub chain_one : (l : List ℕ) (n i : ℕ) → (i ≡ 0 → ⊥) → chain_from l (suc n) i ≡ i ∷ chain_from l n (next_of l i)
unfolding chain_from
chain_one l n i h = ap (λ b. cond b [] (i ∷ chain_from l n (next_of l i))) (ne_eqb i 0 h)

-- what is known of the records from record i on
pub record Played (l : List ℕ) (i : ℕ) (rest : List ℕ) : Type 0 where
  pub chain : Chain l i rest
  pub plays : PlaysFit (list_width l) (plays_of l rest)

played_end : (l : List ℕ) (i : ℕ) → i ≡ 0 → Played l i []
unfolding plays_of
played_end l i h = record { chain = subst (λ (j : ℕ). Chain l j []) (sym h) ends; plays = none }

played-more : {l : List ℕ} {i : ℕ} {rest : List ℕ} → (i ≡ 0 → ⊥) → i < record_count l → record_questions l i ≡ Ok tt
    → Played l (next_of l i) rest → Played l i (i ∷ rest)
unfolding plays_of
played-more {l} {i} h o e p = record { chain = links h o p.chain; plays = more (record-play l i e) p.plays }

chain_zero : (l met : List ℕ) (i : ℕ) → chain_questions l met zero i ≡ Ok tt → i ≡ 0
unfolding chain_questions
chain_zero l met i e = eqb-true i 0 (ask_done _ (Loop i) e)

chain_done : (l met : List ℕ) (n i : ℕ) → i < record_count l → chain_questions l met n i ≡ Ok tt → Played l i (chain_from l n i)
chain_done l met zero i o e =
    let z = chain_zero l met i e in
    subst (Played l i) (sym (chain_none l zero i z)) (played_end l i z)
chain_done l met (suc n) i o e = elim (ℕ_discrete i 0) [
  | yes z ↦ subst (Played l i) (sym (chain_none l (suc n) i z)) (played_end l i z)
  | no z ↦ step (λ o e. chain_done l (i ∷ met) n (next_of l i) o e) z (is_met met i) refl
]
  where
    step : (next_of l i < record_count l → chain_questions l (i ∷ met) n (next_of l i) ≡ Ok tt → Played l (next_of l i) (chain_from l n (next_of l i)))
        → (i ≡ 0 → ⊥) → (b : Bool) → is_met met i ≡ b → Played l i (chain_from l (suc n) i)
    step then z true m = absurd (never_done (sym (chain_met l met (suc n) i z m) ∙ e))
    step then z false m =
        let all = sym (chain_more l met n i z m) ∙ e in
        let own = done_first _ _ all in
        let rest = done_second (record_questions l i) _ all in
        subst (Played l i) (sym (chain_one l n i z)) (played-more z o own (then (record-link l i own) rest))

-- ---- a whole list
module _ (l : List ℕ) (e : list_questions l ≡ Ok tt) where
  size_of : size_question l ≡ Ok tt
  unfolding list_questions
  size_of = done_first _ _ e

  width_of_lem : width_question (list_width l) ≡ Ok tt
  unfolding list_questions
  width_of_lem = done_first _ _ (done_second (size_question l) _ e)

  links_of : link_question l 0 and_then chain_questions l [] (record_count l - 1) (next_of l 0) ≡ Ok tt
  unfolding list_questions
  links_of = done_second (head_question l) _ (done_second (width_question (list_width l)) _ (done_second (size_question l) _ e))

  admitted : Played l (next_of l 0) (chain_of l)
  unfolding chain_of
  admitted = chain_done l [] (record_count l - 1) (next_of l 0) (link_done l 0 (done_first _ _ links_of)) (done_second (link_question l 0) _ links_of)

  pub admitted_sized : Sized l
  admitted_sized = size_done l size_of

  pub admitted_narrow : list_width l ≤ 128
  unfolding width_question qubits
  admitted_narrow = leb-true (list_width l) 128 (ask_done _ Width width_of_lem)

  -- following the links from the head reaches 0
  pub admitted_chain : Chain l (next_of l 0) (chain_of l)
  admitted_chain = admitted.chain

  pub admitted_plays : PlaysFit (list_width l) (gates_of l)
  unfolding gates_of
  admitted_plays = admitted.plays

-- ---- the steps are the records on the chain
plays-length : (l is : List ℕ) → length (plays_of l is) ≡ length is
unfolding plays_of
plays-length l [] = refl
plays-length l (i ∷ rest) = ap suc (plays-length l rest)

pub step_count_lem : (l : List ℕ) → step_count l ≡ length (chain_of l)
unfolding step_count gates_of
step_count_lem l = plays-length l (chain_of l)

chain_few : (l : List ℕ) (n i : ℕ) → length (chain_from l n i) ≤ n
unfolding chain_from
chain_few l zero i = omega arith
chain_few l (suc n) i = step (chain_few l n (next_of l i)) (eqb i 0)
  where
    step : length (chain_from l n (next_of l i)) ≤ n → (b : Bool) → length (cond b [] (i ∷ chain_from l n (next_of l i))) ≤ suc n
    step h true = omega arith
    step h false = omega arith

pub steps-few : (l : List ℕ) → list_questions l ≡ Ok tt → step_count l ≤ 4095
unfolding chain_of
steps-few l e = omega (arith, step_count_lem l, chain_few l (record_count l - 1) (next_of l 0), sized_few (admitted_sized l e))

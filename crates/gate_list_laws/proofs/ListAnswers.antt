-- What the questions of a list answer: Done exactly for gate lists, 19 exactly where the chain comes back, and no number of another
-- question.
use mathlib.Core.Path.{◌≡◌, refl, sym, ◌∙◌, subst}
use mathlib.Core.Bool.{Bool, true, false}
use mathlib.Core.List.{List, [], ◌∷◌}
use Prim.Native.Nat.{ℕ, zero, suc, ◌-◌}
use native.Mathlib.Decide.{ℕ_discrete}
use native.Mathlib.Omega.{arith}
use Rattle.pauli.specs.declared.refusal.Refusal.{Refusal}
use Rattle.pauli.specs.declared.refusal.Refusal.TheVariants.{Width, ListLength, ListRecord, Link, Loop}
use Rattle.pauli.specs.Answers.{refusal_number, Outcome}
use Rattle.pauli.specs.Questions.{◌and_then◌}
use Rattle.pauli.proofs.Asking.{passed}
use Rattle.clifford.specs.Questions.{width_question}
use Rattle.clifford.proofs.Asking.{width_narrow}
use Rattle.clifford_gates.specs.Gates.{All}
use Rattle.gate_list.specs.Lists.{record_count, list_width, next_of, chain_of}
use Rattle.gate_list.specs.ListQuestions.{size_question, head_question, link_question, record_questions, is_met, chain_questions, list_questions}
use Rattle.gate_list.specs.OrderedLists.{ends}
use Rattle.gate_list.proofs.AdmittedChains.{admitted_chain}
use Rattle.gate_list.proofs.Chains.{chain_end, chain_met, chain_more}
use Rattle.gate_list.proofs.ListAsking.{size_good, head-good, link-good}
use Rattle.gate_list.proofs.ListRefusals.{Refusing, one, refusing_ask, record_refusing, refusal_of}
use Rattle.gate_list_laws.specs.GateLists.{RightHead, GateList, Walk, starts, meets, ComesBack, list_numbers}
use Rattle.gate_list_laws.proofs.RightLists.{passed_right, passed_head}
use Rattle.gate_list_laws.proofs.Walks.{left, left_all, left_fewer, walk-own, met_some, walk-asked, none_left_lem, chain_only, chain_walked, Forward, walk_forward}
use Rattle.std.specs.Prelude.{Ok, Err}

-- ---- from the list to its answer
-- a right head leaves the chain to be asked
head-asked : {l : List ℕ} → RightHead l → list_questions l ≡ chain_questions l [] (record_count l - 1) (next_of l 0)
unfolding list_questions
head-asked {l} h =
    sym
    (passed (size_good l h.whole h.some h.few) refl
    (passed (width_narrow h.narrow) refl
    (passed (head-good l h.gate h.second h.fixed) refl
    (passed (link-good l 0 h.link) refl refl))))

walk-answered : {l met : List ℕ} {i : ℕ} → RightHead l → Walk l met i → list_questions l ≡ chain_questions l met (left l met) i
walk-answered h w = head-asked h ∙ walk-asked h w

pub lists_admitted : {l chain : List ℕ} → GateList l chain → list_questions l ≡ Ok tt
lists_admitted {l} g =
    let e = chain_walked g.head starts g.ended g.right in
    walk-answered g.head e.walk ∙ chain_end l e.met (left l e.met) 0 refl

pub loops_refused : {l : List ℕ} {i : ℕ} → ComesBack l i → list_questions l ≡ Err (Loop i)
loops_refused {l} {i} c = walk-answered c.head c.walk ∙ chain_met l c.met (left l c.met) i (met_some c.walk c.again) c.again

-- ---- from the answer to the list
abbrev NotLoop : Refusal → Type 0
NotLoop r = refusal_number r ≡ 19 → ⊥

data Answer (l : List ℕ) : Outcome → Type 0 where
  ended : {met : List ℕ} → RightHead l → Walk l met 0 → Answer l (Ok tt)
  back : {i : ℕ} → ComesBack l i → Answer l (Err (Loop i))
  other : {r : Refusal} → NotLoop r → Answer l (Err r)

then_answer : {l : List ℕ} (a b : Outcome) → Refusing NotLoop a → (a ≡ Ok tt → Answer l b) → Answer l (a and_then b)
unfolding ◌and_then◌
then_answer (Ok tt) b p k = k refl
then_answer (Err r) b (one p) k = other p

record-other : (l : List ℕ) (i : ℕ) → Refusing NotLoop (record_questions l i)
unfolding refusal_number
record-other l i = record_refusing l i (record { zeros = omega arith; gate = omega arith; qubit = omega arith; same = omega arith; link = omega arith })

chain_answer : {l met : List ℕ} {i : ℕ} → RightHead l → (n : ℕ) → n ≡ left l met → Walk l met i → Answer l (chain_questions l met n i)
chain_answer {l} {met} {i} h zero e w = elim (ℕ_discrete i 0) [
  | yes z ↦ subst (Answer l) (sym (chain_end l met zero i z)) (ended h (subst (Walk l met) z w))
  | no z ↦ let m = none_left_lem h w z (sym e) in
      subst (Answer l) (sym (chain_met l met zero i z m)) (back (record { head = h; met = met; walk = w; again = m }))
]
chain_answer {l} {met} {i} h (suc n) e w = elim (ℕ_discrete i 0) [
  | yes z ↦ subst (Answer l) (sym (chain_end l met (suc n) i z)) (ended h (subst (Walk l met) z w))
  | no z ↦ by z (λ e w. chain_answer {met = i ∷ met} h n e w) (is_met met i) refl
]
  where
    by : (i ≡ 0 → ⊥) → (n ≡ left l (i ∷ met) → Walk l (i ∷ met) (next_of l i) → Answer l (chain_questions l (i ∷ met) n (next_of l i)))
        → (b : Bool) → is_met met i ≡ b → Answer l (chain_questions l met (suc n) i)
    by z then true m = subst (Answer l) (sym (chain_met l met (suc n) i z m)) (back (record { head = h; met = met; walk = w; again = m }))
    by z then false m =
        subst (Answer l) (sym (chain_more l met n i z m))
        (then_answer (record_questions l i) _ (record-other l i)
        (λ d. then (omega (arith, left_fewer l met i z (walk-own h w) m)) (meets w z m (passed_right l i d))))

list_answer : (l : List ℕ) → Answer l (list_questions l)
unfolding list_questions size_question width_question head_question link_question refusal_number
list_answer l =
    then_answer (size_question l) _ (refusing_ask _ ListLength (omega arith))
    (λ s. then_answer (width_question (list_width l)) _ (refusing_ask _ Width (omega arith))
    (λ w. then_answer (head_question l) _ (refusing_ask _ (ListRecord 0) (omega arith))
    (λ z. then_answer (link_question l 0) _ (refusing_ask _ (Link 0) (omega arith))
    (λ k. chain_answer (passed_head l s w z k) (record_count l - 1) (sym (left_all l)) starts))))

done_right : {l : List ℕ} → Answer l (Ok tt) → Forward l
done_right (ended h w) = walk_forward h w ends All.none

pub admitted_lists : (l : List ℕ) → list_questions l ≡ Ok tt → GateList l (chain_of l)
admitted_lists l e =
    let f = done_right (subst (Answer l) e (list_answer l)) in
    subst (GateList l) (chain_only f.list.ended (admitted_chain l e)) f.list

-- so a gate list has one chain, which the definitions of a run follow
pub list_chain : {l chain : List ℕ} → GateList l chain → chain ≡ chain_of l
list_chain {l} g = chain_only g.ended (admitted_chain l (lists_admitted g))

pub refused_loops : (l : List ℕ) {i : ℕ} → list_questions l ≡ Err (Loop i) → ComesBack l i
refused_loops l e = loop-back (subst (Answer l) e (list_answer l))
  where
    loop-back : {l : List ℕ} {i : ℕ} → Answer l (Err (Loop i)) → ComesBack l i
    loop-back (back c) = c
    loop-back (other p) = absurd (unfold refusal_number in p refl)

-- ---- no other number
pub refusal_numbers : (l : List ℕ) {r : Refusal} → list_questions l ≡ Err r → is_met list_numbers (refusal_number r) ≡ true
unfolding refusal_number is_met
refusal_numbers l =
    refusal_of (λ r. is_met list_numbers (refusal_number r) ≡ true) l refl refl
    (λ i h. record { zeros = refl; gate = refl; qubit = refl; same = refl; link = refl }) (λ i h. refl)

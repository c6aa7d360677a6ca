-- The refusals of a list: what holds of those of its questions holds of its own. Their details are records, so they are at most 4,095.
use mathlib.Core.Path.{◌≡◌, refl, subst}
use mathlib.Core.Bool.{Bool, true, false, cond, not}
use mathlib.Core.List.{List, [], ◌∷◌}
use Prim.Native.Nat.{ℕ, zero, suc, ◌-◌, ◌<◌, ◌≤◌}
use native.Mathlib.Omega.{arith}
use lib.Dec.{eqb, ltb}
use Rattle.pauli.specs.declared.refusal.Refusal.{Refusal}
use Rattle.pauli.specs.declared.refusal.Refusal.TheVariants.{Width, StepGate, StepQubit, StepSameQubit, ListLength, ListRecord, Link, Loop}
use Rattle.pauli.specs.Answers.{refusal_detail, Outcome}
use Rattle.pauli.specs.Questions.{ask, ◌and_then◌}
use Rattle.clifford.specs.Questions.{width_question}
use Rattle.gate_list.specs.Lists.{record_count, byte_of, list_width, next_of}
use Rattle.gate_list.specs.ListQuestions.{size_question, head_question, link_question, zeros_question, step_gate_question, step_qubit_question, step_second_questions, record_questions, is_met, chain_questions, list_questions}
use Rattle.gate_list.proofs.Chains.{link_done, record-link}
use Rattle.gate_list.proofs.ListAdmitted.{size_done, sized_few}
use Rattle.std.specs.Prelude.{Ok, Err}

-- ---- outcomes whose refusal, if there is one, is of a kind P
pub data Refusing (P : Refusal → Type 0) : Outcome → Type 0 where
  none : Refusing P (Ok tt)
  one : {r : Refusal} → P r → Refusing P (Err r)

pub refusing_ask : {P : Refusal → Type 0} (b : Bool) (r : Refusal) → P r → Refusing P (ask b r)
unfolding ask
refusing_ask true r h = none
refusing_ask false r h = one h

refusing_cond : {P : Refusal → Type 0} (b : Bool) {x y : Outcome} → Refusing P x → Refusing P y → Refusing P (cond b x y)
refusing_cond true a b = a
refusing_cond false a b = b

refusing_then : {P : Refusal → Type 0} (a b : Outcome) → Refusing P a → (a ≡ Ok tt → Refusing P b) → Refusing P (a and_then b)
unfolding ◌and_then◌
refusing_then (Ok tt) b h k = k refl
refusing_then (Err r) b h k = h

refusing_one : {P : Refusal → Type 0} {r : Refusal} → Refusing P (Err r) → P r
refusing_one (one h) = h

-- ---- one record
pub record OfRecord (P : Refusal → Type 0) (i : ℕ) : Type 0 where
  pub zeros : P (ListRecord i)
  pub gate : P (StepGate i)
  pub qubit : P (StepQubit i)
  pub same : P (StepSameQubit i)
  pub link : P (Link i)

module _ {P : Refusal → Type 0} (l : List ℕ) (i : ℕ) (p : OfRecord P i) where
  link_refusing : Refusing P (link_question l i)
  unfolding link_question
  link_refusing = refusing_ask _ (Link i) p.link

  zeros_refusing : Refusing P (zeros_question l i)
  unfolding zeros_question
  zeros_refusing = refusing_ask _ (ListRecord i) p.zeros

  gate_refusing : Refusing P (step_gate_question l i)
  unfolding step_gate_question
  gate_refusing = refusing_ask _ (StepGate i) p.gate

  qubit_refusing : (q : ℕ) → Refusing P (step_qubit_question l i q)
  unfolding step_qubit_question
  qubit_refusing q = refusing_ask _ (StepQubit i) p.qubit

  second_refusing : Refusing P (step_second_questions l i)
  unfolding step_second_questions
  second_refusing =
      refusing_cond (ltb (byte_of l i 0) 24) none
      (refusing_then (step_qubit_question l i (byte_of l i 2)) _ (qubit_refusing (byte_of l i 2))
      (λ e. refusing_ask (not (eqb (byte_of l i 1) (byte_of l i 2))) (StepSameQubit i) p.same))

  pub record_refusing : Refusing P (record_questions l i)
  unfolding record_questions
  record_refusing =
      refusing_then _ _ zeros_refusing
      (λ e. refusing_then _ _ gate_refusing
      (λ e. refusing_then _ _ (qubit_refusing (byte_of l i 1)) (λ e. refusing_then _ _ second_refusing (λ e. link_refusing))))

-- ---- the chain, and the whole list
module _ (P : Refusal → Type 0) (l : List ℕ) (size : P ListLength) (width : P Width)
    (own : (i : ℕ) → i ≤ 4095 → OfRecord P i) (loop : (i : ℕ) → i ≤ 4095 → P (Loop i)) where
  chain_refusing : (met : List ℕ) (n i : ℕ) → record_count l ≤ 4096 → i < record_count l → Refusing P (chain_questions l met n i)
  unfolding chain_questions
  chain_refusing met zero i h o = refusing_ask _ (Loop i) (loop i (omega arith))
  chain_refusing met (suc n) i h o =
      refusing_cond (eqb i 0) none
      (refusing_cond (is_met met i) (one (loop i (omega arith)))
      (refusing_then _ _ (record_refusing l i (own i (omega arith))) (λ e. chain_refusing (i ∷ met) n (next_of l i) h (record-link l i e))))

  list_refusing : Refusing P (list_questions l)
  unfolding list_questions size_question width_question head_question
  list_refusing =
      refusing_then (size_question l) _ (refusing_ask _ ListLength size)
      (λ s. refusing_then (width_question (list_width l)) _ (refusing_ask _ Width width)
      (λ w. refusing_then (head_question l) _ (refusing_ask _ (ListRecord 0) (own 0 (omega arith)).zeros)
      (λ z. refusing_then (link_question l 0) _ (link_refusing l 0 (own 0 (omega arith)))
      (λ k. chain_refusing [] (record_count l - 1) (next_of l 0) (sized_few (size_done l s)) (link_done l 0 k)))))

  pub refusal_of : {r : Refusal} → list_questions l ≡ Err r → P r
  refusal_of e = refusing_one (subst (Refusing P) e list_refusing)

pub record Listed (r : Refusal) : Type 0 where
  pub detail : refusal_detail r ≤ 4095

pub refusal-listed : (l : List ℕ) {r : Refusal} → list_questions l ≡ Err r → Listed r
unfolding refusal_detail
refusal-listed l =
    refusal_of Listed l (record { detail = omega arith }) (record { detail = omega arith })
    (λ i h. record {
      zeros = record { detail = h };
      gate = record { detail = h };
      qubit = record { detail = h };
      same = record { detail = h };
      link = record { detail = h };
    })
    (λ i h. record { detail = h })

-- The walk along a chain: the records met are those that are marked, and each turn leaves one fewer to meet.
use mathlib.Core.Path.{◌≡◌, refl, sym, ap, ap₂, ◌∙◌}
use mathlib.Core.Bool.{Bool, true, false, cond, not, ◌||◌}
use mathlib.Core.List.{List, [], ◌∷◌}
use Prim.Native.Nat.{ℕ, zero, suc, ◌-◌, ◌<◌, ◌≤◌}
use native.Mathlib.Decide.{ℕ_discrete}
use native.Mathlib.Omega.{arith}
use lib.ListN.{length, get_or, set, length-set}
use lib.Seq.{get_or-set_same, get_or-set_other}
use borrow.Author.Rules.{rules}
use borrow.Author.Tests.{ltb-true, eq-eqb, ne_eqb}
use Rattle.pauli_group.specs.PauliString.{count_to}
use Rattle.pauli_group.proofs.Products.{count_changed}
use Rattle.pauli.specs.declared.refusal.Refusal.{Refusal}
use Rattle.pauli.specs.declared.refusal.Refusal.TheVariants.{Link, Loop}
use Rattle.pauli.specs.Questions.{◌and_then◌}
use Rattle.pauli.proofs.Asking.{first_not, asked_yes, asked_no, ask_done, refused, passed, done_second}
use Rattle.gate_list.specs.Lists.{record_count, byte_of, next_of}
use Rattle.gate_list.specs.ListQuestions.{link_question, zeros_question, step_gate_question, step_qubit_question, step_second_questions, record_questions, is_met, chain_questions}
use Rattle.gate_list.specs.Inside.Reading.{BeforeChain, links_question}
use Rattle.pauli.specs.Answers.{Outcome}
use Rattle.std.specs.Prelude.{Ok, Err}

-- ---- one place fewer
pub count_fewer : (n : ℕ) (f g : ℕ → Bool) (p : ℕ) → p < n → f p ≡ true → g p ≡ false → ((q : ℕ) → (q ≡ p → ⊥) → f q ≡ g q) → count_to n f ≡ suc (count_to n g)
count_fewer n f g p h t e s = omega (arith, count_changed n f g p h s, ap {B = ℕ} (λ b. cond b 1 0) t, ap {B = ℕ} (λ b. cond b 1 0) e)

pub count_all : (n : ℕ) (f : ℕ → Bool) → ((q : ℕ) → f q ≡ true) → count_to n f ≡ n
unfolding count_to
count_all zero f h = refl
count_all (suc n) f h = omega (arith, count_all n f h, ap {B = ℕ} (λ b. cond b 1 0) (h n))

-- the number of records from 1 to c that have no mark
unfoldable pub unmet : ℕ → List Bool → ℕ
unmet c m = count_to c (λ k. not (get_or m (suc k) false))

unmet_all : (c : ℕ) (m : List Bool) → ((k : ℕ) → get_or m k false ≡ false) → unmet c m ≡ c
unfolding unmet
unmet_all c m h = count_all c (λ k. not (get_or m (suc k) false)) (λ k. ap not (h (suc k)))

unmet_mark : (c : ℕ) (m : List Bool) (i : ℕ) → suc i ≤ c → suc i < length m → get_or m (suc i) false ≡ false → unmet c m ≡ suc (unmet c (set m (suc i) true))
unfolding unmet
unmet_mark c m i h l e =
    count_fewer c (λ k. not (get_or m (suc k) false)) (λ k. not (get_or (set m (suc i) true) (suc k) false)) i h (ap not e)
    (ap not (get_or-set_same m (suc i) true false l))
    (λ q d. ap not (sym (get_or-set_other m (suc i) (suc q) true false (other q d))))
  where
    other : (q : ℕ) → (q ≡ i → ⊥) → suc q ≡ suc i → ⊥
    other q d z = d (omega arith)

-- ---- the questions along the chain, one record at a time
pub chain_end : (l met : List ℕ) (n i : ℕ) → i ≡ 0 → chain_questions l met n i ≡ Ok tt
unfolding chain_questions
chain_end l met zero i h = sym (asked_yes (Loop i) (eq-eqb i 0 h))
chain_end l met (suc n) i h =
    ap (λ b. cond b (Ok tt) (cond (is_met met i) (Err (Loop i)) (record_questions l i and_then chain_questions l (i ∷ met) n (next_of l i)))) (eq-eqb i 0 h)

pub chain_met : (l met : List ℕ) (n i : ℕ) → (i ≡ 0 → ⊥) → is_met met i ≡ true → chain_questions l met n i ≡ Err (Loop i)
unfolding chain_questions
chain_met l met zero i h e = sym (asked_no (Loop i) (ne_eqb i 0 h))
chain_met l met (suc n) i h e =
    ap₂ (λ a b. cond a (Ok tt) (cond b (Err (Loop i)) (record_questions l i and_then chain_questions l (i ∷ met) n (next_of l i)))) (ne_eqb i 0 h) e

pub chain_more : (l met : List ℕ) (n i : ℕ) → (i ≡ 0 → ⊥) → is_met met i ≡ false
    → chain_questions l met (suc n) i ≡ record_questions l i and_then chain_questions l (i ∷ met) n (next_of l i)
unfolding chain_questions
chain_more l met n i h e =
    ap₂ (λ a b. cond a (Ok tt) (cond b (Err (Loop i)) (record_questions l i and_then chain_questions l (i ∷ met) n (next_of l i)))) (ne_eqb i 0 h) e

-- a record that passes links to a record
pub link_done : (l : List ℕ) (i : ℕ) → link_question l i ≡ Ok tt → next_of l i < record_count l
unfolding link_question
link_done l i e = ltb-true _ _ (ask_done _ (Link i) e)

pub record-link : (l : List ℕ) (i : ℕ) → record_questions l i ≡ Ok tt → next_of l i < record_count l
unfolding record_questions
record-link l i e =
    link_done l i
    (done_second (step_second_questions l i) _
    (done_second (step_qubit_question l i (byte_of l i 1)) _ (done_second (step_gate_question l i) _ (done_second (zeros_question l i) _ e))))

-- ---- the walk: the questions along the whole chain come to q, and the link of record k is followed next
pub record Walking (l : List ℕ) (q : Outcome) (m : List Bool) (k : ℕ) : Type 0 where
  pub long : length m ≡ 4096
  pub few : record_count l ≤ 4096
  pub own : k < record_count l
  pub link : next_of l k < record_count l
  pub met : List ℕ
  pub marks : (j : ℕ) → is_met met j ≡ get_or m j false
  pub same : q ≡ chain_questions l met (unmet (record_count l - 1) m) (next_of l k)

module _ (l : List ℕ) {r : Outcome} (e : r ≡ link_question l 0) where
  pub walking_not : {x : Refusal} → r ≡ Err x → r ≡ links_question l
  unfolding links_question
  walking_not h = refused _ e h

  pub walking_start : {m : List Bool} → r ≡ Ok tt → BeforeChain l m → Walking l (links_question l) m 0
  unfolding links_question is_met
  walking_start {m} h u = record {
    long = u.blank.long;
    few = u.few;
    own = u.some;
    link = link_done l 0 (sym e ∙ h);
    met = [];
    marks = λ j. sym (u.blank.clear j);
    same = sym (passed e h refl) ∙ ap (λ (n : ℕ). chain_questions l [] n (next_of l 0)) (sym (unmet_all (record_count l - 1) m u.blank.clear));
  }

-- record i is the one that is linked to
module _ {l : List ℕ} {m : List Bool} {q : Outcome} {k i : ℕ} (w : Walking l q m k) (ei : i ≡ next_of l k) where
  abbrev left : ℕ
  left = unmet (record_count l - 1) m

  abbrev then_left : ℕ
  then_left = unmet (record_count l - 1) (set m i true)

  at-link : q ≡ chain_questions l w.met left i
  at-link = w.same ∙ ap (chain_questions l w.met left) (sym ei)

  pub walking_own : i < record_count l
  walking_own = omega (arith, w.link)

  pub walking_room : i < length m
  walking_room = omega (arith, w.long, w.few, w.link)

  pub walking_end : i ≡ 0 → Ok tt ≡ q
  walking_end h = sym (at-link ∙ chain_end l w.met left i h)

  pub walking_met : (i ≡ 0 → ⊥) → get_or m i false ≡ true → Err (Loop i) ≡ q
  walking_met h e = sym (at-link ∙ chain_met l w.met left i h (w.marks i ∙ e))

  module _ (h : i ≡ 0 → ⊥) (e : get_or m i false ≡ false) where
    fewer : left ≡ suc then_left
    fewer = by i refl
      where
        by : (j : ℕ) → i ≡ j → left ≡ suc then_left
        by zero z = absurd (h z)
        by (suc j) z =
            unmet_mark (record_count l - 1) m j (omega (arith, w.link)) (omega (arith, walking_room)) (ap (λ (x : ℕ). get_or m x false) (sym z) ∙ e)
            ∙ ap (λ (x : ℕ). suc (unmet (record_count l - 1) (set m x true))) (sym z)

    pub walking_less : then_left < left
    walking_less = omega (arith, fewer)

    asked-next : q ≡ record_questions l i and_then chain_questions l (i ∷ w.met) then_left (next_of l i)
    asked-next =
        at-link ∙ ap (λ (n : ℕ). chain_questions l w.met n i) fewer
        ∙ chain_more l w.met then_left i h (w.marks i ∙ e)

    pub walking_refused : {x : Refusal} → Err x ≡ record_questions l i → Err x ≡ q
    walking_refused er = first_not (chain_questions l (i ∷ w.met) then_left (next_of l i)) er ∙ sym asked-next

    pub walking_step : {r : Outcome} → r ≡ record_questions l i → r ≡ Ok tt → Walking l q (set m i true) i
    unfolding is_met
    walking_step {r} er ed = record {
      long = length-set m i true ∙ w.long;
      few = w.few;
      own = walking_own;
      link = record-link l i (sym er ∙ ed);
      met = i ∷ w.met;
      marks = λ j. elim (ℕ_discrete j i) [
        | yes d ↦ ap (λ b. b || is_met w.met j) (eq-eqb i j (sym d))
            ∙ sym (ap (λ (x : ℕ). get_or (set m i true) x false) d ∙ get_or-set_same m i true false walking_room)
        | no d ↦ ap (λ b. b || is_met w.met j) (ne_eqb i j (λ z. d (sym z))) ∙ w.marks j
            ∙ sym (get_or-set_other m i j true false d)
      ];
      same = asked-next ∙ sym (passed er ed refl);
    }

pub ruleset walks = (
  walking_not,
  walking_start,
  walking_own,
  walking_room,
  walking_end,
  walking_met,
  walking_less,
  walking_refused,
  walking_step,
  rules,
)

-- Lists whose records stand in the order of their chain: they are admitted, and hold their gates.
use mathlib.Core.Path.{◌≡◌, refl, sym, ap, ap₂, ◌∙◌, subst}
use mathlib.Core.Bool.{false, cond, not, ◌||◌}
use mathlib.Core.List.{List, [], ◌∷◌, ◌++◌, append_assoc}
use Prim.Native.Nat.{ℕ, suc, ◌+◌, ◌*◌, ◌-◌, ◌<◌, ◌≤◌}
use native.Mathlib.Decide.{dec_lt}
use native.Mathlib.Omega.{arith}
use lib.Dec.{eqb}
use lib.ListN.{length, get_or, length-append}
use lib.Seq.{get_or-append-add}
use borrow.Author.Tests.{lt-ltb, le-ltb, ne_eqb}
use Rattle.pauli.specs.declared.refusal.Refusal.TheVariants.{StepGate, StepQubit, StepSameQubit}
use Rattle.pauli.specs.Answers.{Outcome}
use Rattle.pauli.specs.Questions.{ask, ◌and_then◌}
use Rattle.pauli.proofs.Asking.{asked_yes, passed}
use Rattle.clifford_laws.specs.WayBack.{product_of}
use Rattle.clifford.proofs.Asking.{width_narrow}
use Rattle.gate_list.specs.Lists.{Play, record_count, byte_of, list_width, next_of, play_of, chain_from, chain_of, plays_of, gates_of}
use Rattle.gate_list.specs.ListQuestions.{zeros_question, step_gate_question, step_qubit_question, step_second_questions, record_questions, is_met, chain_questions, list_questions}
use Rattle.gate_list.specs.OrderedLists.{PlayFits, PlaysFit, none, more, record_bytes, link_to, records_from, head_play, ordered_list}
use Rattle.gate_list.specs.Runs.{tableaux_of, run_record}
use Rattle.gate_list.proofs.AdmittedChains.{chain_none, chain_one}
use Rattle.gate_list.proofs.Chains.{chain_end, chain_more}
use Rattle.gate_list.proofs.ListAsking.{by_tests, size_good, head-good, link-good}
use Rattle.std.specs.Prelude.{Ok}

-- ---- the bytes of record i
pub record RecordIs (l : List ℕ) (i : ℕ) (p : Play) (next : ℕ) : Type 0 where
  pub gate : byte_of l i 0 ≡ p.gate
  pub first : byte_of l i 1 ≡ p.first
  pub second : byte_of l i 2 ≡ p.second
  pub fixed : byte_of l i 3 ≡ 0
  pub link : next_of l i ≡ next

module _ (before rest : List ℕ) (i : ℕ) (e : length before ≡ 6 * i) (p : Play) (next : ℕ) where
  abbrev whole : List ℕ
  whole = before ++ (record_bytes p next ++ rest)

  byte-is : (k : ℕ) → byte_of whole i k ≡ get_or (record_bytes p next ++ rest) k 0
  unfolding byte_of
  byte-is k =
      let place : 6 * i + k ≡ length before + k = omega arith in
      ap (λ (j : ℕ). get_or whole j 0) place ∙ get_or-append-add before (record_bytes p next ++ rest) k 0

  record_is : RecordIs whole i p next
  unfolding record_bytes next_of
  record_is = record {
    gate = byte-is 0;
    first = byte-is 1;
    second = byte-is 2;
    fixed = byte-is 3;
    link = ap₂ (λ (a b : ℕ). a + 256 * b) (byte-is 4) (byte-is 5) ∙ omega arith;
  }

-- the records from record i on are these
data Holds (l : List ℕ) : ℕ → List Play → Type 0 where
  empty : {i : ℕ} → Holds l i []
  holds : {i : ℕ} {p : Play} {rest : List Play} → RecordIs l i p (link_to (suc i) rest) → Holds l (suc i) rest → Holds l i (p ∷ rest)

holds_from : (ps : List Play) (before : List ℕ) (i : ℕ) → length before ≡ 6 * i → Holds (before ++ records_from i ps) i ps
unfolding records_from
holds_from [] before i e = empty
holds_from (p ∷ rest) before i e =
    let next = link_to (suc i) rest in
    let after = records_from (suc i) rest in
    holds (record_is before after i e p next)
    (subst (λ (l : List ℕ). Holds l (suc i) rest) (append_assoc before (record_bytes p next) after)
    (holds_from rest (before ++ record_bytes p next) (suc i) (longer before e p next)))
  where
    longer : (before : List ℕ) → length before ≡ 6 * i → (p : Play) (next : ℕ) → length (before ++ record_bytes p next) ≡ 6 * suc i
    longer before e p next = length-append before (record_bytes p next) ∙ six
      where
        six : length before + length (record_bytes p next) ≡ 6 * suc i
        six = unfold record_bytes in omega arith

records_length : (i : ℕ) (ps : List Play) → length (records_from i ps) ≡ 6 * length ps
unfolding records_from record_bytes
records_length i [] = refl
records_length i (p ∷ rest) = omega (arith, records_length (suc i) rest)

-- ---- the questions of a record
module _ {l : List ℕ} {i : ℕ} {p : Play} {next : ℕ} (r : RecordIs l i p next) (f : PlayFits (list_width l) p) (o : next < record_count l) where
  zeros_done : Ok tt ≡ zeros_question l i
  unfolding zeros_question
  zeros_done = elim (dec_lt (byte_of l i 0) 24) [
    | yes h ↦ grind (arith, by_tests, r.fixed, r.second, f.unused (omega (arith, r.gate)))
    | no h ↦ grind (arith, by_tests, r.fixed)
  ]

  gate_done : Ok tt ≡ step_gate_question l i
  unfolding step_gate_question
  gate_done = asked_yes (StepGate i) (lt-ltb (byte_of l i 0) 38 (omega (arith, r.gate, f.gate)))

  qubit_done : (q : ℕ) → q < list_width l → Ok tt ≡ step_qubit_question l i q
  unfolding step_qubit_question
  qubit_done q h = asked_yes (StepQubit i) (lt-ltb q (list_width l) h)

  abbrev two_questions : Outcome
  two_questions = step_qubit_question l i (byte_of l i 2) and_then ask (not (eqb (byte_of l i 1) (byte_of l i 2))) (StepSameQubit i)

  two_done : 24 ≤ p.gate → Ok tt ≡ two_questions
  two_done h =
      passed (qubit_done (byte_of l i 2) (omega (arith, r.second, f.second h))) refl
      (asked_yes (StepSameQubit i) (ap not (ne_eqb _ _ (λ e. f.different h (sym r.first ∙ e ∙ r.second)))))

  second_done : Ok tt ≡ step_second_questions l i
  unfolding step_second_questions
  second_done = elim (dec_lt (byte_of l i 0) 24) [
    | yes h ↦ sym (ap (λ b. cond b (Ok tt) two_questions) (lt-ltb (byte_of l i 0) 24 h))
    | no h ↦ two_done (omega (arith, r.gate)) ∙ sym (ap (λ b. cond b (Ok tt) two_questions) (le-ltb (byte_of l i 0) 24 (omega arith)))
  ]

  pub record_done : Ok tt ≡ record_questions l i
  unfolding record_questions
  record_done =
      passed zeros_done refl
      (passed gate_done refl
      (passed (qubit_done (byte_of l i 1) (omega (arith, r.first, f.first))) refl (passed second_done refl (link-good l i (omega (arith, r.link))))))

-- ---- the chain
link-below : (i : ℕ) (ps : List Play) (c : ℕ) → 0 < i → c ≡ i + length ps → link_to i ps < c
unfolding link_to
link-below i [] c h e = omega arith
link-below i (p ∷ rest) c h e = omega arith

met-not : (i : ℕ) (met : List ℕ) → ((k : ℕ) → i ≤ k → is_met met k ≡ false) → (k : ℕ) → suc i ≤ k → is_met (i ∷ met) k ≡ false
unfolding is_met
met-not i met h k l = ap₂ (λ a b. a || b) (ne_eqb i k (λ z. absurd (never z))) (h k (omega arith))
  where
    never : i ≡ k → ⊥
    never z = omega arith

chain_admitted : {l : List ℕ} {i : ℕ} {ps : List Play} (met : List ℕ) → Holds l i ps → PlaysFit (list_width l) ps → 0 < i → record_count l ≡ i + length ps
    → ((k : ℕ) → i ≤ k → is_met met k ≡ false) → chain_questions l met (length ps) (link_to i ps) ≡ Ok tt
unfolding link_to
chain_admitted {l} {i} met empty none h c m = chain_end l met 0 0 refl
chain_admitted {l} {i} met (holds {rest = rest} r s) (more f g) h c m =
    let below = link-below (suc i) rest (record_count l) (omega arith) (omega arith) in
    chain_more l met (length rest) i (λ z. absurd (never i h z)) (m i (omega arith))
    ∙ sym (passed (record_done r f below) refl (sym (ap (chain_questions l (i ∷ met) (length rest)) r.link ∙ chain_admitted (i ∷ met) s g (omega arith) (omega arith) (met-not i met m))))
  where
    never : (i : ℕ) → 0 < i → i ≡ 0 → ⊥
    never i h z = omega arith

abbrev play : ℕ → ℕ → ℕ → Play
play g q r = record { gate = g; first = q; second = r }

play-is : {l : List ℕ} {i : ℕ} {p : Play} {n : ℕ} → RecordIs l i p n → play_of l i ≡ p
unfolding play_of
play-is {l} {i} {p} r = ap₂ (λ (g q : ℕ). play g q (byte_of l i 2)) r.gate r.first ∙ ap (play p.gate p.first) r.second

chain_plays : {l : List ℕ} {i : ℕ} {ps : List Play} → Holds l i ps → 0 < i → plays_of l (chain_from l (length ps) (link_to i ps)) ≡ ps
unfolding link_to plays_of
chain_plays {l} empty h = ap (plays_of l) (chain_none l 0 0 refl)
chain_plays {l} {i} (holds {p = p} {rest} r s) h =
    ap (plays_of l) (chain_one l (length rest) i (λ z. absurd (never i h z)))
    ∙ ap₂ (λ (x : Play) (y : List Play). x ∷ y) (play-is r) (ap (λ (j : ℕ). plays_of l (chain_from l (length rest) j)) r.link ∙ chain_plays s (omega arith))
  where
    never : (i : ℕ) → 0 < i → i ≡ 0 → ⊥
    never i h z = omega arith

-- ---- the whole list
module _ (w : ℕ) (ps : List Play) where
  abbrev list : List ℕ
  list = ordered_list w ps

  long : length list ≡ 6 * suc (length ps)
  unfolding ordered_list
  long = records_length 0 (head_play w ∷ ps)

  pub ordered_count : record_count list ≡ 1 + length ps
  unfolding record_count
  ordered_count = omega (arith, long)

  all : Holds list 0 (head_play w ∷ ps)
  unfolding ordered_list
  all = holds_from (head_play w ∷ ps) [] 0 refl

  head-is : RecordIs list 0 (head_play w) (link_to 1 ps)
  head-is = first_of all
    where
      first_of : {l : List ℕ} {p : Play} {rest : List Play} → Holds l 0 (p ∷ rest) → RecordIs l 0 p (link_to 1 rest)
      first_of (holds r s) = r

  rest-is : Holds list 1 ps
  rest-is = rest_of all
    where
      rest_of : {l : List ℕ} {p : Play} {rest : List Play} → Holds l 0 (p ∷ rest) → Holds l 1 rest
      rest_of (holds r s) = s

  pub ordered_width : list_width list ≡ w
  unfolding list_width head_play
  ordered_width = head-is.first

  chain_is : chain_of list ≡ chain_from list (length ps) (link_to 1 ps)
  unfolding chain_of
  chain_is =
      let left : record_count list - 1 ≡ length ps = omega (arith, ordered_count) in
      ap₂ (chain_from list) left head-is.link

  -- it holds the gates in their order
  pub ordered_gates : gates_of list ≡ ps
  unfolding gates_of
  ordered_gates = ap (plays_of list) chain_is ∙ chain_plays rest-is (omega arith)

  -- and its run is their product
  pub ordered_run : run_record list ≡ product_of w (tableaux_of ps)
  unfolding run_record
  ordered_run = ap₂ (λ (v : ℕ) (x : List Play). product_of v (tableaux_of x)) ordered_width ordered_gates

  -- it is admitted
  module _ (narrow : w ≤ 128) (few : length ps ≤ 4095) (fit : PlaysFit w ps) where
    links_done : chain_questions list [] (record_count list - 1) (next_of list 0) ≡ Ok tt
    links_done =
        let left : record_count list - 1 ≡ length ps = omega (arith, ordered_count) in
        ap₂ (chain_questions list []) left head-is.link
        ∙ chain_admitted [] rest-is (subst (λ (v : ℕ). PlaysFit v ps) (sym ordered_width) fit) (omega arith) ordered_count (λ k h. nothing k)
      where
        nothing : (k : ℕ) → is_met [] k ≡ false
        nothing k = unfold is_met in refl

    pub ordered_admitted : list_questions list ≡ Ok tt
    unfolding list_questions head_play
    ordered_admitted =
        sym
        (passed (size_good list (omega (arith, long)) (omega (arith, long)) (omega (arith, long))) refl
        (passed (width_narrow (omega (arith, ordered_width))) refl
        (passed (head-good list head-is.gate head-is.second head-is.fixed) refl
        (passed (link-good list 0 (omega (arith, head-is.link, link-below 1 ps (record_count list) (omega arith) ordered_count))) refl (sym links_done)))))

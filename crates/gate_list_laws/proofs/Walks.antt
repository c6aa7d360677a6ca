-- Walks along the links: the questions along the chain follow them, with a turn left for each record that was not met.
use mathlib.Core.Path.{◌≡◌, refl, sym, ap, ◌∙◌, subst}
use mathlib.Core.Bool.{Bool, true, false, not, ◌||◌}
use mathlib.Core.List.{List, [], ◌∷◌}
use Prim.Native.Nat.{ℕ, zero, suc, ◌-◌, ◌<◌}
use native.Mathlib.Decide.{ℕ_discrete}
use native.Mathlib.Omega.{arith}
use lib.ListN.{length}
use borrow.Author.Tests.{eq-eqb, ne_eqb}
use Rattle.pauli_group.specs.PauliString.{count_to}
use Rattle.pauli.proofs.Asking.{passed}
use Rattle.clifford_gates.specs.Gates.{All, Different}
use Rattle.gate_list.specs.Lists.{record_count, next_of}
use Rattle.gate_list.specs.ListQuestions.{is_met, chain_questions}
use Rattle.gate_list.specs.OrderedLists.{Chain, ends, links}
use Rattle.gate_list.proofs.Chains.{count_fewer, count_all, chain_more}
use Rattle.gate_list_laws.specs.GateLists.{RightHead, RightRecord, GateList, Walk, starts, meets}
use Rattle.gate_list_laws.proofs.RightLists.{right_passes}

true_not_false : true ≡ false → ⊥
true_not_false e = let z : ◌≡◌ {A = ℕ} 0 1 = cc in omega arith

-- ---- the records met
met-one : (i : ℕ) (met : List ℕ) → is_met (i ∷ met) i ≡ true
unfolding is_met
met-one i met = ap (λ b. b || is_met met i) (eq-eqb i i refl)

met-other : (i : ℕ) (met : List ℕ) (k : ℕ) → (i ≡ k → ⊥) → is_met (i ∷ met) k ≡ is_met met k
unfolding is_met
met-other i met k h = ap (λ b. b || is_met met k) (ne_eqb i k h)

met-none : (k : ℕ) → is_met [] k ≡ false
unfolding is_met
met-none k = refl

-- the records from 1 on that were not met
unfoldable pub left : List ℕ → List ℕ → ℕ
left l met = count_to (record_count l - 1) (λ k. not (is_met met (suc k)))

pub left_all : (l : List ℕ) → left l [] ≡ record_count l - 1
unfolding left
left_all l = count_all (record_count l - 1) (λ k. not (is_met [] (suc k))) (λ k. ap not (met-none (suc k)))

pub left_fewer : (l met : List ℕ) (i : ℕ) → (i ≡ 0 → ⊥) → i < record_count l → is_met met i ≡ false → left l met ≡ suc (left l (i ∷ met))
unfolding left
left_fewer l met zero h o e = absurd (h refl)
left_fewer l met (suc i) h o e =
    count_fewer (record_count l - 1) (λ k. not (is_met met (suc k))) (λ k. not (is_met (suc i ∷ met) (suc k))) i (omega arith) (ap not e)
    (ap not (met-one (suc i) met)) (λ q d. ap not (sym (met-other (suc i) met (suc q) (λ z. d (omega arith)))))

-- ---- walks
pub walk-own : {l met : List ℕ} {i : ℕ} → RightHead l → Walk l met i → i < record_count l
walk-own h starts = h.link
walk-own h (meets w z m r) = r.link

-- the head is none of the records met
head_unmet : {l met : List ℕ} {i : ℕ} → Walk l met i → is_met met 0 ≡ false
head_unmet starts = met-none 0
head_unmet (meets {met} {i} w z m r) = met-other i met 0 z ∙ head_unmet w

pub met_some : {l met : List ℕ} {i : ℕ} → Walk l met i → is_met met i ≡ true → i ≡ 0 → ⊥
met_some {met = met} w m z = true_not_false (sym m ∙ ap (is_met met) z ∙ head_unmet w)

pub walk-asked : {l met : List ℕ} {i : ℕ} → RightHead l → Walk l met i
    → chain_questions l [] (record_count l - 1) (next_of l 0) ≡ chain_questions l met (left l met) i
walk-asked {l} h starts = ap (λ (n : ℕ). chain_questions l [] n (next_of l 0)) (sym (left_all l))
walk-asked {l} h (meets {met} {i} w z m r) =
    walk-asked h w ∙ ap (λ (n : ℕ). chain_questions l met n i) (left_fewer l met i z (walk-own h w) m)
    ∙ chain_more l met (left l (i ∷ met)) i z m ∙ sym (passed (sym (right_passes r)) refl refl)

-- where none is left to meet, the next record was met
pub none_left_lem : {l met : List ℕ} {i : ℕ} → RightHead l → Walk l met i → (i ≡ 0 → ⊥) → left l met ≡ 0 → is_met met i ≡ true
none_left_lem {l} {met} {i} h w z e = by (is_met met i) refl
  where
    by : (b : Bool) → is_met met i ≡ b → is_met met i ≡ true
    by true m = m
    by false m = absurd (omega (arith, left_fewer l met i z (walk-own h w) m))

-- ---- chains that end
pub chain_only : {l : List ℕ} {i : ℕ} {xs ys : List ℕ} → Chain l i xs → Chain l i ys → xs ≡ ys
chain_only ends ends = refl
chain_only ends (links z o c) = absurd (z refl)
chain_only (links z o c) ends = absurd (z refl)
chain_only (links {i} z o c) (links y p d) = ap (λ (xs : List ℕ). i ∷ xs) (chain_only c d)

-- from a record met, the chain is longer
record Longer (l : List ℕ) (k : ℕ) (xs : List ℕ) : Type 0 where
  chain : List ℕ
  ended : Chain l k chain
  longer : length xs < length chain

met-longer : {l met xs : List ℕ} {i : ℕ} (k : ℕ) → RightHead l → Walk l met i → Chain l i xs → is_met met k ≡ true → Longer l k xs
met-longer k h starts c m = absurd (true_not_false (sym m ∙ met-none k))
met-longer {l} {xs = xs} k h (meets {met} {i} w z u r) c m = elim (ℕ_discrete i k) [
  | yes e ↦ record { chain = i ∷ xs; ended = subst (λ (j : ℕ). Chain l j (i ∷ xs)) e (links z (walk-own h w) c); longer = omega arith }
  | no d ↦ let f = met-longer k h w (links z (walk-own h w) c) (sym (met-other i met k d) ∙ m) in
      record { chain = f.chain; ended = f.ended; longer = omega (arith, f.longer) }
]

-- so a chain that ends comes back to none
chain_unmet : {l met xs : List ℕ} {i : ℕ} → RightHead l → Walk l met i → Chain l i xs → is_met met i ≡ false
chain_unmet {l} {met} {xs} {i} h w c = by (is_met met i) refl
  where
    by : (b : Bool) → is_met met i ≡ b → is_met met i ≡ false
    by true m = let f = met-longer i h w c m in absurd (omega (arith, f.longer, ap length (chain_only c f.ended)))
    by false m = m

pub record Ended (l : List ℕ) : Type 0 where
  pub met : List ℕ
  pub walk : Walk l met 0

pub chain_walked : {l met xs : List ℕ} {i : ℕ} → RightHead l → Walk l met i → Chain l i xs → All (RightRecord l) xs → Ended l
chain_walked {met = met} h w ends All.none = record { met = met; walk = w }
chain_walked {met = met} h w (links {i = i} z o c) (All.more r rs) = chain_walked {met = i ∷ met} h (meets w z (chain_unmet h w (links z o c)) r) c rs

pub record Forward (l : List ℕ) : Type 0 where
  pub chain : List ℕ
  pub list : GateList l chain

pub walk_forward : {l met xs : List ℕ} {i : ℕ} → RightHead l → Walk l met i → Chain l i xs → All (RightRecord l) xs → Forward l
walk_forward {xs = xs} h starts c rs = record { chain = xs; list = record { head = h; ended = c; right = rs } }
walk_forward h (meets w z m r) c rs = walk_forward h w (links z (walk-own h w) c) (All.more r rs)

-- ---- no record is on a chain twice
chain_apart : {l xs ys : List ℕ} {i j : ℕ} → Chain l i xs → Chain l j ys → length ys < length xs → All (λ (k : ℕ). i ≡ k → ⊥) ys
chain_apart c ends h = All.none
chain_apart {l} {i = i} c (links {i = j} {rest = ys} z o d) h = All.more never (chain_apart c d (omega arith))
  where
    never : i ≡ j → ⊥
    never e = omega (arith, ap length (chain_only c (subst (λ (k : ℕ). Chain l k (j ∷ ys)) (sym e) (links z o d))))

pub chain_different : {l xs : List ℕ} {i : ℕ} → Chain l i xs → Different xs
chain_different ends = Different.none
chain_different (links z o c) = Different.more (chain_apart (links z o c) c (omega arith)) (chain_different c)

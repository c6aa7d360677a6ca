-- Numbers by the ranges in which a detail has a meaning.
use mathlib.Core.Path.{◌≡◌, refl, sym, ap, ◌∙◌}
use mathlib.Core.Bool.{Bool, true, false, cond, not, ◌&&◌, ◌||◌, and-false}
use Prim.Native.Nat.{ℕ, zero, suc, ◌+◌, ◌<◌, ◌≤◌}
use native.Mathlib.Decide.{ℕ_discrete}
use native.Mathlib.Omega.{arith}
use lib.Dec.{leb}
use borrow.Author.Tests.{not-true, lt-leb, ne_eqb}
use Rattle.pauli_group.proofs.Finite.{and_both}
use Rattle.refusal_wording.specs.RefusalLines.{between, has_detail}

-- ---- a test that has one answer over a range, by a computed test of its numbers
unfoldable pub steady : (ℕ → Bool) → Bool → (low count : ℕ) → Bool
steady f b low zero = true
steady f b low (suc count) = cond b (f low) (not (f low)) && steady f b (suc low) count

pub steady_at : (f : ℕ → Bool) {b : Bool} (low count : ℕ) {n : ℕ} → steady f b low count ≡ true → low ≤ n → n < low + count → b ≡ f n
unfolding steady
steady_at f low zero h k l = absurd (omega arith)
steady_at f {b} low (suc count) {n} h k l =
    let both = and_both (cond b (f low) (not (f low))) (steady f b (suc low) count) h in
    elim (ℕ_discrete n low) [
      | yes e ↦ here b both.0 ∙ ap f (sym e)
      | no e ↦ steady_at f (suc low) count both.1 (omega arith) (omega arith)
    ]
  where
    here : (b : Bool) {x : Bool} → cond b x (not x) ≡ true → b ≡ x
    here true p = sym p
    here false {x} p = sym (not-true x p)

-- ---- the ranges
module _ (n : ℕ) where
  pub detail-second : 8 ≤ n → n < 16 → true ≡ has_detail n
  unfolding steady has_detail
  detail-second h k = steady_at has_detail 8 8 refl h k

  above : (low high : ℕ) → suc high ≤ n → between low high n ≡ false
  above low high h = ap (λ x. leb low n && x) (lt-leb n high h) ∙ and-false (leb low n)

  pub detail-high : 20 ≤ n → (n ≡ 24 → ⊥) → false ≡ has_detail n
  unfolding has_detail
  detail-high h k = sym (λ i. ((above 3 6 (omega arith) i || above 8 15 (omega arith) i) || above 17 19 h i) || ne_eqb n 24 k i)

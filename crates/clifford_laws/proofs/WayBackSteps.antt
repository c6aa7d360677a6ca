-- The way back counted by steps, k from 0 to m.
use mathlib.Core.Path.{◌≡◌, refl, sym, ap, ◌∙◌, subst}
use mathlib.Core.Bool.{Bool, true, false, cond}
use mathlib.Core.List.{List, [], ◌∷◌, ◌++◌}
use Prim.Native.Nat.{ℕ, zero, suc, ◌≤◌}
use native.Mathlib.Omega.{arith}
use lib.ListN.{length, take, drop}
use lib.Seq.{take_at, drop_at}
use Rattle.clifford.specs.Tableaux.{identity_record}
use Rattle.clifford_laws.specs.WayBack.{Call, accepts, next_record, record_after, steps_of, Steps, product_from, calls_to, steps, record_then, WayBackTheorem}
use Rattle.clifford_laws.proofs.WayBacks.{after-steps, steps_append, steps-more, steps_kept, steps_nil, way_back_parted}

-- ---- the calls up to step k, and those after it
calls_none : (r : List ℕ) (k : ℕ) → calls_to r [] k ≡ []
unfolding calls_to
calls_none r k = refl

calls_zero : (r : List ℕ) (c : Call) (cs : List Call) → calls_to r (c ∷ cs) 0 ≡ []
unfolding calls_to
calls_zero r c cs = refl

calls_suc : (r : List ℕ) (c : Call) (cs : List Call) (k : ℕ) → calls_to r (c ∷ cs) (suc k) ≡ c ∷ calls_to (next_record r c) cs (cond (accepts r c) k (suc k))
unfolding calls_to
calls_suc r c cs k = refl

-- k of them are steps
steps-count : (r : List ℕ) (cs : List Call) (k : ℕ) → k ≤ length (steps_of r cs) → length (steps_of r (calls_to r cs k)) ≡ k
steps-count r [] k h = ap (λ (l : List Call). length (steps_of r l)) (calls_none r k) ∙ omega (arith, ap length (steps_nil r))
steps-count r (c ∷ cs) zero h = ap (λ (l : List Call). length (steps_of r l)) (calls_zero r c cs) ∙ ap length (steps_nil r)
steps-count r (c ∷ cs) (suc k) h = go (accepts r c) refl (steps-count (next_record r c) cs k) (steps-count (next_record r c) cs (suc k))
  where
    next : List ℕ
    next = next_record r c

    go : (b : Bool) → accepts r c ≡ b → (k ≤ length (steps_of next cs) → length (steps_of next (calls_to next cs k)) ≡ k)
        → (suc k ≤ length (steps_of next cs) → length (steps_of next (calls_to next cs (suc k))) ≡ suc k) → length (steps_of r (calls_to r (c ∷ cs) (suc k))) ≡ suc k
    go true e taken kept =
        ap (λ (l : List Call). length (steps_of r l)) (calls_suc r c cs k ∙ ap (λ b. c ∷ calls_to next cs (cond b k (suc k))) e)
        ∙ ap length (steps-more r c (calls_to next cs k) e) ∙ ap suc (taken (omega (arith, ap length (steps-more r c cs e))))
    go false e taken kept =
        ap (λ (l : List Call). length (steps_of r l)) (calls_suc r c cs k ∙ ap (λ b. c ∷ calls_to next cs (cond b k (suc k))) e)
        ∙ ap length (steps_kept r c (calls_to next cs (suc k)) e) ∙ kept (omega (arith, ap length (steps_kept r c cs e)))

-- they are the front of the list
calls_front : (r : List ℕ) (cs : List Call) (k : ℕ) → calls_to r cs k ++ drop (length (calls_to r cs k)) cs ≡ cs
unfolding calls_to
calls_front r [] k = refl
calls_front r (c ∷ cs) zero = refl
calls_front r (c ∷ cs) (suc k) = ap (λ (l : List Call). c ∷ l) (calls_front (next_record r c) cs (cond (accepts r c) k (suc k)))

-- and the steps after them are the others
module _ (r : List ℕ) (cs : List Call) (k : ℕ) (h : k ≤ length (steps_of r cs)) where
  abbrev first : List Call
  first = calls_to r cs k

  abbrev rest : List Call
  rest = drop (length first) cs

  parts : steps_of r cs ≡ steps_of r first ++ steps_of (record_after r first) rest
  parts = ap (steps_of r) (sym (calls_front r cs k)) ∙ steps_append r first rest

  steps_first : take k (steps_of r cs) ≡ steps_of r first
  steps_first = ap (take k) parts ∙ take_at (steps_of r first) _ k (steps-count r cs k h)

  steps-rest : drop k (steps_of r cs) ≡ steps_of (record_after r first) rest
  steps-rest = ap (drop k) parts ∙ drop_at (steps_of r first) _ k (steps-count r cs k h)

-- ---- the theorem
pub way_back : WayBackTheorem
way_back n n≤ calls premise k k≤ w w≤ =
    let start : List ℕ = identity_record n in
    let front : List Call = first start calls k k≤ in
    let whole : front ++ rest start calls k k≤ ≡ calls = calls_front start calls k in
    rw (steps_first start calls k k≤, steps-rest start calls k k≤)
    (rw whole at (way_back_parted n n≤ front (rest start calls k k≤) (subst (λ (l : List Call). Steps n (steps_of start l)) (sym whole) premise) w w≤))

-- the record after step k is the product of the steps up to k, from the identity of width n
pub record_then_lem : (n : ℕ) (calls : List Call) (k : ℕ) → k ≤ length (steps n calls)
    → record_then n calls k ≡ product_from (identity_record n) (take k (steps n calls))
record_then_lem n calls k h = after-steps (identity_record n) _ ∙ ap (product_from (identity_record n)) (sym (steps_first (identity_record n) calls k h))

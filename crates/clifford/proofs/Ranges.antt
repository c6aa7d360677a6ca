-- What `all`, `any` and `filter` over a range come to.
use Rattle.std.proofs.Common.{◌≡◌, ℕ, zero, suc, ◌+◌, ◌-◌, ◌<◌, Bool, true, false, cond, ◌&&◌, ◌||◌, Option, List, [], ◌∷◌, ◌++◌, length, get_or, refl, ap, ◌∙◌, subst, ap₂, arith}
use denote.Ref.{Bor}
use denote.Param.Members.{Mut}
use Rattle.std.specs.declared.ops.Range.{Range}
use Rattle.std.specs.declared.iter.Filter.{Filter}
use Rattle.std.specs.Fn.{Called, CalledAt}
use Rattle.std.specs.Option.{MatchOption}
use Rattle.std.specs.Iterator.{YieldsThen}
use Rattle.std.specs.Iterator.Adapters.{filter_source, filter_callee, filter_steps}
use Rattle.std.specs.List.{range_with_len, list_all, list_any, filter, enumerate_from, FoldsTo}
use Rattle.std.specs.Range.{range_steps}
use Rattle.std.proofs.lemmas.List.Folds.{list_all-append, list_any-append}
use Rattle.std.proofs.lemmas.List.Elements.{filter-append}
use Rattle.std.proofs.lemmas.Iterator.{YieldsList, YieldsList-from_range}
use Rattle.std.proofs.lemmas.Iterator.Consumers.{YieldsList-from_filter}
use Rattle.std.proofs.lemmas.Iterator.Search.{all_from_yields_List, any_from_yields_List}
use Rattle.clifford_group.specs.Tableau.{all_to}
use Rattle.clifford.specs.Support.{some_to, places_with}

range-more : (a n : ℕ) → range_with_len a (suc n) ≡ range_with_len a n ++ (a + n) ∷ []
range-more a zero = ap (λ (j : ℕ). j ∷ []) (omega arith)
range-more a (suc n) = ap (λ (l : List ℕ). a ∷ l) (range-more (a + 1) n ∙ ap (λ (j : ℕ). range_with_len (a + 1) n ++ j ∷ []) (omega arith))

and_true : (b : Bool) → b && true ≡ b
and_true true = refl
and_true false = refl

or_false : (b : Bool) → b || false ≡ b
or_false true = refl
or_false false = refl

pub all-range : (n : ℕ) (f : ℕ → Bool) → list_all f (range_with_len 0 n) ≡ all_to n f
unfolding all_to
all-range zero f = refl
all-range (suc n) f =
    ap (list_all f) (range-more 0 n) ∙ list_all-append f (range_with_len 0 n) ((0 + n) ∷ [])
    ∙ ap₂ (λ x y. x && y) (all-range n f) (and_true (f (0 + n)) ∙ ap f (omega arith))

any-range : (n : ℕ) (f : ℕ → Bool) → list_any f (range_with_len 0 n) ≡ some_to n f
unfolding some_to
any-range zero f = refl
any-range (suc n) f =
    ap (list_any f) (range-more 0 n) ∙ list_any-append f (range_with_len 0 n) ((0 + n) ∷ [])
    ∙ ap₂ (λ x y. x || y) (any-range n f) (or_false (f (0 + n)) ∙ ap f (omega arith))

filter-range : (n : ℕ) (f : ℕ → Bool) → filter f (range_with_len 0 n) ≡ places_with n f
unfolding places_with
filter-range zero f = refl
filter-range (suc n) f =
    ap (filter f) (range-more 0 n) ∙ filter-append f (range_with_len 0 n) ((0 + n) ∷ [])
    ∙ ap₂ (λ (x y : List ℕ). x ++ y) (filter-range n f) (ap (λ (j : ℕ). cond (f j) (j ∷ []) []) (omega arith))

-- ---- the numbers below n, put to a closure that answers by this test
-- the first of them comes, and the next one is then the first
abbrev range_turns : Range ℕ → Option ℕ → Range ℕ → Type 0
range_turns = range_steps (λ a b. b - a) (λ a b. b ≡ a + 1)

numbers-below : (n : ℕ) {s : Range ℕ} → s ≡ record { start = 0; end = n } → YieldsList range_turns (λ x. x) s (range_with_len 0 n)
numbers-below n e = YieldsList-from_range 0 n n e (omega arith)

module _ {F : Type 0} (n : ℕ) (test : ℕ → Bool) where
  module _ {g : Mut F (ℕ × Unit {0}) Bool} {s : Range ℕ} (e : s ≡ record { start = 0; end = n }) {u : Range ℕ} {f : F} {r : Bool} where
    pub all-below : (xs : List ℕ) × (o : Option ℕ) × (j : F) × YieldsThen range_turns s xs o u × FoldsTo (λ p x q. Called g p (x, tt) true q) f xs j
        × MatchOption o (r ≡ true) (λ x. (r ≡ false) × ((h : F) × Called g j (x, tt) false h))
        → ((x : ℕ) (b : Bool) (q : F) → Called g f (x, tt) b q → (q ≡ f) × (b ≡ test x)) → r ≡ all_to n test
    all-below d k = all_from_yields_List test u f r d (numbers-below n e) k ∙ all-range n test

    pub any-below : (xs : List ℕ) × (o : Option ℕ) × (j : F) × YieldsThen range_turns s xs o u × FoldsTo (λ p x q. Called g p (x, tt) false q) f xs j
        × MatchOption o (r ≡ false) (λ x. (r ≡ true) × ((h : F) × Called g j (x, tt) true h))
        → ((x : ℕ) (b : Bool) (q : F) → Called g f (x, tt) b q → (q ≡ f) × (b ≡ test x)) → r ≡ some_to n test
    any-below d k = any_from_yields_List test u f r d (numbers-below n e) k ∙ any-range n test

  pub kept-below : {g : Mut F (Bor ℕ × Unit {0}) Bool} {s : Filter (Range ℕ) F} {f : F} → filter_source s ≡ record { start = 0; end = n } → filter_callee s ≡ f
      → ((x : ℕ) (b : Bool) (q : F) → CalledAt g f x b q → (q ≡ f) × (b ≡ test x)) → YieldsList (filter_steps range_turns g) (λ x. x) s (places_with n test)
  kept-below {g} {s} e a k = subst (YieldsList (filter_steps range_turns g) (λ x. x) s) (filter-range n test) (YieldsList-from_filter g test (numbers-below n e) a k)

-- a list by its numbers
pub all-numbered : (l : List ℕ) (n : ℕ) (test : ℕ × ℕ → Bool) (f : ℕ → Bool) → ((c : ℕ) → c < length l → test (n + c, get_or l c 0) ≡ f (n + c))
    → list_all test (enumerate_from n l) ≡ list_all f (range_with_len n (length l))
all-numbered [] n test f k = refl
all-numbered (x ∷ l) n test f k =
    let first : n + 0 ≡ n = omega arith in
    ap₂ (λ a b. a && b) (subst (λ (j : ℕ). test (j, x) ≡ f j) first (k 0 (omega arith)))
    (all-numbered l (n + 1) test f (λ c h. let e : n + suc c ≡ n + 1 + c = omega arith in subst (λ (j : ℕ). test (j, get_or l c 0) ≡ f j) e (k (suc c) (omega arith))))

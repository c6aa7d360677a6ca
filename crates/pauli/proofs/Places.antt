-- Laws of lists by place, of the first place that has a property, and of a destination that is filled from its front.
use Rattle.std.proofs.Common.{◌≡◌, ℕ, zero, suc, not, inl, inr, ◌⊎◌, Option, Some, None, ◌+◌, ◌-◌, ◌<◌, ◌≤◌, min, Bool, Bor, Iter, true, false, cond, ltb, List, [], ◌∷◌, ◌++◌, length, get_or, take, drop, set, sym, refl, ap, ◌∙◌, subst, ap₂, le_refl, le_of_suc-le-suc, not-suc-le-zero, add-one, arith, length-append, length-drop, length-take, get_or-drop, take_all, ext_get_or, le-ltb, lt-ltb, rules}
use Rattle.std.specs.List.{position, position_or_len}
use Rattle.std.specs.Option.{unwrap_or, MatchOption, SomeIff}
use Rattle.std.proofs.lemmas.Bool.{cases_lt}
use Rattle.std.proofs.lemmas.List.Recursion.{is_position_or_len}
use Rattle.std.proofs.lemmas.List.Sums.{prefix_len-le-length}
use Rattle.std.proofs.iter.Yields.{fronts}
use Rattle.std.proofs.lemmas.Grind.{get_or_default_zero}
use Rattle.std.proofs.lemmas.Iterator.{YieldsList, YieldsList-from_slice, YieldsList-from_zip, zips}
use Rattle.std.proofs.lemmas.Iterator.Consumers.{YieldsList-from_enumerate, YieldsList-turn, YieldsList-end}
use Rattle.std.proofs.lemmas.List.FromFn.{length-enumerate_from, get_or-enumerate_from}
use Rattle.std.proofs.lemmas.Slice.Zip.{length-zip, get_or-zip}
use Rattle.std.specs.declared.iter.Enumerate.{Enumerate}
use Rattle.std.specs.declared.iter.Zip.{Zip}
use Rattle.std.proofs.lemmas.Iterator.Search.{position_from_yields_List}
use Rattle.std.specs.Fn.{Called}
use Rattle.std.specs.Iterator.{Yields, YieldsThen}
use Rattle.std.specs.Iterator.Adapters.{enumerate_source, enumerate_count, enumerate_steps, zip_first, zip_second}
use Rattle.std.specs.List.{FoldsTo, enumerate_from, zip}
use Rattle.std.specs.Slice.Iter.{iter_rest}
use denote.Param.Members.{Mut}
use native.Mathlib.Decide.{ℕ_discrete}
use lib.ListN.{get_or-append}
use lib.Seq.{get_or_at, take-length}
use Rattle.pauli.specs.Places.{listed, first_place}
use Rattle.pauli.specs.Questions.{first_bad}
use Rattle.pauli.specs.Rows.{largest_to}

-- ---- lists by place
module _ {A : Type 0} where
  pub length-listed : (n : ℕ) (f : ℕ → A) → length (listed n f) ≡ n
  unfolding listed
  length-listed zero f = refl
  length-listed (suc n) f = length-append (listed n f) (f n ∷ []) ∙ omega (arith, length-listed n f)

  pub get_d_listed : (n : ℕ) (f : ℕ → A) (i : ℕ) (d : A) → i < n → get_or (listed n f) i d ≡ f i
  unfolding listed
  get_d_listed zero f i d h = absurd (not-suc-le-zero h)
  get_d_listed (suc n) f i d h = elim (ℕ_discrete i n) [
    | yes e ↦ get_or_at (listed n f) (f n) [] d i (length-listed n f ∙ sym e) ∙ ap f (sym e)
    | no e ↦ get_or-append (listed n f) (f n ∷ []) d i (omega (arith, length-listed n f)) ∙ get_d_listed n f i d (omega arith)
  ]

  pub listed_ext : (n : ℕ) (f g : ℕ → A) → ((i : ℕ) → i < n → f i ≡ g i) → listed n f ≡ listed n g
  unfolding listed
  listed_ext zero f g h = refl
  listed_ext (suc n) f g h = ap₂ (λ l a. l ++ (a ∷ [])) (listed_ext n f g (λ i l. h i (omega arith))) (h n (le_refl (suc n)))

-- a list is what stands at its places
pub listed-is : (l : List ℕ) (n : ℕ) (f : ℕ → ℕ) → length l ≡ n → ((i : ℕ) → i < n → get_or l i 0 ≡ f i) → l ≡ listed n f
listed-is l n f e h = ext_get_or 0 l (listed n f) (e ∙ sym (length-listed n f)) (λ i b. h i (omega arith) ∙ sym (get_d_listed n f i 0 (omega arith)))

-- ---- the first place
pub first_le : (n : ℕ) (f : ℕ → Bool) → first_place n f ≤ n
unfolding first_place
first_le zero f = le_refl zero
first_le (suc n) f = step (f zero) (first_le n (λ k. f (suc k)))
  where
    step : (b : Bool) {m : ℕ} → m ≤ n → cond b zero (suc m) ≤ suc n
    step true h = omega arith
    step false h = omega arith

pub first-is : (n : ℕ) (f : ℕ → Bool) (i : ℕ) → i ≤ n → ((k : ℕ) → k < i → f k ≡ false) → (i < n → f i ≡ true) → i ≡ first_place n f
unfolding first_place
first-is zero f i h none has = omega arith
first-is (suc n) f zero h none has = sym (ap (λ b. cond b zero (suc (first_place n (λ k. f (suc k))))) (has (omega arith)))
first-is (suc n) f (suc i) h none has =
    ap suc (first-is n (λ k. f (suc k)) i (omega arith) (λ k l. none (suc k) (omega arith)) (λ l. has (omega arith)))
    ∙ sym (ap (λ b. cond b zero (suc (first_place n (λ k. f (suc k))))) (none zero (omega arith)))

pub first-before : (n : ℕ) (f : ℕ → Bool) (k : ℕ) → k < first_place n f → f k ≡ false
unfolding first_place
first-before zero f k h = absurd (not-suc-le-zero h)
first-before (suc n) f k h = step (f zero) refl (λ j l. first-before n (λ i. f (suc i)) j l) k h
  where
    step : (b : Bool) → f zero ≡ b → ((j : ℕ) → j < first_place n (λ i. f (suc i)) → f (suc j) ≡ false)
        → (k : ℕ) → k < cond b zero (suc (first_place n (λ i. f (suc i)))) → f k ≡ false
    step true e rest k h = absurd (not-suc-le-zero h)
    step false e rest zero h = e
    step false e rest (suc k) h = rest k (le_of_suc-le-suc h)

pub first_has : (n : ℕ) (f : ℕ → Bool) → first_place n f < n → f (first_place n f) ≡ true
unfolding first_place
first_has zero f h = absurd (not-suc-le-zero h)
first_has (suc n) f h = step (f zero) refl (first_has n (λ i. f (suc i))) h
  where
    step : {m : ℕ} (b : Bool) → f zero ≡ b → (m < n → f (suc m) ≡ true) → cond b zero (suc m) < suc n → f (cond b zero (suc m)) ≡ true
    step true e rest h = e
    step false e rest h = rest (le_of_suc-le-suc h)

pub first_ext : (n : ℕ) (f g : ℕ → Bool) → ((i : ℕ) → i < n → f i ≡ g i) → first_place n f ≡ first_place n g
unfolding first_place
first_ext zero f g h = refl
first_ext (suc n) f g h = ap₂ (λ b m. cond b zero (suc m)) (h zero (omega arith)) (first_ext n (λ k. f (suc k)) (λ k. g (suc k)) (λ i l. h (suc i) (omega arith)))

-- std's first index at which a test passes; d is read past the end
module _ {A : Type 0} (d : A) (p : A → Bool) where
  abbrev pub first_passing : List A → ℕ
  first_passing xs = first_place (length xs) (λ k. p (get_or xs k d))

  passing-is : (xs : List A) → position_or_len p xs ≡ first_passing xs
  unfolding first_place
  passing-is xs = sym (is_position_or_len first_passing p refl (λ y ys. ap (cond (p y) 0) (next (first_passing ys))) xs)
    where
      next : (n : ℕ) → suc n ≡ 1 + n
      next n = omega arith

  module _ (xs : List A) where
    passing_cases : (position p xs ≡ None) × (length xs ≡ first_passing xs) ⊎ (position p xs ≡ Some (first_passing xs)) × (first_passing xs < length xs)
    passing_cases = elim (cases_lt (position_or_len p xs) (length xs)) [
      | inl l ↦ inr (ap (λ b. cond b (Some (position_or_len p xs)) None) (lt-ltb _ _ l) ∙ ap (λ (i : ℕ). Some i) (passing-is xs), omega (arith, passing-is xs))
      | inr l ↦ inl (ap (λ b. cond b (Some (position_or_len p xs)) None) (le-ltb _ _ l), omega (arith, passing-is xs, prefix_len-le-length (λ x. not (p x)) xs))
    ]

    pub passing-at : {k : ℕ} → Some k ≡ position p xs → (k < length xs) × (k ≡ first_passing xs)
    passing-at {k} e = elim passing_cases [
      | inl n ↦ absurd (never (e ∙ n.0))
      | inr s ↦ let is : k ≡ first_passing xs = cc (e ∙ s.0) in (omega (arith, s.1), is)
    ]
      where
        never : {k : ℕ} → Some k ≡ None → ⊥
        never e = cc

    pub passing-none : None ≡ position p xs → length xs ≡ first_passing xs
    passing-none e = elim passing_cases [ inl n ↦ n.1 | inr s ↦ absurd (never (e ∙ s.0)) ]
      where
        never : {k : ℕ} → None ≡ Some k → ⊥
        never e = cc

-- the same of bytes
pub position-is : (p : ℕ → Bool) (xs : List ℕ) → position_or_len p xs ≡ first_place (length xs) (λ k. p (get_or xs k 0))
position-is = passing-is 0

module _ (p : ℕ → Bool) (xs : List ℕ) where
  abbrev pub first_of : ℕ
  first_of = first_place (length xs) (λ k. p (get_or xs k 0))

  pub position-at : {k : ℕ} → Some k ≡ position p xs → (k < length xs) × (k ≡ first_of)
  position-at = passing-at 0 p xs

  pub position-none : None ≡ position p xs → length xs ≡ first_of
  position-none = passing-none 0 p xs

  pub position_iff : (r : Option ℕ) → r ≡ position p xs → SomeIff r (first_of < length xs) first_of
  position_iff (Some k) e = let at = position-at e in (omega (arith, at.0, at.1), at.1)
  position_iff None e = λ l. omega (arith, position-none e)

  pub position-or : (r : Option ℕ) {n : ℕ} → n ≡ unwrap_or r (length xs) → r ≡ position p xs → n ≡ first_of
  position-or r h e = h ∙ ap (λ o. unwrap_or o (length xs)) e ∙ elim (passing_cases 0 p xs) [
    | inl n ↦ ap (λ o. unwrap_or o (length xs)) n.0 ∙ n.1
    | inr s ↦ ap (λ o. unwrap_or o (length xs)) s.0
  ]

-- std's `position` over a slice, by a closure that answers a test
pub position_of_slice : {X F : Type 0} {g : Mut F (Bor X × Unit {0}) Bool} {s u : Iter X} {f : F} {r : Option ℕ} (p : X → Bool) (xs : List X)
    → (ys : List (Bor X)) × (o : Option (Bor X)) × (j : F) × YieldsThen fronts s ys o u × FoldsTo (λ h x q. Called g h (x, tt) false q) f ys j
    × MatchOption o (r ≡ None) (λ x. (r ≡ Some (length ys)) × ((h : F) × Called g j (x, tt) true h))
    → iter_rest s ≡ xs → ((x : Bor X) (b : Bool) (q : F) → Called g f (x, tt) b q → (q ≡ f) × (b ≡ p x.now)) → r ≡ position p xs
position_of_slice p xs ran e answers = position_from_yields_List p _ _ _ ran (YieldsList-from_slice xs e) answers

-- what a scan from the front knows before place i
pub record NoneBefore (n : ℕ) (f : ℕ → Bool) (i : ℕ) : Type 0 where
  pub within : i ≤ n
  pub none : (k : ℕ) → k < i → f k ≡ false

pub none_start : (n : ℕ) (f : ℕ → Bool) → NoneBefore n f 0
none_start n f = record { within = omega arith; none = λ k l. absurd (not-suc-le-zero l) }

pub none_more : {n : ℕ} {f : ℕ → Bool} {i : ℕ} → NoneBefore n f i → i < n → f i ≡ false → NoneBefore n f (i + 1)
none_more {n} {f} {i} m h e = record {
  within = omega arith;
  none = λ k l. elim (ℕ_discrete k i) [ yes d ↦ ap f d ∙ e | no d ↦ m.none k (omega arith) ];
}

pub none_found : {n : ℕ} {f : ℕ → Bool} {i : ℕ} → NoneBefore n f i → i < n → f i ≡ true → i ≡ first_place n f
none_found {n} {f} {i} m h e = first-is n f i m.within m.none (λ l. e)

pub none_left_lem : {n : ℕ} {f : ℕ → Bool} {i : ℕ} → NoneBefore n f i → n ≤ i → i ≡ first_place n f
none_left_lem {n} {f} {i} m h = first-is n f i m.within m.none (λ l. absurd (lt_le l h))
  where
    lt_le : i < n → n ≤ i → ⊥
    lt_le l h = omega arith

-- the largest byte before place i
pub record LargestTo (s : List ℕ) (i m : ℕ) : Type 0 where
  pub within : i ≤ length s
  pub is : m ≡ largest_to i s

-- no byte is above it
largest_each : (n : ℕ) (s : List ℕ) (k : ℕ) → k < n → get_or s k 0 ≤ largest_to n s
unfolding largest_to
largest_each zero s k h = absurd (not-suc-le-zero h)
largest_each (suc n) s k h = elim (ℕ_discrete k n) [
  | yes e ↦ omega (arith, ap (λ (j : ℕ). get_or s j 0) e)
  | no d ↦ omega (arith, largest_each n s k (omega arith))
]

pub none_bad : (s : List ℕ) {m : ℕ} → m ≡ largest_to (length s) s → m < 4 → length s ≡ first_bad s
unfolding first_bad
none_bad s e h =
    first-is
    (length s) (λ k. ltb 3 (get_or s k 0)) (length s) (le_refl (length s)) (λ k l. le-ltb 3 (get_or s k 0) (omega (arith, largest_each (length s) s k l))) (λ l. absurd (never l))
  where
    never : length s < length s → ⊥
    never l = omega arith

-- what a scan that keeps the first place p knows before place i; p is n where none is seen yet
pub record FirstSeen (n : ℕ) (f : ℕ → Bool) (i p : ℕ) : Type 0 where
  pub within : i ≤ n
  pub most : p ≤ n
  pub before : p < n → p < i
  pub none : (k : ℕ) → k < i → k < p → f k ≡ false
  pub has : p < n → f p ≡ true

pub first_start : (n : ℕ) (f : ℕ → Bool) → FirstSeen n f 0 n
first_start n f = record {
  within = omega arith;
  most = le_refl n;
  before = λ l. absurd (never l);
  none = λ k l b. absurd (not-suc-le-zero l);
  has = λ l. absurd (never l);
}
  where
    never : n < n → ⊥
    never l = omega arith

module _ {n : ℕ} {f : ℕ → Bool} {i p q : ℕ} (m : FirstSeen n f i p) (h : i < n) where
  pub first_found : f i ≡ true → n ≤ p → q ≡ i → FirstSeen n f (i + 1) q
  first_found e u is = subst (FirstSeen n f (i + 1)) (sym is) (record {
    within = omega arith;
    most = m.within;
    before = λ l. omega arith;
    none = λ k l b. m.none k b (omega arith);
    has = λ l. e;
  })

  pub first_held : p < n → q ≡ p → FirstSeen n f (i + 1) q
  first_held u is = subst (FirstSeen n f (i + 1)) (sym is) (record {
    within = omega arith;
    most = m.most;
    before = λ l. omega (arith, m.before u);
    none = λ k l b. m.none k (omega (arith, m.before u)) b;
    has = m.has;
  })

  pub first_past : f i ≡ false → q ≡ p → FirstSeen n f (i + 1) q
  first_past e is = subst (FirstSeen n f (i + 1)) (sym is) (record {
    within = omega arith;
    most = m.most;
    before = λ l. omega (arith, m.before l);
    none = λ k l b. elim (ℕ_discrete k i) [ yes d ↦ ap f d ∙ e | no d ↦ m.none k (omega arith) b ];
    has = m.has;
  })

pub first_end : {n : ℕ} {f : ℕ → Bool} {i p : ℕ} → FirstSeen n f i p → n ≤ i → p ≡ first_place n f
first_end {n} {f} {i} {p} m h = first-is n f p m.most (λ k l. m.none k (omega (arith, m.most)) l) m.has

-- ---- a destination that is overwritten from its front, one element a turn
-- the first i elements of s, and then d from i on
abbrev pub fill : List ℕ → List ℕ → ℕ → List ℕ
fill s d i = take i s ++ drop i d

pub length_fill : (s d : List ℕ) (i : ℕ) → i ≤ length s → i ≤ length d → length (fill s d i) ≡ length d
length_fill s d i h k = simp (length-append, length-take, length-drop) (omega arith)

fill_suc : (s d : List ℕ) (i : ℕ) → i < length s → i < length d → set (fill s d i) i (get_or s i 0) ≡ fill s d (suc i)
fill_suc [] d i h k = absurd (not-suc-le-zero h)
fill_suc (x ∷ s) [] i h k = absurd (not-suc-le-zero k)
fill_suc (x ∷ s) (y ∷ d) zero h k = refl
fill_suc (x ∷ s) (y ∷ d) (suc i) h k = ap (λ (l : List ℕ). x ∷ l) (fill_suc s d i (le_of_suc-le-suc h) (le_of_suc-le-suc k))

pub fill_more : (s d : List ℕ) (i x : ℕ) → i < length s → i < length d → x ≡ get_or s i 0 → set (fill s d i) i x ≡ fill s d (i + 1)
fill_more s d i x h k e = rw (e, add-one i) (fill_suc s d i h k)

pub fill_all : (s d : List ℕ) → fill s d (length s) ≡ s ++ drop (length s) d
fill_all s d = rw take-length

-- what is not yet overwritten is still there
pub fill_at : (i : ℕ) (s d : List ℕ) → i ≤ length s → i < length d → get_or (fill s d i) i 0 ≡ get_or d i 0
fill_at zero s d h k = refl
fill_at (suc i) [] d h k = absurd (not-suc-le-zero h)
fill_at (suc i) (x ∷ s) [] h k = absurd (not-suc-le-zero k)
fill_at (suc i) (x ∷ s) (y ∷ d) h k = fill_at i s d (le_of_suc-le-suc h) (le_of_suc-le-suc k)

-- what a loop that writes s over d, as far as n, has done before place i
pub record Filled (s d : List ℕ) (n i : ℕ) (e : List ℕ) : Type 0 where
  pub within : i ≤ n
  pub source : n ≤ length s
  pub room : n ≤ length d
  pub out : e ≡ fill s d i

pub filled_none : {s d : List ℕ} {n : ℕ} → n ≤ length s → n ≤ length d → Filled s d n 0 d
filled_none h k = record { within = omega arith; source = h; room = k; out = refl }

pub filled_step : {s d : List ℕ} {n i : ℕ} {e : List ℕ} {x : ℕ} → Filled s d n i e → i < n → x ≡ get_or s i 0 → Filled s d n (i + 1) (set e i x)
filled_step {s} {d} {n} {i} {e} {x} m h ex =
    let source : n ≤ length s = m.source in
    let room : n ≤ length d = m.room in
    record {
      within = omega arith;
      source = source;
      room = room;
      out = ap (λ (l : List ℕ). set l i x) m.out ∙ fill_more s d i x (omega arith) (omega arith) ex;
    }

pub filled_length : {s d : List ℕ} {n i : ℕ} {e : List ℕ} → Filled s d n i e → length e ≡ length d
filled_length {s} {d} {n} {i} m =
    let within : i ≤ n = m.within in
    let source : n ≤ length s = m.source in
    let room : n ≤ length d = m.room in
    ap length m.out ∙ length_fill s d i (omega arith) (omega arith)

pub filled_room : {s d : List ℕ} {n i : ℕ} {e : List ℕ} → Filled s d n i e → i < n → i < length e
filled_room m h = let room = m.room in omega (arith, filled_length m)

pub filled_all : {s d : List ℕ} {n i : ℕ} {e : List ℕ} (k : ℕ) → n ≡ k → Filled s d n i e → n ≤ i → e ≡ take k s ++ drop k d
filled_all {s} {d} {n} {i} k p m h = let within : i ≤ n = m.within in let e : i ≡ k = omega arith in m.out ∙ ap (fill s d) e

pub ruleset fills = (filled_none, filled_step, filled_length, filled_room, filled_all, rules)

-- ---- the part `&s[k..]`
abbrev pub from : ℕ → List ℕ → List ℕ
from k s = take (length s - k) (drop k s)

pub from_is : (k : ℕ) (s : List ℕ) → from k s ≡ drop k s
from_is k s = take_all (length s - k) (drop k s) (omega (arith, length-drop k s))

pub length_from : (k : ℕ) (s : List ℕ) → length (from k s) ≡ length s - k
length_from k s = rw (from_is k s) (length-drop k s)

pub from_at : (s : List ℕ) (c : ℕ) → get_or (from 1 s) c 0 ≡ get_or s (suc c) 0
from_at s c = let e : 1 + c ≡ suc c = omega arith in ap (λ (l : List ℕ). get_or l c 0) (from_is 1 s) ∙ get_or-drop 1 s c 0 ∙ ap (λ (j : ℕ). get_or s j 0) e

-- ---- a loop over the numbered pairs of two slices: where a turn's pair stands, and how many turns there were
module _ (ks vs : List ℕ) (xs : List (ℕ × (Bor ℕ × Bor ℕ))) (s t u : Enumerate (Zip (Iter ℕ) (Iter ℕ))) (r : Option (ℕ × (Bor ℕ × Bor ℕ)))
    (first : iter_rest (zip_first (enumerate_source s)) ≡ ks) (second : iter_rest (zip_second (enumerate_source s)) ≡ vs) (count : enumerate_count s ≡ 0)
    (y : Yields (enumerate_steps (zips fronts fronts)) s xs t) where
  abbrev pairs : List (ℕ × (ℕ × ℕ))
  pairs = enumerate_from 0 (zip ks vs)

  road : YieldsList (enumerate_steps (zips fronts fronts)) (λ p. (p.0, (p.1.0.now, p.1.1.now))) s pairs
  road = YieldsList-from_enumerate (YieldsList-from_zip (YieldsList-from_slice ks first) (YieldsList-from_slice vs second)) count

  long : length pairs ≡ min (length ks) (length vs)
  long = length-enumerate_from 0 (zip ks vs) ∙ length-zip ks vs

  pub numbered_turn : (p : ℕ × (Bor ℕ × Bor ℕ)) → r ≡ Some p → enumerate_steps (zips fronts fronts) t r u
      → (length xs < length ks) × (length xs < length vs) × (p.0 ≡ length xs) × (p.1.0.now ≡ get_or ks (length xs) 0) × (p.1.1.now ≡ get_or vs (length xs) 0)
  numbered_turn p e h =
      let turn = YieldsList-turn road xs t y r u p e h in
      let in_first : length xs < length ks = omega (arith, turn.0, long) in
      let in_second : length xs < length vs = omega (arith, turn.0, long) in
      let is = turn.1 ∙ get_or-enumerate_from 0 (zip ks vs) (length xs) _ (omega (arith, turn.0, length-enumerate_from 0 (zip ks vs)))
      ∙ ap₂ (λ (j : ℕ) q. (j, q)) zero_add (get_or-zip ks vs (length xs) _ in_first in_second) in (
        in_first,
        in_second,
        ap (λ q. q.0) is,
        ap (λ q. q.1.0) is ∙ get_or_default_zero ks (length xs) _ in_first,
        ap (λ q. q.1.1) is ∙ get_or_default_zero vs (length xs) _ in_second,
      )
    where
      zero_add : 0 + length xs ≡ length xs
      zero_add = omega arith

  pub numbered_end : r ≡ None → enumerate_steps (zips fronts fronts) t r u → length xs ≡ min (length ks) (length vs)
  numbered_end e h = (YieldsList-end road xs t y r u e h).1 ∙ long

-- Products of phases over the places 0 to n - 1, counts over them, and the last of them that has a property.
use mathlib.Core.Path.{◌≡◌, refl, sym, ap, ap₂, ◌∙◌, subst}
use mathlib.Core.Bool.{Bool, true, false, not, cond}
use mathlib.Core.Logic.{◌≢◌}
use Prim.Native.Nat.{ℕ, zero, suc, ◌+◌, ◌%◌, ◌≤◌, ◌<◌}
use native.Mathlib.Nat.{not-suc-le-zero, lt_irrefl}
use native.Mathlib.Omega.{arith}
use native.Mathlib.Decide.{ℕ_discrete, dec_lt}
use lib.Dec.{eqb}
use Rattle.pauli_group.specs.Phase.{Phase, PlusOne, MinusOne, negate, turn, ◌·◌, sign, minus_one_to}
use Rattle.pauli_group.specs.PauliString.{product_to, count_to, last_to}
use Rattle.pauli_group.proofs.Finite.{phases, law1}
use Rattle.pauli_group.proofs.Laws.{·_assoc, ·_comm, ·-left, one-·, ·-one}

pub product_to-mul : (n : ℕ) (f g : ℕ → Phase) → product_to n (λ q. f q · g q) ≡ product_to n f · product_to n g
unfolding product_to
product_to-mul zero f g = sym (one-· PlusOne)
product_to-mul (suc n) f g = rw (product_to-mul n f g) (simp (·_assoc, ·_comm, ·-left))

pub product_to-one : (n : ℕ) (f : ℕ → Phase) → ((q : ℕ) → q < n → f q ≡ PlusOne) → product_to n f ≡ PlusOne
unfolding product_to
product_to-one zero f h = refl
product_to-one (suc n) f h = ap₂ ◌·◌ (product_to-one n f (λ q l. h q (omega arith))) (h n (omega arith)) ∙ one-· PlusOne

pub product_to_ext : (n : ℕ) (f g : ℕ → Phase) → ((q : ℕ) → q < n → f q ≡ g q) → product_to n f ≡ product_to n g
unfolding product_to
product_to_ext zero f g h = refl
product_to_ext (suc n) f g h = ap₂ ◌·◌ (product_to_ext n f g (λ q l. h q (omega arith))) (h n (omega arith))

-- places at n and above that give 1 do not count
pub product_to-cut : (n k : ℕ) (f : ℕ → Phase) → n ≤ k → ((q : ℕ) → n ≤ q → f q ≡ PlusOne) → product_to k f ≡ product_to n f
unfolding product_to
product_to-cut n zero f h e = let d : zero ≡ n = omega arith in ap (λ j. product_to j f) d
product_to-cut n (suc k) f h e = elim (ℕ_discrete n (suc k)) [
  | yes d ↦ ap (λ j. product_to j f) (sym d)
  | no d ↦ ap₂ ◌·◌ (product_to-cut n k f (omega arith) e) (e k (omega arith)) ∙ ·-one (product_to n f)
]

-- only the place k counts
pub product_to-at : (n k : ℕ) (f : ℕ → Phase) → k < n → ((q : ℕ) → q ≢ k → f q ≡ PlusOne) → product_to n f ≡ f k
unfolding product_to
product_to-at zero k f l h = absurd (not-suc-le-zero l)
product_to-at (suc n) k f l h = elim (ℕ_discrete k n) [
  | yes e ↦ ap (λ x. x · f n) (product_to-one n f (λ q m. h q (λ (d : q ≡ k). lt_irrefl n (subst (λ x. x < n) (d ∙ e) m)))) ∙ one-· (f n) ∙ ap f (sym e)
  | no d ↦ ap₂ ◌·◌ (product_to-at n k f (omega arith) h) (h n (λ e. d (sym e))) ∙ ·-one (f k)
]

-- a count's last turn, and its bound
pub count_to_le : (n : ℕ) (f : ℕ → Bool) → count_to n f ≤ n
unfolding count_to
count_to_le zero f = omega arith
count_to_le (suc n) f = at_most (f n) (count_to n f) (count_to_le n f)
  where
    at_most : (b : Bool) (c : ℕ) → c ≤ n → c + cond b 1 0 ≤ suc n
    at_most true c h = omega arith
    at_most false c h = omega arith

pub count_to_ext : (n : ℕ) (f g : ℕ → Bool) → ((q : ℕ) → q < n → f q ≡ g q) → count_to n f ≡ count_to n g
unfolding count_to
count_to_ext zero f g h = refl
count_to_ext (suc n) f g h = ap₂ (λ c b. c + cond b 1 0) (count_to_ext n f g (λ q l. h q (omega arith))) (h n (omega arith))

-- two counts that differ at one place at most
pub count_changed : (n : ℕ) (f g : ℕ → Bool) (p : ℕ) → p < n → ((q : ℕ) → (q ≡ p → ⊥) → f q ≡ g q) → count_to n g + cond (f p) 1 0 ≡ count_to n f + cond (g p) 1 0
unfolding count_to
count_changed zero f g p h s = absurd (not-suc-le-zero h)
count_changed (suc n) f g p h s = elim (ℕ_discrete p n) [
  | yes d ↦ omega (arith, count_to_ext n f g (λ q l. s q (λ z. other q l z d)), ap {B = ℕ} (λ (k : ℕ). cond (f k) 1 0) d, ap {B = ℕ} (λ (k : ℕ). cond (g k) 1 0) d)
  | no d ↦ omega (arith, count_changed n f g p (omega arith) s, ap {B = ℕ} (λ b. cond b 1 0) (s n (λ z. d (sym z))))
]
  where
    other : (q : ℕ) → q < n → q ≡ p → p ≡ n → ⊥
    other q l z d = omega arith

-- places at n and above that do not have f do not count
pub count_to-cut : (n k : ℕ) (f : ℕ → Bool) → n ≤ k → ((q : ℕ) → n ≤ q → f q ≡ false) → count_to k f ≡ count_to n f
unfolding count_to
count_to-cut n zero f h e = let z : zero ≡ n = omega arith in ap (λ (j : ℕ). count_to j f) z
count_to-cut n (suc k) f h e = elim (ℕ_discrete n (suc k)) [
  | yes d ↦ ap (λ (j : ℕ). count_to j f) (sym d)
  | no d ↦ ap (λ b. count_to k f + cond b 1 0) (e k (omega arith)) ∙ (let z : count_to k f + 0 ≡ count_to k f = omega arith in z) ∙ count_to-cut n k f (omega arith) e
]

-- -1 to the power of a count is the product of the places' signs
times-minus : (p : Phase) → negate p ≡ p · MinusOne
unfolding ◌·◌ negate turn
times-minus = law1 phases phases negate (λ p. p · MinusOne) tt

minus-more : (c : ℕ) (b : Bool) → minus_one_to (c + cond b 1 0) ≡ minus_one_to c · sign b
unfolding minus_one_to sign
minus-more c false = let e : c + 0 ≡ c = omega arith in ap minus_one_to e ∙ sym (·-one (minus_one_to c))
minus-more c true = let e : c + 1 ≡ suc c = omega arith in ap minus_one_to e ∙ times-minus (minus_one_to c)

pub signs_count : (n : ℕ) (f : ℕ → Bool) → product_to n (λ q. sign (f q)) ≡ minus_one_to (count_to n f)
unfolding product_to count_to minus_one_to
signs_count zero f = refl
signs_count (suc n) f = ap (λ p. p · sign (f n)) (signs_count n f) ∙ sym (minus-more (count_to n f) (f n))

-- it is +1 exactly if the number is even
pub minus-even : (n : ℕ) → minus_one_to n ≡ sign (not (eqb (n % 2) 0))
unfolding minus_one_to negate sign
minus-even zero = refl
minus-even (suc n) = ap negate (minus-even n) ∙ elim (ℕ_discrete (n % 2) 0) [
  | yes e ↦ let f : suc n % 2 ≡ 1 = omega arith in next 0 1 e f refl
  | no d ↦ let e : n % 2 ≡ 1 = omega arith in let f : suc n % 2 ≡ 0 = omega arith in next 1 0 e f refl
]
  where
    odd : ℕ → Phase
    odd r = sign (not (eqb r 0))

    next : (a b : ℕ) → n % 2 ≡ a → suc n % 2 ≡ b → negate (odd a) ≡ odd b → negate (odd (n % 2)) ≡ odd (suc n % 2)
    next a b e f h = ap (λ (r : ℕ). negate (odd r)) e ∙ h ∙ ap odd (sym f)

-- ---- 1 + the last place
pub last_to_le : (n : ℕ) (f : ℕ → Bool) → last_to n f ≤ n
unfolding last_to
last_to_le zero f = omega arith
last_to_le (suc n) f = step (f n) (last_to n f) (last_to_le n f)
  where
    step : (b : Bool) (m : ℕ) → m ≤ n → cond b (suc n) m ≤ suc n
    step true m h = omega arith
    step false m h = omega arith

-- no place from there on has f, and it is the least number of which that holds
pub last_to-none : (n : ℕ) (f : ℕ → Bool) (q : ℕ) → last_to n f ≤ q → q < n → f q ≡ false
unfolding last_to
last_to-none zero f q h l = absurd (not-suc-le-zero l)
last_to-none (suc n) f q h l = step (f n) refl h (last_to-none n f q)
  where
    step : (b : Bool) → f n ≡ b → cond b (suc n) (last_to n f) ≤ q → (last_to n f ≤ q → q < n → f q ≡ false) → f q ≡ false
    step true e k rest = absurd (omega arith)
    step false e k rest = elim (ℕ_discrete q n) [ yes d ↦ ap f d ∙ e | no d ↦ rest k (omega arith) ]

pub last_to-least : (n : ℕ) (f : ℕ → Bool) (k : ℕ) → ((q : ℕ) → k ≤ q → f q ≡ false) → last_to n f ≤ k
unfolding last_to
last_to-least zero f k h = omega arith
last_to-least (suc n) f k h = step (f n) refl (last_to-least n f k h)
  where
    step : (b : Bool) → f n ≡ b → last_to n f ≤ k → cond b (suc n) (last_to n f) ≤ k
    step true e r = elim (dec_lt n k) [ yes l ↦ l | no l ↦ let d : ◌≡◌ {A = ℕ} 0 1 = ap (λ b. cond b 0 1) (sym e ∙ h n (omega arith)) in omega arith ]
    step false e r = r

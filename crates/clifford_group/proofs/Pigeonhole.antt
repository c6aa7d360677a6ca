-- Of more numbers than there are values, two are equal. So a map of letters that tells them apart reaches all of them.
use mathlib.Core.Path.{◌≡◌, refl, sym, ap, ◌∙◌}
use mathlib.Core.Logic.{◌⊎◌, inl, inr, ◌≢◌}
use Prim.Native.Nat.{ℕ, zero, suc, ◌+◌, ◌*◌, ◌^◌, ◌≤◌, ◌<◌, pred}
use native.Mathlib.Nat.{le_refl, not-suc-le-zero, pow-suc}
use native.Mathlib.Omega.{arith}
use native.Mathlib.Decide.{ℕ_discrete, dec_lt}
use Rattle.pauli_group.specs.Letter.{Letter, I, X, Z, Y}

-- is v among f 0 to f (n - 1)
abbrev Found : (ℕ → ℕ) → ℕ → ℕ → Type 0
Found f v n = (i : ℕ) × (i < n) × (f i ≡ v)

abbrev Absent : (ℕ → ℕ) → ℕ → ℕ → Type 0
Absent f v n = (i : ℕ) → i < n → f i ≢ v

find : (f : ℕ → ℕ) (v n : ℕ) → Found f v n ⊎ Absent f v n
find f v zero = inr (λ i l e. not-suc-le-zero l)
find f v (suc n) = step (ℕ_discrete (f n) v) (find f v n)
  where
    step : Dec (f n ≡ v) → Found f v n ⊎ Absent f v n → Found f v (suc n) ⊎ Absent f v (suc n)
    step (yes e) r = inl (n, le_refl (suc n), e)
    step (no d) (inl w) = inl (w.0, omega arith, w.2)
    step (no d) (inr h) = inr (λ i l. elim (ℕ_discrete i n) [ yes e ↦ λ g. d (ap f (sym e) ∙ g) | no c ↦ h i (omega arith) ])

-- the numbers other than v, moved together
squeeze : ℕ → ℕ → ℕ
squeeze v w = elim (dec_lt w v) [ yes l ↦ w | no l ↦ pred w ]

squeeze_lt : (k v w : ℕ) → w ≢ v → w < suc k → v < suc k → squeeze v w < k
unfolding squeeze
squeeze_lt k v w d hw hv =
    elim (dec_lt w v) as (λ b. (elim b as (λ c. ℕ) [ yes l ↦ w | no l ↦ pred w ]) < k) [ yes l ↦ omega arith | no l ↦ omega arith ]

squeeze_injective : (v w u : ℕ) → w ≢ v → u ≢ v → squeeze v w ≡ squeeze v u → w ≡ u
unfolding squeeze
squeeze_injective v w u d e h = go (dec_lt w v) (dec_lt u v) h
  where
    go : (b : Dec (w < v)) (c : Dec (u < v))
        → ◌≡◌ {A = ℕ} (elim b [ yes l ↦ w | no l ↦ pred w ]) (elim c [ yes l ↦ u | no l ↦ pred u ]) → w ≡ u
    go (yes b) (yes c) h = h
    go (yes b) (no c) h = omega arith
    go (no b) (yes c) h = omega arith
    go (no b) (no c) h = omega arith

-- two of f 0 to f k are equal
abbrev Repeats : (ℕ → ℕ) → ℕ → Type 0
Repeats f k = (i : ℕ) × (j : ℕ) × (i < j) × (j ≤ k) × (f i ≡ f j)

pigeonhole : (k : ℕ) (f : ℕ → ℕ) → ((i : ℕ) → i ≤ k → f i < k) → Repeats f k
pigeonhole zero f h = absurd (not-suc-le-zero (h 0 (le_refl 0)))
pigeonhole (suc k) f h =
    step (find f (f (suc k)) (suc k))
    (λ r. pigeonhole k (λ i. squeeze (f (suc k)) (f i))
    (λ i l. squeeze_lt k (f (suc k)) (f i) (r i (omega arith)) (h i (omega arith)) (h (suc k) (le_refl (suc k)))))
  where
    step : Found f (f (suc k)) (suc k) ⊎ Absent f (f (suc k)) (suc k)
        → (Absent f (f (suc k)) (suc k) → Repeats (λ i. squeeze (f (suc k)) (f i)) k) → Repeats f (suc k)
    step (inl w) rest = (w.0, suc k, w.1, le_refl (suc k), w.2)
    step (inr r) rest =
        let w = rest r in
        let same = squeeze_injective (f (suc k)) (f w.0) (f w.1) (r w.0 (omega arith)) (r w.1 (omega arith)) w.4 in
        (w.0, w.1, w.2, omega arith, same)

-- ---- the letters below n as one number
digit : Letter → ℕ
digit I = 0
digit X = 1
digit Z = 2
digit Y = 3

digit_lt : (l : Letter) → digit l < 4
unfolding digit
digit_lt I = omega arith
digit_lt X = omega arith
digit_lt Z = omega arith
digit_lt Y = omega arith

undigit : ℕ → Letter
undigit zero = I
undigit (suc zero) = X
undigit (suc (suc zero)) = Z
undigit (suc (suc (suc n))) = Y

undigit_digit : (l : Letter) → undigit (digit l) ≡ l
unfolding digit undigit
undigit_digit I = refl
undigit_digit X = refl
undigit_digit Z = refl
undigit_digit Y = refl

code : ℕ → (ℕ → Letter) → ℕ
code zero a = 0
code (suc n) a = 4 * code n a + digit (a n)

code_lt : (n : ℕ) (a : ℕ → Letter) → code n a < 4 ^ n
unfolding code
code_lt zero a = omega arith
code_lt (suc n) a = omega (arith, code_lt n a, digit_lt (a n), pow-suc 4 n)

code_injective : (n : ℕ) (a b : ℕ → Letter) → code n a ≡ code n b → (q : ℕ) → q < n → a q ≡ b q
unfolding code
code_injective zero a b e q l = absurd (not-suc-le-zero l)
code_injective (suc n) a b e q l = elim (ℕ_discrete q n) [
  | yes d ↦ ap a d ∙ last (omega (arith, digit_lt (a n), digit_lt (b n))) ∙ ap b (sym d)
  | no d ↦ code_injective n a b (omega (arith, digit_lt (a n), digit_lt (b n))) q (omega arith)
]
  where
    last : digit (a n) ≡ digit (b n) → a n ≡ b n
    last e = sym (undigit_digit (a n)) ∙ ap undigit e ∙ undigit_digit (b n)

-- ---- a map that tells letters below n apart reaches all of them: its iterates repeat, and the repetition goes back to the start
module _ (n : ℕ) (f : (ℕ → Letter) → ℕ → Letter) where
  abbrev pub Agree : (ℕ → Letter) → (ℕ → Letter) → Type 0
  Agree a b = (q : ℕ) → q < n → a q ≡ b q

  iterate : ℕ → (ℕ → Letter) → ℕ → Letter
  iterate zero a = a
  iterate (suc i) a = f (iterate i a)

  back : ((a b : ℕ → Letter) → Agree (f a) (f b) → Agree a b) → (a : ℕ → Letter) (i j : ℕ) → i < j → Agree (iterate i a) (iterate j a)
      → (b : ℕ → Letter) × Agree a (f b)
  unfolding iterate
  back apart a zero zero l h = absurd (not-suc-le-zero l)
  back apart a zero (suc j) l h = (iterate j a, h)
  back apart a (suc i) zero l h = absurd (not-suc-le-zero l)
  back apart a (suc i) (suc j) l h = back apart a i j (omega arith) (apart (iterate i a) (iterate j a) h)

  pub reached : ((a b : ℕ → Letter) → Agree (f a) (f b) → Agree a b) → (a : ℕ → Letter) → (b : ℕ → Letter) × Agree a (f b)
  reached apart a =
      let w = pigeonhole (4 ^ n) (λ i. code n (iterate i a)) (λ i l. code_lt n (iterate i a)) in
      back apart a w.0 w.1 w.2 (code_injective n (iterate w.0 a) (iterate w.1 a) w.4)

-- `apply`, for every tableau, valid or not: it sees the images and the letters below `qubits` alone.
use mathlib.Core.Path.{◌≡◌, refl, sym, ap, ap₂, ◌∙◌, subst}
use mathlib.Core.Logic.{◌≢◌}
use Prim.Native.Nat.{ℕ, zero, suc, ◌≤◌, ◌<◌}
use native.Mathlib.Nat.{not-suc-le-zero}
use native.Mathlib.Omega.{arith}
use native.Mathlib.Decide.{ℕ_discrete, dec_lt}
use Rattle.pauli_group.specs.Phase.{Phase}
use Rattle.pauli_group.specs.Letter.{Letter, I, letter_mul}
use Rattle.pauli_group.specs.PauliString.{PauliString, qubits, mul, identity_string, scale, single, Within}
use Rattle.pauli_group.proofs.Laws.{·-one, ·_comm, letter_mul-I, I-letter_mul}
use Rattle.pauli_group.proofs.Strings.{string_ext, scale_one, scale-mul, mul-scale, mul_assoc, identity-mul, mul-identity, rising_phase, within-identity, within-mul}
use Rattle.clifford_group.specs.Tableau.{Tableau, image_of, apply_to, apply, widen, Proper}
use Rattle.clifford_group.proofs.Singles.{single-at, single_off}
use Rattle.clifford_group.proofs.Images.{image_I, Alike, alike-widen, within_image}

-- ---- what apply sees
apply_to_local : (k : ℕ) (t u : Tableau) (s v : PauliString) → s.phase ≡ v.phase
    → ((q : ℕ) → q < k → image_of t q (s.letters q) ≡ image_of u q (v.letters q)) → apply_to k t s ≡ apply_to k u v
unfolding apply_to
apply_to_local zero t u s v p h = λ i. record { phase = p i; letters = λ q. I }
apply_to_local (suc k) t u s v p h = ap₂ mul (apply_to_local k t u s v p (λ q l. h q (omega arith))) (h k (omega arith))

pub apply_local : (t u : Tableau) (s v : PauliString) → s.phase ≡ v.phase
    → ((q : ℕ) → q < qubits → image_of t q (s.letters q) ≡ image_of u q (v.letters q)) → apply t s ≡ apply u v
unfolding apply
apply_local = apply_to_local qubits

pub apply-alike : (t u : Tableau) → Alike t u → (s : PauliString) → apply t s ≡ apply u s
apply-alike t u e s = apply_local t u s s refl (λ q h. e q (s.letters q) h)

pub apply-letters : (t : Tableau) (s v : PauliString) → s.phase ≡ v.phase → ((q : ℕ) → q < qubits → s.letters q ≡ v.letters q)
    → apply t s ≡ apply t v
apply-letters t s v p h = apply_local t t s v p (λ q l. ap (image_of t q) (h q l))

pub apply-widen : (n : ℕ) (t : Tableau) (s : PauliString) → apply (widen n t) s ≡ apply t s
apply-widen n t = apply-alike (widen n t) t (alike-widen n t)

-- ---- phases, the identity, single letters
apply_to-scale : (k : ℕ) (t : Tableau) (p : Phase) (s : PauliString) → apply_to k t (scale p s) ≡ scale p (apply_to k t s)
unfolding apply_to scale
apply_to-scale zero t p s = refl
apply_to-scale (suc k) t p s =
    ap (λ u. mul u (image_of t k (s.letters k))) (apply_to-scale k t p s) ∙ scale-mul p (apply_to k t s) (image_of t k (s.letters k))

pub apply-scale : (t : Tableau) (p : Phase) (s : PauliString) → apply t (scale p s) ≡ scale p (apply t s)
unfolding apply
apply-scale = apply_to-scale qubits

-- no letters below k: the phase alone
apply_to-none : (k : ℕ) (t : Tableau) (s : PauliString) → ((q : ℕ) → q < k → s.letters q ≡ I)
    → apply_to k t s ≡ scale s.phase identity_string
unfolding apply_to scale identity_string
apply_to-none zero t s h = string_ext _ _ (sym (·-one s.phase)) (λ q. refl)
apply_to-none (suc k) t s h =
    ap₂ mul (apply_to-none k t s (λ q l. h q (omega arith))) (ap (image_of t k) (h k (omega arith)) ∙ image_I t k)
    ∙ mul-identity (scale s.phase identity_string)

pub apply_to_start : (t : Tableau) (s : PauliString) → apply_to zero t s ≡ scale s.phase identity_string
apply_to_start t s = apply_to-none zero t s (λ q l. absurd (not-suc-le-zero l))

pub apply-identity : (t : Tableau) → apply t identity_string ≡ identity_string
unfolding apply identity_string
apply-identity t = apply_to-none qubits t identity_string (λ q l. refl) ∙ scale_one identity_string

apply_to-at : (k j : ℕ) (t : Tableau) (s : PauliString) → j < k → ((q : ℕ) → q ≢ j → s.letters q ≡ I)
    → apply_to k t s ≡ scale s.phase (image_of t j (s.letters j))
unfolding apply_to
apply_to-at zero j t s l h = absurd (not-suc-le-zero l)
apply_to-at (suc k) j t s l h = elim (ℕ_discrete j k) [
  | yes e ↦ ap₂ mul (apply_to-none k t s (λ q m. h q (omega arith))) (ap (λ q. image_of t q (s.letters q)) (sym e))
      ∙ scale-mul s.phase identity_string _ ∙ ap (scale s.phase) (identity-mul _)
  | no d ↦ ap₂ mul (apply_to-at k j t s (omega arith) h) (ap (image_of t k) (h k (λ e. d (sym e))) ∙ image_I t k) ∙ mul-identity _
]

-- a single letter is sent to its image
pub apply_single : (t : Tableau) (l : Letter) (j : ℕ) → j < qubits → apply t (single l j) ≡ image_of t j l
unfolding apply single
apply_single t l j h = apply_to-at qubits j t (single l j) h (single_off l j) ∙ scale_one _ ∙ ap (image_of t j) (single-at l j)

-- ---- two strings in rising order, s with no letter from k on and u with none below: the product is sent to the product, whatever the rows
module _ (t : Tableau) (s u : PauliString) (k : ℕ) (low : Within k s) (high : (q : ℕ) → q < k → u.letters q ≡ I) where
  abbrev Rising : ℕ → Type 0
  Rising j = apply_to j t (mul s u) ≡ mul (apply_to j t s) (apply_to j t u)

  -- below k the letters are those of s
  rising_start : Rising k
  unfolding mul scale
  rising_start =
      apply_to_local k t t (mul s u) (scale u.phase s) (rising_phase s u k low high ∙ ·_comm s.phase u.phase)
      (λ q l. ap (λ a. image_of t q (letter_mul (s.letters q) a)) (high q l) ∙ ap (image_of t q) (letter_mul-I (s.letters q)))
      ∙ apply_to-scale k t u.phase s ∙ ap (scale u.phase) (sym (mul-identity (apply_to k t s)))
      ∙ sym (ap (mul (apply_to k t s)) (apply_to-none k t u high) ∙ mul-scale u.phase (apply_to k t s) identity_string)

  -- from k on those of u
  rising_step : (j : ℕ) → k ≤ j → Rising j → Rising (suc j)
  unfolding apply_to mul
  rising_step j h e =
      ap₂ mul e (ap (λ a. image_of t j (letter_mul a (u.letters j))) (low j h) ∙ ap (image_of t j) (I-letter_mul (u.letters j)))
      ∙ mul_assoc (apply_to j t s) (apply_to j t u) (image_of t j (u.letters j))
      ∙ sym (ap (λ a. mul a (apply_to (suc j) t u))
      (ap (mul (apply_to j t s)) (ap (image_of t j) (low j h) ∙ image_I t j) ∙ mul-identity (apply_to j t s)))

  apply_to_rising : (j : ℕ) → k ≤ j → Rising j
  apply_to_rising zero h = let e : k ≡ zero = omega arith in subst Rising e rising_start
  apply_to_rising (suc j) h = elim (ℕ_discrete k (suc j)) [
    | yes e ↦ subst Rising e rising_start
    | no d ↦ let l : k ≤ j = omega arith in rising_step j l (apply_to_rising j l)
  ]

  pub apply_rising : k ≤ qubits → apply t (mul s u) ≡ mul (apply t s) (apply t u)
  unfolding apply
  apply_rising = apply_to_rising qubits

-- ---- letters at n or above
apply_to-within : (k n : ℕ) (t : Tableau) (s : PauliString) → ((q : ℕ) → q < k → Within n (image_of t q (s.letters q)))
    → Within n (apply_to k t s)
unfolding apply_to
apply_to-within zero n t s h = λ q m. refl
apply_to-within (suc k) n t s h =
    within-mul n (apply_to k t s) (image_of t k (s.letters k)) (apply_to-within k n t s (λ q l. h q (omega arith))) (h k (omega arith))

-- a proper tableau makes no letter at n or above of a string that has none from there to `qubits`
pub within-apply : (t : Tableau) → Proper t → (n : ℕ) → t.width ≤ n → (s : PauliString)
    → ((q : ℕ) → n ≤ q → q < qubits → s.letters q ≡ I) → Within n (apply t s)
unfolding apply
within-apply t p n w s h = apply_to-within qubits n t s each
  where
    each : (q : ℕ) → q < qubits → Within n (image_of t q (s.letters q))
    each q l = elim (dec_lt q n) [
      | yes k ↦ within_image t p n w q (s.letters q) k
      | no k ↦ subst (Within n) (sym (ap (image_of t q) (h q (omega arith) l) ∙ image_I t q)) (within-identity n)
    ]

pub apply-within : (t : Tableau) → Proper t → (s : PauliString) → Within qubits (apply t s)
apply-within t p s = within-apply t p qubits p.narrow s (λ q h l. absurd (omega arith))

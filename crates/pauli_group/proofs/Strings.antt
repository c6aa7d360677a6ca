-- Pauli strings are a group under `mul`: associative, the identity neutral, phases central, P·Q = (-1)^n Q·P for the number n of
-- places at which they anticommute.
use mathlib.Core.Path.{◌≡◌, refl, sym, ap, ap₂, ◌∙◌, fun_ext}
use mathlib.Core.Bool.{true, false, cond, not}
use Prim.Native.Nat.{ℕ, ◌<◌}
use native.Mathlib.Omega.{arith}
use native.Mathlib.Decide.{dec_lt}
use lib.Dec.{eqb}
use borrow.Author.Tests.{eq-eqb, ne_eqb}
use Rattle.pauli_group.specs.Phase.{Phase, PlusOne, MinusOne, ◌·◌, is_real, sign, minus_one_to}
use Rattle.pauli_group.specs.Letter.{Letter, I, letter_phase, letter_mul, anticommute}
use Rattle.pauli_group.specs.PauliString.{PauliString, qubits, product_to, phase_of_letters, mul, identity_string, scale, single, anticommuting_places, commute, commutation_sign, Within}
use Rattle.pauli_group.proofs.Laws.{·_assoc, ·_comm, ·-left, one-·, ·-one, ·_cancel, real_square, square_real}
use Rattle.pauli_group.proofs.Laws.{letter_mul_assoc, letter_mul_comm, letter_mul_self, letter_mul-I, I-letter_mul, letter_phase_self, letter_phase-I, I-letter_phase}
use Rattle.pauli_group.proofs.Laws.{cocycle, swap, anticommute_sym, anticommute-I, sign-mul}
use Rattle.pauli_group.proofs.Products.{product_to-mul, product_to-one, product_to-at, count_to_ext, signs_count, minus-even}

-- strings with equal phases and equal letters are equal
pub string_ext : (s t : PauliString) → s.phase ≡ t.phase → ((q : ℕ) → s.letters q ≡ t.letters q) → s ≡ t
string_ext s t e h = λ i. record { phase = e i; letters = λ q. h q i }

-- ---- phases are central
pub scale-scale : (p q : Phase) (s : PauliString) → scale p (scale q s) ≡ scale (p · q) s
unfolding scale
scale-scale p q s = λ i. record { phase = sym (·_assoc p q s.phase) i; letters = s.letters }

pub scale_one : (s : PauliString) → scale PlusOne s ≡ s
unfolding scale
scale_one s = λ i. record { phase = one-· s.phase i; letters = s.letters }

pub scale_cancel : (p q : Phase) (s : PauliString) → scale p s ≡ scale q s → p ≡ q
unfolding scale
scale_cancel p q s e = ·_cancel p q s.phase (ap (λ (t : PauliString). t.phase) e)

pub scale-mul : (p : Phase) (s t : PauliString) → mul (scale p s) t ≡ scale p (mul s t)
unfolding mul scale
scale-mul p s t = string_ext (mul (scale p s) t) (scale p (mul s t)) (simp ·_assoc) (λ q. refl)

pub mul-scale : (p : Phase) (s t : PauliString) → mul s (scale p t) ≡ scale p (mul s t)
unfolding mul scale
mul-scale p s t = string_ext (mul s (scale p t)) (scale p (mul s t)) (simp (·_assoc, ·-left)) (λ q. refl)

-- ---- associativity
phases_cocycle : (a b c : ℕ → Letter)
    → phase_of_letters a b · phase_of_letters (λ q. letter_mul (a q) (b q)) c ≡ phase_of_letters b c · phase_of_letters a (λ q. letter_mul (b q) (c q))
unfolding phase_of_letters
phases_cocycle a b c =
    sym (product_to-mul qubits (λ q. letter_phase (a q) (b q)) (λ q. letter_phase (letter_mul (a q) (b q)) (c q)))
    ∙ ap (product_to qubits) (fun_ext (λ q. cocycle (a q) (b q) (c q)))
    ∙ product_to-mul qubits (λ q. letter_phase (b q) (c q)) (λ q. letter_phase (a q) (letter_mul (b q) (c q)))

regroup : (a b c d e f g : Phase) → d · e ≡ f · g → a · b · d · c · e ≡ a · (b · c · f) · g
regroup a b c d e f g h =
    let left : a · b · d · c · e ≡ a · b · c · (d · e) = simp (·_assoc, ·_comm) in
    left ∙ ap (λ x. a · b · c · x) h ∙ simp ·_assoc

pub mul_assoc : (s t u : PauliString) → mul (mul s t) u ≡ mul s (mul t u)
unfolding mul
mul_assoc s t u =
    string_ext (mul (mul s t) u) (mul s (mul t u)) (regroup s.phase t.phase u.phase _ _ _ _ (phases_cocycle s.letters t.letters u.letters))
    (λ q. letter_mul_assoc (s.letters q) (t.letters q) (u.letters q))

-- ---- the identity is neutral
pub identity-mul : (s : PauliString) → mul identity_string s ≡ s
unfolding mul identity_string phase_of_letters
identity-mul s =
    string_ext (mul identity_string s) s
    (ap (λ x. PlusOne · s.phase · x) (product_to-one qubits _ (λ q l. I-letter_phase (s.letters q))) ∙ ·-one (PlusOne · s.phase) ∙ one-· s.phase)
    (λ q. I-letter_mul (s.letters q))

pub mul-identity : (s : PauliString) → mul s identity_string ≡ s
unfolding mul identity_string phase_of_letters
mul-identity s =
    string_ext (mul s identity_string) s
    (ap (λ x. s.phase · PlusOne · x) (product_to-one qubits _ (λ q l. letter_phase-I (s.letters q))) ∙ ·-one (s.phase · PlusOne) ∙ ·-one s.phase)
    (λ q. letter_mul-I (s.letters q))

-- ---- in rising order, s with no letter from k on and u with none below, letters give no phase
pub rising_phase : (s u : PauliString) (k : ℕ) → Within k s → ((q : ℕ) → q < k → u.letters q ≡ I) → (mul s u).phase ≡ s.phase · u.phase
unfolding mul phase_of_letters
rising_phase s u k low high = ap (λ x. s.phase · u.phase · x) (product_to-one qubits _ (λ q h. none q)) ∙ ·-one (s.phase · u.phase)
  where
    none : (q : ℕ) → letter_phase (s.letters q) (u.letters q) ≡ PlusOne
    none q = elim (dec_lt q k) [
      | yes l ↦ ap (letter_phase (s.letters q)) (high q l) ∙ letter_phase-I (s.letters q)
      | no l ↦ ap (λ a. letter_phase a (u.letters q)) (low q (omega arith)) ∙ I-letter_phase (u.letters q)
    ]

-- ---- P·Q = (-1)^n Q·P
-- the places' signs, multiplied
abbrev signs : PauliString → PauliString → Phase
signs s t = product_to qubits (λ q. sign (anticommute (s.letters q) (t.letters q)))

sign-places : (s t : PauliString) → signs s t ≡ commutation_sign s t
unfolding commutation_sign anticommuting_places
sign-places s t = signs_count qubits (λ q. anticommute (s.letters q) (t.letters q))

phases_swap : (s t : PauliString) → phase_of_letters s.letters t.letters ≡ commutation_sign s t · phase_of_letters t.letters s.letters
unfolding phase_of_letters
phases_swap s t =
    ap (product_to qubits) (fun_ext (λ q. swap (s.letters q) (t.letters q))) ∙ product_to-mul qubits _ _
    ∙ ap (λ p. p · phase_of_letters t.letters s.letters) (sign-places s t)

pub mul_swap : (s t : PauliString) → mul s t ≡ scale (commutation_sign s t) (mul t s)
unfolding mul scale
mul_swap s t =
    string_ext (mul s t) (scale (commutation_sign s t) (mul t s))
    (ap (λ x. s.phase · t.phase · x) (phases_swap s t) ∙ simp (·_assoc, ·_comm, ·-left))
    (λ q. letter_mul_comm (s.letters q) (t.letters q))

-- no other sign has that
pub sign-only : (p : Phase) (s t : PauliString) → mul s t ≡ scale p (mul t s) → p ≡ commutation_sign s t
sign-only p s t e = scale_cancel p (commutation_sign s t) (mul t s) (sym e ∙ mul_swap s t)

-- two strings commute exactly where exchanging them changes nothing
pub commute-sign : (s t : PauliString) → commutation_sign s t ≡ sign (not (commute s t))
unfolding commute commutation_sign
commute-sign s t = minus-even (anticommuting_places s t)

pub commute-mul : (s t : PauliString) → commute s t ≡ true → mul s t ≡ mul t s
unfolding sign
commute-mul s t e = mul_swap s t ∙ ap (λ p. scale p (mul t s)) (commute-sign s t ∙ ap (λ b. sign (not b)) e) ∙ scale_one (mul t s)

pub anticommute-mul : (s t : PauliString) → commute s t ≡ false → mul s t ≡ scale MinusOne (mul t s)
unfolding sign
anticommute-mul s t e = mul_swap s t ∙ ap (λ p. scale p (mul t s)) (commute-sign s t ∙ ap (λ b. sign (not b)) e)

-- ---- further laws of the sign
pub places_sym : (s t : PauliString) → anticommuting_places s t ≡ anticommuting_places t s
unfolding anticommuting_places
places_sym s t = count_to_ext qubits _ _ (λ q l. anticommute_sym (s.letters q) (t.letters q))

pub sign_sym : (s t : PauliString) → commutation_sign s t ≡ commutation_sign t s
unfolding commutation_sign
sign_sym s t = ap minus_one_to (places_sym s t)

pub sign_of_mul : (s t u : PauliString) → commutation_sign (mul s t) u ≡ commutation_sign s u · commutation_sign t u
unfolding mul
sign_of_mul s t u =
    sym (sign-places (mul s t) u) ∙ ap (product_to qubits) (fun_ext (λ q. sign-mul (s.letters q) (t.letters q) (u.letters q)))
    ∙ product_to-mul qubits _ _ ∙ ap₂ ◌·◌ (sign-places s u) (sign-places t u)

pub sign-scale : (p : Phase) (s u : PauliString) → commutation_sign (scale p s) u ≡ commutation_sign s u
unfolding commutation_sign anticommuting_places scale
sign-scale p s u = refl

pub sign-single : (s : PauliString) (l : Letter) (k : ℕ) → k < qubits → commutation_sign s (single l k) ≡ sign (anticommute (s.letters k) l)
unfolding single sign
sign-single s l k h =
    sym (sign-places s (single l k)) ∙ product_to-at qubits k (λ q. sign (anticommute (s.letters q) (cond (eqb q k) l I))) h
    (λ q d. ap (λ b. sign (anticommute (s.letters q) (cond b l I))) (ne_eqb q k d) ∙ ap sign (anticommute-I (s.letters q)))
    ∙ ap (λ b. sign (anticommute (s.letters k) (cond b l I))) (eq-eqb k k refl)

-- only the letters below `qubits` count
pub sign_local : (s t u : PauliString) → ((q : ℕ) → q < qubits → s.letters q ≡ t.letters q) → commutation_sign s u ≡ commutation_sign t u
unfolding commutation_sign anticommuting_places
sign_local s t u h = ap minus_one_to (count_to_ext qubits _ _ (λ q l. ap (λ a. anticommute a (u.letters q)) (h q l)))

-- ---- squares
pub square : (s : PauliString) → mul s s ≡ scale (s.phase · s.phase) identity_string
unfolding mul scale identity_string phase_of_letters
square s =
    string_ext (mul s s) (scale (s.phase · s.phase) identity_string)
    (ap (λ x. s.phase · s.phase · x) (product_to-one qubits _ (λ q l. letter_phase_self (s.letters q))))
    (λ q. letter_mul_self (s.letters q))

pub real_squares : (s : PauliString) → is_real s.phase ≡ true → mul s s ≡ identity_string
real_squares s e = square s ∙ ap (λ p. scale p identity_string) (real_square s.phase e) ∙ scale_one identity_string

pub squares_real : (s : PauliString) → mul s s ≡ identity_string → is_real s.phase ≡ true
squares_real s e = square_real s.phase (scale_cancel (s.phase · s.phase) PlusOne identity_string (sym (square s) ∙ e ∙ sym (scale_one identity_string)))

-- ---- strings with no letter at w or above
pub within-identity : (w : ℕ) → Within w identity_string
unfolding identity_string
within-identity w q h = refl

pub within-mul : (w : ℕ) (s t : PauliString) → Within w s → Within w t → Within w (mul s t)
unfolding mul
within-mul w s t hs ht q h = ap₂ letter_mul (hs q h) (ht q h) ∙ I-letter_mul I

pub within-scale : (w : ℕ) (p : Phase) (s : PauliString) → Within w s → Within w (scale p s)
unfolding scale
within-scale w p s h = h

pub within-single : (w : ℕ) (l : Letter) (k : ℕ) → k < w → Within w (single l k)
unfolding single
within-single w l k h q m = ap (λ b. cond b l I) (ne_eqb q k (omega arith))

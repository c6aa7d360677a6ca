-- A valid tableau sends a product to the product (the papers' conjugation): so it keeps signs and real phases, and tells strings
-- apart.
use mathlib.Core.Path.{◌≡◌, refl, sym, ap, ap₂, ◌∙◌, subst}
use Prim.Native.Nat.{ℕ, zero, suc, ◌≤◌, ◌<◌}
use native.Mathlib.Nat.{le_refl}
use native.Mathlib.Omega.{arith}
use native.Mathlib.Decide.{dec_lt}
use Rattle.pauli_group.specs.Phase.{PlusOne, ◌·◌, sign}
use Rattle.pauli_group.specs.Letter.{Letter, X, Z, letter_phase, letter_mul, anticommute}
use Rattle.pauli_group.specs.PauliString.{PauliString, qubits, product_to, phase_of_letters, mul, identity_string, scale, single}
use Rattle.pauli_group.specs.PauliString.{commute, commutation_sign, Within}
use Rattle.pauli_group.proofs.Laws.{·_comm, ·-one, sign_injective}
use Rattle.pauli_group.proofs.Strings.{string_ext, scale_one, scale_cancel, identity-mul, mul_swap, sign-only, sign-single, sign_local}
use Rattle.clifford_group.specs.Tableau.{Tableau, image_of, apply_to, apply, letter_of_bits, Clifford}
use Rattle.clifford_group.proofs.Singles.{letter_bits}
use Rattle.clifford_group.proofs.Commuting.{Commuting, commuting-identity, commuting-scale, commuting-mul, exchange, scale_both}
use Rattle.clifford_group.proofs.Commuting.{commute_by_sign}
use Rattle.clifford_group.proofs.Apply.{apply_to_start, apply-letters, apply-scale, apply_single}
use Rattle.clifford_group.proofs.Multiply.{ImagesMultiply, multiply_everywhere}

-- the letters' products alone, with the product of the two phases
joined : PauliString → PauliString → PauliString
joined s u = record { phase = s.phase · u.phase; letters = λ q. letter_mul (s.letters q) (u.letters q) }

module _ (t : Tableau) (m : ImagesMultiply qubits t) where
  -- an image commutes with all that was made of lower qubits
  apply_to_apart : (k r : ℕ) → k ≤ r → r < qubits → (s : PauliString) (b : Letter) → Commuting (image_of t r b) (apply_to k t s)
  unfolding apply_to
  apply_to_apart zero r h l s b =
      subst (Commuting (image_of t r b)) (sym (apply_to_start t s))
      (commuting-scale s.phase (image_of t r b) identity_string (commuting-identity (image_of t r b)))
  apply_to_apart (suc k) r h l s b =
      commuting-mul (image_of t r b) (apply_to k t s) (image_of t k (s.letters k)) (apply_to_apart k r (omega arith) l s b)
      (m.apart r k b (s.letters k) l (omega arith) (omega arith))

  apply_to-mul : (k : ℕ) → k ≤ qubits → (s u : PauliString)
      → mul (apply_to k t s) (apply_to k t u)
      ≡ scale (product_to k (λ q. letter_phase (s.letters q) (u.letters q))) (apply_to k t (joined s u))
  unfolding joined apply_to product_to
  apply_to-mul zero h s u =
      ap₂ mul (apply_to_start t s) (apply_to_start t u) ∙ scale_both s.phase u.phase identity_string identity_string
      ∙ ap (scale (s.phase · u.phase)) (identity-mul identity_string) ∙ sym (apply_to_start t (joined s u))
      ∙ sym (scale_one (apply_to zero t (joined s u)))
  apply_to-mul (suc k) h s u =
      exchange (apply_to k t s) (image_of t k (s.letters k)) (apply_to k t u) (image_of t k (u.letters k))
      (apply_to_apart k k (le_refl k) h u (s.letters k))
      ∙ ap₂ mul (apply_to-mul k (omega arith) s u) (m.together k (s.letters k) (u.letters k) h)
      ∙ scale_both _ _ _ _

  apply-multiplies : (s u : PauliString) → apply t (mul s u) ≡ mul (apply t s) (apply t u)
  unfolding apply joined
  apply-multiplies s u =
      ap (apply t) product ∙ apply-scale t (phase_of_letters s.letters u.letters) (joined s u)
      ∙ sym (unfold phase_of_letters in apply_to-mul qubits (le_refl qubits) s u)
    where
      product : mul s u ≡ scale (phase_of_letters s.letters u.letters) (joined s u)
      product =
          unfold mul scale in string_ext _ _ (·_comm (s.phase · u.phase) (phase_of_letters s.letters u.letters)) (λ q. refl)

-- ---- what a valid tableau keeps
module _ (t : Tableau) (c : Clifford t) where
  pub apply-mul : (s u : PauliString) → apply t (mul s u) ≡ mul (apply t s) (apply t u)
  apply-mul = apply-multiplies t (multiply_everywhere t c)

  pub sign-apply : (s u : PauliString) → commutation_sign (apply t s) (apply t u) ≡ commutation_sign s u
  sign-apply s u =
      sym (sign-only (commutation_sign s u) (apply t s) (apply t u)
      (sym (apply-mul s u) ∙ ap (apply t) (mul_swap s u) ∙ apply-scale t (commutation_sign s u) (mul u s)
      ∙ ap (scale (commutation_sign s u)) (apply-mul u s)))

  pub commute-apply : (s u : PauliString) → commute (apply t s) (apply t u) ≡ commute s u
  commute-apply s u = commute_by_sign (apply t s) (apply t u) s u (sign-apply s u)

  -- ---- it tells strings apart: a letter is known by its signs with X and Z
  pub sign_image : (s : PauliString) (l : Letter) (q : ℕ) → q < qubits
      → sign (anticommute (s.letters q) l) ≡ commutation_sign (apply t s) (image_of t q l)
  sign_image s l q h =
      sym (sign-single s l q h) ∙ sym (sign-apply s (single l q)) ∙ ap (commutation_sign (apply t s)) (apply_single t l q h)

  pub letters_injective : (s u : PauliString) → ((q : ℕ) → q < qubits → (apply t s).letters q ≡ (apply t u).letters q) → (q : ℕ)
      → q < qubits → s.letters q ≡ u.letters q
  letters_injective s u e q h = letter_bits (s.letters q) ∙ ap₂ letter_of_bits (bit Z) (bit X) ∙ sym (letter_bits (u.letters q))
    where
      bit : (l : Letter) → anticommute (s.letters q) l ≡ anticommute (u.letters q) l
      bit l = sign_injective _ _ (sign_image s l q h ∙ sign_local (apply t s) (apply t u) (image_of t q l) e ∙ sym (sign_image u l q h))

  pub apply_injective : (s u : PauliString) → Within qubits s → Within qubits u → apply t s ≡ apply t u → s ≡ u
  apply_injective s u hs hu e = string_ext s u phases letters
    where
      below : (q : ℕ) → q < qubits → s.letters q ≡ u.letters q
      below = letters_injective s u (λ q h. ap (λ (w : PauliString). w.letters q) e)

      letters : (q : ℕ) → s.letters q ≡ u.letters q
      letters q = elim (dec_lt q qubits) [ yes l ↦ below q l | no l ↦ hs q (omega arith) ∙ sym (hu q (omega arith)) ]

      -- the same letters with phase +1
      body : PauliString
      body = record { phase = PlusOne; letters = u.letters }

      scaled : (w : PauliString) → ((q : ℕ) → q < qubits → w.letters q ≡ u.letters q) → apply t w ≡ scale w.phase (apply t body)
      scaled w h =
          apply-letters t w (scale w.phase body) (unfold scale in sym (·-one w.phase)) (unfold scale in h)
          ∙ apply-scale t w.phase body

      phases : s.phase ≡ u.phase
      phases = scale_cancel s.phase u.phase (apply t body) (sym (scaled s below) ∙ e ∙ scaled u (λ q h. refl))

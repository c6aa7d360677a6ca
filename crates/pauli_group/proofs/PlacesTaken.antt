-- The places that a product takes: the fewest behind which both strings have only I, and all that the product goes by.
use mathlib.Core.Path.{◌≡◌, refl, ap, ap₂, ◌∙◌}
use mathlib.Core.Bool.{Bool, true, false, ◌||◌}
use Prim.Native.Nat.{ℕ, ◌≤◌}
use native.Mathlib.Decide.{dec_lt}
use native.Mathlib.Omega.{arith}
use Rattle.pauli_group.specs.Letter.{Letter, I, X, Z, Y, not_i, letter_phase}
use Rattle.pauli_group.specs.PauliString.{PauliString, qubits, product_to, phase_of_letters, has_letter, places_taken, Within}
use Rattle.pauli_group.proofs.Laws.{I-letter_phase}
use Rattle.pauli_group.proofs.Products.{product_to-cut, last_to_le, last_to-none, last_to-least}

pub is-I : (l : Letter) → not_i l ≡ false → l ≡ I
unfolding not_i
is-I I e = refl
is-I X e = cc
is-I Z e = cc
is-I Y e = cc

no_letter : (s : PauliString) (q : ℕ) → s.letters q ≡ I → has_letter s q ≡ false
unfolding has_letter not_i
no_letter s q e = ap not_i e

neither : (a b : Bool) → (a || b) ≡ false → (a ≡ false) × (b ≡ false)
neither true b e = (e, cc)
neither false b e = (refl, e)

-- it is 0 to `qubits`
pub taken_le : (s t : PauliString) → places_taken s t ≤ qubits
unfolding places_taken
taken_le s t = last_to_le qubits _

module _ (s t : PauliString) (hs : Within qubits s) (ht : Within qubits t) where
  none : (q : ℕ) → places_taken s t ≤ q → (has_letter s q || has_letter t q) ≡ false
  unfolding places_taken
  none q h = elim (dec_lt q qubits) [
    | yes l ↦ last_to-none qubits _ q h l
    | no l ↦ ap₂ ◌||◌ (no_letter s q (hs q (omega arith))) (no_letter t q (ht q (omega arith)))
  ]

  -- both strings have only I from there on
  pub taken-within : Within (places_taken s t) s × Within (places_taken s t) t
  unfolding has_letter
  taken-within = (
    λ q h. is-I (s.letters q) (neither (has_letter s q) (has_letter t q) (none q h)).0,
    λ q h. is-I (t.letters q) (neither (has_letter s q) (has_letter t q) (none q h)).1,
  )

-- and from no smaller number on
pub taken-least : (s t : PauliString) (k : ℕ) → Within k s → Within k t → places_taken s t ≤ k
unfolding places_taken
taken-least s t k hs ht = last_to-least qubits _ k (λ q h. ap₂ ◌||◌ (no_letter s q (hs q h)) (no_letter t q (ht q h)))

-- places from there on give no phase
pub phase-taken : (s t : PauliString) (k : ℕ) → k ≤ qubits → Within k s
    → phase_of_letters s.letters t.letters ≡ product_to k (λ q. letter_phase (s.letters q) (t.letters q))
unfolding phase_of_letters
phase-taken s t k h hs =
    product_to-cut k qubits (λ q. letter_phase (s.letters q) (t.letters q)) h
    (λ q l. ap (λ a. letter_phase a (t.letters q)) (hs q l) ∙ I-letter_phase (t.letters q))

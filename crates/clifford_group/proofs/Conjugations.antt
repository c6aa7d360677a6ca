-- `apply` is conjugation: an operator that carries X and Z to the tableau's rows carries every string to what `apply` makes of it. And
-- by maps alone: `apply` of a valid tableau is a conjugation with its rows, the only one, and an invalid tableau has none.
use mathlib.Core.Path.{◌≡◌, refl, sym, ap, ap₂, ◌∙◌}
use mathlib.Core.Bool.{true, cond}
use mathlib.Core.Logic.{◌↔◌}
use Prim.Native.Nat.{ℕ, zero, suc, ◌≤◌, ◌<◌, zero-le}
use native.Mathlib.Nat.{le_refl}
use native.Mathlib.Omega.{arith}
use native.Mathlib.Decide.{ℕ_discrete, dec_lt}
use lib.Dec.{ltb, eqb}
use borrow.Author.Tests.{lt-ltb, le-ltb, eq-eqb, ne_eqb}
use Rattle.pauli_group.specs.Phase.{Phase, PlusI}
use Rattle.pauli_group.specs.Letter.{Letter, I, X, Z, Y, letter_mul}
use Rattle.pauli_group.specs.PauliString.{PauliString, qubits, mul, identity_string, scale, single, Within}
use Rattle.pauli_group.specs.Operators.{Numbers, Vector, times_vector, act}
use Rattle.pauli_group.proofs.Laws.{·-one, letter_mul-I, I-letter_mul}
use Rattle.pauli_group.proofs.Strings.{string_ext, rising_phase, within-identity, within-mul, within-scale, within-single}
use Rattle.pauli_group.proofs.Operators.{act-mul, act-scale, act-identity}
use Rattle.clifford_group.specs.Tableau.{Tableau, image_of, apply_to, apply, is_valid, Proper, Clifford}
use Rattle.clifford_group.specs.Conjugation.{Generator, of_x, of_z, generator, Carries, Conjugation}
use Rattle.clifford_group.proofs.Singles.{single-I, single_off}
use Rattle.clifford_group.proofs.Images.{image_I, image_Y, single-Y}
use Rattle.clifford_group.proofs.Apply.{apply_to_start, apply-scale, apply-identity, apply_single}
use Rattle.clifford_group.proofs.Conjugation.{apply-mul}
use Rattle.clifford_group.proofs.Homomorphism.{multiplicative_valid}

pub apply_conjugation : (t : Tableau) → Clifford t → Conjugation t (apply t)
apply_conjugation t c = record {
  products = λ s u hs hu. apply-mul t c s u;
  phases = λ p s hs. apply-scale t p s;
  identity = apply-identity t;
  images = λ g q h. apply_single t (generator g) q h;
}

-- ---- a string is made of its phase and its letters, one qubit after the other
-- the letters below k, and I from there on
cut : ℕ → PauliString → PauliString
cut k s = record { phase = s.phase; letters = λ q. cond (ltb q k) (s.letters q) I }

cut-within : (k : ℕ) (s : PauliString) → Within k (cut k s)
unfolding cut
cut-within k s q h = ap (λ b. cond b (s.letters q) I) (le-ltb q k h)

cut_step : (k : ℕ) (s : PauliString) → mul (cut k s) (single (s.letters k) k) ≡ cut (suc k) s
unfolding mul cut single
cut_step k s = string_ext (mul (cut k s) (single (s.letters k) k)) (cut (suc k) s) phases letters
  where
    phases : (mul (cut k s) (single (s.letters k) k)).phase ≡ s.phase
    phases = rising_phase _ _ k (cut-within k s) (λ q l. single_off (s.letters k) k q (omega arith)) ∙ ·-one s.phase

    letters : (q : ℕ) → letter_mul (cond (ltb q k) (s.letters q) I) (cond (eqb q k) (s.letters k) I) ≡ cond (ltb q (suc k)) (s.letters q) I
    letters q = elim (dec_lt q k) [
      | yes l ↦ simp (lt-ltb q k l, ne_eqb q k (omega arith), lt-ltb q (suc k) (omega arith), letter_mul-I)
      | no l ↦ elim (ℕ_discrete q k) [
        | yes e ↦ simp (le-ltb q k (omega arith), eq-eqb q k e, lt-ltb q (suc k) (omega arith), I-letter_mul) (ap s.letters (sym e))
        | no d ↦ simp (le-ltb q k (omega arith), ne_eqb q k d, le-ltb q (suc k) (omega arith), I-letter_mul)
      ]
    ]

-- all letters below `qubits`: the string itself
cut_all : (s : PauliString) → Within qubits s → cut qubits s ≡ s
unfolding cut
cut_all s h = string_ext (cut qubits s) s refl (λ q. elim (dec_lt q qubits) [
  | yes l ↦ ap (λ b. cond b (s.letters q) I) (lt-ltb q qubits l)
  | no l ↦ cut-within qubits s q (omega arith) ∙ sym (h q (omega arith))
])

cut-none : (s : PauliString) → cut zero s ≡ scale s.phase identity_string
unfolding cut scale identity_string
cut-none s = string_ext _ _ (sym (·-one s.phase)) (λ q. ap (λ b. cond b (s.letters q) I) (le-ltb q zero zero-le))

-- ---- what holds of the images of X and Z, and is kept by products and phases, holds of `apply`
record Follows (t : Tableau) (R : PauliString → PauliString → Type 0) : Type 0 where
  products : (s u a b : PauliString) → R s a → R u b → R (mul s u) (mul a b)
  phases : (p : Phase) (s a : PauliString) → R s a → R (scale p s) (scale p a)
  identity : R identity_string identity_string
  images : (g : Generator) (q : ℕ) → q < qubits → R (single (generator g) q) (image_of t q (generator g))

module _ (t : Tableau) (R : PauliString → PauliString → Type 0) (f : Follows t R) where
  follows_letter : (q : ℕ) → q < qubits → (l : Letter) → R (single l q) (image_of t q l)
  follows_letter q h I = rw (single-I q, image_I t q) f.identity
  follows_letter q h X = f.images of_x q h
  follows_letter q h Z = f.images of_z q h
  follows_letter q h Y = rw (single-Y q h, image_Y t q h) (f.phases PlusI _ _ (f.products _ _ _ _ (f.images of_x q h) (f.images of_z q h)))

  follows_cut : (k : ℕ) → k ≤ qubits → (s : PauliString) → R (cut k s) (apply_to k t s)
  unfolding apply_to
  follows_cut zero h s = rw (cut-none s, apply_to_start t s) (f.phases s.phase _ _ f.identity)
  follows_cut (suc k) h s =
      rw (← cut_step k s) (f.products _ _ _ _ (follows_cut k (omega arith) s) (follows_letter k h (s.letters k)))

  follows : (s : PauliString) → Within qubits s → R s (apply t s)
  unfolding apply
  follows s h = rw (cut_all s h) at (follows_cut qubits (le_refl qubits) s)

-- U·P = P'·U for every string P, and P' is `apply` of it
pub carries_strings : (n : Numbers) (t : Tableau) (u : Vector n → Vector n) → Carries n t u → (s : PauliString) → Within qubits s
    → (v : Vector n) → u (act n s v) ≡ act n (apply t s) (u v)
carries_strings n t u c = follows t (λ s a. (v : Vector n) → u (act n s v) ≡ act n a (u v)) (record {
  products = λ s r a b hs hr v. ap u (act-mul n s r v) ∙ hs (act n r v) ∙ ap (act n a) (hr v) ∙ sym (act-mul n a b (u v));
  phases = λ p s a hs v. ap u (act-scale n p s v) ∙ c.phases p (act n s v) ∙ ap (times_vector n p) (hs v) ∙ sym (act-scale n p a (u v));
  identity = λ v. ap u (act-identity n v) ∙ sym (act-identity n (u v));
  images = c.images;
})

module _ (t : Tableau) (f : PauliString → PauliString) (c : Conjugation t f) where
  pub conjugation_only : (s : PauliString) → Within qubits s → f s ≡ apply t s
  conjugation_only s h = (follows t (λ s a. Within qubits s × (f s ≡ a)) (record {
    products = λ s u a b hs hu. (within-mul qubits s u hs.0 hu.0, c.products s u hs.0 hu.0 ∙ ap₂ mul hs.1 hu.1);
    phases = λ p s a hs. (within-scale qubits p s hs.0, c.phases p s hs.0 ∙ ap (scale p) hs.1);
    identity = (within-identity qubits, c.identity);
    images = λ g q h. (within-single qubits (generator g) q h, c.images g q h);
  }) s h).1

  pub conjugation_valid : t.width ≤ qubits → is_valid t ≡ true
  conjugation_valid n = multiplicative_valid t n (λ s u hs hu. sym (conjugation_only (mul s u) (within-mul qubits s u hs hu))
      ∙ c.products s u hs hu ∙ ap₂ mul (conjugation_only s hs) (conjugation_only u hu))

pub valid_iff_conjugation : (t : Tableau) → Proper t → (is_valid t ≡ true) ↔ Conjugation t (apply t)
valid_iff_conjugation t p =
    ((λ v. apply_conjugation t (record { proper = p; valid = v })), (λ c. conjugation_valid t (apply t) c p.narrow))

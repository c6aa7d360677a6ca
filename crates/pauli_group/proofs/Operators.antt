-- Pauli strings are operators: their product is one after the other, and no two of them act alike. Phases are complex numbers.
use mathlib.Core.Path.{◌≡◌, refl, sym, ap, ap₂, ◌∙◌, fun_ext, subst}
use mathlib.Core.Bool.{Bool, true, false, not, cond, ◌&&◌}
use mathlib.Core.Logic.{◌↔◌}
use Prim.Native.Nat.{ℕ, ◌<◌}
use native.Mathlib.Omega.{arith}
use native.Mathlib.Decide.{dec_lt}
use lib.Dec.{T, eqb}
use lib.IntN.{ℤ, pos, ◌+ℤ◌}
use Rattle.pauli_group.specs.Phase.{Phase, PlusOne, negate, turn, sign, ◌·◌, conjugate, is_real}
use Rattle.pauli_group.specs.Letter.{Letter, I, X, letter_product, letter_phase, letter_mul, anticommute}
use Rattle.pauli_group.specs.PauliString.{PauliString, qubits, product_to, phase_of_letters, mul, identity_string, scale, single, Within}
use Rattle.pauli_group.specs.Papers.{gaussian, mul_g, conjugate_g, phase_number, pauli_matrix, x_bit, z_bit, modulo2}
use Rattle.pauli_group.specs.Operators.{matrix_entry, image_bit, factor, BasisState, image_state, amplitude, Numbers, Vector, times_vector, act}
use Rattle.pauli_group.proofs.Finite.{letters, phases, bools, each2, law1, law2, law3, letter_of_bits_lem}
use Rattle.pauli_group.proofs.Laws.{·_assoc, ·_comm, ·-left, one-·, ·-one, ·_cancel, sign_injective}
use Rattle.pauli_group.proofs.Products.{product_to-mul, product_to-one}
use Rattle.pauli_group.proofs.Strings.{string_ext, mul_swap, sign-single}
use Rattle.pauli_group.proofs.PaperForms.{both, same_integer, equal_integer, same-gaussian, equal_gaussian}

-- ---- phases are complex numbers
pub phases_are_numbers : (p q : Phase) → phase_number (p · q) ≡ mul_g (phase_number p) (phase_number q)
unfolding phase_number mul_g ◌·◌ negate turn
phases_are_numbers p q = equal_gaussian _ _ (each2 phases phases (λ p q. same-gaussian (phase_number (p · q)) (mul_g (phase_number p) (phase_number q))) tt p q)

pub conjugate-number : (p : Phase) → phase_number (conjugate p) ≡ conjugate_g (phase_number p)
unfolding phase_number conjugate conjugate_g
conjugate-number p = equal_gaussian _ _ (phases.each (λ p. same-gaussian (phase_number (conjugate p)) (conjugate_g (phase_number p))) tt p)

-- real: no imaginary part
pub real-number : (p : Phase) → (is_real p ≡ true) ↔ ((phase_number p).im ≡ pos 0)
unfolding is_real phase_number
real-number p = ((λ e. equal_integer _ _ (subst T (sym (sym (tested p) ∙ e)) tt)), (λ e. tested p ∙ ap (λ z. same_integer z (pos 0)) e))
  where
    tested : (p : Phase) → is_real p ≡ same_integer (phase_number p).im (pos 0)
    tested = law1 phases bools is_real (λ p. same_integer (phase_number p).im (pos 0)) tt

-- ---- a letter's column for the bit x: its factor in the row that the bit goes to, 0 in the other
pub columns : (l : Letter) (x : Bool)
    → (matrix_entry (pauli_matrix l) (image_bit l x) x ≡ phase_number (factor l x))
    × (matrix_entry (pauli_matrix l) (not (image_bit l x)) x ≡ gaussian (pos 0) (pos 0))
unfolding matrix_entry pauli_matrix phase_number image_bit factor sign
columns l x =
    let t = both (goes l x) (other l x) (each2 letters bools (λ l x. goes l x && other l x) tt l x) in
    (equal_gaussian _ _ t.0, equal_gaussian _ _ t.1)
  where
    goes : Letter → Bool → Bool
    goes l x = same-gaussian (matrix_entry (pauli_matrix l) (image_bit l x) x) (phase_number (factor l x))

    other : Letter → Bool → Bool
    other l x = same-gaussian (matrix_entry (pauli_matrix l) (not (image_bit l x)) x) (gaussian (pos 0) (pos 0))

-- ---- the product of strings is the product of operators: t acts first
letters_flip : (a b : Letter) (x : Bool) → image_bit (letter_mul a b) x ≡ image_bit a (image_bit b x)
unfolding image_bit letter_mul letter_product
letters_flip = law3 letters letters bools bools (λ a b x. image_bit (letter_mul a b) x) (λ a b x. image_bit a (image_bit b x)) tt

letters-act : (a b : Letter) (x : Bool) → letter_phase a b · factor (letter_mul a b) x ≡ factor b x · factor a (image_bit b x)
unfolding image_bit factor sign letter_mul letter_phase letter_product ◌·◌ negate turn
letters-act =
    law3 letters letters bools phases (λ a b x. letter_phase a b · factor (letter_mul a b) x) (λ a b x. factor b x · factor a (image_bit b x)) tt

pub strings_flip : (s t : PauliString) (x : BasisState) → image_state (mul s t) x ≡ image_state s (image_state t x)
unfolding image_state mul
strings_flip s t x = fun_ext (λ q. letters_flip (s.letters q) (t.letters q) (x q))

regroup : (a b c d e f : Phase) → c · d ≡ e · f → a · b · c · d ≡ (b · e) · (a · f)
regroup a b c d e f h =
    let left : a · b · c · d ≡ a · b · (c · d) = simp ·_assoc in
    left ∙ ap (λ p. a · b · p) h ∙ simp (·_assoc, ·-left)

pub strings-act : (s t : PauliString) (x : BasisState) → amplitude (mul s t) x ≡ amplitude t x · amplitude s (image_state t x)
unfolding amplitude image_state mul phase_of_letters
strings-act s t x = regroup s.phase t.phase _ _ _ _
    (sym (product_to-mul qubits (λ q. letter_phase (s.letters q) (t.letters q)) (λ q. factor (letter_mul (s.letters q) (t.letters q)) (x q)))
    ∙ ap (product_to qubits) (fun_ext (λ q. letters-act (s.letters q) (t.letters q) (x q)))
    ∙ product_to-mul qubits (λ q. factor (t.letters q) (x q)) (λ q. factor (s.letters q) (image_bit (t.letters q) (x q))))

pub scale_acts : (p : Phase) (s : PauliString) (x : BasisState) → amplitude (scale p s) x ≡ p · amplitude s x
unfolding amplitude scale
scale_acts p s x = ·_assoc p s.phase _

pub identity_acts : (x : BasisState) → amplitude identity_string x ≡ PlusOne
unfolding amplitude identity_string factor
identity_acts x = one-· _ ∙ product_to-one qubits _ (λ q l. refl)

-- ---- the same on vectors
letter_back_flip : (a : Letter) (x : Bool) → image_bit a (image_bit a x) ≡ x
unfolding image_bit
letter_back_flip = law2 letters bools bools (λ a x. image_bit a (image_bit a x)) (λ a x. x) tt

pub image_back : (s : PauliString) (x : BasisState) → image_state s (image_state s x) ≡ x
unfolding image_state
image_back s x = fun_ext (λ q. letter_back_flip (s.letters q) (x q))

flips_commute : (a b : Letter) (x : Bool) → image_bit a (image_bit b x) ≡ image_bit b (image_bit a x)
unfolding image_bit
flips_commute = law3 letters letters bools bools (λ a b x. image_bit a (image_bit b x)) (λ a b x. image_bit b (image_bit a x)) tt

images-commute : (s t : PauliString) (x : BasisState) → image_state s (image_state t x) ≡ image_state t (image_state s x)
unfolding image_state
images-commute s t x = fun_ext (λ q. flips_commute (s.letters q) (t.letters q) (x q))

module _ (n : Numbers) where
  pub act-mul : (s t : PauliString) (v : Vector n) → act n (mul s t) v ≡ act n s (act n t v)
  unfolding act
  act-mul s t v = fun_ext each
    where
      each : (y : BasisState) → act n (mul s t) v y ≡ act n s (act n t v) y
      each y =
          ap (λ x. n.times (amplitude (mul s t) x) (v x)) (strings_flip s t y ∙ images-commute s t y)
          ∙ ap (λ p. n.times p (v (image_state t (image_state s y))))
          (strings-act s t _ ∙ ·_comm _ _ ∙ ap (λ x. amplitude s x · amplitude t (image_state t (image_state s y))) (image_back t (image_state s y)))
          ∙ n.twice _ _ _

  pub act-scale : (p : Phase) (s : PauliString) (v : Vector n) → act n (scale p s) v ≡ times_vector n p (act n s v)
  unfolding act times_vector image_state scale
  act-scale p s v = fun_ext (λ y. ap (λ a. n.times a (v (image_state s y))) (scale_acts p s (image_state s y)) ∙ n.twice p _ _)

  pub act-identity : (v : Vector n) → act n identity_string v ≡ v
  unfolding act image_state identity_string image_bit
  act-identity v = fun_ext (λ y. ap (λ a. n.times a (v y)) (identity_acts y) ∙ n.one (v y))

-- ---- strings that act alike are equal: the image of 0 has the x bits, and flipping a bit shows its qubit's z bit
letter-is : (a : Letter) → a ≡ letter_of_bits_lem (image_bit a false) (anticommute a X)
unfolding image_bit anticommute
letter-is = law1 letters letters (λ a. a) (λ a. letter_of_bits_lem (image_bit a false) (anticommute a X)) tt

X_acts : (q : ℕ) (x : BasisState) → amplitude (single X q) x ≡ PlusOne
unfolding amplitude single factor
X_acts q x = one-· _ ∙ product_to-one qubits _ (λ c l. none (eqb c q) (x c))
  where
    none : (b y : Bool) → factor (cond b X I) y ≡ PlusOne
    none true y = refl
    none false y = refl

turned : (s : PauliString) (q : ℕ) → q < qubits → (x : BasisState)
    → amplitude s (image_state (single X q) x) ≡ sign (anticommute (s.letters q) X) · amplitude s x
turned s q h x =
    sym (one-· _) ∙ ap (λ p. p · amplitude s (image_state (single X q) x)) (sym (X_acts q x)) ∙ sym (strings-act s (single X q) x)
    ∙ ap (λ u. amplitude u x) (mul_swap s (single X q)) ∙ scale_acts _ _ x ∙ ap₂ ◌·◌ (sign-single s X q h) (strings-act (single X q) s x
    ∙ ap (λ p. amplitude s x · p) (X_acts q (image_state s x)) ∙ ·-one (amplitude s x))

pub strings_faithful : (s t : PauliString) → Within qubits s → Within qubits t → ((x : BasisState) → image_state s x ≡ image_state t x)
    → ((x : BasisState) → amplitude s x ≡ amplitude t x) → s ≡ t
unfolding amplitude image_state
strings_faithful s t hs ht images amplitudes =
    string_ext s t (·_cancel s.phase t.phase _ (amplitudes zeros
    ∙ ap (λ (l : ℕ → Letter). t.phase · product_to qubits (λ q. factor (l q) false)) (sym (fun_ext same)))) same
  where
    zeros : BasisState
    zeros q = false

    z_bit_lem : (q : ℕ) → q < qubits → anticommute (s.letters q) X ≡ anticommute (t.letters q) X
    z_bit_lem q h = sign_injective _ _ (·_cancel _ _ (amplitude t zeros)
        (ap (λ p. sign (anticommute (s.letters q) X) · p) (sym (amplitudes zeros)) ∙ sym (turned s q h zeros)
        ∙ amplitudes (image_state (single X q) zeros) ∙ turned t q h zeros))

    same : (q : ℕ) → s.letters q ≡ t.letters q
    same q = elim (dec_lt q qubits) [
      | yes h ↦ letter-is (s.letters q) ∙ ap₂ letter_of_bits_lem (ap (λ (y : BasisState). y q) (images zeros)) (z_bit_lem q h) ∙ sym (letter-is (t.letters q))
      | no h ↦ hs q (omega arith) ∙ sym (ht q (omega arith))
    ]

-- ---- the letters' half of rowsum: the bits x and z of each qubit add modulo 2
pub rowsum_bits : (s t : PauliString) (q : ℕ)
    → (x_bit ((mul s t).letters q) ≡ modulo2 (x_bit (s.letters q) +ℤ x_bit (t.letters q)))
    × (z_bit ((mul s t).letters q) ≡ modulo2 (z_bit (s.letters q) +ℤ z_bit (t.letters q)))
unfolding mul x_bit z_bit modulo2 letter_mul letter_product
rowsum_bits s t q = (added x_bit tt, added z_bit tt)
  where
    test : (Letter → ℤ) → Letter → Letter → Bool
    test bit a b = same_integer (bit (letter_mul a b)) (modulo2 (bit a +ℤ bit b))

    added : (bit : Letter → ℤ) → T (letters.all (λ a. letters.all (test bit a)))
        → bit ((mul s t).letters q) ≡ modulo2 (bit (s.letters q) +ℤ bit (t.letters q))
    added bit t' = equal_integer _ _ (each2 letters letters (test bit) t' (s.letters q) (t.letters q))

-- A one-qubit gate changes the letter on its qubit, and the phase: a string is itself with I there, which the gate leaves alone, times
-- that one letter.
use mathlib.Core.Path.{◌≡◌, refl, sym, ap, ap₂, ◌∙◌}
use mathlib.Core.Bool.{Bool, true, false, cond}
use mathlib.Core.Logic.{◌≢◌}
use Prim.Native.Nat.{ℕ, zero, suc, ◌<◌}
use native.Mathlib.Omega.{arith}
use native.Mathlib.Decide.{ℕ_discrete, dec_lt}
use lib.Dec.{eqb}
use borrow.Author.Tests.{eq-eqb, ne_eqb}
use Rattle.pauli_group.specs.Phase.{PlusOne, PlusI, ◌·◌}
use Rattle.pauli_group.specs.Letter.{Letter, I, X, Z, Y, not_i, letter_product, letter_phase, letter_mul, anticommute}
use Rattle.pauli_group.specs.PauliString.{PauliString, qubits, mul, scale, single, phase_of_letters, Within}
use Rattle.pauli_group.proofs.Finite.{letters, bools, law3}
use Rattle.pauli_group.proofs.Laws.{·-one, letter_mul-I, I-letter_mul, letter_phase-I, I-letter_phase}
use Rattle.pauli_group.proofs.Products.{product_to-one}
use Rattle.pauli_group.proofs.Strings.{string_ext, scale_one, scale-scale}
use Rattle.clifford_group.specs.Tableau.{Tableau, identity_tableau, row_image, image_of, apply, Same}
use Rattle.clifford_group.specs.Conjugation.{Generator, of_x, of_z, generator, row}
use Rattle.clifford_group.proofs.Singles.{single-I, single_off, single-at, mul_singles}
use Rattle.clifford_group.proofs.Commuting.{scale_both}
use Rattle.clifford_group.proofs.Rows.{rows_same, row-identity}
use Rattle.clifford_group.proofs.Images.{image_own, image_above, image_row, image_I, image_generators, image_identity}
use Rattle.clifford_group.proofs.Apply.{apply_local, apply_single}
use Rattle.clifford_group.proofs.Conjugation.{apply-mul}
use Rattle.clifford_group.proofs.Identity.{apply-identity_tableau}
use Rattle.clifford_gates.specs.Gates.{Image, plus, OneQubit, one_qubit, ValidImages}
use Rattle.clifford_gates.specs.GateTableaux.{image_string, gate_on_each, unchanged, on_qubit}
use Rattle.clifford_gates.specs.Updates.{times_i, letter_image, with_letter, image_at}
use Rattle.clifford_gates.proofs.GateTableaux.{image_phase, image, clifford_on_qubit}

-- ---- letters put on a qubit
pub with_at : (q : ℕ) (l : Letter) (f : ℕ → Letter) (k : ℕ) → k ≡ q → with_letter q l f k ≡ l
unfolding with_letter
with_at q l f k e = ap (λ b. cond b l (f k)) (eq-eqb k q e)

pub with_off : (q : ℕ) (l : Letter) (f : ℕ → Letter) (k : ℕ) → k ≢ q → with_letter q l f k ≡ f k
unfolding with_letter
with_off q l f k d = ap (λ b. cond b l (f k)) (ne_eqb k q d)

-- ---- a letter other than I becomes one, and I stays
pub image_not_i : (g : OneQubit) → ValidImages g → (a : Letter) → not_i (letter_image g a).letter ≡ not_i a
unfolding letter_image times_i
image_not_i g v a = by a
  where
    by_letters : (x z a : Letter) → cond (anticommute x z) (not_i (letter_image (one_qubit (plus x) (plus z)) a).letter) (not_i a) ≡ not_i a
    by_letters = unfold anticommute not_i letter_mul letter_phase letter_product in
        law3 letters letters letters bools (λ x z a. cond (anticommute x z) (not_i (letter_image (one_qubit (plus x) (plus z)) a).letter) (not_i a)) (λ x z a. not_i a) tt

    own : (a : Letter) → not_i (letter_image (one_qubit (plus g.x.letter) (plus g.z.letter)) a).letter ≡ not_i a
    own a =
        sym (ap (λ b. cond b (not_i (letter_image (one_qubit (plus g.x.letter) (plus g.z.letter)) a).letter) (not_i a)) v.anticommuting)
        ∙ by_letters g.x.letter g.z.letter a

    by : (a : Letter) → not_i (letter_image g a).letter ≡ not_i a
    by I = own I
    by X = own X
    by Z = own Z
    by Y = own Y

-- ---- strings
-- on each qubit one of the two has I, or they have the same letter: only the phases multiply
pub mul-phases : (s t : PauliString) → ((k : ℕ) → letter_phase (s.letters k) (t.letters k) ≡ PlusOne) → (mul s t).phase ≡ s.phase · t.phase
unfolding mul phase_of_letters
mul-phases s t e = ap (λ p. s.phase · t.phase · p) (product_to-one qubits _ (λ k l. e k)) ∙ ·-one (s.phase · t.phase)

-- a tableau leaves a string alone if it leaves each of its letters alone
pub apply_keeps : (t : Tableau) (s : PauliString) → Within qubits s
    → ((k : ℕ) → k < qubits → image_of t k (s.letters k) ≡ single (s.letters k) k) → apply t s ≡ s
apply_keeps t s h e =
    apply_local t (identity_tableau zero) s s refl (λ k l. e k l ∙ sym (image_identity zero k (s.letters k) l))
    ∙ apply-identity_tableau zero s h

-- s with I on q
unfoldable cleared : ℕ → PauliString → PauliString
cleared q s = record { phase = s.phase; letters = with_letter q I s.letters }

module _ (q : ℕ) where
  pub image_at_lem : (i : Image) (k : ℕ) → k ≡ q → (image_string i q).letters k ≡ i.letter
  unfolding image_string scale
  image_at_lem i k e = ap (single i.letter q).letters e ∙ single-at i.letter q

  pub image_off : (i : Image) (k : ℕ) → k ≢ q → (image_string i q).letters k ≡ I
  unfolding image_string scale
  image_off i k d = single_off i.letter q k d

  cleared_times : (s : PauliString) (i : Image) → mul (cleared q s) (image_string i q) ≡ image_at q i s
  cleared_times s i =
      string_ext (mul (cleared q s) (image_string i q)) (image_at q i s) (mul-phases (cleared q s) (image_string i q) apart ∙ phases) letters
    where
      c : PauliString
      c = cleared q s

      at : (k : ℕ) → k ≡ q → c.letters k ≡ I
      at k e = unfold cleared in with_at q I s.letters k e

      apart : (k : ℕ) → letter_phase (c.letters k) ((image_string i q).letters k) ≡ PlusOne
      apart k = elim (ℕ_discrete k q) [
        | yes e ↦ ap (λ a. letter_phase a ((image_string i q).letters k)) (at k e) ∙ I-letter_phase _
        | no d ↦ ap (letter_phase (c.letters k)) (image_off i k d) ∙ letter_phase-I _
      ]

      phases : c.phase · (image_string i q).phase ≡ (image_at q i s).phase
      phases = ap (λ p. c.phase · p) (image_phase i q) ∙ (unfold cleared image_at in refl)

      off : (k : ℕ) → k ≢ q → c.letters k ≡ s.letters k
      off k d = unfold cleared in with_off q I s.letters k d

      letters : (k : ℕ) → (mul c (image_string i q)).letters k ≡ (image_at q i s).letters k
      letters k = unfold mul image_at in elim (ℕ_discrete k q) [
        | yes e ↦ ap₂ letter_mul (at k e) (image_at_lem i k e) ∙ I-letter_mul i.letter ∙ sym (with_at q i.letter s.letters k e)
        | no d ↦ ap₂ letter_mul (off k d) (image_off i k d) ∙ letter_mul-I (s.letters k) ∙ sym (with_off q i.letter s.letters k d)
      ]

  -- a string is itself with I on q, times its letter there
  parted : (s : PauliString) → mul (cleared q s) (single (s.letters q) q) ≡ s
  parted s =
      ap (mul (cleared q s)) (sym plain) ∙ cleared_times s (plus (s.letters q))
      ∙ string_ext (image_at q (plus (s.letters q)) s) s (unfold image_at in ·-one s.phase) letters
    where
      plain : image_string (plus (s.letters q)) q ≡ single (s.letters q) q
      plain = unfold image_string in scale_one (single (s.letters q) q)

      letters : (k : ℕ) → (image_at q (plus (s.letters q)) s).letters k ≡ s.letters k
      letters k = unfold image_at in elim (ℕ_discrete k q) [
        | yes e ↦ with_at q (s.letters q) s.letters k e ∙ ap s.letters (sym e)
        | no d ↦ with_off q (s.letters q) s.letters k d
      ]

-- ---- the rows of a gate
unchanged_image : (a : Generator) (k : ℕ) → image_string (image a unchanged) k ≡ single (generator a) k
unfolding image_string
unchanged_image of_x k = scale_one (single X k)
unchanged_image of_z k = scale_one (single Z k)

pub width-on_qubit : (g : OneQubit) (q : ℕ) → (on_qubit g q).width ≡ suc q
unfolding on_qubit gate_on_each
width-on_qubit g q = refl

module _ (g : OneQubit) (q : ℕ) where
  row_is : (a : Generator) (k : ℕ) → row (on_qubit g q) a k ≡ image_string (image a (cond (eqb k q) g unchanged)) k
  unfolding on_qubit gate_on_each
  row_is of_x k = refl
  row_is of_z k = refl

  pub row_at : (a : Generator) → row (on_qubit g q) a q ≡ image_string (image a g) q
  row_at a = row_is a q ∙ ap (λ b. image_string (image a (cond b g unchanged)) q) (eq-eqb q q refl)

  pub row_off : (a : Generator) (k : ℕ) → k ≢ q → row (on_qubit g q) a k ≡ single (generator a) k
  row_off a k d = row_is a k ∙ ap (λ b. image_string (image a (cond b g unchanged)) k) (ne_eqb k q d) ∙ unchanged_image a k

  -- a letter on another qubit stays
  pub other-on_qubit : (k : ℕ) → k < qubits → k ≢ q → (l : Letter) → image_of (on_qubit g q) k l ≡ single l k
  other-on_qubit k h d l = image_generators (on_qubit g q) (identity_tableau zero) k h each l ∙ image_identity zero k l h
    where
      each : (a : Generator) → image_of (on_qubit g q) k (generator a) ≡ image_of (identity_tableau zero) k (generator a)
      each a = elim (dec_lt k (suc q)) [
        | yes m ↦ image_row (on_qubit g q) a k (omega (arith, width-on_qubit g q)) ∙ row_off a k d
        | no m ↦ image_above (on_qubit g q) k (generator a) (omega (arith, width-on_qubit g q))
      ] ∙ sym (image_identity zero k (generator a) h)

  pub image_on_qubit : q < qubits → (l : Letter) → image_of (on_qubit g q) q l ≡ image_string (letter_image g l) q
  image_on_qubit h l = image_own (on_qubit g q) q l (omega (arith, width-on_qubit g q)) ∙ rows l
    where
      product : (i j : Image) → scale PlusI (mul (image_string i q) (image_string j q)) ≡ image_string (times_i i j) q
      product i j = unfold image_string times_i in
          ap (scale PlusI) (scale_both i.phase j.phase (single i.letter q) (single j.letter q)
          ∙ ap (scale (i.phase · j.phase)) (mul_singles i.letter j.letter q h) ∙ scale-scale _ _ _)
          ∙ scale-scale _ _ _

      rows : (l : Letter) → row_image (on_qubit g q) q l ≡ image_string (letter_image g l) q
      rows I = unfold row_image letter_image image_string in sym (scale_one (single I q) ∙ single-I q)
      rows X = unfold row_image letter_image in row_at of_x
      rows Z = unfold row_image letter_image in row_at of_z
      rows Y = unfold row_image letter_image in ap (scale PlusI) (ap₂ mul (row_at of_x) (row_at of_z)) ∙ product g.x g.z

-- ---- strings
pub apply-on_qubit : (g : OneQubit) → ValidImages g → (q : ℕ) → q < qubits → (s : PauliString) → Within qubits s
    → apply (on_qubit g q) s ≡ image_at q (letter_image g (s.letters q)) s
apply-on_qubit g v q h s w =
    ap (apply t) (sym (parted q s)) ∙ apply-mul t (clifford_on_qubit g v q h) (cleared q s) (single (s.letters q) q)
    ∙ ap₂ mul kept (apply_single t (s.letters q) q h ∙ image_on_qubit g q h (s.letters q)) ∙ cleared_times q s (letter_image g (s.letters q))
  where
    t : Tableau
    t = on_qubit g q

    within : Within qubits (cleared q s)
    within k l = unfold cleared in with_off q I s.letters k (omega arith) ∙ w k l

    at : (k : ℕ) → k ≡ q → (cleared q s).letters k ≡ I
    at k e = unfold cleared in with_at q I s.letters k e

    each : (k : ℕ) → k < qubits → image_of t k ((cleared q s).letters k) ≡ single ((cleared q s).letters k) k
    each k l = elim (ℕ_discrete k q) [
      | yes e ↦ ap (image_of t k) (at k e) ∙ image_I t k ∙ sym (ap (λ a. single a k) (at k e) ∙ single-I k)
      | no d ↦ other-on_qubit g q k l d ((cleared q s).letters k)
    ]

    kept : apply t (cleared q s) ≡ cleared q s
    kept = apply_keeps t (cleared q s) within each

-- ---- gate I
pub on_qubit-I : (q : ℕ) → Same (on_qubit unchanged q) (identity_tableau (suc q))
unfolding identity_tableau
on_qubit-I q =
    rows_same (on_qubit unchanged q) (identity_tableau (suc q)) (width-on_qubit unchanged q)
    (λ a k l. row_is unchanged q a k ∙ ap (λ g. image_string (image a g) k) (either (eqb k q)) ∙ unchanged_image a k ∙ sym (row-identity (suc q) a k))
  where
    either : (b : Bool) → cond b unchanged unchanged ≡ unchanged
    either true = refl
    either false = refl

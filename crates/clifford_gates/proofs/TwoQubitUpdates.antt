-- A two-qubit gate changes the letters on its qubits, and the phase: a string is itself with I there, which the gate leaves alone, times
-- these two letters.
use mathlib.Core.Path.{◌≡◌, refl, sym, ap, ap₂, ◌∙◌}
use mathlib.Core.Logic.{◌≢◌}
use Prim.Native.Nat.{ℕ, zero, suc, max, ◌<◌}
use native.Mathlib.Omega.{arith}
use native.Mathlib.Decide.{ℕ_discrete, dec_lt}
use Rattle.pauli_group.specs.Phase.{PlusOne, PlusI, ◌·◌}
use Rattle.pauli_group.specs.Letter.{Letter, I, X, Z, Y, letter_phase, letter_mul}
use Rattle.pauli_group.specs.PauliString.{PauliString, qubits, mul, identity_string, scale, single, Within}
use Rattle.pauli_group.proofs.Laws.{·-one, letter_mul-I, I-letter_mul, letter_phase-I, I-letter_phase}
use Rattle.pauli_group.proofs.Strings.{string_ext, scale_one, scale-scale, mul-identity}
use Rattle.clifford_group.specs.Tableau.{Tableau, identity_tableau, row_image, image_of, apply}
use Rattle.clifford_group.specs.Conjugation.{Generator, of_x, of_z, generator}
use Rattle.clifford_group.proofs.Singles.{single-I, mul_singles}
use Rattle.clifford_group.proofs.Commuting.{commuting_singles, exchange, scale_both}
use Rattle.clifford_group.proofs.Images.{image_own, image_above, image_row, image_I, image_generators, image_identity}
use Rattle.clifford_group.proofs.Apply.{apply_single}
use Rattle.clifford_group.proofs.Conjugation.{apply-mul}
use Rattle.clifford_gates.specs.Gates.{PairImage, pair_plus, TwoQubit, ValidPairImages}
use Rattle.clifford_gates.specs.GateTableaux.{pair_string, on_qubits}
use Rattle.clifford_gates.specs.Updates.{pair_times, pair_times_i, own_image, pair_image, with_letter, pair_at}
use Rattle.clifford_gates.proofs.PairTableaux.{letter-first, letter-second, letter-other, pair_phase}
use Rattle.clifford_gates.proofs.PairTableaux.{row_first, row-second, row_other, clifford_on_qubits}
use Rattle.clifford_gates.proofs.OneQubitUpdates.{with_at, with_off, mul-phases, apply_keeps}

pub width-on_qubits : (g : TwoQubit) (q r : ℕ) → (on_qubits g q r).width ≡ suc (max q r)
unfolding on_qubits
width-on_qubits g q r = refl

-- ---- letters put on two qubits
-- a qubit is q, or r, or another
pub places : (q r : ℕ) (P : ℕ → Type 0) (k : ℕ) → (k ≡ q → P k) → (k ≢ q → k ≡ r → P k) → (k ≢ q → k ≢ r → P k) → P k
places q r P k a b c = elim (ℕ_discrete k q) [
  | yes e ↦ a e
  | no d ↦ elim (ℕ_discrete k r) [ yes e ↦ b d e | no f ↦ c d f ]
]

abbrev pub with_two : ℕ → ℕ → Letter → Letter → (ℕ → Letter) → ℕ → Letter
with_two q r a b f = with_letter q a (with_letter r b f)

module _ (q r : ℕ) (a b : Letter) (f : ℕ → Letter) (k : ℕ) where
  two-first : k ≡ q → with_two q r a b f k ≡ a
  two-first e = with_at q a (with_letter r b f) k e

  two-second : k ≢ q → k ≡ r → with_two q r a b f k ≡ b
  two-second d e = with_off q a (with_letter r b f) k d ∙ with_at r b f k e

  two-other : k ≢ q → k ≢ r → with_two q r a b f k ≡ f k
  two-other d e = with_off q a (with_letter r b f) k d ∙ with_off r b f k e

-- s with I on q and r
unfoldable cleared : ℕ → ℕ → PauliString → PauliString
cleared q r s = record { phase = s.phase; letters = with_two q r I I s.letters }

module _ (q r : ℕ) (hq : q < qubits) (hr : r < qubits) (d : q ≢ r) where
  -- ---- strings
  pair_times_lem : (i j : PairImage) → mul (pair_string i q r) (pair_string j q r) ≡ pair_string (pair_times i j) q r
  unfolding pair_string pair_times
  pair_times_lem i j =
      scale_both i.phase j.phase (mul (single i.first q) (single i.second r)) (mul (single j.first q) (single j.second r))
      ∙ ap (scale (i.phase · j.phase)) (exchange (single i.first q) (single i.second r) (single j.first q) (single j.second r)
      (commuting_singles i.second j.first r q hq (λ e. d (sym e)))
      ∙ ap₂ mul (mul_singles i.first j.first q hq) (mul_singles i.second j.second r hr) ∙ scale_both _ _ _ _)
      ∙ scale-scale _ _ _

  module _ (s : PauliString) where
    clear_first : (k : ℕ) → k ≡ q → (cleared q r s).letters k ≡ I
    unfolding cleared
    clear_first = two-first q r I I s.letters

    clear_second : (k : ℕ) → k ≢ q → k ≡ r → (cleared q r s).letters k ≡ I
    unfolding cleared
    clear_second = two-second q r I I s.letters

    clear-other : (k : ℕ) → k ≢ q → k ≢ r → (cleared q r s).letters k ≡ s.letters k
    unfolding cleared
    clear-other = two-other q r I I s.letters

    cleared_times : (i : PairImage) → mul (cleared q r s) (pair_string i q r) ≡ pair_at q r i s
    cleared_times i =
        string_ext (mul c p) (pair_at q r i s) (mul-phases c p apart ∙ phases) (λ k. places q r Equal k (first k) (second k) (other k))
      where
        c : PauliString
        c = cleared q r s

        p : PauliString
        p = pair_string i q r

        Apart : ℕ → Type 0
        Apart k = letter_phase (c.letters k) (p.letters k) ≡ PlusOne

        free : (k : ℕ) → c.letters k ≡ I → Apart k
        free k e = ap (λ a. letter_phase a (p.letters k)) e ∙ I-letter_phase _

        kept : (k : ℕ) → k ≢ q → k ≢ r → Apart k
        kept k m n = ap (letter_phase (c.letters k)) (letter-other q r hq hr d i k m n) ∙ letter_phase-I _

        apart : (k : ℕ) → Apart k
        apart k = places q r Apart k (λ e. free k (clear_first k e)) (λ m e. free k (clear_second k m e)) (kept k)

        phases : c.phase · p.phase ≡ (pair_at q r i s).phase
        phases = ap (λ x. c.phase · x) (pair_phase q r hq hr d i) ∙ (unfold cleared pair_at in refl)

        Equal : ℕ → Type 0
        Equal k = (mul c p).letters k ≡ (pair_at q r i s).letters k

        equal : (k : ℕ) {a b x : Letter} → c.letters k ≡ a → p.letters k ≡ b → letter_mul a b ≡ x
            → with_two q r i.first i.second s.letters k ≡ x → Equal k
        equal k e f m g = unfold mul pair_at in ap₂ letter_mul e f ∙ m ∙ sym g

        first : (k : ℕ) → k ≡ q → Equal k
        first k e =
            equal k (clear_first k e) (ap p.letters e ∙ letter-first q r hq hr d i) (I-letter_mul i.first)
            (two-first q r i.first i.second s.letters k e)

        second : (k : ℕ) → k ≢ q → k ≡ r → Equal k
        second k m e =
            equal k (clear_second k m e) (ap p.letters e ∙ letter-second q r hq hr d i) (I-letter_mul i.second)
            (two-second q r i.first i.second s.letters k m e)

        other : (k : ℕ) → k ≢ q → k ≢ r → Equal k
        other k m n =
            equal k (clear-other k m n) (letter-other q r hq hr d i k m n) (letter_mul-I (s.letters k))
            (two-other q r i.first i.second s.letters k m n)

    -- a string is itself with I on q and r, times its letters there
    parted : mul (cleared q r s) (pair_string (pair_plus (s.letters q) (s.letters r)) q r) ≡ s
    parted = cleared_times two ∙ string_ext (pair_at q r two s) s (unfold pair_at in ·-one s.phase) letters
      where
        two : PairImage
        two = pair_plus (s.letters q) (s.letters r)

        own : ℕ → Letter
        own = with_two q r (s.letters q) (s.letters r) s.letters

        letters : (k : ℕ) → (pair_at q r two s).letters k ≡ s.letters k
        letters k = unfold pair_at in places q r (λ k. own k ≡ s.letters k) k
            (λ e. two-first q r _ _ s.letters k e ∙ ap s.letters (sym e))
            (λ m e. two-second q r _ _ s.letters k m e ∙ ap s.letters (sym e))
            (λ m n. two-other q r _ _ s.letters k m n)

  -- ---- the rows of a gate
  module _ (g : TwoQubit) where
    abbrev t : Tableau
    t = on_qubits g q r

    -- the image of a letter whose X and Z rows are these
    own-rows : (x z : PairImage) (k : ℕ) → t.x_image k ≡ pair_string x q r → t.z_image k ≡ pair_string z q r → (l : Letter)
        → row_image t k l ≡ pair_string (own_image x z l) q r
    unfolding row_image own_image pair_string
    own-rows x z k e f I = sym (scale_one _ ∙ ap₂ mul (single-I q) (single-I r) ∙ mul-identity identity_string)
    own-rows x z k e f X = e
    own-rows x z k e f Z = f
    own-rows x z k e f Y = ap (scale PlusI) (ap₂ mul e f ∙ pair_times_lem x z) ∙ turned
      where
        turned : scale PlusI (pair_string (pair_times x z) q r) ≡ pair_string (pair_times_i x z) q r
        turned = unfold pair_times_i in scale-scale _ _ _

    image_first : (l : Letter) → image_of t q l ≡ pair_string (own_image g.x0 g.z0 l) q r
    image_first l =
        image_own t q l (omega (arith, width-on_qubits g q r))
        ∙ own-rows g.x0 g.z0 q (row_first q r hq hr d g of_x) (row_first q r hq hr d g of_z) l

    image_second : (l : Letter) → image_of t r l ≡ pair_string (own_image g.x1 g.z1 l) q r
    image_second l =
        image_own t r l (omega (arith, width-on_qubits g q r))
        ∙ own-rows g.x1 g.z1 r (row-second q r hq hr d g of_x) (row-second q r hq hr d g of_z) l

    -- a letter on another qubit stays
    pub other_image : (k : ℕ) → k < qubits → k ≢ q → k ≢ r → (l : Letter) → image_of t k l ≡ single l k
    other_image k h m n l = image_generators t (identity_tableau zero) k h each l ∙ image_identity zero k l h
      where
        each : (a : Generator) → image_of t k (generator a) ≡ image_of (identity_tableau zero) k (generator a)
        each a = elim (dec_lt k t.width) [
          | yes l ↦ image_row t a k l ∙ row_other q r hq hr d g a k m n
          | no l ↦ image_above t k (generator a) (omega arith)
        ] ∙ sym (image_identity zero k (generator a) h)

    module _ (v : ValidPairImages g) where
      -- what two letters on q and r become
      pub apply_pair : (a b : Letter) → apply t (pair_string (pair_plus a b) q r) ≡ pair_string (pair_image g a b) q r
      unfolding pair_image
      apply_pair a b =
          ap (apply t) plain ∙ apply-mul t (clifford_on_qubits q r hq hr d g v) (single a q) (single b r)
          ∙ ap₂ mul (apply_single t a q hq ∙ image_first a) (apply_single t b r hr ∙ image_second b)
          ∙ pair_times_lem (own_image g.x0 g.z0 a) (own_image g.x1 g.z1 b)
        where
          plain : pair_string (pair_plus a b) q r ≡ mul (single a q) (single b r)
          plain = unfold pair_string in scale_one _

      -- ---- strings
      apply-pairs : (s : PauliString) → Within qubits s → apply t s ≡ pair_at q r (pair_image g (s.letters q) (s.letters r)) s
      apply-pairs s w =
          ap (apply t) (sym (parted s)) ∙ apply-mul t (clifford_on_qubits q r hq hr d g v) c (pair_string (pair_plus (s.letters q) (s.letters r)) q r)
          ∙ ap₂ mul (apply_keeps t c within each) (apply_pair (s.letters q) (s.letters r))
          ∙ cleared_times s (pair_image g (s.letters q) (s.letters r))
        where
          c : PauliString
          c = cleared q r s

          within : Within qubits c
          within k l = clear-other s k (omega arith) (omega arith) ∙ w k l

          Kept : ℕ → Type 0
          Kept k = image_of t k (c.letters k) ≡ single (c.letters k) k

          free : (k : ℕ) → c.letters k ≡ I → Kept k
          free k e = ap (image_of t k) e ∙ image_I t k ∙ sym (ap (λ a. single a k) e ∙ single-I k)

          each : (k : ℕ) → k < qubits → Kept k
          each k l =
              places q r Kept k (λ e. free k (clear_first s k e)) (λ m e. free k (clear_second s k m e))
              (λ m n. other_image k l m n (c.letters k))

pub apply-on_qubits : (g : TwoQubit) → ValidPairImages g → (q r : ℕ) → q < qubits → r < qubits → q ≢ r → (s : PauliString) → Within qubits s
    → apply (on_qubits g q r) s ≡ pair_at q r (pair_image g (s.letters q) (s.letters r)) s
apply-on_qubits g v q r hq hr d = apply-pairs q r hq hr d g v

-- The tables of gates as bytes, and the images read out of them.
use Rattle.std.proofs.Common.{◌≡◌, ℕ, zero, suc, ◌+◌, ◌-◌, ◌<◌, ◌≤◌, List, [], ◌∷◌, length, get_or, sym, refl, ap, ◌∙◌, subst, ap₂, le_of_suc-le-suc, not-suc-le-zero, arith, rules}
use Rattle.pauli_group.specs.Phase.{PlusI, ◌·◌}
use Rattle.pauli_group.specs.Letter.{letter_mul, letter_phase}
use Rattle.clifford_gates.specs.Gates.{OneQubit, TwoQubit}
use Rattle.clifford_gates.specs.GateNumbers.{two_qubit_gate}
use Rattle.clifford_gates.specs.Updates.{times_i, letter_image}
use Rattle.pauli.specs.Layout.{phase_byte, phase_of, letter_byte, letter_of}
use Rattle.pauli.specs.Rows.{phase_bytes_product, product_phase_byte, product_letter_byte, letter_bytes_product}
use Rattle.pauli.specs.declared.algebra.PhasedLetter.{PhasedLetter}
use Rattle.pauli.proofs.Cases.{three_up}
use Rattle.pauli.proofs.Records.{phase-back, letter-back}
use Rattle.clifford.specs.GateRows.{image_bytes, y_bytes, ImageOf}
use Rattle.clifford.specs.Inside.GateRows.{pair_bytes, PairOf, entry_pair}

-- ---- a table in bytes: its entries are those of the table of gates
abbrev pub in_bytes : {A : Type 0} → (A → List ℕ) → List A → List (List ℕ)
in_bytes f [] = []
in_bytes f (a ∷ rest) = f a ∷ in_bytes f rest

pub entry-bytes : {A : Type 0} (f : A → List ℕ) (l : List A) (d : A) (k : ℕ) → k < length l → get_or (in_bytes f l) k [] ≡ f (get_or l k d)
entry-bytes f [] d k h = absurd (not-suc-le-zero h)
entry-bytes f (a ∷ rest) d zero h = refl
entry-bytes f (a ∷ rest) d (suc k) h = entry-bytes f rest d k (le_of_suc-le-suc h)

-- ---- images of one-qubit gates
image_at_lem : (g : OneQubit) {l k : ℕ} {r : PhasedLetter} → l ≡ k → ImageOf (letter_image g (letter_of k)) r → ImageOf (letter_image g (letter_of l)) r
image_at_lem g {l} {k} {r} e h = subst (λ (j : ℕ). ImageOf (letter_image g (letter_of j)) r) (sym e) h

pub image_I : (g : OneQubit) {l : ℕ} → l ≡ 0 → ImageOf (letter_image g (letter_of l)) (0, 0)
unfolding letter_image letter_of phase_byte letter_byte
image_I g e = image_at_lem g e (record { phase = refl; letter = refl })

pub image_X : (g : OneQubit) {e : List ℕ} {l : ℕ} → e ≡ image_bytes g → l ≡ 1 → ImageOf (letter_image g (letter_of l)) (get_or e 0 0, get_or e 1 0)
unfolding letter_image letter_of image_bytes
image_X g p e = image_at_lem g e (record { phase = ap (λ b. get_or b 0 0) p; letter = ap (λ b. get_or b 1 0) p })

pub image_Z : (g : OneQubit) {e : List ℕ} {l : ℕ} → e ≡ image_bytes g → l ≡ 2 → ImageOf (letter_image g (letter_of l)) (get_or e 2 0, get_or e 3 0)
unfolding letter_image letter_of image_bytes
image_Z g p e = image_at_lem g e (record { phase = ap (λ b. get_or b 2 0) p; letter = ap (λ b. get_or b 3 0) p })

y_bytes_lem : (g : OneQubit) → ImageOf (times_i g.x g.z) (y_bytes (image_bytes g))
unfolding y_bytes image_bytes times_i phase_bytes_product product_phase_byte product_letter_byte phase_of
y_bytes_lem g = record {
  phase = ap phase_byte (ap (λ p. PlusI · p) (phase-back _ ∙ ap₂ ◌·◌ (phase-back _ ∙ ap₂ ◌·◌ (phase-back g.x.phase) (phase-back g.z.phase)) (phase-back _ ∙ ap₂ letter_phase (letter-back g.x.letter) (letter-back g.z.letter))));
  letter = ap letter_byte (ap₂ letter_mul (letter-back g.x.letter) (letter-back g.z.letter));
}

pub image_Y : (g : OneQubit) {e : List ℕ} {l : ℕ} {r : PhasedLetter} → e ≡ image_bytes g → ((Unit {0} × (l ≡ 0 → ⊥)) × (l ≡ 1 → ⊥)) × (l ≡ 2 → ⊥) → r ≡ y_bytes e
    → ImageOf (letter_image g (letter_of l)) r
unfolding letter_image letter_of
image_Y g p h q = image_at_lem g (three_up h) (subst (ImageOf (times_i g.x g.z)) (sym (q ∙ ap y_bytes p)) (y_bytes_lem g))

pub y_made : (e : List ℕ) {p : PhasedLetter} {a b c : ℕ} → p ≡ letter_bytes_product (get_or e 1 0) (get_or e 3 0) → a ≡ phase_bytes_product (get_or e 0 0) (get_or e 2 0)
    → b ≡ phase_bytes_product a p.0 → c ≡ phase_bytes_product 2 b → (c, p.1) ≡ y_bytes e
unfolding y_bytes letter_bytes_product
y_made e {p} {a} {b} {c} hp ha hb hc =
    ap₂ (λ (x : ℕ) (y : ℕ). (x, y)) (hc ∙ ap (phase_bytes_product 2) (hb ∙ ap₂ phase_bytes_product ha (ap (λ (x : PhasedLetter). x.0) hp))) (ap (λ (x : PhasedLetter). x.1) hp)

pub ruleset letter-images = (image_I, image_X, image_Z, image_Y, rules)

-- ---- images of two-qubit gates
pub pair_read : (g k q r : ℕ) {e : List ℕ} → e ≡ pair_bytes (two_qubit_gate g)
    → record { sign = get_or e k 0; first_letter = get_or e (k + 1) 0; first_qubit = q; second_letter = get_or e (k + 2) 0; second_qubit = r } ≡ entry_pair (pair_bytes (two_qubit_gate g)) k q r
unfolding entry_pair
pair_read g k q r h = ap (λ (l : List ℕ). entry_pair l k q r) h

pub ruleset pair_reads = (pair_read, rules)

-- the four images of an entry
module _ (g : TwoQubit) (q r : ℕ) where
  pub at-x0 : PairOf g.x0 (entry_pair (pair_bytes g) 0 q r)
  unfolding pair_bytes entry_pair
  at-x0 = record { phase = refl; first = refl; second = refl }

  pub at-x1 : PairOf g.x1 (entry_pair (pair_bytes g) 3 q r)
  unfolding pair_bytes entry_pair
  at-x1 = record { phase = refl; first = refl; second = refl }

  pub at-z0 : PairOf g.z0 (entry_pair (pair_bytes g) 6 q r)
  unfolding pair_bytes entry_pair
  at-z0 = record { phase = refl; first = refl; second = refl }

  pub at-z1 : PairOf g.z1 (entry_pair (pair_bytes g) 9 q r)
  unfolding pair_bytes entry_pair
  at-z1 = record { phase = refl; first = refl; second = refl }

-- The rules of the tables of gates, each by one test that is computed over the table: every entry is valid, and all one-qubit gates
-- differ.
use mathlib.Core.Path.{◌≡◌, refl, subst}
use mathlib.Core.Bool.{Bool, true, false, not, ◌&&◌}
use mathlib.Core.List.{List, [], ◌∷◌}
use lib.Dec.{T}
use Rattle.pauli_group.specs.Phase.{is_real}
use Rattle.pauli_group.specs.Letter.{anticommute}
use Rattle.pauli_group.proofs.Finite.{letters, phases}
use Rattle.pauli_group.proofs.PaperForms.{both}
use Rattle.clifford_gates.specs.Gates.{Image, OneQubit, one_qubit, one_qubit_gates, ValidImages, All, Different, TwoQubit, two_qubit_gates, pairs_commute, ValidPairImages}

pub is_true : (b : Bool) → T b → b ≡ true
is_true true t = refl
is_true false t = absurd t

-- a test of all entries, and what it says of each
abbrev pub all_test : {A : Type 0} → (A → Bool) → List A → Bool
all_test test [] = true
all_test test (a ∷ rest) = test a && all_test test rest

pub all_of : {A : Type 0} {P : A → Type 0} (test : A → Bool) → ((a : A) → T (test a) → P a) → (l : List A) → T (all_test test l) → All P l
all_of test sound [] t = All.none
all_of test sound (a ∷ rest) t =
    let parts = both (test a) (all_test test rest) t in
    All.more (sound a parts.0) (all_of test sound rest parts.1)

pub all_map : {A : Type 0} {P Q : A → Type 0} → ((a : A) → P a → Q a) → (l : List A) → All P l → All Q l
all_map f [] All.none = All.none
all_map f (a ∷ rest) (All.more p ps) = All.more (f a p) (all_map f rest ps)

-- ---- valid
abbrev pub valid_test : OneQubit → Bool
valid_test g = (is_real g.x.phase && is_real g.z.phase) && anticommute g.x.letter g.z.letter

pub valid-is : (g : OneQubit) → T (valid_test g) → ValidImages g
valid-is g t =
    let parts = both (is_real g.x.phase && is_real g.z.phase) (anticommute g.x.letter g.z.letter) t in
    let real = both (is_real g.x.phase) (is_real g.z.phase) parts.0 in
    record { x_real = is_true _ real.0; z_real = is_true _ real.1; anticommuting = is_true _ parts.1 }

pub one_qubit-valid : All ValidImages one_qubit_gates
unfolding one_qubit_gates is_real anticommute
one_qubit-valid = all_of valid_test valid-is one_qubit_gates tt

-- ---- different
abbrev pub same_image : Image → Image → Bool
same_image a b = phases.same a.phase b.phase && letters.same a.letter b.letter

abbrev pub same-entry : OneQubit → OneQubit → Bool
same-entry g h = same_image g.x h.x && same_image g.z h.z

pair : (a b : Bool) → T a → T b → T (a && b)
pair true b s t = t
pair false b s t = absurd s

pub contrary : (b : Bool) → T b → T (not b) → ⊥
contrary true s t = absurd t
contrary false s t = absurd s

image_self : (a : Image) → T (same_image a a)
image_self a =
    pair (phases.same a.phase a.phase) (letters.same a.letter a.letter)
    (phases.each (λ p. phases.same p p) tt a.phase) (letters.each (λ l. letters.same l l) tt a.letter)

entry_self : (g : OneQubit) → T (same-entry g g)
entry_self g = pair (same_image g.x g.x) (same_image g.z g.z) (image_self g.x) (image_self g.z)

differ : (g h : OneQubit) → T (not (same-entry g h)) → g ≡ h → ⊥
differ g h t e = contrary (same-entry g h) (subst (λ k. T (same-entry g k)) e (entry_self g)) t

-- and equal where the test says so
image_equal : (i j : Image) → T (same_image i j) → i ≡ j
image_equal i j t =
    let parts = both (phases.same i.phase j.phase) (letters.same i.letter j.letter) t in
    let phase : i.phase ≡ j.phase = phases.equal _ _ parts.0 in
    let letter : i.letter ≡ j.letter = letters.equal _ _ parts.1 in
    λ n. record { phase = phase n; letter = letter n }

pub entry_equal : (g h : OneQubit) → T (same-entry g h) → g ≡ h
entry_equal g h t =
    let parts = both (same_image g.x h.x) (same_image g.z h.z) t in
    let x : g.x ≡ h.x = image_equal g.x h.x parts.0 in
    let z : g.z ≡ h.z = image_equal g.z h.z parts.1 in
    λ n. one_qubit (x n) (z n)

abbrev different_test : List OneQubit → Bool
different_test [] = true
different_test (g ∷ rest) = all_test (λ h. not (same-entry g h)) rest && different_test rest

different_of : (l : List OneQubit) → T (different_test l) → Different l
different_of [] t = Different.none
different_of (g ∷ rest) t =
    let parts = both (all_test (λ h. not (same-entry g h)) rest) (different_test rest) t in
    Different.more (all_of (λ h. not (same-entry g h)) (differ g) rest parts.0) (different_of rest parts.1)

pub one_qubit-different : Different one_qubit_gates
unfolding one_qubit_gates
one_qubit-different = different_of one_qubit_gates tt

-- ---- two qubits: valid
abbrev real_test : TwoQubit → Bool
real_test g = (is_real g.x0.phase && is_real g.x1.phase) && (is_real g.z0.phase && is_real g.z1.phase)

abbrev own_test : TwoQubit → Bool
own_test g = not (pairs_commute g.x0 g.z0) && not (pairs_commute g.x1 g.z1)

abbrev other_test : TwoQubit → Bool
other_test g =
    (pairs_commute g.x0 g.x1 && pairs_commute g.x0 g.z1) && (pairs_commute g.z0 g.x1 && pairs_commute g.z0 g.z1)

abbrev pair_test : TwoQubit → Bool
pair_test g = real_test g && (own_test g && other_test g)

is_false : (b : Bool) → T (not b) → b ≡ false
is_false true t = absurd t
is_false false t = refl

pair_is : (g : TwoQubit) → T (pair_test g) → ValidPairImages g
pair_is g t =
    let parts = both (real_test g) (own_test g && other_test g) t in
    let reals = both (is_real g.x0.phase && is_real g.x1.phase) (is_real g.z0.phase && is_real g.z1.phase) parts.0 in
    let x = both (is_real g.x0.phase) (is_real g.x1.phase) reals.0 in
    let z = both (is_real g.z0.phase) (is_real g.z1.phase) reals.1 in
    let rows = both (own_test g) (other_test g) parts.1 in
    let own = both (not (pairs_commute g.x0 g.z0)) (not (pairs_commute g.x1 g.z1)) rows.0 in
    let others = both (pairs_commute g.x0 g.x1 && pairs_commute g.x0 g.z1) (pairs_commute g.z0 g.x1 && pairs_commute g.z0 g.z1) rows.1 in
    let of_x0 = both (pairs_commute g.x0 g.x1) (pairs_commute g.x0 g.z1) others.0 in
    let of_z0 = both (pairs_commute g.z0 g.x1) (pairs_commute g.z0 g.z1) others.1 in
    record {
      x0_real = is_true _ x.0;
      x1_real = is_true _ x.1;
      z0_real = is_true _ z.0;
      z1_real = is_true _ z.1;
      first = is_false _ own.0;
      second = is_false _ own.1;
      xx = is_true _ of_x0.0;
      xz = is_true _ of_x0.1;
      zx = is_true _ of_z0.0;
      zz = is_true _ of_z0.1;
    }

pub two_qubit-valid : All ValidPairImages two_qubit_gates
unfolding two_qubit_gates is_real pairs_commute anticommute
two_qubit-valid = all_of pair_test pair_is two_qubit_gates tt

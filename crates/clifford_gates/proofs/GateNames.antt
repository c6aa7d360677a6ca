-- Gates by number: the tableau of a gate, the name of a tableau, the name of a composition.
use mathlib.Core.Path.{◌≡◌, refl, sym, ap, ap₂, ◌∙◌, subst, fun_ext}
use mathlib.Core.Bool.{Bool, true, false, cond, not, ◌&&◌, and-true, not-not}
use mathlib.Core.List.{List, [], ◌∷◌}
use mathlib.Core.Logic.{◌≢◌}
use Prim.Native.Nat.{ℕ, zero, suc, ◌-◌, ◌≤◌, ◌<◌}
use native.Mathlib.Nat.{not-suc-le-zero}
use native.Mathlib.Omega.{arith}
use native.Mathlib.Decide.{ℕ_discrete, dec_lt}
use lib.Dec.{T, eqb, ltb}
use lib.ListN.{length, get_or}
use borrow.Author.Tests.{lt-ltb, le-ltb, ltb-true, eqb-true, eq-eqb, ne_eqb}
use Rattle.pauli_group.specs.Phase.{◌·◌, negate, turn, is_real}
use Rattle.pauli_group.specs.Letter.{letter_product, letter_phase, letter_mul, anticommute}
use Rattle.pauli_group.specs.PauliString.{PauliString, qubits, scale, single, Within}
use Rattle.pauli_group.proofs.Finite.{letters, phases, bools, law2}
use Rattle.pauli_group.proofs.Strings.{string_ext, scale-scale}
use Rattle.clifford_group.specs.Tableau.{Tableau, image_of, apply, compose, all_to, valid_qubit, is_valid, has_x, has_z, Proper, Clifford, Same}
use Rattle.clifford_group.specs.Conjugation.{Generator, of_x, of_z, generator, row}
use Rattle.clifford_group.proofs.Rows.{rows_same}
use Rattle.clifford_group.proofs.Images.{image_row}
use Rattle.clifford_group.proofs.Apply.{apply-scale, apply_single}
use Rattle.clifford_group.proofs.Compose.{width-compose, row-compose}
use Rattle.clifford_group.proofs.Same.{is_valid-same}
use Rattle.clifford_group.proofs.Valid.{all_each}
use Rattle.clifford_gates.specs.Gates.{Image, OneQubit, one_qubit, one_qubit_gates, ValidImages, TwoQubit, two_qubit_gates, ValidPairImages, All}
use Rattle.clifford_gates.specs.GateTableaux.{image_string, gate_on_each, unchanged, on_qubit, on_qubits}
use Rattle.clifford_gates.specs.GateNumbers.{pair_unchanged, one_qubit_gate, two_qubit_gate, gate_tableau}
use Rattle.clifford_gates.specs.GateNumbers.{same_bit, same_letter, has_minus, same_phase, matches_image, matches, first_with, name_of, compose_gate}
use Rattle.clifford_gates.specs.Updates.{times_i, letter_image, scaled, sent_image, compose_images}
use Rattle.clifford_gates.proofs.GateTables.{one_qubit-valid, two_qubit-valid, valid_test, same_image, same-entry, entry_equal}
use Rattle.clifford_gates.proofs.GateTableaux.{image, image_phase, images_together, clifford_on_qubit}
use Rattle.clifford_gates.proofs.PairTableaux.{clifford_on_qubits}
use Rattle.clifford_gates.proofs.OneQubitUpdates.{image_at_lem, image_off, width-on_qubit, row_at, row_off, other-on_qubit, image_on_qubit}

-- ---- entries by number
pub entry : {A : Type 0} (P : A → Type 0) (l : List A) → All P l → (n : ℕ) → n < length l → (d : A) → P (get_or l n d)
entry P [] All.none n h d = absurd (not-suc-le-zero h)
entry P (a ∷ rest) (All.more p ps) zero h d = p
entry P (a ∷ rest) (All.more p ps) (suc n) h d = entry P rest ps n (omega arith) d

pub one_qubit-entry : (P : OneQubit → Type 0) → All P one_qubit_gates → (g : ℕ) → g < 24 → P (one_qubit_gate g)
unfolding one_qubit_gate one_qubit_gates
one_qubit-entry P e g h = entry P one_qubit_gates e g h unchanged

pub two_qubit-entry : (P : TwoQubit → Type 0) → All P two_qubit_gates → (g : ℕ) → 24 ≤ g → g < 38 → P (two_qubit_gate g)
unfolding two_qubit_gate two_qubit_gates
two_qubit-entry P e g l h = entry P two_qubit_gates e (g - 24) (omega arith) pair_unchanged

pub gate-valid : (g : ℕ) → g < 24 → ValidImages (one_qubit_gate g)
gate-valid = one_qubit-entry ValidImages one_qubit-valid

pub pair_gate_valid : (g : ℕ) → 24 ≤ g → g < 38 → ValidPairImages (two_qubit_gate g)
pair_gate_valid = two_qubit-entry ValidPairImages two_qubit-valid

-- ---- the tableau of a gate
pub gate-one : (g q r : ℕ) → g < 24 → gate_tableau g q r ≡ on_qubit (one_qubit_gate g) q
unfolding gate_tableau
gate-one g q r h = ap (λ b. cond b (on_qubit (one_qubit_gate g) q) (on_qubits (two_qubit_gate g) q r)) (lt-ltb g 24 h)

pub gate-two : (g q r : ℕ) → 24 ≤ g → gate_tableau g q r ≡ on_qubits (two_qubit_gate g) q r
unfolding gate_tableau
gate-two g q r h = ap (λ b. cond b (on_qubit (one_qubit_gate g) q) (on_qubits (two_qubit_gate g) q r)) (le-ltb g 24 h)

pub gate_clifford : (g q r : ℕ) → g < 38 → q < qubits → r < qubits → (24 ≤ g → q ≢ r) → Clifford (gate_tableau g q r)
gate_clifford g q r h hq hr d = elim (dec_lt g 24) [
  | yes l ↦ subst Clifford (sym (gate-one g q r l)) (clifford_on_qubit (one_qubit_gate g) (gate-valid g l) q hq)
  | no l ↦ let m : 24 ≤ g = omega arith in
      subst Clifford (sym (gate-two g q r m)) (clifford_on_qubits q r hq hr (d m) (two_qubit_gate g) (pair_gate_valid g m h))
]

-- ---- two gates on one qubit
module _ (g h : OneQubit) (q : ℕ) (l : q < qubits) where
  sent : (i : Image) → apply (on_qubit g q) (image_string i q) ≡ image_string (sent_image g i) q
  unfolding sent_image scaled image_string
  sent i =
      apply-scale (on_qubit g q) i.phase (single i.letter q)
      ∙ ap (scale i.phase) (apply_single (on_qubit g q) i.letter q l ∙ image_on_qubit g q l i.letter) ∙ scale-scale _ _ _

  sent-generator : (a : Generator) → sent_image g (image a h) ≡ image a (compose_images g h)
  unfolding compose_images
  sent-generator of_x = refl
  sent-generator of_z = refl

  width_both : (compose (on_qubit g q) (on_qubit h q)).width ≡ suc q
  width_both = omega (arith, width-compose (on_qubit g q) (on_qubit h q), width-on_qubit g q, width-on_qubit h q)

  pub compose-on_qubit : Same (compose (on_qubit g q) (on_qubit h q)) (on_qubit (compose_images g h) q)
  compose-on_qubit =
      rows_same (compose (on_qubit g q) (on_qubit h q)) (on_qubit (compose_images g h) q) (width_both ∙ sym (width-on_qubit (compose_images g h) q))
      (λ a k m. row-compose (on_qubit g q) (on_qubit h q) a k ∙ each a k (omega (arith, width_both)))
    where
      each : (a : Generator) (k : ℕ) → k < suc q → apply (on_qubit g q) (image_of (on_qubit h q) k (generator a)) ≡ row (on_qubit (compose_images g h) q) a k
      each a k m = elim (ℕ_discrete k q) [
        | yes e ↦ ap (λ j. apply (on_qubit g q) (image_of (on_qubit h q) j (generator a))) e
            ∙ ap (apply (on_qubit g q)) (image_row (on_qubit h q) a q (omega (arith, width-on_qubit h q)) ∙ row_at h q a) ∙ sent (image a h)
            ∙ ap (λ i. image_string i q) (sent-generator a) ∙ sym (ap (row (on_qubit (compose_images g h) q) a) e ∙ row_at (compose_images g h) q a)
        | no d ↦ let n : k < qubits = omega arith in
            ap (apply (on_qubit g q)) (other-on_qubit h q k n d (generator a)) ∙ apply_single (on_qubit g q) (generator a) k n
            ∙ other-on_qubit g q k n d (generator a) ∙ sym (row_off (compose_images g h) q a k d)
      ]

-- ---- names
-- the first entry that passes a test does pass it
found : {A : Type 0} (f : A → Bool) (a : A) (rest : List A) (d : A) (b : Bool) → f a ≡ b
    → (first_with f rest < length rest → f (get_or rest (first_with f rest) d) ≡ true)
    → cond b 0 (suc (first_with f rest)) < suc (length rest) → f (get_or (a ∷ rest) (cond b 0 (suc (first_with f rest))) d) ≡ true
found f a rest d true e later h = e
found f a rest d false e later h = later (omega arith)

pub first_has : {A : Type 0} (f : A → Bool) (l : List A) (d : A) → first_with f l < length l → f (get_or l (first_with f l) d) ≡ true
unfolding first_with
first_has f [] d h = absurd (not-suc-le-zero h)
first_has f (a ∷ rest) d h = found f a rest d (f a) refl (first_has f rest d) h

pub some-qubit : 0 < qubits
unfolding qubits
some-qubit = omega arith

-- the images of X and of Z on qubit 0
abbrev image_in : PauliString → Image
image_in s = record { phase = s.phase; letter = s.letters 0 }

abbrev pub images_of : Tableau → OneQubit
images_of t = one_qubit (image_in (t.x_image 0)) (image_in (t.z_image 0))

-- the number of the gate with these images, or 24
abbrev pub number_of : OneQubit → ℕ
number_of k = first_with (λ g. same-entry g k) one_qubit_gates

matches_image_lem : (i : Image) (s : PauliString) → matches_image i s ≡ same_image i (image_in s)
unfolding matches_image same_phase same_letter same_bit is_real has_minus has_x has_z
matches_image_lem i s =
    ap₂ ◌&&◌ (law2 phases phases bools same_phase phases.same tt i.phase s.phase)
    (law2 letters letters bools same_letter letters.same tt i.letter (s.letters 0))

pub name_one : (t : Tableau) → t.width ≡ 1 → name_of t ≡ number_of (images_of t)
unfolding name_of matches
name_one t e =
    ap (λ b. cond b (first_with (matches t) one_qubit_gates) 24) (eq-eqb t.width 1 e)
    ∙ ap (λ f. first_with f one_qubit_gates) (fun_ext (λ g. ap₂ ◌&&◌ (matches_image_lem g.x (t.x_image 0)) (matches_image_lem g.z (t.z_image 0))))

pub name_none : (t : Tableau) → t.width ≢ 1 → name_of t ≡ 24
unfolding name_of
name_none t d = ap (λ b. cond b (first_with (matches t) one_qubit_gates) 24) (ne_eqb t.width 1 d)

pub name_same : (t u : Tableau) → Same t u → 0 < t.width → name_of t ≡ name_of u
unfolding name_of matches
name_same t u e h =
    ap (λ w. read w (t.x_image 0) (t.z_image 0)) e.width ∙ ap₂ (read u.width) (e.x_image 0 h) (e.z_image 0 h)
  where
    read : ℕ → PauliString → PauliString → ℕ
    read w x z = cond (eqb w 1) (first_with (λ g. matches_image g.x x && matches_image g.z z) one_qubit_gates) 24

image_back : (i : Image) → image_in (image_string i 0) ≡ i
image_back i =
    let phase : (image_string i 0).phase ≡ i.phase = image_phase i 0 in
    let letter : (image_string i 0).letters 0 ≡ i.letter = image_at_lem 0 i 0 refl in
    λ n. record { phase = phase n; letter = letter n }

pub name_on_qubit : (k : OneQubit) → name_of (on_qubit k 0) ≡ number_of k
name_on_qubit k = name_one (on_qubit k 0) (width-on_qubit k 0) ∙ ap number_of back
  where
    back : images_of (on_qubit k 0) ≡ k
    back = unfold on_qubit gate_on_each in ap₂ one_qubit (image_back k.x) (image_back k.z)

pub on_qubit_names : (g : ℕ) → g < 24 → name_of (on_qubit (one_qubit_gate g) 0) ≡ g
unfolding first_with one_qubit_gate one_qubit_gates all_to
on_qubit_names g h = name_on_qubit (one_qubit_gate g) ∙ eqb-true _ g (all_each 24 (λ g. eqb (number_of (one_qubit_gate g)) g) refl g h)

-- the gate of that number has the images
pub number-entry : (k : OneQubit) → number_of k < 24 → one_qubit_gate (number_of k) ≡ k
number-entry k h = unfold one_qubit_gate in
    entry_equal _ k (subst T (sym (first_has (λ g. same-entry g k) one_qubit_gates unchanged (omega (arith, length_24)))) tt)
  where
    length_24 : length one_qubit_gates ≡ 24
    length_24 = unfold one_qubit_gates in refl

-- ---- a gate is named exactly when the tableau has width 1 and is valid
abbrev all_images : (Image → Bool) → Bool
all_images f = phases.all (λ p. letters.all (λ a. f (record { phase = p; letter = a })))

every_image : (f : Image → Bool) → T (all_images f) → (i : Image) → T (f i)
every_image f t i =
    letters.each (λ a. f (record { phase = i.phase; letter = a }))
    (phases.each (λ p. letters.all (λ a. f (record { phase = p; letter = a }))) t i.phase) i.letter

-- by one test of all 256 pairs of images
pub number-valid : (k : OneQubit) → ltb (number_of k) 24 ≡ valid_test k
unfolding is_real anticommute first_with one_qubit_gates
number-valid k =
    bools.equal _ _ (every_image (λ z. agrees (one_qubit k.x z)) (every_image (λ x. all_images (λ z. agrees (one_qubit x z))) tt k.x) k.z)
  where
    agrees : OneQubit → Bool
    agrees k = bools.same (ltb (number_of k) 24) (valid_test k)

valid-on_qubit : (k : OneQubit) → is_valid (on_qubit k 0) ≡ valid_test k
unfolding is_valid all_to valid_qubit on_qubit gate_on_each
valid-on_qubit k =
    and-true _
    ∙ ap₂ ◌&&◌ (ap₂ ◌&&◌ (ap is_real (image_phase k.x 0)) (ap is_real (image_phase k.z 0)))
    (ap not (images_together k.x k.z 0 some-qubit) ∙ not-not (anticommute k.x.letter k.z.letter))

-- a tableau of width 1 is that of its images
module _ (t : Tableau) (p : Proper t) (e : t.width ≡ 1) where
  of_image : (s : PauliString) → Within t.width s → s ≡ image_string (image_in s) 0
  of_image s w = string_ext s (image_string (image_in s) 0) (sym (image_phase (image_in s) 0)) each
    where
      each : (q : ℕ) → s.letters q ≡ (image_string (image_in s) 0).letters q
      each q = elim (ℕ_discrete q 0) [
        | yes z ↦ ap s.letters z ∙ sym (image_at_lem 0 (image_in s) q z)
        | no d ↦ w q (omega arith) ∙ sym (image_off 0 (image_in s) q d)
      ]

  of_images : Same t (on_qubit (images_of t) 0)
  of_images = record {
    width = e ∙ sym (width-on_qubit (images_of t) 0);
    x_image = λ q h. at t.x_image (on_qubit (images_of t) 0).x_image q h (of_image _ (p.x_within 0 (omega arith)) ∙ sym (row_at (images_of t) 0 of_x));
    z_image = λ q h. at t.z_image (on_qubit (images_of t) 0).z_image q h (of_image _ (p.z_within 0 (omega arith)) ∙ sym (row_at (images_of t) 0 of_z));
  }
    where
      at : (f g : ℕ → PauliString) (q : ℕ) → q < t.width → f 0 ≡ g 0 → f q ≡ g q
      at f g q h same = let z : 0 ≡ q = omega arith in subst (λ k. f k ≡ g k) z same

pub named-valid : (t : Tableau) → Proper t → ltb (name_of t) 24 ≡ eqb t.width 1 && is_valid t
named-valid t p = elim (ℕ_discrete t.width 1) [
  | yes e ↦ ap (λ n. ltb n 24) (name_one t e) ∙ number-valid (images_of t)
      ∙ sym (ap₂ ◌&&◌ (eq-eqb t.width 1 e) (is_valid-same t (on_qubit (images_of t) 0) (of_images t p e) ∙ valid-on_qubit (images_of t)))
  | no d ↦ ap (λ n. ltb n 24) (name_none t d) ∙ sym (ap (λ b. b && is_valid t) (ne_eqb t.width 1 d))
]

-- and it is the gate whose tableau on qubit 0 this is
pub named-same : (t : Tableau) → Proper t → name_of t < 24 → Same t (on_qubit (one_qubit_gate (name_of t)) 0)
named-same t p h = elim (ℕ_discrete t.width 1) [
  | yes e ↦ let own : one_qubit_gate (name_of t) ≡ images_of t = ap one_qubit_gate (name_one t e) ∙ number-entry (images_of t) (omega (arith, name_one t e)) in
      subst (λ k. Same t (on_qubit k 0)) (sym own) (of_images t p e)
  | no d ↦ absurd (omega (arith, name_none t d))
]

-- ---- the name of a composition
compose-valid : (g h : ℕ) → g < 24 → h < 24 → valid_test (compose_images (one_qubit_gate g) (one_qubit_gate h)) ≡ true
unfolding all_to one_qubit_gate one_qubit_gates compose_images sent_image scaled letter_image times_i letter_phase letter_mul letter_product ◌·◌ negate turn is_real anticommute
compose-valid g h l m =
    all_each 24 (λ h. valid_test (compose_images (one_qubit_gate g) (one_qubit_gate h)))
    (all_each 24 (λ g. all_to 24 (λ h. valid_test (compose_images (one_qubit_gate g) (one_qubit_gate h)))) refl g l) h m

module _ (g h : ℕ) (hg : g < 24) (hh : h < 24) where
  pub compose_name : compose_gate g h ≡ number_of (compose_images (one_qubit_gate g) (one_qubit_gate h))
  unfolding compose_gate
  compose_name =
      name_same (compose (on_qubit (one_qubit_gate g) 0) (on_qubit (one_qubit_gate h) 0)) (on_qubit (compose_images (one_qubit_gate g) (one_qubit_gate h)) 0)
      (compose-on_qubit (one_qubit_gate g) (one_qubit_gate h) 0 some-qubit) (omega (arith, width_both (one_qubit_gate g) (one_qubit_gate h) 0 some-qubit))
      ∙ name_on_qubit (compose_images (one_qubit_gate g) (one_qubit_gate h))

  pub compose-entry : one_qubit_gate (compose_gate g h) ≡ compose_images (one_qubit_gate g) (one_qubit_gate h)
  compose-entry = ap one_qubit_gate compose_name ∙ number-entry _ (ltb-true _ 24 (number-valid _ ∙ compose-valid g h hg hh))

  -- and so on every qubit
  pub compose_gates : (q : ℕ) → q < qubits
      → Same (compose (on_qubit (one_qubit_gate g) q) (on_qubit (one_qubit_gate h) q)) (on_qubit (one_qubit_gate (compose_gate g h)) q)
  compose_gates q l =
      subst (λ k. Same (compose (on_qubit (one_qubit_gate g) q) (on_qubit (one_qubit_gate h) q)) (on_qubit k q)) (sym compose-entry)
      (compose-on_qubit (one_qubit_gate g) (one_qubit_gate h) q l)

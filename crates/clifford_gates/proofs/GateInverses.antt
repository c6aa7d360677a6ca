-- The inverse of a gate is a gate.
use mathlib.Core.Path.{◌≡◌, refl, sym, ap, ◌∙◌, subst}
use mathlib.Core.Bool.{Bool, true, false, cond, ◌&&◌}
use mathlib.Core.Logic.{◌≢◌}
use Prim.Native.Nat.{ℕ, suc, max, ◌≤◌, ◌<◌}
use native.Mathlib.Omega.{arith}
use native.Mathlib.Decide.{dec_lt}
use lib.Dec.{T, eqb, ltb, leb}
use lib.ListN.{get_or}
use borrow.Author.Tests.{lt-ltb, le-ltb, ltb-true, leb-true, eqb-true}
use Rattle.pauli_group.specs.Phase.{◌·◌, negate, turn}
use Rattle.pauli_group.specs.Letter.{X, Z, letter_product, letter_phase, letter_mul}
use Rattle.pauli_group.specs.PauliString.{qubits, mul, scale, single}
use Rattle.pauli_group.proofs.Finite.{letters, phases}
use Rattle.pauli_group.proofs.PaperForms.{both}
use Rattle.pauli_group.proofs.Strings.{scale_one, scale-scale, identity-mul, mul-identity}
use Rattle.clifford_group.specs.Tableau.{Tableau, identity_tableau, image_of, apply, compose, inverse, all_to, Proper, Clifford, Same}
use Rattle.clifford_group.specs.Conjugation.{Generator, of_x, of_z, generator, row}
use Rattle.clifford_group.proofs.Singles.{single-I}
use Rattle.clifford_group.proofs.Rows.{rows_same, row-identity}
use Rattle.clifford_group.proofs.Images.{image_row, same-images, image_same, within_image}
use Rattle.clifford_group.proofs.Apply.{apply-scale, apply_single}
use Rattle.clifford_group.proofs.Conjugation.{apply_injective}
use Rattle.clifford_group.proofs.Identity.{width-identity}
use Rattle.clifford_group.proofs.Compose.{width-compose, row-compose, compose-generator}
use Rattle.clifford_group.proofs.Inverse.{width-inverse, proper-inverse, compose-inverse}
use Rattle.clifford_group.proofs.Same.{same_trans}
use Rattle.clifford_group.proofs.Valid.{all_each}
use Rattle.clifford_gates.specs.Gates.{one_qubit_gates, PairImage, pair_plus, TwoQubit, two_qubit, two_qubit_gates, ValidPairImages}
use Rattle.clifford_gates.specs.GateTableaux.{unchanged, on_qubit, pair_string, on_qubits}
use Rattle.clifford_gates.specs.GateNumbers.{pair_unchanged, one_qubit_gate, two_qubit_gate, gate_tableau, name_of, inverse_pair, inverse_gate, inverse_numbers}
use Rattle.clifford_gates.specs.Updates.{times_i, letter_image, scaled, sent_image, compose_images}
use Rattle.clifford_gates.specs.Updates.{pair_times, pair_times_i, own_image, pair_image, pair_scaled, sent_pair, compose_pair_images}
use Rattle.clifford_gates.proofs.GateTables.{same-entry, entry_equal}
use Rattle.clifford_gates.proofs.GateTableaux.{clifford_on_qubit}
use Rattle.clifford_gates.proofs.PairTableaux.{first, second, row_first, row-second, row_other, clifford_on_qubits}
use Rattle.clifford_gates.proofs.OneQubitUpdates.{width-on_qubit, on_qubit-I}
use Rattle.clifford_gates.proofs.TwoQubitUpdates.{width-on_qubits, places, other_image, apply_pair}
use Rattle.clifford_gates.proofs.GateNames.{gate-valid, pair_gate_valid, gate-one, gate-two, compose-on_qubit, name_same, on_qubit_names, some-qubit}

-- ---- an inverse from one side is the inverse
pub inverse_unique : (a b : Tableau) → Clifford a → Proper b → a.width ≡ b.width → Same (compose a b) (identity_tableau a.width)
    → Same (inverse a) b
inverse_unique a b c p w e = same-images (inverse a) b (width-inverse a ∙ w) rows
  where
    rows : (g : Generator) (q : ℕ) → q < (inverse a).width → image_of (inverse a) q (generator g) ≡ image_of b q (generator g)
    rows g q h =
        let k : q < qubits = omega (arith, c.proper.narrow, width-inverse a) in
        apply_injective a c (image_of (inverse a) q (generator g)) (image_of b q (generator g))
        (within_image (inverse a) (proper-inverse a c.proper.narrow) qubits (omega (arith, c.proper.narrow, width-inverse a)) q (generator g) k)
        (within_image b p qubits p.narrow q (generator g) k)
        (sym (compose-generator a (inverse a) g q k) ∙ image_same _ _ (compose-inverse a c) q (generator g) ∙ sym (image_same _ _ e q (generator g))
        ∙ compose-generator a b g q k)

-- ---- two gates on the same two qubits
module _ (q r : ℕ) (hq : q < qubits) (hr : r < qubits) (d : q ≢ r) where
  module _ (g h : TwoQubit) (v : ValidPairImages g) where
    sent : (i : PairImage) → apply (on_qubits g q r) (pair_string i q r) ≡ pair_string (sent_pair g i) q r
    unfolding sent_pair
    sent i =
        ap (apply (on_qubits g q r)) plain ∙ apply-scale (on_qubits g q r) i.phase (pair_string (pair_plus i.first i.second) q r)
        ∙ ap (scale i.phase) (apply_pair q r hq hr d g v i.first i.second) ∙ again (pair_image g i.first i.second)
      where
        plain : pair_string i q r ≡ scale i.phase (pair_string (pair_plus i.first i.second) q r)
        plain = unfold pair_string in ap (scale i.phase) (sym (scale_one _))

        again : (j : PairImage) → scale i.phase (pair_string j q r) ≡ pair_string (pair_scaled i.phase j) q r
        again j = unfold pair_string pair_scaled in scale-scale _ _ _

    sent-first : (a : Generator) → sent_pair g (first q r hq hr d h a) ≡ first q r hq hr d (compose_pair_images g h) a
    unfolding compose_pair_images
    sent-first of_x = refl
    sent-first of_z = refl

    sent-second : (a : Generator) → sent_pair g (second q r hq hr d h a) ≡ second q r hq hr d (compose_pair_images g h) a
    unfolding compose_pair_images
    sent-second of_x = refl
    sent-second of_z = refl

    pub compose-on_qubits : Same (compose (on_qubits g q r) (on_qubits h q r)) (on_qubits (compose_pair_images g h) q r)
    compose-on_qubits =
        rows_same (compose s t) u (wide ∙ sym (width-on_qubits (compose_pair_images g h) q r))
        (λ a k m. row-compose s t a k ∙ places q r (Sent a) k (at_first a k) (at_second a k) (elsewhere a k (omega (arith, wide))))
      where
        s : Tableau
        s = on_qubits g q r

        t : Tableau
        t = on_qubits h q r

        u : Tableau
        u = on_qubits (compose_pair_images g h) q r

        wide : (compose s t).width ≡ suc (max q r)
        wide = omega (arith, width-compose s t, width-on_qubits g q r, width-on_qubits h q r)

        Sent : Generator → ℕ → Type 0
        Sent a k = apply s (image_of t k (generator a)) ≡ row u a k

        -- k's row of t is a pair that s sends to k's row of u
        by : (a : Generator) (k : ℕ) (i j : PairImage) → k < suc (max q r) → row t a k ≡ pair_string i q r → sent_pair g i ≡ j
            → row u a k ≡ pair_string j q r → Sent a k
        by a k i j m e f n =
            ap (apply s) (image_row t a k (omega (arith, width-on_qubits h q r)) ∙ e) ∙ sent i ∙ ap (λ x. pair_string x q r) f ∙ sym n

        at_first : (a : Generator) (k : ℕ) → k ≡ q → Sent a k
        at_first a k e =
            by a k _ _ (omega arith) (ap (row t a) e ∙ row_first q r hq hr d h a) (sent-first a) (ap (row u a) e ∙ row_first q r hq hr d (compose_pair_images g h) a)

        at_second : (a : Generator) (k : ℕ) → k ≢ q → k ≡ r → Sent a k
        at_second a k m e =
            by a k _ _ (omega arith) (ap (row t a) e ∙ row-second q r hq hr d h a) (sent-second a) (ap (row u a) e ∙ row-second q r hq hr d (compose_pair_images g h) a)

        elsewhere : (a : Generator) (k : ℕ) → k < suc (max q r) → k ≢ q → k ≢ r → Sent a k
        elsewhere a k l m n =
            let o : k < qubits = omega arith in
            ap (apply s) (other_image q r hq hr d h k o m n (generator a)) ∙ apply_single s (generator a) k o
            ∙ other_image q r hq hr d g k o m n (generator a) ∙ sym (row_other q r hq hr d (compose_pair_images g h) a k m n)

  -- ---- no change
  first_kept : (a : Generator) → pair_string (first q r hq hr d pair_unchanged a) q r ≡ single (generator a) q
  unfolding pair_string
  first_kept of_x = scale_one _ ∙ ap (mul (single X q)) (single-I r) ∙ mul-identity (single X q)
  first_kept of_z = scale_one _ ∙ ap (mul (single Z q)) (single-I r) ∙ mul-identity (single Z q)

  second_kept : (a : Generator) → pair_string (second q r hq hr d pair_unchanged a) q r ≡ single (generator a) r
  unfolding pair_string
  second_kept of_x = scale_one _ ∙ ap (λ s. mul s (single X r)) (single-I q) ∙ identity-mul (single X r)
  second_kept of_z = scale_one _ ∙ ap (λ s. mul s (single Z r)) (single-I q) ∙ identity-mul (single Z r)

  pub on_qubits-unchanged : Same (on_qubits pair_unchanged q r) (identity_tableau (suc (max q r)))
  on_qubits-unchanged =
      rows_same t (identity_tableau (suc (max q r))) (width-on_qubits pair_unchanged q r ∙ sym (width-identity (suc (max q r))))
      (λ a k m. places q r (λ k. row t a k ≡ single (generator a) k) k
      (λ e. ap (row t a) e ∙ row_first q r hq hr d pair_unchanged a ∙ first_kept a ∙ ap (single (generator a)) (sym e))
      (λ n e. ap (row t a) e ∙ row-second q r hq hr d pair_unchanged a ∙ second_kept a ∙ ap (single (generator a)) (sym e))
      (λ n o. row_other q r hq hr d pair_unchanged a k n o) ∙ sym (row-identity (suc (max q r)) a k))
    where
      t : Tableau
      t = on_qubits pair_unchanged q r

-- ---- equal entries
abbrev same-letters : PairImage → PairImage → Bool
same-letters i j = letters.same i.first j.first && letters.same i.second j.second

abbrev same_pair : PairImage → PairImage → Bool
same_pair i j = phases.same i.phase j.phase && same-letters i j

pair_equal : (i j : PairImage) → T (same_pair i j) → i ≡ j
pair_equal i j t =
    let parts = both (phases.same i.phase j.phase) (same-letters i j) t in
    let rest = both (letters.same i.first j.first) (letters.same i.second j.second) parts.1 in
    let phase : i.phase ≡ j.phase = phases.equal _ _ parts.0 in
    let first : i.first ≡ j.first = letters.equal _ _ rest.0 in
    let second : i.second ≡ j.second = letters.equal _ _ rest.1 in
    λ n. record { phase = phase n; first = first n; second = second n }

abbrev same-x : TwoQubit → TwoQubit → Bool
same-x g h = same_pair g.x0 h.x0 && same_pair g.x1 h.x1

abbrev same-z : TwoQubit → TwoQubit → Bool
same-z g h = same_pair g.z0 h.z0 && same_pair g.z1 h.z1

abbrev same-pairs : TwoQubit → TwoQubit → Bool
same-pairs g h = same-x g h && same-z g h

pairs_equal : (g h : TwoQubit) → T (same-pairs g h) → g ≡ h
pairs_equal g h t =
    let parts = both (same-x g h) (same-z g h) t in
    let x = both (same_pair g.x0 h.x0) (same_pair g.x1 h.x1) parts.0 in
    let z = both (same_pair g.z0 h.z0) (same_pair g.z1 h.z1) parts.1 in
    let x0 : g.x0 ≡ h.x0 = pair_equal g.x0 h.x0 x.0 in
    let x1 : g.x1 ≡ h.x1 = pair_equal g.x1 h.x1 x.1 in
    let z0 : g.z0 ≡ h.z0 = pair_equal g.z0 h.z0 z.0 in
    let z1 : g.z1 ≡ h.z1 = pair_equal g.z1 h.z1 z.1 in
    λ n. two_qubit (x0 n) (x1 n) (z0 n) (z1 n)

-- ---- the table of inverses: each gate after its inverse changes nothing
abbrev inverse-number : ℕ → ℕ
inverse-number g = get_or inverse_numbers g 0

inverse-one : (g : ℕ) → g < 24 → compose_images (one_qubit_gate g) (one_qubit_gate (inverse-number g)) ≡ unchanged
unfolding all_to inverse_numbers one_qubit_gate one_qubit_gates compose_images sent_image scaled letter_image times_i letter_phase letter_mul letter_product ◌·◌ negate turn
inverse-one g h =
    entry_equal _ _ (subst T (sym (all_each 24 (λ g. same-entry (compose_images (one_qubit_gate g) (one_qubit_gate (inverse-number g))) unchanged) refl g h)) tt)

-- a test of the two-qubit gates' numbers
upper : (f : ℕ → Bool) → all_to 38 (λ g. cond (ltb g 24) true (f g)) ≡ true → (g : ℕ) → 24 ≤ g → g < 38 → f g ≡ true
upper f e g l h = sym (ap (λ b. cond b true (f g)) (le-ltb g 24 l)) ∙ all_each 38 (λ g. cond (ltb g 24) true (f g)) e g h

inverse-two : (g : ℕ) → 24 ≤ g → g < 38 → compose_pair_images (two_qubit_gate g) (two_qubit_gate (inverse-number g)) ≡ pair_unchanged
unfolding all_to inverse_numbers two_qubit_gate two_qubit_gates compose_pair_images sent_pair pair_scaled pair_image own_image pair_times pair_times_i letter_phase letter_mul letter_product ◌·◌ negate turn
inverse-two g l h =
    pairs_equal _ _
    (subst T (sym (upper (λ g. same-pairs (compose_pair_images (two_qubit_gate g) (two_qubit_gate (inverse-number g))) pair_unchanged) refl g l h)) tt)

one_number : (g : ℕ) → g < 24 → inverse-number g < 24
unfolding all_to inverse_numbers
one_number g h = ltb-true _ 24 (all_each 24 (λ g. ltb (inverse-number g) 24) refl g h)

two-number : (g : ℕ) → 24 ≤ g → g < 38 → (24 ≤ inverse-number g) × (inverse-number g < 38)
unfolding all_to inverse_numbers
two-number g l h = (leb-true 24 _ (upper (λ g. leb 24 (inverse-number g)) refl g l h), ltb-true _ 38 (upper (λ g. ltb (inverse-number g) 38) refl g l h))

pair_number : (g : ℕ) → 24 ≤ g → g < 38 → inverse_pair g ≡ inverse-number g
unfolding all_to inverse_numbers inverse_pair
pair_number g l h = eqb-true _ _ (upper (λ g. eqb (inverse_pair g) (inverse-number g)) refl g l h)

-- ---- the inverses of the tableaux
module _ (g q : ℕ) (h : g < 24) (l : q < qubits) where
  one-inverse : Same (inverse (on_qubit (one_qubit_gate g) q)) (on_qubit (one_qubit_gate (inverse-number g)) q)
  one-inverse =
      inverse_unique t u (clifford_on_qubit (one_qubit_gate g) (gate-valid g h) q l)
      (clifford_on_qubit (one_qubit_gate (inverse-number g)) (gate-valid (inverse-number g) (one_number g h)) q l).proper
      (width-on_qubit (one_qubit_gate g) q ∙ sym (width-on_qubit (one_qubit_gate (inverse-number g)) q))
      (subst (λ w. Same (compose t u) (identity_tableau w)) (sym (width-on_qubit (one_qubit_gate g) q))
      (same_trans (compose t u) (on_qubit unchanged q) (identity_tableau (suc q))
      (subst (λ k. Same (compose t u) (on_qubit k q)) (inverse-one g h) (compose-on_qubit (one_qubit_gate g) (one_qubit_gate (inverse-number g)) q l))
      (on_qubit-I q)))
    where
      t : Tableau
      t = on_qubit (one_qubit_gate g) q

      u : Tableau
      u = on_qubit (one_qubit_gate (inverse-number g)) q

module _ (g q r : ℕ) (l : 24 ≤ g) (h : g < 38) (hq : q < qubits) (hr : r < qubits) (d : q ≢ r) where
  two-inverse : Same (inverse (on_qubits (two_qubit_gate g) q r)) (on_qubits (two_qubit_gate (inverse-number g)) q r)
  two-inverse =
      inverse_unique t u (clifford_on_qubits q r hq hr d (two_qubit_gate g) (pair_gate_valid g l h))
      (clifford_on_qubits q r hq hr d (two_qubit_gate (inverse-number g))
      (pair_gate_valid (inverse-number g) (two-number g l h).0 (two-number g l h).1)).proper
      (width-on_qubits (two_qubit_gate g) q r ∙ sym (width-on_qubits (two_qubit_gate (inverse-number g)) q r))
      (subst (λ w. Same (compose t u) (identity_tableau w)) (sym (width-on_qubits (two_qubit_gate g) q r))
      (same_trans (compose t u) (on_qubits pair_unchanged q r) (identity_tableau (suc (max q r)))
      (subst (λ k. Same (compose t u) (on_qubits k q r)) (inverse-two g l h)
      (compose-on_qubits q r hq hr d (two_qubit_gate g) (two_qubit_gate (inverse-number g)) (pair_gate_valid g l h)))
      (on_qubits-unchanged q r hq hr d)))
    where
      t : Tableau
      t = on_qubits (two_qubit_gate g) q r

      u : Tableau
      u = on_qubits (two_qubit_gate (inverse-number g)) q r

-- ---- the numbers of the inverses
pub inverse_numbers_lem : (g : ℕ) → g < 38 → inverse_gate g ≡ get_or inverse_numbers g 0
inverse_numbers_lem g h = elim (dec_lt g 24) [
  | yes l ↦ one l
  | no l ↦ two (omega arith)
]
  where
    side : (b : Bool) → ltb g 24 ≡ b → inverse_gate g ≡ cond b (name_of (inverse (on_qubit (one_qubit_gate g) 0))) (inverse_pair g)
    side b e = unfold inverse_gate in ap (λ c. cond c (name_of (inverse (on_qubit (one_qubit_gate g) 0))) (inverse_pair g)) e

    one : g < 24 → inverse_gate g ≡ inverse-number g
    one l =
        side true (lt-ltb g 24 l)
        ∙ name_same (inverse (on_qubit (one_qubit_gate g) 0)) (on_qubit (one_qubit_gate (inverse-number g)) 0) (one-inverse g 0 l some-qubit)
        (omega (arith, width-inverse (on_qubit (one_qubit_gate g) 0), width-on_qubit (one_qubit_gate g) 0))
        ∙ on_qubit_names (inverse-number g) (one_number g l)

    two : 24 ≤ g → inverse_gate g ≡ inverse-number g
    two l = side false (le-ltb g 24 l) ∙ pair_number g l h

pub inverse_gates : (g q r : ℕ) → g < 38 → q < qubits → r < qubits → (24 ≤ g → q ≢ r)
    → Same (inverse (gate_tableau g q r)) (gate_tableau (inverse_gate g) q r)
inverse_gates g q r h hq hr d = subst (λ n. Same (inverse (gate_tableau g q r)) (gate_tableau n q r)) (sym (inverse_numbers_lem g h)) (elim (dec_lt g 24) [
  | yes l ↦ equal (gate-one g q r l) (gate-one (inverse-number g) q r (one_number g l)) (one-inverse g q l hq)
  | no l ↦ let m : 24 ≤ g = omega arith in
      equal (gate-two g q r m) (gate-two (inverse-number g) q r (two-number g m h).0) (two-inverse g q r m h hq hr (d m))
])
  where
    equal : {t u : Tableau} → gate_tableau g q r ≡ t → gate_tableau (inverse-number g) q r ≡ u → Same (inverse t) u
        → Same (inverse (gate_tableau g q r)) (gate_tableau (inverse-number g) q r)
    equal {t} {u} e f s = subst (λ x. Same (inverse x) (gate_tableau (inverse-number g) q r)) (sym e) (subst (Same (inverse t)) (sym f) s)

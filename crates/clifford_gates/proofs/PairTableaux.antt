-- The tableau of a two-qubit gate is valid on every two different qubits, in both orders.
use mathlib.Core.Path.{◌≡◌, refl, sym, ap, ap₂, subst, ◌∙◌}
use mathlib.Core.Bool.{Bool, true, false, not, cond}
use mathlib.Core.Logic.{◌≢◌}
use Prim.Native.Nat.{ℕ, suc, max, ◌<◌, ◌≤◌}
use native.Mathlib.Omega.{arith}
use native.Mathlib.Decide.{ℕ_discrete}
use lib.Dec.{eqb}
use borrow.Author.Tests.{eq-eqb, ne_eqb}
use Rattle.pauli_group.specs.Phase.{Phase, PlusOne, is_real, sign, negate, ◌·◌}
use Rattle.pauli_group.specs.Letter.{Letter, I, X, Z, letter_mul, letter_phase, anticommute}
use Rattle.pauli_group.specs.PauliString.{PauliString, qubits, mul, scale, single, commute, commutation_sign, phase_of_letters, Within}
use Rattle.pauli_group.proofs.Laws.{·-one, letter_mul-I, I-letter_mul, letter_phase-I, I-letter_phase}
use Rattle.pauli_group.proofs.Products.{product_to-one}
use Rattle.pauli_group.proofs.Strings.{sign-scale, sign_sym, sign-single, sign_of_mul, within-scale, within-single, within-mul}
use Rattle.clifford_group.specs.Tableau.{Proper, Clifford}
use Rattle.clifford_group.specs.Conjugation.{Generator, of_x, of_z, generator, row, Valid}
use Rattle.clifford_group.proofs.Singles.{single-at, single_off}
use Rattle.clifford_group.proofs.Commuting.{commute_sym}
use Rattle.clifford_group.proofs.Rows.{rows-proper}
use Rattle.clifford_group.proofs.Valid.{valid_test}
use Rattle.clifford_gates.specs.Gates.{PairImage, TwoQubit, two_qubit_gates, pairs_commute, ValidPairImages, All}
use Rattle.clifford_gates.specs.GateTableaux.{pair_string, pair_row, on_qubits}
use Rattle.clifford_gates.proofs.GateTables.{all_map, two_qubit-valid}
use Rattle.clifford_gates.proofs.GateTableaux.{commute_by}

single-phase : (l : Letter) (k : ℕ) → (single l k).phase ≡ PlusOne
unfolding single
single-phase l k = refl

plus-real : is_real PlusOne ≡ true
unfolding is_real
plus-real = refl

commute-rows : {s t u w : PauliString} {c : Bool} → s ≡ t → u ≡ w → commute t w ≡ c → commute s u ≡ c
commute-rows e f h = ap₂ commute e f ∙ h

x_and_z : (k : ℕ) → k < qubits → commute (single X k) (single Z k) ≡ false
unfolding anticommute
x_and_z k h = commute_by (single X k) (single Z k) false (sign-single (single X k) Z k h ∙ ap (λ a. sign (anticommute a Z)) (single-at X k))

signs : (a b : Bool) → sign a · sign b ≡ sign (not (cond a b (not b)))
unfolding sign ◌·◌ negate
signs true true = refl
signs true false = refl
signs false true = refl
signs false false = refl

module _ (q r : ℕ) (hq : q < qubits) (hr : r < qubits) (d : q ≢ r) where
  -- ---- the letters of a pair, and what commutes with it
  pub letter-first : (i : PairImage) → (pair_string i q r).letters q ≡ i.first
  unfolding pair_string scale mul
  letter-first i = ap₂ letter_mul (single-at i.first q) (single_off i.second r q d) ∙ letter_mul-I i.first

  pub letter-second : (i : PairImage) → (pair_string i q r).letters r ≡ i.second
  unfolding pair_string scale mul
  letter-second i = ap₂ letter_mul (single_off i.first q r (λ e. d (sym e))) (single-at i.second r) ∙ I-letter_mul i.second

  pub letter-other : (i : PairImage) (k : ℕ) → k ≢ q → k ≢ r → (pair_string i q r).letters k ≡ I
  unfolding pair_string scale mul
  letter-other i k a b = ap₂ letter_mul (single_off i.first q k a) (single_off i.second r k b) ∙ letter_mul-I I

  pub pair_phase : (i : PairImage) → (pair_string i q r).phase ≡ i.phase
  unfolding pair_string scale mul phase_of_letters single
  pair_phase i =
      ap (λ p. i.phase · (PlusOne · PlusOne · p)) (product_to-one qubits _ (λ c l. apart c (ℕ_discrete c q)))
      ∙ ap (λ p. i.phase · p) (·-one (PlusOne · PlusOne) ∙ ·-one PlusOne) ∙ ·-one i.phase
    where
      apart : (c : ℕ) → Dec (c ≡ q) → letter_phase ((single i.first q).letters c) ((single i.second r).letters c) ≡ PlusOne
      apart c (yes e) =
          ap (letter_phase ((single i.first q).letters c)) (single_off i.second r c (λ p. d (sym e ∙ p))) ∙ letter_phase-I _
      apart c (no n) = ap (λ a. letter_phase a ((single i.second r).letters c)) (single_off i.first q c n) ∙ I-letter_phase _

  pair_sign : (j : PairImage) (s : PauliString)
      → commutation_sign (pair_string j q r) s ≡ commutation_sign (single j.first q) s · commutation_sign (single j.second r) s
  unfolding pair_string
  pair_sign j s =
      sign-scale j.phase (mul (single j.first q) (single j.second r)) s ∙ sign_of_mul (single j.first q) (single j.second r) s

  pairs-commute : (i j : PairImage) → commute (pair_string i q r) (pair_string j q r) ≡ pairs_commute i j
  unfolding pairs_commute
  pairs-commute i j = commute_by (pair_string i q r) (pair_string j q r) _ (right ∙ signs (anticommute i.first j.first) (anticommute i.second j.second))
    where
      s : PauliString
      s = pair_string i q r

      one : (l : Letter) (k : ℕ) → k < qubits → {a : Letter} → s.letters k ≡ a → commutation_sign (single l k) s ≡ sign (anticommute a l)
      one l k h e = sign_sym (single l k) s ∙ sign-single s l k h ∙ ap (λ a. sign (anticommute a l)) e

      right : commutation_sign s (pair_string j q r) ≡ sign (anticommute i.first j.first) · sign (anticommute i.second j.second)
      right =
          sign_sym s (pair_string j q r) ∙ pair_sign j s
          ∙ ap₂ ◌·◌ (one j.first q hq (letter-first i)) (one j.second r hr (letter-second i))

  other_commutes : (i : PairImage) (l : Letter) (k : ℕ) → k < qubits → k ≢ q → k ≢ r → commute (pair_string i q r) (single l k) ≡ true
  unfolding anticommute
  other_commutes i l k h a b =
      commute_by (pair_string i q r) (single l k) true (sign-single (pair_string i q r) l k h ∙ ap (λ m. sign (anticommute m l)) (letter-other i k a b))

  singles_commute : (l m : Letter) (j k : ℕ) → k < qubits → j ≢ k → commute (single l j) (single m k) ≡ true
  unfolding anticommute
  singles_commute l m j k h e =
      commute_by (single l j) (single m k) true (sign-single (single l j) m k h ∙ ap (λ a. sign (anticommute a m)) (single_off l j k (λ p. e (sym p))))

  -- ---- the rows
  module _ (g : TwoQubit) where
    abbrev pub first : Generator → PairImage
    first of_x = g.x0
    first of_z = g.z0

    abbrev pub second : Generator → PairImage
    second of_x = g.x1
    second of_z = g.z1

    row_is : (a : Generator) (k : ℕ) → row (on_qubits g q r) a k ≡ pair_row q r (first a) (second a) (generator a) k
    unfolding on_qubits
    row_is of_x k = refl
    row_is of_z k = refl

    pub row_first : (a : Generator) → row (on_qubits g q r) a q ≡ pair_string (first a) q r
    unfolding pair_row
    row_first a =
        row_is a q
        ∙ ap (λ b. cond b (pair_string (first a) q r) (cond (eqb q r) (pair_string (second a) q r) (single (generator a) q))) (eq-eqb q q refl)

    pub row-second : (a : Generator) → row (on_qubits g q r) a r ≡ pair_string (second a) q r
    unfolding pair_row
    row-second a =
        row_is a r
        ∙ ap (λ b. cond b (pair_string (first a) q r) (cond (eqb r r) (pair_string (second a) q r) (single (generator a) r))) (ne_eqb r q (λ e. d (sym e)))
        ∙ ap (λ b. cond b (pair_string (second a) q r) (single (generator a) r)) (eq-eqb r r refl)

    pub row_other : (a : Generator) (k : ℕ) → k ≢ q → k ≢ r → row (on_qubits g q r) a k ≡ single (generator a) k
    unfolding pair_row
    row_other a k m n =
        row_is a k
        ∙ ap (λ b. cond b (pair_string (first a) q r) (cond (eqb k r) (pair_string (second a) q r) (single (generator a) k))) (ne_eqb k q m)
        ∙ ap (λ b. cond b (pair_string (second a) q r) (single (generator a) k)) (ne_eqb k r n)

    -- which row of the gate, q's, r's or another's
    data Place (k : ℕ) : Type 0 where
      at_first : k ≡ q → Place k
      at_second : k ≡ r → Place k
      elsewhere : k ≢ q → k ≢ r → Place k

    place : (k : ℕ) → Place k
    place k = elim (ℕ_discrete k q) [
      | yes e ↦ at_first e
      | no m ↦ elim (ℕ_discrete k r) [
        | yes e ↦ at_second e
        | no n ↦ elsewhere m n
      ]
    ]

    module _ (v : ValidPairImages g) where
      pair_real : (a : Generator) → (is_real (first a).phase ≡ true) × (is_real (second a).phase ≡ true)
      pair_real of_x = (v.x0_real, v.x1_real)
      pair_real of_z = (v.z0_real, v.z1_real)

      row-real : (a : Generator) (k : ℕ) → is_real (row (on_qubits g q r) a k).phase ≡ true
      row-real a k = by (place k)
        where
          of : {s : PauliString} {p : Phase} → row (on_qubits g q r) a k ≡ s → s.phase ≡ p → is_real p ≡ true → is_real (row (on_qubits g q r) a k).phase ≡ true
          of e f h = ap (λ s. is_real s.phase) e ∙ ap is_real f ∙ h

          by : Place k → is_real (row (on_qubits g q r) a k).phase ≡ true
          by (at_first e) = of (ap (row (on_qubits g q r) a) e ∙ row_first a) (pair_phase (first a)) (pair_real a).0
          by (at_second e) = of (ap (row (on_qubits g q r) a) e ∙ row-second a) (pair_phase (second a)) (pair_real a).1
          by (elsewhere m n) = of (row_other a k m n) (single-phase (generator a) k) plus-real

      abbrev at : Generator → ℕ → PauliString
      at = row (on_qubits g q r)

      first-at : (a : Generator) {k : ℕ} → k ≡ q → at a k ≡ pair_string (first a) q r
      first-at a e = ap (at a) e ∙ row_first a

      second_at : (a : Generator) {k : ℕ} → k ≡ r → at a k ≡ pair_string (second a) q r
      second_at a e = ap (at a) e ∙ row-second a

      own-anticommute : (k : ℕ) → k < qubits → commute (at of_x k) (at of_z k) ≡ false
      own-anticommute k h = by (place k)
        where
          by : Place k → commute (at of_x k) (at of_z k) ≡ false
          by (at_first e) = commute-rows (first-at of_x e) (first-at of_z e) (pairs-commute g.x0 g.z0 ∙ v.first)
          by (at_second e) = commute-rows (second_at of_x e) (second_at of_z e) (pairs-commute g.x1 g.z1 ∙ v.second)
          by (elsewhere m n) = commute-rows (row_other of_x k m n) (row_other of_z k m n) (x_and_z k h)

      pair_others : (a b : Generator) → pairs_commute (first a) (second b) ≡ true
      pair_others of_x of_x = v.xx
      pair_others of_x of_z = v.xz
      pair_others of_z of_x = v.zx
      pair_others of_z of_z = v.zz

      others_commute : (a b : Generator) (j k : ℕ) → j < qubits → k < qubits → j ≢ k → commute (at a j) (at b k) ≡ true
      others_commute a b j k hj hk e = by (place j) (place k)
        where
          by : Place j → Place k → commute (at a j) (at b k) ≡ true
          by (at_first m) (at_first n) = absurd (e (m ∙ sym n))
          by (at_first m) (at_second n) = commute-rows (first-at a m) (second_at b n) (pairs-commute (first a) (second b) ∙ pair_others a b)
          by (at_first m) (elsewhere n o) =
              commute-rows (first-at a m) (row_other b k n o) (other_commutes (first a) (generator b) k hk n o)
          by (at_second m) (at_first n) =
              commute_sym (at a j) (at b k) ∙ commute-rows (first-at b n) (second_at a m) (pairs-commute (first b) (second a) ∙ pair_others b a)
          by (at_second m) (at_second n) = absurd (e (m ∙ sym n))
          by (at_second m) (elsewhere n o) =
              commute-rows (second_at a m) (row_other b k n o) (other_commutes (second a) (generator b) k hk n o)
          by (elsewhere m o) (at_first n) =
              commute_sym (at a j) (at b k) ∙ commute-rows (first-at b n) (row_other a j m o) (other_commutes (first b) (generator a) j hj m o)
          by (elsewhere m o) (at_second n) =
              commute_sym (at a j) (at b k) ∙ commute-rows (second_at b n) (row_other a j m o) (other_commutes (second b) (generator a) j hj m o)
          by (elsewhere m o) (elsewhere n p) =
              commute-rows (row_other a j m o) (row_other b k n p) (singles_commute (generator a) (generator b) j k hk e)

      -- ---- valid
      below : (k : ℕ) → k < suc (max q r) → k < qubits
      below k l = omega arith

      valid_pair_lem : Valid (on_qubits g q r)
      unfolding on_qubits
      valid_pair_lem = record {
        real = λ a k l. row-real a k;
        anticommuting = λ k l. own-anticommute k (below k l);
        commuting = λ a b j k l m e. others_commute a b j k (below j l) (below k m) e;
      }

      pair_within : (i : PairImage) → Within (suc (max q r)) (pair_string i q r)
      unfolding pair_string
      pair_within i =
          within-scale _ i.phase (mul (single i.first q) (single i.second r))
          (within-mul _ (single i.first q) (single i.second r) (within-single _ i.first q (omega arith)) (within-single _ i.second r (omega arith)))

      row_within : (a : Generator) (k : ℕ) → k < suc (max q r) → Within (suc (max q r)) (at a k)
      row_within a k l = by (place k)
        where
          by : Place k → Within (suc (max q r)) (at a k)
          by (at_first e) = subst (Within (suc (max q r))) (sym (first-at a e)) (pair_within (first a))
          by (at_second e) = subst (Within (suc (max q r))) (sym (second_at a e)) (pair_within (second a))
          by (elsewhere m n) = subst (Within (suc (max q r))) (sym (row_other a k m n)) (within-single _ (generator a) k l)

      wide : suc (max q r) ≤ qubits
      wide = omega arith

      proper_pair : Proper (on_qubits g q r)
      unfolding on_qubits
      proper_pair = rows-proper (on_qubits g q r) wide row_within

      pub clifford_on_qubits : Clifford (on_qubits g q r)
      clifford_on_qubits = record { proper = proper_pair; valid = valid_test (on_qubits g q r) valid_pair_lem }

  -- each of the 14 gates has a valid tableau on these two qubits
  pub two_qubit_clifford : All (λ g. Clifford (on_qubits g q r)) two_qubit_gates
  two_qubit_clifford = all_map clifford_on_qubits two_qubit_gates two_qubit-valid

-- Each gate's matrix is unitary up to a factor, is the one that the gate's name says, and conjugates X and Z to the gate's images; each by
-- one test that is computed over the table.
use mathlib.Core.Path.{◌≡◌, sym, subst}
use mathlib.Core.Bool.{Bool, true, false, cond, not, ◌&&◌}
use mathlib.Core.List.{List, [], ◌∷◌}
use Prim.Native.Nat.{ℕ}
use lib.Dec.{T, ltb}
use lib.IntN.{pos, nat_abs}
use borrow.Author.Tests.{ltb-true}
use Rattle.pauli_group.specs.Phase.{Phase, PlusOne}
use Rattle.pauli_group.specs.Letter.{I, X, Z}
use Rattle.pauli_group.specs.Papers.{Gaussian, gaussian, add_g, mul_g, conjugate_g, Matrix, matrix_product, scale_matrix, phase_number, pauli_matrix}
use Rattle.pauli_group.proofs.Finite.{phases}
use Rattle.pauli_group.proofs.PaperForms.{both, same-gaussian, same_matrix, equal_matrix}
use Rattle.clifford_gates.specs.Gates.{OneQubit, one_qubit_gates, TwoQubit, two_qubit_gates, All}
use Rattle.clifford_gates.specs.Unitaries.{add_matrix, sum_of, letter_root, face, one_qubit_forms, UpToFactor, adjoint, multiple, PositiveMultiple, Unitary}
use Rattle.clifford_gates.specs.Unitaries.{block_adjoint, block_multiple, UnitaryPair, state_exchange, scale_blocks, words, circuit, cnot, three_cnots, on_parity, two_qubit_circuits}
use Rattle.clifford_gates.proofs.GateTables.{is_true, contrary, all_of}
use Rattle.clifford_gates.specs.Unitaries.{hadamard, phase_gate, word, one_qubit_unitaries, image_matrix, Conjugates, Each, none, more}
use Rattle.clifford_gates.specs.Unitaries.{Blocks, block_product, add_blocks, kronecker, pair_matrix, controlled, root_of, exchange, g_gate, two_qubit_unitaries, pair_image_matrix, ConjugatesPair}

-- a test of all entries, and what it says of each
abbrev each_test : {A B : Type 0} → (A → B → Bool) → List A → List B → Bool
each_test test [] [] = true
each_test test [] (b ∷ ys) = false
each_test test (a ∷ xs) [] = false
each_test test (a ∷ xs) (b ∷ ys) = test a b && each_test test xs ys

each_of : {A B : Type 0} {R : A → B → Type 0} (test : A → B → Bool) → ((a : A) (b : B) → T (test a b) → R a b)
    → (xs : List A) (ys : List B) → T (each_test test xs ys) → Each R xs ys
each_of test sound [] [] t = none
each_of test sound [] (b ∷ ys) t = absurd t
each_of test sound (a ∷ xs) [] t = absurd t
each_of test sound (a ∷ xs) (b ∷ ys) t =
    let parts = both (test a b) (each_test test xs ys) t in
    more (sound a b parts.0) (each_of test sound xs ys parts.1)

-- ---- positive multiples of the identity, where equality is a test and `at` reads the number of a multiple
module _ {A : Type 0} (of : Gaussian → A) (same : A → A → Bool) (equal : (m n : A) → T (same m n) → m ≡ n) (at : A → Gaussian) where
  abbrev norm_of : A → ℕ
  norm_of m = nat_abs (at m).re

  abbrev is-multiple : A → Bool
  is-multiple m = same m (of (gaussian (pos (norm_of m)) (pos 0)))

  abbrev is_positive : A → Bool
  is_positive m = ltb 0 (norm_of m) && is-multiple m

  positive-is : (m : A) → T (is_positive m) → PositiveMultiple of m
  positive-is m t =
      let parts = both (ltb 0 (norm_of m)) (is-multiple m) t in
      record { norm = norm_of m; positive = ltb-true 0 (norm_of m) (is_true _ parts.0); is = equal _ _ parts.1 }

-- ---- equal up to a factor, where `at n` reads an entry that is not 0 in n: the factors are the two entries there
abbrev zero_g : Gaussian
zero_g = gaussian (pos 0) (pos 0)

abbrev some : Gaussian → Bool
some z = not (same-gaussian z zero_g)

not_zero : (z : Gaussian) → T (some z) → z ≡ zero_g → ⊥
not_zero z t e = contrary (same-gaussian z zero_g) (subst (λ w. T (same-gaussian w zero_g)) (sym e) tt) t

module _ {A : Type 0} (times : Gaussian → A → A) (same : A → A → Bool) (equal : (m n : A) → T (same m n) → m ≡ n) (at : A → A → Gaussian) (m n : A) where
  abbrev proportional : Bool
  proportional = same (times (at n n) m) (times (at n m) n)

  abbrev form_test : Bool
  form_test = (some (at n n) && some (at n m)) && proportional

  form_is : T form_test → UpToFactor times m n
  form_is t =
      let parts = both (some (at n n) && some (at n m)) proportional t in
      let others = both (some (at n n)) (some (at n m)) parts.0 in
      record {
        z = at n n;
        w = at n m;
        z_some = not_zero _ others.0;
        w_some = not_zero _ others.1;
        is = equal _ _ parts.1;
      }

-- ---- one qubit
abbrev unitary_test : Matrix → Bool
unitary_test u = is_positive multiple same_matrix equal_matrix (λ m. m.a) (matrix_product u (adjoint u))

pub one_qubit_unitary : All Unitary one_qubit_unitaries
unfolding one_qubit_unitaries word hadamard phase_gate multiple adjoint conjugate_g matrix_product scale_matrix pauli_matrix phase_number add_g mul_g
one_qubit_unitary =
    all_of unitary_test (λ u. positive-is multiple same_matrix equal_matrix (λ m. m.a) (matrix_product u (adjoint u))) one_qubit_unitaries tt

-- the entry of m in the first row where n has one that is not 0
abbrev entry_by : Matrix → Matrix → Gaussian
entry_by n m = cond (some n.a) m.a m.b

pub one_qubit_forms_lem : Each (UpToFactor scale_matrix) one_qubit_unitaries one_qubit_forms
unfolding one_qubit_unitaries one_qubit_forms word hadamard phase_gate sum_of letter_root face image_matrix add_matrix matrix_product scale_matrix pauli_matrix phase_number add_g mul_g
one_qubit_forms_lem =
    each_of (form_test scale_matrix same_matrix equal_matrix entry_by) (form_is scale_matrix same_matrix equal_matrix entry_by) one_qubit_unitaries one_qubit_forms tt

abbrev conjugates_x : Matrix → OneQubit → Bool
conjugates_x u g = same_matrix (matrix_product u (pauli_matrix X)) (matrix_product (image_matrix g.x) u)

abbrev conjugates_z : Matrix → OneQubit → Bool
conjugates_z u g = same_matrix (matrix_product u (pauli_matrix Z)) (matrix_product (image_matrix g.z) u)

abbrev conjugates : Matrix → OneQubit → Bool
conjugates u g = conjugates_x u g && conjugates_z u g

conjugates_is : (u : Matrix) (g : OneQubit) → T (conjugates u g) → Conjugates u g
conjugates_is u g t =
    let parts = both (conjugates_x u g) (conjugates_z u g) t in
    record { x = equal_matrix _ _ parts.0; z = equal_matrix _ _ parts.1 }

pub one_qubit_unitaries_lem : Each Conjugates one_qubit_unitaries one_qubit_gates
unfolding one_qubit_unitaries one_qubit_gates word hadamard phase_gate image_matrix matrix_product scale_matrix pauli_matrix phase_number add_g mul_g
one_qubit_unitaries_lem = each_of conjugates conjugates_is one_qubit_unitaries one_qubit_gates tt

-- ---- two qubits
abbrev same_blocks : Blocks → Blocks → Bool
same_blocks m n = (same_matrix m.a n.a && same_matrix m.b n.b) && (same_matrix m.c n.c && same_matrix m.d n.d)

equal_blocks : (m n : Blocks) → T (same_blocks m n) → m ≡ n
equal_blocks m n t =
    let rows = both (same_matrix m.a n.a && same_matrix m.b n.b) (same_matrix m.c n.c && same_matrix m.d n.d) t in
    let upper = both (same_matrix m.a n.a) (same_matrix m.b n.b) rows.0 in
    let lower = both (same_matrix m.c n.c) (same_matrix m.d n.d) rows.1 in
    let a : m.a ≡ n.a = equal_matrix m.a n.a upper.0 in
    let b : m.b ≡ n.b = equal_matrix m.b n.b upper.1 in
    let c : m.c ≡ n.c = equal_matrix m.c n.c lower.0 in
    let d : m.d ≡ n.d = equal_matrix m.d n.d lower.1 in
    λ i. record { a = a i; b = b i; c = c i; d = d i }

abbrev positive_blocks : Blocks → Bool
positive_blocks = is_positive block_multiple same_blocks equal_blocks (λ m. m.a.a)

positive_blocks_is : (m : Blocks) → T (positive_blocks m) → PositiveMultiple block_multiple m
positive_blocks_is = positive-is block_multiple same_blocks equal_blocks (λ m. m.a.a)

pub two_qubit_unitary : All UnitaryPair two_qubit_unitaries
unfolding two_qubit_unitaries controlled root_of exchange g_gate hadamard kronecker pair_matrix block_multiple block_adjoint multiple adjoint conjugate_g add_blocks add_matrix block_product matrix_product scale_matrix pauli_matrix phase_number add_g mul_g
two_qubit_unitary =
    all_of (λ u. positive_blocks (block_product u (block_adjoint u))) (λ u. positive_blocks_is (block_product u (block_adjoint u))) two_qubit_unitaries tt

-- G is its own inverse
pub g_own_inverse : PositiveMultiple block_multiple (block_product g_gate g_gate)
unfolding controlled g_gate hadamard kronecker block_multiple multiple add_matrix block_product matrix_product scale_matrix pauli_matrix phase_number add_g mul_g
g_own_inverse = positive_blocks_is (block_product g_gate g_gate) tt

pub exchange-is : (p : Phase) → exchange p ≡ state_exchange p
unfolding exchange state_exchange kronecker pair_matrix add_blocks add_matrix scale_matrix pauli_matrix phase_number add_g mul_g
exchange-is p = equal_blocks _ _ (phases.each (λ p. same_blocks (exchange p) (state_exchange p)) tt p)

pub two_qubit_circuits_lem : Each (UpToFactor scale_blocks) two_qubit_unitaries two_qubit_circuits
unfolding two_qubit_unitaries two_qubit_circuits circuit words cnot three_cnots on_parity word phase_gate scale_blocks controlled root_of exchange g_gate hadamard kronecker pair_matrix add_blocks add_matrix block_product matrix_product scale_matrix pauli_matrix phase_number add_g mul_g
two_qubit_circuits_lem =
    each_of (form_test scale_blocks same_blocks equal_blocks first_entry) (form_is scale_blocks same_blocks equal_blocks first_entry) two_qubit_unitaries two_qubit_circuits tt
  where
    first_entry : Blocks → Blocks → Gaussian
    first_entry n m = m.a.a

-- U·P and P'·U are the same
abbrev carries : Blocks → Blocks → Blocks → Bool
carries u p image = same_blocks (block_product u p) (block_product image u)

module _ (u : Blocks) (g : TwoQubit) where
  abbrev carries_x : Bool
  carries_x = carries u (pair_matrix PlusOne X I) (pair_image_matrix g.x0) && carries u (pair_matrix PlusOne I X) (pair_image_matrix g.x1)

  abbrev carries_z : Bool
  carries_z = carries u (pair_matrix PlusOne Z I) (pair_image_matrix g.z0) && carries u (pair_matrix PlusOne I Z) (pair_image_matrix g.z1)

  abbrev conjugates_pair : Bool
  conjugates_pair = carries_x && carries_z

  conjugates_pair_is : T conjugates_pair → ConjugatesPair u g
  conjugates_pair_is t =
      let halves = both carries_x carries_z t in
      let xs = both (carries u (pair_matrix PlusOne X I) (pair_image_matrix g.x0)) (carries u (pair_matrix PlusOne I X) (pair_image_matrix g.x1)) halves.0 in
      let zs = both (carries u (pair_matrix PlusOne Z I) (pair_image_matrix g.z0)) (carries u (pair_matrix PlusOne I Z) (pair_image_matrix g.z1)) halves.1 in
      record { x0 = equal_blocks _ _ xs.0; x1 = equal_blocks _ _ xs.1; z0 = equal_blocks _ _ zs.0; z1 = equal_blocks _ _ zs.1 }

pub two_qubit_unitaries_lem : Each ConjugatesPair two_qubit_unitaries two_qubit_gates
unfolding two_qubit_unitaries two_qubit_gates controlled root_of exchange g_gate hadamard kronecker pair_matrix pair_image_matrix add_blocks add_matrix block_product matrix_product scale_matrix pauli_matrix phase_number add_g mul_g
two_qubit_unitaries_lem = each_of conjugates_pair conjugates_pair_is two_qubit_unitaries two_qubit_gates tt

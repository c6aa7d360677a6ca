-- Gates by number, their names, and the 24 products (scope document, "Gate number" and "Tableau record").
use Rattle.std.specs.Prelude.{ℕ, suc, ◌-◌, ◌%◌, Bool, true, false, cond, not, ◌&&◌, List, [], ◌∷◌, eqb, ltb, get_or}
use Rattle.pauli_group.specs.Phase.{Phase, PlusOne, MinusOne, PlusI, MinusI, is_real}
use Rattle.pauli_group.specs.Letter.{Letter, I, X, Z}
use Rattle.pauli_group.specs.PauliString.{PauliString}
use Rattle.clifford_group.specs.Tableau.{Tableau, identity_tableau, compose, inverse, has_x, has_z}
use Rattle.clifford_gates.specs.Gates.{Image, OneQubit, one_qubit_gates, TwoQubit, two_qubit, two_qubit_gates, pair_plus}
use Rattle.clifford_gates.specs.GateTableaux.{unchanged, on_qubit, on_qubits}
use Rattle.clifford_gates.specs.Unitaries.{WordGate, H, S}

-- ---- the tableau of a gate

abbrev pub pair_unchanged : TwoQubit
pair_unchanged = two_qubit (pair_plus X I) (pair_plus I X) (pair_plus Z I) (pair_plus I Z)

-- gate g of 0 to 23, and gate g of 24 to 37
unfoldable pub one_qubit_gate : ℕ → OneQubit
one_qubit_gate g = get_or one_qubit_gates g unchanged

unfoldable pub two_qubit_gate : ℕ → TwoQubit
two_qubit_gate g = get_or two_qubit_gates (g - 24) pair_unchanged

-- "A second qubit given with a gate of 0 to 23 isn't looked at"
unfoldable pub gate_tableau : ℕ → ℕ → ℕ → Tableau
gate_tableau g q r = cond (ltb g 24) (on_qubit (one_qubit_gate g) q) (on_qubits (two_qubit_gate g) q r)

-- ---- the name of a tableau

-- equality by two bits: of letters x and z, of phases whether it is real and whether it has a minus
unfoldable pub same_bit : Bool → Bool → Bool
same_bit a b = cond a b (not b)

unfoldable pub same_letter : Letter → Letter → Bool
same_letter a b = same_bit (has_x a) (has_x b) && same_bit (has_z a) (has_z b)

unfoldable pub has_minus : Phase → Bool
has_minus PlusOne = false
has_minus MinusOne = true
has_minus PlusI = false
has_minus MinusI = true

unfoldable pub same_phase : Phase → Phase → Bool
same_phase p q = same_bit (is_real p) (is_real q) && same_bit (has_minus p) (has_minus q)

unfoldable pub matches_image : Image → PauliString → Bool
matches_image i s = same_phase i.phase s.phase && same_letter i.letter (s.letters 0)

-- a gate whose images, phases included, are the rows of qubit 0
unfoldable pub matches : Tableau → OneQubit → Bool
matches t g = matches_image g.x (t.x_image 0) && matches_image g.z (t.z_image 0)

-- the number of the first entry that has f, and the length where none has
unfoldable pub first_with : {A : Type 0} → (A → Bool) → List A → ℕ
first_with f [] = 0
first_with f (a ∷ rest) = cond (f a) 0 (suc (first_with f rest))

-- "the first of the 24 gates, by number, whose images match, or none": the gate whose tableau on qubit 0 this is; none is 24. "Width
-- other than 1 gives none."
unfoldable pub name_of : Tableau → ℕ
name_of t = cond (eqb t.width 1) (first_with (matches t) one_qubit_gates) 24

-- ---- "`compose` and `inverse` agree with the tableaux"

-- the name of the composed tableau
unfoldable pub compose_gate : ℕ → ℕ → ℕ
compose_gate g h = name_of (compose (on_qubit (one_qubit_gate g) 0) (on_qubit (one_qubit_gate h) 0))

-- CX, CY, CZ and SWAP are their own inverses; the others come in pairs of a plain gate and its dg gate
unfoldable pub inverse_pair : ℕ → ℕ
inverse_pair g = cond (ltb g 28) g (cond (eqb (g % 2) 0) (suc g) (g - 1))

-- the name of the inverse; "`inverse` turns 36 into 37 and 37 into 36"
unfoldable pub inverse_gate : ℕ → ℕ
inverse_gate g = cond (ltb g 24) (name_of (inverse (on_qubit (one_qubit_gate g) 0))) (inverse_pair g)

-- the inverses by number
unfoldable pub inverse_numbers : List ℕ
inverse_numbers =
    0 ∷ 1 ∷ 2 ∷ 3 ∷ 4 ∷ 5 ∷ 6 ∷ 7 ∷ 8 ∷ 9 ∷ 11 ∷ 10 ∷ 13 ∷ 12 ∷ 15 ∷ 14 ∷ 17 ∷ 16 ∷ 19 ∷ 18 ∷ 21 ∷ 20 ∷ 23 ∷ 22 ∷
    24 ∷ 25 ∷ 26 ∷ 27 ∷ 29 ∷ 28 ∷ 31 ∷ 30 ∷ 33 ∷ 32 ∷ 35 ∷ 34 ∷ 37 ∷ 36 ∷ []

-- ---- "the 24 products of `single_qubit_cliffords`"

-- H and SZ
unfoldable pub word_gate_number : WordGate → ℕ
word_gate_number H = 4
word_gate_number S = 14

-- the sequences of clifford_rep.rs
unfoldable pub sequences : List (List WordGate)
sequences =
    [] ∷  -- 0: I
    (H ∷ S ∷ S ∷ H ∷ []) ∷  -- 1: X
    (S ∷ S ∷ H ∷ S ∷ S ∷ H ∷ []) ∷  -- 2: Y
    (S ∷ S ∷ []) ∷  -- 3: Z
    (S ∷ []) ∷  -- 4
    (S ∷ S ∷ S ∷ []) ∷  -- 5
    (H ∷ []) ∷  -- 6
    (S ∷ H ∷ []) ∷  -- 7
    (H ∷ S ∷ []) ∷  -- 8
    (S ∷ S ∷ H ∷ []) ∷  -- 9
    (H ∷ S ∷ S ∷ []) ∷  -- 10
    (S ∷ S ∷ S ∷ H ∷ []) ∷  -- 11
    (S ∷ H ∷ S ∷ []) ∷  -- 12
    (H ∷ S ∷ H ∷ []) ∷  -- 13
    (S ∷ H ∷ S ∷ H ∷ []) ∷  -- 14
    (S ∷ S ∷ H ∷ S ∷ []) ∷  -- 15
    (S ∷ H ∷ S ∷ S ∷ []) ∷  -- 16
    (S ∷ S ∷ S ∷ H ∷ S ∷ []) ∷  -- 17
    (S ∷ S ∷ H ∷ S ∷ S ∷ []) ∷  -- 18
    (S ∷ S ∷ H ∷ S ∷ H ∷ []) ∷  -- 19
    (H ∷ S ∷ S ∷ H ∷ S ∷ []) ∷  -- 20
    (S ∷ S ∷ S ∷ H ∷ S ∷ S ∷ []) ∷  -- 21
    (S ∷ S ∷ S ∷ H ∷ S ∷ H ∷ []) ∷  -- 22
    (H ∷ S ∷ S ∷ H ∷ S ∷ S ∷ S ∷ []) ∷  -- 23
    []

-- each next gate composed on the right, so the rightmost acts first
unfoldable pub word_product : ℕ → Tableau → List WordGate → Tableau
word_product q t [] = t
word_product q t (g ∷ w) = word_product q (compose t (on_qubit (one_qubit_gate (word_gate_number g)) q)) w

unfoldable pub single_qubit_clifford : ℕ → ℕ → Tableau
single_qubit_clifford k q = word_product q (identity_tableau (suc q)) (get_or sequences k [])

-- the gates that the products are, by index
unfoldable pub product_gates : List ℕ
product_gates =
    0 ∷ 1 ∷ 2 ∷ 3 ∷ 14 ∷ 15 ∷ 4 ∷ 17 ∷ 23 ∷ 13 ∷ 12 ∷ 22 ∷ 11 ∷ 10 ∷ 16 ∷ 20 ∷ 18 ∷ 9 ∷ 5 ∷ 8 ∷ 7 ∷ 21 ∷ 19 ∷ 6 ∷ []

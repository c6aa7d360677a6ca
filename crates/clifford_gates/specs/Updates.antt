-- What a gate does to a string: it changes the letters of its own qubits, and the phase. For H, SZ and CX also as the updates of a
-- row by Aaronson and Gottesman (section III, the cases "CNOT", "Hadamard" and "Phase").
use Rattle.std.specs.Prelude.{ℕ, Bool, true, cond, not, ◌&&◌, eqb}
use Rattle.pauli_group.specs.Phase.{Phase, PlusI, sign, ◌·◌}
use Rattle.pauli_group.specs.Letter.{Letter, I, X, Z, Y, letter_mul, letter_phase}
use Rattle.pauli_group.specs.PauliString.{PauliString}
use Rattle.clifford_group.specs.Tableau.{has_x, has_z, letter_of_bits}
use Rattle.clifford_gates.specs.Gates.{Image, plus, OneQubit, one_qubit, PairImage, pair_plus, TwoQubit, two_qubit}

-- ---- letters

-- the product of two images on one qubit, times i: the image of Y = iXZ
unfoldable pub times_i : Image → Image → Image
times_i i j = record {
  phase = PlusI · ((i.phase · j.phase) · letter_phase i.letter j.letter);
  letter = letter_mul i.letter j.letter;
}

-- what a one-qubit gate makes of a letter on its qubit
unfoldable pub letter_image : OneQubit → Letter → Image
letter_image g I = plus I
letter_image g X = g.x
letter_image g Z = g.z
letter_image g Y = times_i g.x g.z

-- an image times a phase
unfoldable pub scaled : Phase → Image → Image
scaled p i = record { phase = p · i.phase; letter = i.letter }

-- what a gate makes of an image
unfoldable pub sent_image : OneQubit → Image → Image
sent_image g i = scaled i.phase (letter_image g i.letter)

-- h first, then g, on one qubit
unfoldable pub compose_images : OneQubit → OneQubit → OneQubit
compose_images g h = one_qubit (sent_image g h.x) (sent_image g h.z)

-- the product of two images on the same two qubits
unfoldable pub pair_times : PairImage → PairImage → PairImage
pair_times i j = record {
  phase = (i.phase · j.phase) · (letter_phase i.first j.first · letter_phase i.second j.second);
  first = letter_mul i.first j.first;
  second = letter_mul i.second j.second;
}

unfoldable pub pair_times_i : PairImage → PairImage → PairImage
pair_times_i i j = record { phase = PlusI · (pair_times i j).phase; first = (pair_times i j).first; second = (pair_times i j).second }

-- the image of a letter on one of the two qubits, whose X and Z have these images
unfoldable pub own_image : PairImage → PairImage → Letter → PairImage
own_image x z I = pair_plus I I
own_image x z X = x
own_image x z Z = z
own_image x z Y = pair_times_i x z

-- what a two-qubit gate makes of a letter on each of its qubits
unfoldable pub pair_image : TwoQubit → Letter → Letter → PairImage
pair_image g a b = pair_times (own_image g.x0 g.z0 a) (own_image g.x1 g.z1 b)

unfoldable pub pair_scaled : Phase → PairImage → PairImage
pair_scaled p i = record { phase = p · i.phase; first = i.first; second = i.second }

unfoldable pub sent_pair : TwoQubit → PairImage → PairImage
sent_pair g i = pair_scaled i.phase (pair_image g i.first i.second)

-- h first, then g, on the same two qubits
unfoldable pub compose_pair_images : TwoQubit → TwoQubit → TwoQubit
compose_pair_images g h = two_qubit (sent_pair g h.x0) (sent_pair g h.x1) (sent_pair g h.z0) (sent_pair g h.z1)

-- ---- strings

unfoldable pub with_letter : ℕ → Letter → (ℕ → Letter) → ℕ → Letter
with_letter q l f k = cond (eqb k q) l (f k)

-- a string whose letter on q, or whose letters on q and r, become an image
unfoldable pub image_at : ℕ → Image → PauliString → PauliString
image_at q i s = record { phase = s.phase · i.phase; letters = with_letter q i.letter s.letters }

unfoldable pub pair_at : ℕ → ℕ → PairImage → PauliString → PauliString
pair_at q r i s = record { phase = s.phase · i.phase; letters = with_letter q i.first (with_letter r i.second s.letters) }

-- ---- Aaronson and Gottesman: bits x and z of each qubit, r the sign

infixl 30 ◌xor◌
unfoldable pub ◌xor◌ : Bool → Bool → Bool
a xor b = cond a (not b) b

-- Hadamard on a: r := r ⊕ x_a z_a, and x_a and z_a change places
unfoldable pub hadamard_update : ℕ → PauliString → PauliString
hadamard_update a s = record {
  phase = s.phase · sign (has_x (s.letters a) && has_z (s.letters a));
  letters = with_letter a (letter_of_bits (has_z (s.letters a)) (has_x (s.letters a))) s.letters;
}

-- Phase on a: r := r ⊕ x_a z_a, z_a := z_a ⊕ x_a
unfoldable pub phase_update : ℕ → PauliString → PauliString
phase_update a s = record {
  phase = s.phase · sign (has_x (s.letters a) && has_z (s.letters a));
  letters = with_letter a (letter_of_bits (has_x (s.letters a)) (has_z (s.letters a) xor has_x (s.letters a))) s.letters;
}

-- CNOT from a to b: r := r ⊕ x_a z_b (x_b ⊕ z_a ⊕ 1), x_b := x_b ⊕ x_a, z_a := z_a ⊕ z_b
unfoldable pub cnot_sign : Letter → Letter → Bool
cnot_sign l m = (has_x l && has_z m) && ((has_x m xor has_z l) xor true)

unfoldable pub cnot_update : ℕ → ℕ → PauliString → PauliString
cnot_update a b s = record {
  phase = s.phase · sign (cnot_sign (s.letters a) (s.letters b));
  letters =
      with_letter a (letter_of_bits (has_x (s.letters a)) (has_z (s.letters a) xor has_z (s.letters b)))
      (with_letter b (letter_of_bits (has_x (s.letters b) xor has_x (s.letters a)) (has_z (s.letters b))) s.letters);
}

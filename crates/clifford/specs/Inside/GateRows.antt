-- The entries of the gates' tables and the rows made from them, as the functions on them promise one another.
use Rattle.std.specs.Prelude.{◌≡◌, ℕ, zero, suc, ◌+◌, ◌<◌, ◌≤◌, Bool, ◌≢◌, List, [], ◌∷◌, length, nat_eq, slice_index}
use lib.Pointwise.{pointwise}
use Rattle.pauli_group.specs.PauliString.{PauliString, mul, scale, single}
use Rattle.clifford_gates.specs.Gates.{Image, one_qubit_gates, PairImage, TwoQubit}
use Rattle.clifford_gates.specs.GateNumbers.{first_with}
use Rattle.pauli.specs.Layout.{phase_byte, phase_of, letter_byte, letter_of}
use Rattle.pauli.specs.declared.algebra.PhasedLetter.{PhasedLetter}
use Rattle.clifford.specs.declared.gates.RowImage.{RowImage}
use Rattle.clifford.specs.GateQuestions.{gate_width}
use Rattle.clifford.specs.GateRows.{image_bytes}

-- an entry of `IMAGES_2Q`: the sign and the letters of the images of X on the first and on the second qubit, and of Z
unfoldable pub pair_bytes : TwoQubit → List ℕ
pair_bytes g =
    phase_byte g.x0.phase ∷ letter_byte g.x0.first ∷ letter_byte g.x0.second ∷
    phase_byte g.x1.phase ∷ letter_byte g.x1.first ∷ letter_byte g.x1.second ∷
    phase_byte g.z0.phase ∷ letter_byte g.z0.first ∷ letter_byte g.z0.second ∷
    phase_byte g.z1.phase ∷ letter_byte g.z1.first ∷ letter_byte g.z1.second ∷ []

-- an image on two qubits as a phase byte and two letter bytes
pub record PairOf (i : PairImage) (x : RowImage) : Type 0 where
  pub phase : x.sign ≡ phase_byte i.phase
  pub first : x.first_letter ≡ letter_byte i.first
  pub second : x.second_letter ≡ letter_byte i.second

-- the image of the letter byte 1, X, or of another, Z
unfoldable pub generator_image : PairImage → PairImage → ℕ → PairImage
generator_image x z zero = z
generator_image x z (suc zero) = x
generator_image x z (suc (suc l)) = z

-- ---- gates found by their images

-- the image that a phase byte and a letter byte hold
unfoldable pub image_held : PhasedLetter → Image
image_held p = record { phase = phase_of p.0; letter = letter_of p.1 }

-- two entries are the same
abbrev pub same_entry : List ℕ → List ℕ → Bool
same_entry a b = pointwise nat_eq a b

-- the first gate with this entry
unfoldable pub first_entry : List ℕ → ℕ
first_entry e = first_with (λ g. same_entry (image_bytes g) e) one_qubit_gates

-- ---- rows of a gate's tableau

-- a sign, a letter on a qubit and one more letter on a qubit, as a string
unfoldable pub row_image_string : RowImage → PauliString
row_image_string i = scale (phase_of i.sign) (mul (single (letter_of i.first_letter) i.first_qubit) (single (letter_of i.second_letter) i.second_qubit))

-- i is the string s, which has letters on qubit k alone
pub record OneRow (s : PauliString) (k : ℕ) (i : RowImage) : Type 0 where
  pub string : row_image_string i ≡ s
  pub sign : i.sign ≤ 3
  pub first : i.first_qubit ≡ k
  pub second : i.second_qubit ≡ k

-- the image that starts at the place k of an entry, on the qubits q and r
unfoldable pub entry_pair : List ℕ → ℕ → ℕ → ℕ → RowImage
entry_pair e k q r = record { sign = slice_index e k; first_letter = slice_index e (k + 1); first_qubit = q; second_letter = slice_index e (k + 2); second_qubit = r }

-- i is the string s, of w letters
pub record RowImageOf (w : ℕ) (s : PauliString) (i : RowImage) : Type 0 where
  pub string : row_image_string i ≡ s
  pub sign : i.sign ≤ 3
  pub first : i.first_qubit < w
  pub second : i.second_qubit < w

-- ---- what the functions that write them may count on

-- a gate and its qubits, as its questions let them by
pub record GateOn (g q r : ℕ) : Type 0 where
  pub gate : g < 38
  pub first : q < 128
  pub second : 24 ≤ g → r < 128
  pub different : 24 ≤ g → q ≢ r

-- an image, and a work row of any content that it fits
pub record PutsImage (i : RowImage) (d : List ℕ) : Type 0 where
  pub sign : i.sign ≤ 3
  pub first : i.first_qubit + 1 < length d
  pub second : i.second_qubit + 1 < length d
  pub narrow : length d ≤ 129

-- w is the width of a gate's tableau
pub record GateSpan (g q r w : ℕ) : Type 0 where
  pub is : w ≡ gate_width g q r
  pub small : w ≤ 128

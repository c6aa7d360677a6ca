-- The bytes of a tableau record. Its layout stands here and nowhere else. Scope document, "Tableau record", and change requests,
-- "Row weights stored".
use Rattle.std.specs.Prelude.{◌≡◌, ℕ, zero, suc, ◌+◌, ◌-◌, ◌*◌, ◌%◌, ◌<◌, ◌≤◌, cond, ◌&&◌, List, [], ◌∷◌, ◌++◌, length, take, drop, nat_le, nat_lt, slice_index, slice_index_or, slice_set}
use Rattle.pauli_group.specs.Phase.{◌·◌}
use Rattle.pauli_group.specs.Letter.{Letter, I, X, Z, not_i}
use Rattle.pauli_group.specs.PauliString.{PauliString, qubits, identity_string, weight_to}
use Rattle.clifford_group.specs.Tableau.{Tableau}
use Rattle.clifford_group.specs.Conjugation.{Generator, of_x, of_z}
use Rattle.clifford_gates.specs.Gates.{Image, PairImage}
use Rattle.pauli.specs.Places.{listed}
use Rattle.pauli.specs.Layout.{phase_byte, phase_of, letter_byte, letter_of}

-- ---- rows: "a row is a phase and n letters", and "a weight byte, the number of non-I letters in the row, between phase and letters".
-- A row of a tableau has a codec of its own, apart from that of strings, which have no weight.

-- where the weight stands in a row, and where the letter of qubit q: the letters come last
abbrev pub weight_place : ℕ
weight_place = 1

unfoldable pub letter_place : ℕ → ℕ
letter_place q = suc (suc q)

unfoldable pub row_length : ℕ → ℕ
row_length w = letter_place w

unfoldable pub encode_row : ℕ → PauliString → List ℕ
encode_row w s = phase_byte s.phase ∷ weight_to w s ∷ listed w (λ q. letter_byte (s.letters q))

-- Of a row of any bytes, where one above 3 is read as 3: the letter on qubit q.
unfoldable pub letter_in : List ℕ → ℕ → Letter
letter_in b q = letter_of (slice_index b (letter_place q))

unfoldable pub decode_row : ℕ → List ℕ → PauliString
decode_row w b = record {
  phase = phase_of (slice_index b 0);
  letters = λ q. cond (nat_lt q w) (letter_in b q) I;
}

-- with these bytes as its phase and as its letter on qubit q; every other byte stays
unfoldable pub row_with : ℕ → (phase letter : ℕ) → List ℕ → List ℕ
row_with q p x b = slice_set (slice_set b 0 p) (letter_place q) x

-- Its phase times that of an image, and the image's letter on qubit q. The weight stays: a one-qubit gate leaves I and makes no other
-- letter I.
unfoldable pub with_image : ℕ → Image → List ℕ → List ℕ
with_image q i b = row_with q (phase_byte (phase_of (slice_index b 0) · i.phase)) (letter_byte i.letter) b

-- the same with two letters, on qubits q and r, and with a weight
unfoldable pub row_with_pair : ℕ → ℕ → (phase weight first second : ℕ) → List ℕ → List ℕ
row_with_pair q r p v x y b = slice_set (row_with q p x (slice_set b weight_place v)) (letter_place r) y

-- how many of two letters are other than I; what is added to a row's weight, modulo 256, where a and b become the letters of an image
unfoldable pub pair_weight : Letter → Letter → ℕ
pair_weight a b = cond (not_i a) 1 0 + cond (not_i b) 1 0

unfoldable pub weight_change : Letter → Letter → PairImage → ℕ
weight_change a b i = (256 + pair_weight i.first i.second - pair_weight a b) % 256

-- Its phase times that of an image, the image's letters on qubits q and r, and its weight by the difference.
unfoldable pub with_pair : ℕ → ℕ → PairImage → List ℕ → List ℕ
with_pair q r i b =
    row_with_pair q r (phase_byte (phase_of (slice_index b 0) · i.phase))
    ((slice_index b weight_place + weight_change (letter_in b q) (letter_in b r) i) % 256) (letter_byte i.first) (letter_byte i.second) b

-- its letter bytes
unfoldable pub letters_of : List ℕ → List ℕ
letters_of b = drop (letter_place 0) b

-- the bytes of some row of w letters
pub record FormedRow (w : ℕ) (b : List ℕ) : Type 0 where
  pub long : length b ≡ row_length w
  pub phase : slice_index_or b 0 0 ≤ 3
  pub letters : (q : ℕ) → q < w → slice_index b (letter_place q) ≤ 3
  pub weight : slice_index_or b weight_place 0 ≡ weight_to w (decode_row w b)

-- ---- records: "Byte 0 is the width n, 0 to 128. X rows 0 to n−1 follow, then Z rows"

-- where row r starts
unfoldable pub row_offset : ℕ → ℕ → ℕ
row_offset w r = 1 + r * row_length w

-- "record length becomes 1 + 2n(n+2)"
unfoldable pub record_length : ℕ → ℕ
record_length w = 1 + 2 * w * row_length w

-- "at most 33,281" bytes: a record of width 128
abbrev pub longest_record : ℕ
longest_record = 33281

-- the rows of a tableau in the order of its record
unfoldable pub row_of : Tableau → ℕ → PauliString
row_of t r = cond (nat_lt r t.width) (t.x_image r) (t.z_image (r - t.width))

-- row r at width w is the image of this letter on this qubit
unfoldable pub row_qubit : ℕ → ℕ → ℕ
row_qubit w r = cond (nat_lt r w) r (r - w)

unfoldable pub row_letter : ℕ → ℕ → Letter
row_letter w r = cond (nat_lt r w) X Z

-- and the row of the image of X or Z on qubit q
abbrev pub generator_row : Generator → ℕ → ℕ → ℕ
generator_row of_x w q = q
generator_row of_z w q = w + q

-- the lists f 0 to f (k - 1), one after another
unfoldable pub joined : ℕ → (ℕ → List ℕ) → List ℕ
joined zero f = []
joined (suc k) f = joined k f ++ f k

unfoldable pub tableau_record : Tableau → List ℕ
tableau_record t = t.width ∷ joined (2 * t.width) (λ r. encode_row t.width (row_of t r))

-- read back: the width, the part of row r, and the tableau
abbrev pub width_of : List ℕ → ℕ
width_of b = slice_index b 0

unfoldable pub row_part : List ℕ → ℕ → List ℕ
row_part b r = take (row_length (width_of b)) (drop (row_offset (width_of b) r) b)

unfoldable pub tableau_of : List ℕ → Tableau
tableau_of b = record {
  width = width_of b;
  x_image = λ q. decode_row (width_of b) (row_part b q);
  z_image = λ q. decode_row (width_of b) (row_part b (width_of b + q));
}

-- row r of a record of any bytes, as it is read by letter: the identity string where a record of this width has no such row
unfoldable pub read_row : List ℕ → ℕ → PauliString
read_row b r = cond (nat_le (width_of b) qubits && nat_lt r (2 * width_of b)) (row_of (tableau_of b) r) identity_string

-- a record with each of its rows changed
unfoldable pub each_row : (List ℕ → List ℕ) → List ℕ → List ℕ
each_row f b = width_of b ∷ joined (2 * width_of b) (λ r. f (row_part b r))

-- the bytes of some tableau of width at most 128
pub record FormedTableau (b : List ℕ) : Type 0 where
  pub some : 0 < length b
  pub narrow : width_of b ≤ 128
  pub long : length b ≡ record_length (width_of b)
  pub rows : (r : ℕ) → r < 2 * width_of b → FormedRow (width_of b) (row_part b r)

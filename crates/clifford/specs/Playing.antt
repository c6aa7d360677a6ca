-- A gate composed on the left of a tableau record, in place: each row changes its phase, and its letters on the gate's qubits.
use Rattle.std.specs.Prelude.{◌≡◌, ℕ, ◌+◌, ◌-◌, ◌*◌, ◌/◌, ◌%◌, Bool, true, cond, not, ◌&&◌, List, [], ◌∷◌, length, ◌==◌, bit_xor, nat_le, nat_lt, slice_index, slice_index_or}
use Rattle.pauli_group.specs.Letter.{Letter}
use Rattle.clifford_gates.specs.Gates.{Image, PairImage}
use Rattle.clifford_gates.specs.GateNumbers.{one_qubit_gate, two_qubit_gate}
use Rattle.clifford_gates.specs.Updates.{letter_image, pair_image}
use Rattle.pauli.specs.Places.{listed}
use Rattle.pauli.specs.Layout.{phase_byte, phase_of, letter_byte, letter_of}
use Rattle.clifford.specs.Layout.{record_length, width_of, weight_place, letter_in, row_with, with_image, weight_change, row_with_pair, with_pair, each_row}

-- gate g on qubit q of a row, or on qubits q and r
unfoldable pub gate_on_row : ℕ → ℕ → ℕ → List ℕ → List ℕ
gate_on_row g q r b =
    cond (nat_lt g 24)
    (with_image q (letter_image (one_qubit_gate g) (letter_in b q)) b)
    (with_pair q r (pair_image (two_qubit_gate g) (letter_in b q) (letter_in b r)) b)

-- the second qubit of a two-qubit gate is below the width w and another than the first; that of a one-qubit gate isn't looked at
unfoldable pub second_fits : ℕ → ℕ → ℕ → ℕ → Bool
second_fits g q r w = cond (nat_lt g 24) true (nat_lt r w && not (q == r))

-- g is a gate, its qubits are below the width and different, and the record is as long as its width says
unfoldable pub playable : ℕ → ℕ → ℕ → List ℕ → Bool
playable g q r t =
    let w : ℕ = width_of t in
    nat_lt g 38 && (nat_lt q w && (second_fits g q r w && (nat_le w 128 && length t == record_length w)))

-- the record after the gate; where the gate has no place in it, it stays
unfoldable pub played : ℕ → ℕ → ℕ → List ℕ → List ℕ
played g q r t = cond (playable g q r t) (each_row (gate_on_row g q r) t) t

-- what the kernel promises of a record t: whether the gate was played, and the bytes e at exit
pub record GatePlayed (g q r : ℕ) (t e : List ℕ) (b : Bool) : Type 0 where
  pub flag : b ≡ playable g q r t
  pub bytes : e ≡ played g q r t

-- ---- the gates' tables

-- what a one-qubit gate makes of the letter a, at a: the signs and the letters
unfoldable pub letter_column : ℕ → (Image → ℕ) → List ℕ
letter_column g f = listed 4 (λ k. f (letter_image (one_qubit_gate g) (letter_of k)))

unfoldable pub letter_table : ℕ → List (List ℕ)
letter_table g = letter_column g (λ i. phase_byte i.phase) ∷ letter_column g (λ i. letter_byte i.letter) ∷ []

-- what a two-qubit gate makes of the letters a and b, at 4a + b: the signs, what is added to the weight, the first letters and the
-- second ones
unfoldable pub pair_column : ℕ → (Letter → Letter → PairImage → ℕ) → List ℕ
pair_column g f = listed 16 (λ k. f (letter_of (k / 4)) (letter_of (k % 4)) (pair_image (two_qubit_gate g) (letter_of (k / 4)) (letter_of (k % 4))))

unfoldable pub pair_table : ℕ → List (List ℕ)
pair_table g =
    pair_column g (λ a b i. phase_byte i.phase) ∷
    pair_column g weight_change ∷
    pair_column g (λ a b i. letter_byte i.first) ∷
    pair_column g (λ a b i. letter_byte i.second) ∷
    []

-- of gates 0 to 23, and of gates 24 to 37
unfoldable pub letter_tables : List (List (List ℕ))
letter_tables = listed 24 letter_table

unfoldable pub pair_tables : List (List (List ℕ))
pair_tables = listed 14 (λ k. pair_table (24 + k))

-- what row j of a table of any bytes has at place k
unfoldable pub table_entry : List (List ℕ) → ℕ → ℕ → ℕ
table_entry e j k = slice_index (slice_index_or e j []) k

-- a row changed on qubit q as a table says; a sign is put into the phase's byte by its bits
unfoldable pub letter_table_on_row : List (List ℕ) → ℕ → List ℕ → List ℕ
letter_table_on_row e q b =
    let at : ℕ → ℕ = λ j. table_entry e j (letter_byte (letter_in b q)) in
    row_with q (bit_xor (phase_byte (phase_of (slice_index b 0))) (at 0)) (at 1) b

-- and on qubits q and r
unfoldable pub pair_table_on_row : List (List ℕ) → ℕ → ℕ → List ℕ → List ℕ
pair_table_on_row e q r b =
    let at : ℕ → ℕ = λ j. table_entry e j (4 * letter_byte (letter_in b q) + letter_byte (letter_in b r)) in
    row_with_pair q r (bit_xor (phase_byte (phase_of (slice_index b 0))) (at 0)) ((slice_index b weight_place + at 1) % 256) (at 2) (at 3) b

-- gate g on a row by tables of any bytes: `ones` for the one-qubit gates, `twos` for the others
unfoldable pub table_on_row : (ones twos : List (List (List ℕ))) → ℕ → ℕ → ℕ → List ℕ → List ℕ
table_on_row ones twos g q r = cond (nat_lt g 24) (letter_table_on_row (slice_index_or ones g []) q) (pair_table_on_row (slice_index_or twos (g - 24) []) q r)

-- the record after it; `gate-played`: by the gates' own tables it is `played`
unfoldable pub played_by : (ones twos : List (List (List ℕ))) → ℕ → ℕ → ℕ → List ℕ → List ℕ
played_by ones twos g q r t = cond (playable g q r t) (each_row (table_on_row ones twos g q r) t) t

-- what the kernel promises where it is lent tables
pub record PlayedBy (ones twos : List (List (List ℕ))) (g q r : ℕ) (t e : List ℕ) (b : Bool) : Type 0 where
  pub flag : b ≡ playable g q r t
  pub bytes : e ≡ played_by ones twos g q r t

-- The bytes of phases, letters and string records. The layout of a string stands here and nowhere else.
-- Scope document, "Phase and letter" and "String record".
use Rattle.std.specs.Prelude.{◌≡◌, ℕ, zero, suc, ◌<◌, ◌≤◌, cond, List, ◌∷◌, length, nat_lt, slice_index}
use Rattle.pauli_group.specs.Phase.{Phase, PlusOne, MinusOne, PlusI, MinusI}
use Rattle.pauli_group.specs.Letter.{Letter, I, X, Z, Y}
use Rattle.pauli_group.specs.PauliString.{PauliString, qubits}
use Rattle.pauli.specs.Places.{listed}

-- "Phase byte: 0 is +1, 1 is −1, 2 is +i, 3 is −i"
unfoldable pub phase_byte : Phase → ℕ
phase_byte PlusOne = 0
phase_byte MinusOne = 1
phase_byte PlusI = 2
phase_byte MinusI = 3

-- "Letter byte: 0 I, 1 X, 2 Z, 3 Y"
unfoldable pub letter_byte : Letter → ℕ
letter_byte I = 0
letter_byte X = 1
letter_byte Z = 2
letter_byte Y = 3

-- The way back. A byte above 3 is no phase and no letter; kernels read it as 3, and records that hold one are refused.
unfoldable pub phase_of : ℕ → Phase
phase_of zero = PlusOne
phase_of (suc zero) = MinusOne
phase_of (suc (suc zero)) = PlusI
phase_of (suc (suc (suc b))) = MinusI

unfoldable pub letter_of : ℕ → Letter
letter_of zero = I
letter_of (suc zero) = X
letter_of (suc (suc zero)) = Z
letter_of (suc (suc (suc b))) = Y

-- A string's bytes: its phase, then the letters of qubits 0 to w - 1. A string record has all `qubits` of them.
unfoldable pub encode_string : ℕ → PauliString → List ℕ
encode_string w s = phase_byte s.phase ∷ listed w (λ q. letter_byte (s.letters q))

unfoldable pub decode_string : ℕ → List ℕ → PauliString
decode_string w b = record {
  phase = phase_of (slice_index b 0);
  letters = λ q. cond (nat_lt q w) (letter_of (slice_index b (suc q))) I;
}

-- "String record, 129 bytes"
abbrev pub string_length : ℕ
string_length = 129

unfoldable pub string_record : PauliString → List ℕ
string_record s = encode_string qubits s

unfoldable pub string_of : List ℕ → PauliString
string_of b = decode_string qubits b

-- the bytes of some string of w letters
pub record WellFormed (w : ℕ) (b : List ℕ) : Type 0 where
  pub long : length b ≡ suc w
  pub small : (k : ℕ) → k < length b → slice_index b k ≤ 3

-- Lines of the change request and of the rulings in docs/DECISIONS.md, as they are read.
use Rattle.std.specs.Prelude.{ℕ, List, [], ◌∷◌}
use Prim.Native.String.{String}

pub record LineReading : Type 0 where
  pub number : ℕ
  pub detail : ℕ
  pub width : ℕ
  pub line : String

abbrev pub line_reading : ℕ → ℕ → ℕ → String → LineReading
line_reading n d w s = record { number = n; detail = d; width = w; line = s }

unfoldable pub line_readings : List LineReading
line_readings =
    line_reading 1 5 6 "1: the width is not allowed" ∷
    line_reading 3 130 0 "3: not a phase or letter, at offset 130" ∷
    line_reading 4 0 0 "4: no such gate; list record (zero outside a list): 0" ∷
    -- 7 and 16 show no detail, the numbers on either side do
    line_reading 6 7 0 "6: the two qubits are the same; the qubit (in a list, the record): 7" ∷
    line_reading 7 7 0 "7: the destination is too short" ∷
    line_reading 8 7 0 "8: not an ASCII byte, at offset 7" ∷
    line_reading 14 2 2 "14: qubit 2 is outside num_qubits 2; pass a width greater than the maximum qubit index (max qubit + 1)" ∷
    line_reading 15 7 2 "15: qubit 7 is outside num_qubits 2; pass a width greater than the maximum qubit index (max qubit + 1)" ∷
    line_reading 16 7 0 "16: the list has a wrong length" ∷
    line_reading 17 0 0 "17: wrong head or fixed zero, list record 0" ∷
    line_reading 24 5 2 "24: a row weight is false, at offset 5" ∷
    -- numbers without a meaning
    line_reading 0 5 5 "0: unknown" ∷
    line_reading 29 5 5 "29: unknown" ∷
    line_reading 33 5 5 "33: unknown" ∷
    []

-- What the public functions on string records give: the field's objects between decoding and encoding.
use Rattle.std.specs.Prelude.{ℕ, List}
use Rattle.pauli_group.specs.PauliString.{mul, places_taken, anticommuting_places}
use Rattle.pauli.specs.Layout.{phase_byte, letter_byte, string_of, string_record}
use Rattle.pauli.specs.Entries.{entries_string}

unfoldable pub phase_of_record : List ℕ → ℕ
phase_of_record s = phase_byte (string_of s).phase

unfoldable pub letter_of_record : List ℕ → ℕ → ℕ
letter_of_record s q = letter_byte ((string_of s).letters q)

unfoldable pub places_of_records : List ℕ → List ℕ → ℕ
places_of_records s t = anticommuting_places (string_of s) (string_of t)

unfoldable pub places_taken_of_records : List ℕ → List ℕ → ℕ
places_taken_of_records s t = places_taken (string_of s) (string_of t)

unfoldable pub product_record : List ℕ → List ℕ → List ℕ
product_record s t = string_record (mul (string_of s) (string_of t))

unfoldable pub entries_record : ℕ → List ℕ → List ℕ
entries_record p e = string_record (entries_string p e)

-- Entries: byte pairs (letter, qubit), and the string that they name (scope document, "String record").
use Rattle.std.specs.Prelude.{ℕ, ◌+◌, ◌*◌, ◌/◌, cond, List, length, nat_eq, nat_lt, slice_index}
use Rattle.pauli_group.specs.Letter.{I}
use Rattle.pauli_group.specs.PauliString.{PauliString, count_to}
use Rattle.pauli.specs.Places.{first_place}
use Rattle.pauli.specs.Layout.{phase_of, letter_of}

unfoldable pub entry_count : List ℕ → ℕ
entry_count e = length e / 2

-- the letter byte and the qubit of entry j
unfoldable pub entry_letter : List ℕ → ℕ → ℕ
entry_letter e j = slice_index e (2 * j)

unfoldable pub entry_qubit : List ℕ → ℕ → ℕ
entry_qubit e j = slice_index e (2 * j + 1)

-- how many entries name qubit q
unfoldable pub occurrences : List ℕ → ℕ → ℕ
occurrences e q = count_to (entry_count e) (λ j. nat_eq (entry_qubit e j) q)

-- the first entry that names qubit q, or the number of entries
unfoldable pub entry_of : List ℕ → ℕ → ℕ
entry_of e q = first_place (entry_count e) (λ j. nat_eq (entry_qubit e j) q)

-- phase p, and at each qubit the letter of the entry that names it, I where none does
unfoldable pub entries_string : ℕ → List ℕ → PauliString
entries_string p e = record {
  phase = phase_of p;
  letters = λ q. cond (nat_lt (entry_of e q) (entry_count e)) (letter_of (entry_letter e (entry_of e q))) I;
}

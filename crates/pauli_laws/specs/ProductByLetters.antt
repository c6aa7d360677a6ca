-- The product that `mul` writes, by what `letter_product` tells of its letters: `get` and `phase` tell them of all three records.
use Rattle.std.specs.Prelude.{◌≡◌, List, ℕ}
use Rattle.pauli_group.specs.Phase.{Phase, ◌·◌}
use Rattle.pauli_group.specs.PauliString.{product_to}
use Rattle.pauli.specs.Layout.{phase_of}
use Rattle.pauli.specs.Rows.{product_phase_byte, product_letter_byte}
use Rattle.pauli.specs.Strings.{phase_of_record, letter_of_record, places_taken_of_records, product_record}

-- the phase that two letters give at place q
unfoldable pub phase_at_place : List ℕ → List ℕ → ℕ → Phase
phase_at_place s t q = phase_of (product_phase_byte (letter_of_record s q) (letter_of_record t q))

-- the phases are those of the places told
pub record ProductByLetters (s t : List ℕ) : Type 0 where
  pub letters : (q : ℕ) → letter_of_record (product_record s t) q ≡ product_letter_byte (letter_of_record s q) (letter_of_record t q)
  pub phase : phase_of (phase_of_record (product_record s t))
      ≡ phase_of (phase_of_record s) · phase_of (phase_of_record t) · product_to (places_taken_of_records s t) (phase_at_place s t)

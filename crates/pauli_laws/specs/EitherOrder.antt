-- Two string records multiplied in either order, in the answers of the library: the product is what `mul` writes, of which `phase` and
-- `get` tell the phase and the letters; the number is what `anticommuting_places` tells of the two.
use Rattle.std.specs.Prelude.{◌≡◌, List, ◌↔◌, ℕ, ◌%◌, ◌≤◌}
use Rattle.pauli_group.specs.Phase.{minus_one_to}
use Rattle.pauli.specs.Layout.{phase_byte}
use Rattle.pauli.specs.Rows.{phase_bytes_product}
use Rattle.pauli.specs.Strings.{phase_of_record, letter_of_record, places_of_records, product_record}

-- s·t = (-1)^n t·s, and n is even exactly where the products are the same bytes
pub record EitherOrder (s t : List ℕ) : Type 0 where
  pub most : places_of_records s t ≤ 128
  pub phase : phase_of_record (product_record s t) ≡ phase_bytes_product (phase_byte (minus_one_to (places_of_records s t))) (phase_of_record (product_record t s))
  pub letters : (q : ℕ) → letter_of_record (product_record s t) q ≡ letter_of_record (product_record t s) q
  pub even : (places_of_records s t % 2 ≡ 0) ↔ (product_record s t ≡ product_record t s)

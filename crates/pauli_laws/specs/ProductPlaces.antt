-- The places that `mul` tells of two string records, in the letters that `get` tells of them and of what it writes; 0 is I.
use Rattle.std.specs.Prelude.{◌≡◌, List, ℕ, ◌≤◌}
use Rattle.pauli.specs.Layout.{decode_string, string_record}
use Rattle.pauli.specs.Strings.{letter_of_record, places_taken_of_records, product_record}

-- both strings have only I at place k and above
pub record OnlyIFrom (s t : List ℕ) (k : ℕ) : Type 0 where
  pub first : (q : ℕ) → k ≤ q → letter_of_record s q ≡ 0
  pub second : (q : ℕ) → k ≤ q → letter_of_record t q ≡ 0

-- the record with I at place k and above
unfoldable pub cut_record : ℕ → List ℕ → List ℕ
cut_record k s = string_record (decode_string k s)

pub record ProductPlaces (s t : List ℕ) : Type 0 where
  pub most : places_taken_of_records s t ≤ 128
  pub behind : OnlyIFrom s t (places_taken_of_records s t)
  pub least : (k : ℕ) → OnlyIFrom s t k → places_taken_of_records s t ≤ k
  pub cut : product_record (cut_record (places_taken_of_records s t) s) (cut_record (places_taken_of_records s t) t) ≡ product_record s t
  pub product : (q : ℕ) → places_taken_of_records s t ≤ q → letter_of_record (product_record s t) q ≡ 0

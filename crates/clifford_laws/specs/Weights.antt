-- Weights and the questions on entry, and records without weights, which is how they are compared with the Rust (change requests,
-- "Row weights stored").
use Rattle.std.specs.Prelude.{ℕ, ◌*◌, ◌≡◌, List, ◌∷◌, get_or}
use Rattle.clifford_group.specs.Tableau.{Tableau, Proper}
use Rattle.pauli.specs.Layout.{encode_string}
use Rattle.clifford.specs.Layout.{letters_of, row_of, joined, tableau_record, each_row}

-- b is the encoding of some tableau of width at most 128, weights included
pub record Encodes (b : List ℕ) : Type 0 where
  pub tableau : Tableau
  pub proper : Proper tableau
  pub is : b ≡ tableau_record tableau

-- "the rows are read without it": of a row its phase and its letters, and of a record its width and such rows
unfoldable pub without_weight : List ℕ → List ℕ
without_weight b = get_or b 0 0 ∷ letters_of b

unfoldable pub without_weights : List ℕ → List ℕ
without_weights b = each_row without_weight b

-- the scope document's record, where "a row is a phase and n letters"
unfoldable pub plain_record : Tableau → List ℕ
plain_record t = t.width ∷ joined (2 * t.width) (λ r. encode_string t.width (row_of t r))

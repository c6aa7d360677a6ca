-- What the public functions on tableau records give: the field's objects between decoding and encoding.
use Rattle.std.specs.Prelude.{◌≡◌, ℕ, Bool, true, List}
use Rattle.clifford_group.specs.Conjugation.{Generator, of_x, of_z}
use Rattle.clifford_group.specs.Tableau.{identity_tableau, widen, apply, compose, is_valid, inverse}
use Rattle.pauli.specs.Layout.{string_of, string_record}
use Rattle.clifford.specs.Layout.{width_of, row_part, tableau_of, tableau_record, generator_row, FormedTableau}
use Rattle.pauli.specs.Answers.{Answer, answer_to}
use Rattle.clifford.specs.Support.{support_qubits}
use Rattle.clifford.specs.Images.{with_x_image, with_z_image, pauli_tableau}
use Rattle.clifford.specs.Questions.{image_questions}

unfoldable pub record_valid : List ℕ → Bool
record_valid t = is_valid (tableau_of t)

-- the bytes of a valid tableau
pub record Good (b : List ℕ) : Type 0 where
  pub formed : FormedTableau b
  pub valid : record_valid b ≡ true

unfoldable pub identity_record : ℕ → List ℕ
identity_record n = tableau_record (identity_tableau n)

unfoldable pub apply_record : List ℕ → List ℕ → List ℕ
apply_record t s = string_record (apply (tableau_of t) (string_of s))

unfoldable pub compose_record : List ℕ → List ℕ → List ℕ
compose_record a b = tableau_record (compose (tableau_of a) (tableau_of b))

unfoldable pub inverse_record : List ℕ → List ℕ
inverse_record t = tableau_record (inverse (tableau_of t))

-- "a smaller width gives a copy"
unfoldable pub extend_record : List ℕ → ℕ → List ℕ
extend_record t n = tableau_record (widen n (tableau_of t))

-- "An image handed out is the row's own part of the lent record": of X or Z, or the refusal
unfoldable pub image_part : Generator → List ℕ → ℕ → Answer (List ℕ)
image_part g t slot = answer_to (image_questions t slot) (row_part t (generator_row g (width_of t) slot))

unfoldable pub set_x_record : List ℕ → ℕ → List ℕ → List ℕ
set_x_record t slot s = tableau_record (with_x_image (tableau_of t) slot (string_of s))

unfoldable pub set_z_record : List ℕ → ℕ → List ℕ → List ℕ
set_z_record t slot s = tableau_record (with_z_image (tableau_of t) slot (string_of s))

abbrev pub set_record : Generator → List ℕ → ℕ → List ℕ → List ℕ
set_record of_x = set_x_record
set_record of_z = set_z_record

unfoldable pub pauli_record : List ℕ → List ℕ
pauli_record s = tableau_record (pauli_tableau (string_of s))

unfoldable pub support_bytes : List ℕ → List ℕ
support_bytes t = support_qubits (tableau_of t)

-- The readings that the scope document marks with a star, and tableaux that are not valid: what is asked, and what is answered: the
-- number, the value, and the bytes written.
use Rattle.std.specs.Prelude.{ℕ, ◌+◌, ◌*◌, ◌-◌, cond, ltb, List, [], ◌∷◌, ◌++◌, length, replicate}
use Rattle.pauli.specs.Answers.{one_or_zero, reply_to, Outcome}
use Rattle.pauli.specs.Questions.{pair_questions, mul_questions}
use Rattle.pauli.specs.Rows.{phase_bytes_product, product_phase_byte, product_letter_byte}
use Rattle.pauli.specs.Strings.{places_taken_of_records, product_record}
use Rattle.pauli_group.specs.Phase.{PlusI}
use Rattle.pauli_group.specs.Letter.{Letter, X, Z, Y}
use Rattle.clifford_gates.specs.Gates.{Image, plus, minus, one_qubit}
use Rattle.clifford_gates.specs.GateTableaux.{on_qubit}
use Rattle.clifford_gates.specs.GateNumbers.{compose_gate}
use Rattle.clifford.specs.Layout.{longest_record, tableau_record}
use Rattle.clifford.specs.Tableaux.{record_valid, identity_record, set_x_record, set_z_record, apply_record, compose_record, inverse_record}
use Rattle.clifford.specs.Questions.{tableau_questions, apply_answer, compose_answer, inverse_answer}
use Rattle.clifford.specs.GateQuestions.{compose_gate_questions}
use Rattle.clifford.specs.GateAnswers.{gate_record, record_name}

pub data Asked : Type 0 where
  phases_multiplied : ℕ → ℕ → Asked
  letters_multiplied : ℕ → ℕ → Asked
  strings_multiplied : List ℕ → List ℕ → Asked
  applied : List ℕ → List ℕ → Asked
  inverted : List ℕ → Asked
  composed : List ℕ → List ℕ → Asked
  gate_composed : ℕ → ℕ → Asked
  valid : List ℕ → Asked
  named : List ℕ → Asked

-- the number and the value of the answer to questions q, and the bytes written
abbrev pub told : Outcome → ℕ → List ℕ → List ℕ
told q v out = (reply_to q v).number ∷ (reply_to q v).value ∷ out

-- by the definitions that the contracts cite, the questions among them
unfoldable pub answered : Asked → List ℕ
answered (phases_multiplied a b) = told (pair_questions a b) (phase_bytes_product a b) []
answered (letters_multiplied a b) = told (pair_questions a b) (4 * product_phase_byte a b + product_letter_byte a b) []
answered (strings_multiplied s t) = told (mul_questions s t 129) (places_taken_of_records s t) (product_record s t)
answered (applied t s) = told (apply_answer t s 129) 0 (apply_record t s)
answered (inverted t) = told (inverse_answer t longest_record) 0 (inverse_record t)
answered (composed a b) = told (compose_answer a b longest_record) 0 (compose_record a b)
answered (gate_composed g h) = told (compose_gate_questions g h) (compose_gate g h) []
answered (valid t) = told (tableau_questions t) (one_or_zero (record_valid t)) []
answered (named t) = told (tableau_questions t) (cond (ltb (record_name t) 24) (record_name t) 255) []

-- a string record by its phase and its first letters
unfoldable pub string_bytes : ℕ → List ℕ → List ℕ
string_bytes p ls = p ∷ (ls ++ replicate (128 - length ls) 0)

-- the tableau record of width 1 with these images of X and of Z
abbrev pub plus_i : Letter → Image
plus_i l = record { phase = PlusI; letter = l }

unfoldable pub images_record : Image → Image → List ℕ
images_record x z = tableau_record (on_qubit (one_qubit x z) 0)

pub record Reading : Type 0 where
  pub asked : Asked
  pub answer : List ℕ

abbrev pub reading : Asked → List ℕ → Reading
reading q a = record { asked = q; answer = a }

unfoldable pub readings : List Reading
readings =
    reading (phases_multiplied 2 2) (0 ∷ 1 ∷ []) ∷  -- i·i = −1
    reading (letters_multiplied 1 2) (0 ∷ 15 ∷ []) ∷  -- X·Z = −iY, phase 3 and letter 3
    reading (applied (gate_record 4 0 0) (string_bytes 0 (3 ∷ []))) (0 ∷ 0 ∷ string_bytes 1 (3 ∷ [])) ∷  -- `h` on Y0: −Y0
    reading (applied (gate_record 24 0 1) (string_bytes 0 (1 ∷ 2 ∷ []))) (0 ∷ 0 ∷ string_bytes 1 (3 ∷ 3 ∷ [])) ∷  -- `cx(0,1)` on X0 Z1: −Y0 Y1
    reading (inverted (gate_record 14 0 0)) (0 ∷ 0 ∷ images_record (minus Y) (plus Z)) ∷  -- inverse of `sz`: X to −Y, Z to Z
    reading (composed (gate_record 14 0 0) (gate_record 4 0 0)) (0 ∷ 0 ∷ images_record (plus Z) (plus Y)) ∷  -- `compose(sz,h)`: X to Z, Z to Y
    reading (named (compose_record (gate_record 14 0 0) (gate_record 4 0 0))) (0 ∷ 17 ∷ []) ∷  -- which is Fdg
    reading (gate_composed 14 4) (0 ∷ 17 ∷ []) ∷  -- and so by number
    reading (composed (gate_record 4 0 0) (gate_record 14 0 0)) (0 ∷ 0 ∷ images_record (minus Y) (plus X)) ∷  -- `compose(h,sz)`: X to −Y, Z to X
    reading (named (compose_record (gate_record 4 0 0) (gate_record 14 0 0))) (0 ∷ 23 ∷ []) ∷  -- which is F4dg
    reading (gate_composed 4 14) (0 ∷ 23 ∷ []) ∷  -- and so by number
    reading (valid (0 ∷ [])) (0 ∷ 1 ∷ []) ∷  -- width 0 is valid
    reading (valid (images_record (plus X) (plus X))) (0 ∷ 0 ∷ []) ∷  -- X to X, Z to X is not
    reading (valid (images_record (plus_i X) (plus Z))) (0 ∷ 0 ∷ []) ∷  -- X to +iX, Z to Z is not valid
    reading (named (images_record (plus_i X) (plus Z))) (0 ∷ 255 ∷ []) ∷  -- and by the change requests it has no name
    []

-- A tableau that is not valid, two strings p and q, their product sent through it, and the product of their images, with the places
-- that `mul` tells of it.
abbrev pub invalid : (t p q sent : List ℕ) (places : ℕ) (product : List ℕ) → List Reading
invalid t p q sent places product =
    reading (valid t) (0 ∷ 0 ∷ []) ∷
    reading (applied t (product_record p q)) (0 ∷ 0 ∷ sent) ∷
    reading (strings_multiplied (apply_record t p) (apply_record t q)) (0 ∷ places ∷ product) ∷
    []

abbrev pub x0 : List ℕ
x0 = string_bytes 0 (1 ∷ [])

abbrev pub z0 : List ℕ
z0 = string_bytes 0 (2 ∷ [])

abbrev pub x1 : List ℕ
x1 = string_bytes 0 (0 ∷ 1 ∷ [])

-- The identity with one image replaced, so that one part of the rule of validity is broken and all else holds: X0 to +i X0, a phase
-- that is not real; Z0 to X0, which commutes with the image of X0; X1 to Z0 X1, which does not commute with that of X0.
abbrev pub phase_broken : List ℕ
phase_broken = set_x_record (identity_record 1) 0 (string_bytes 2 (1 ∷ []))

abbrev pub qubit_broken : List ℕ
qubit_broken = set_z_record (identity_record 1) 0 x0

abbrev pub pair_broken : List ℕ
pair_broken = set_x_record (identity_record 2) 1 (string_bytes 0 (2 ∷ 1 ∷ []))

unfoldable pub invalid_readings : List Reading
invalid_readings =
    invalid phase_broken x0 x0 (string_bytes 0 []) 1 (string_bytes 1 [])  -- +1 and −1
    ++ invalid qubit_broken z0 x0 (string_bytes 1 []) 1 (string_bytes 0 [])  -- −1 and +1
    ++ invalid pair_broken x1 x0 (string_bytes 3 (3 ∷ 1 ∷ [])) 2 (string_bytes 2 (3 ∷ 1 ∷ []))  -- −i Y0 X1 and +i Y0 X1
    ++ invalid pair_broken x0 x1 (string_bytes 3 (3 ∷ 1 ∷ [])) 2 (string_bytes 3 (3 ∷ 1 ∷ []))  -- rising, as `apply` goes: the same

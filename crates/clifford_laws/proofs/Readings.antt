-- The readings with a star, and those of tableaux that are not valid, by one computed test over each list.
use mathlib.Core.Path.{◌≡◌, refl, ap₂}
use mathlib.Core.Bool.{Bool, true, false, ◌&&◌}
use mathlib.Core.List.{List, [], ◌∷◌}
use Prim.Native.Nat.{ℕ}
use lib.Dec.{T, eqb, eqb→eq}
use Rattle.pauli_group.proofs.PaperForms.{both}
use Rattle.clifford_gates.specs.Gates.{All}
use Rattle.clifford_gates.proofs.GateTables.{all_of}
use Rattle.pauli_group.specs.Phase.{negate, turn, ◌·◌, conjugate, is_real, sign, minus_one_to}
use Rattle.pauli_group.specs.Letter.{not_i, letter_product, letter_phase, letter_mul, anticommute}
use Rattle.pauli_group.specs.PauliString.{qubits, product_to, count_to, last_to, has_letter, weight_to, places_taken, phase_of_letters, mul, identity_string, scale, single, anticommuting_places, commute, commutation_sign}
use Rattle.clifford_group.specs.Tableau.{identity_tableau, letter_of_bits, row_image, image_of, apply_to, apply, widen, compose, all_to, valid_qubit, valid_pair, is_valid, has_x, has_z, transposed, inverse_row, inverse}
use Rattle.clifford_gates.specs.Gates.{one_qubit_gates, two_qubit_gates}
use Rattle.clifford_gates.specs.GateTableaux.{image_string, gate_on_each, on_qubit, pair_string, pair_row, on_qubits}
use Rattle.clifford_gates.specs.GateNumbers.{one_qubit_gate, two_qubit_gate, gate_tableau, same_bit, same_letter, has_minus, same_phase, matches_image, matches, first_with, name_of, compose_gate}
use Rattle.pauli.specs.Places.{listed, first_place}
use Rattle.pauli.specs.Layout.{phase_byte, letter_byte, phase_of, letter_of, encode_string, decode_string, string_record, string_of}
use Rattle.pauli.specs.Rows.{product_phase_byte, product_letter_byte, phase_bytes_product}
use Rattle.pauli.specs.Strings.{places_taken_of_records, product_record}
use Rattle.clifford.specs.Layout.{record_length, row_length, encode_row, decode_row, row_offset, row_of, joined, tableau_record, row_part, tableau_of, letter_place, letter_in, letters_of}
use Rattle.clifford.specs.Images.{with_x_image, with_z_image}
use Rattle.clifford.specs.Tableaux.{record_valid, identity_record, set_x_record, set_z_record, apply_record, compose_record, inverse_record}
use Rattle.clifford.specs.GateAnswers.{gate_record, record_name}
use Rattle.pauli.specs.Answers.{reply_to, refusal_reply}
use Rattle.pauli.specs.Questions.{ask, ◌and_then◌, byte_question, pair_questions, strings_questions, mul_questions, first_bad, bytes_question, string_questions, room_question}
use Rattle.clifford.specs.Questions.{width_question, length_question, row_question, rows_question, true_weight, first_false, weights_question, tableau_questions, apply_questions, apply_answer, compose_questions, compose_answer, inverse_answer}
use Rattle.clifford.specs.GateQuestions.{gate_question, compose_gate_questions}
use Rattle.clifford_laws.specs.Readings.{Reading, readings, invalid_readings, images_record, answered, string_bytes}

abbrev pub same_bytes : List ℕ → List ℕ → Bool
same_bytes [] [] = true
same_bytes [] (y ∷ ys) = false
same_bytes (x ∷ xs) [] = false
same_bytes (x ∷ xs) (y ∷ ys) = eqb x y && same_bytes xs ys

pub same-is : (xs ys : List ℕ) → T (same_bytes xs ys) → xs ≡ ys
same-is [] [] t = refl
same-is [] (y ∷ ys) t = absurd t
same-is (x ∷ xs) [] t = absurd t
same-is (x ∷ xs) (y ∷ ys) t = let parts = both (eqb x y) (same_bytes xs ys) t in ap₂ ◌∷◌ (eqb→eq x y parts.0) (same-is xs ys parts.1)

abbrev Holds : Reading → Type 0
Holds r = answered r.asked ≡ r.answer

abbrev test : Reading → Bool
test r = same_bytes (answered r.asked) r.answer

holds : (r : Reading) → T (test r) → Holds r
holds r t = same-is (answered r.asked) r.answer t

pub readings_hold : All Holds readings × All Holds invalid_readings
unfolding readings invalid_readings mul_questions strings_questions places_taken last_to places_taken_of_records product_record identity_tableau with_x_image with_z_image identity_record set_x_record set_z_record images_record answered reply_to refusal_reply ask ◌and_then◌ byte_question pair_questions first_place first_bad bytes_question string_questions room_question width_question length_question tableau_questions apply_questions apply_answer compose_questions compose_answer inverse_answer gate_question compose_gate_questions record_length negate turn ◌·◌ conjugate is_real sign minus_one_to letter_product letter_phase letter_mul anticommute qubits product_to count_to phase_of_letters mul identity_string scale single anticommuting_places commute commutation_sign row_image image_of apply_to apply widen compose all_to valid_qubit valid_pair is_valid has_x has_z transposed inverse_row inverse letter_of_bits string_bytes one_qubit_gates two_qubit_gates image_string gate_on_each on_qubit pair_string pair_row on_qubits one_qubit_gate two_qubit_gate gate_tableau same_bit same_letter has_minus same_phase matches_image matches first_with name_of compose_gate listed phase_byte letter_byte phase_of letter_of encode_string decode_string string_record string_of product_phase_byte product_letter_byte phase_bytes_product row_length encode_row decode_row row_offset row_of joined tableau_record row_part tableau_of record_valid apply_record compose_record inverse_record gate_record record_name letter_place letter_in letters_of row_question rows_question weights_question true_weight first_false weight_to has_letter not_i
readings_hold = (all_of test holds readings tt, all_of test holds invalid_readings tt)

-- The questions put to tableaux (scope document, "Questions on entry"), and those of each public function in their order.
use Rattle.std.specs.Prelude.{ℕ, zero, suc, ◌+◌, ◌*◌, max, Bool, not, ◌&&◌, List, length, ◌==◌, nat_le, nat_lt, slice_index, Ok}
use Rattle.pauli_group.specs.PauliString.{PauliString, qubits, has_letter, weight_to}
use Rattle.pauli.specs.declared.refusal.Refusal.TheVariants.{Width, Length, BadByte, ImageWidth, Slot, FalseWeight}
use Rattle.pauli.specs.Places.{first_place}
use Rattle.pauli.specs.Layout.{string_length, string_of}
use Rattle.pauli.specs.Questions.{ask, ◌and_then◌, bytes_question, string_questions, room_question}
use Rattle.clifford.specs.Layout.{weight_place, letter_place, letters_of, row_offset, row_of, row_part, width_of, tableau_of, record_length}
use Rattle.clifford.specs.Support.{support_qubits}
use Rattle.clifford.specs.Images.{pauli_width}
use Rattle.pauli.specs.Answers.{Outcome}

-- "Is the width at most 128? 1"
unfoldable pub width_question : ℕ → Outcome
width_question n = ask (nat_le n qubits) Width

-- "Is the length exact (.. tableau as above)? 2"
unfoldable pub length_question : List ℕ → Outcome
length_question b = ask (length b == record_length (width_of b)) Length

-- "Is every phase and letter at most 3? 3, detail the first bad offset": of a row that starts there
unfoldable pub row_question : ℕ → List ℕ → Outcome
row_question start b = ask (nat_le (slice_index b 0) 3) (BadByte start) and_then bytes_question (start + letter_place 0) (letters_of b)

-- of the first k rows of a record, in their order
unfoldable pub rows_question : ℕ → List ℕ → Outcome
rows_question zero b = Ok tt
rows_question (suc k) b = rows_question k b and_then row_question (row_offset (width_of b) k) (row_part b k)

-- the weight of row r is the number of its letters other than I
unfoldable pub true_weight : List ℕ → ℕ → Bool
true_weight b r = slice_index (row_part b r) weight_place == weight_to (width_of b) (row_of (tableau_of b) r)

-- "It refuses 24 for a false weight, with the first one's offset"
unfoldable pub first_false : List ℕ → ℕ
first_false b = first_place (2 * width_of b) (λ r. not (true_weight b r))

unfoldable pub weights_question : List ℕ → Outcome
weights_question b = ask (nat_le (2 * width_of b) (first_false b)) (FalseWeight (row_offset (width_of b) (first_false b) + weight_place))

-- "a tableau of no bytes has no width and gives 2"; then 1, 2 and 3, and 24 "directly after question 3 on the same tableau"
unfoldable pub tableau_questions : List ℕ → Outcome
tableau_questions b =
    ask (nat_lt 0 (length b)) Length and_then width_question (width_of b) and_then length_question b and_then rows_question (2 * width_of b) b and_then weights_question b

-- "Is the slot (also of an image handed out) [inside the width]? 15, the slot"
unfoldable pub slot_question : ℕ → ℕ → Outcome
slot_question slot w = ask (nat_lt slot w) (Slot slot w)

-- "is the image inside the width? 14, its lowest qubit outside", or 128 where there is none
unfoldable pub lowest_outside : ℕ → PauliString → ℕ
lowest_outside w s = first_place qubits (λ q. nat_le w q && has_letter s q)

unfoldable pub inside_question : ℕ → PauliString → Outcome
inside_question w s = ask (nat_le qubits (lowest_outside w s)) (ImageWidth (lowest_outside w s) w)

-- ---- the questions of each public function, in their order: those on the inputs, and the answer, which the room has part in

unfoldable pub identity_answer : ℕ → ℕ → Outcome
identity_answer n room = width_question n and_then room_question (record_length n) room

unfoldable pub image_questions : List ℕ → ℕ → Outcome
image_questions t slot = tableau_questions t and_then slot_question slot (width_of t)

-- "a tableau comes before a string"
unfoldable pub apply_questions : List ℕ → List ℕ → Outcome
apply_questions t s = tableau_questions t and_then string_questions s

unfoldable pub apply_answer : List ℕ → List ℕ → ℕ → Outcome
apply_answer t s room = apply_questions t s and_then room_question string_length room

-- "Setting an image": the tableau, the string, 14, and then 15
unfoldable pub set_questions : List ℕ → ℕ → List ℕ → Outcome
set_questions t slot s =
    apply_questions t s and_then inside_question (width_of t) (string_of s) and_then slot_question slot (width_of t)

-- "The first three are all put to the first record before the second", and 24 "before any second record"
unfoldable pub compose_questions : List ℕ → List ℕ → Outcome
compose_questions a b = tableau_questions a and_then tableau_questions b

unfoldable pub compose_answer : List ℕ → List ℕ → ℕ → Outcome
compose_answer a b room = compose_questions a b and_then room_question (record_length (max (width_of a) (width_of b))) room

-- "A width given beside a tableau meets 1 after that tableau's 3", and so after its 24
unfoldable pub extend_questions : List ℕ → ℕ → Outcome
extend_questions t n = tableau_questions t and_then width_question n

unfoldable pub extend_answer : List ℕ → ℕ → ℕ → Outcome
extend_answer t n room = extend_questions t n and_then room_question (record_length (max (width_of t) n)) room

unfoldable pub pauli_answer : List ℕ → ℕ → Outcome
pauli_answer s room = string_questions s and_then room_question (record_length (pauli_width (string_of s))) room

-- the room goes by the count
unfoldable pub support_answer : List ℕ → ℕ → Outcome
support_answer t room = tableau_questions t and_then room_question (length (support_qubits (tableau_of t))) room

unfoldable pub inverse_answer : List ℕ → ℕ → Outcome
inverse_answer t room = tableau_questions t and_then room_question (record_length (width_of t)) room

-- The display text of a tableau (scope document, "Program"; `impl Display` of clifford_rep.rs).
use Rattle.std.specs.Prelude.{ℕ, ◌+◌, ◌*◌, ◌/◌, ◌%◌, Bool, true, false, cond, ◌&&◌, List, [], ◌∷◌, ◌++◌, length, ◌==◌}
use Rattle.pauli_group.specs.Letter.{Letter}
use Rattle.clifford_group.specs.Tableau.{Tableau}
use Rattle.pauli.specs.QuotedText.{bytes_of}
use Rattle.pauli.specs.Questions.{◌and_then◌, room_question}
use Rattle.pauli.specs.SparseText.{decimal, letter_text, sparse_text}
use Rattle.clifford.specs.Layout.{row_of, joined, tableau_of, row_qubit, row_letter}
use Rattle.clifford.specs.Questions.{tableau_questions}
use Rattle.pauli.specs.Answers.{Outcome}

-- the bytes that it starts with
abbrev pub name_text : List ℕ
name_text = bytes_of "CliffordRep("

abbrev pub qubits_text : List ℕ
qubits_text = bytes_of " qubits):"

abbrev pub arrow_text : List ℕ
arrow_text = bytes_of " -> "

abbrev pub newline : ℕ
newline = 10

-- the header without its newline: "CliffordRep(2 qubits):"
unfoldable pub header_text : ℕ → List ℕ
header_text n = name_text ++ (decimal n ++ qubits_text)

-- a generator, "X_0", and the label of its line, "  X_0 -> "; _ is 95
unfoldable pub generator_text : Letter → ℕ → List ℕ
generator_text l q = letter_text l ∷ 95 ∷ decimal q

unfoldable pub label_text : Letter → ℕ → List ℕ
label_text l q = 32 ∷ 32 ∷ (generator_text l q ++ arrow_text)

-- the line of row r: "generator, arrow, image in sparse text"
unfoldable pub line_text : Tableau → ℕ → List ℕ
line_text t r = label_text (row_letter t.width r) (row_qubit t.width r) ++ (sparse_text (row_of t r) ++ (newline ∷ []))

-- the order of the lines, X and Z of qubit 0, X and Z of qubit 1, ..: the i-th is that of this row of the record
unfoldable pub display_row : ℕ → ℕ → ℕ
display_row w i = cond (i % 2 == 0) (i / 2) (w + i / 2)

-- the first k lines, and the whole
unfoldable pub lines_text : Tableau → ℕ → List ℕ
lines_text t k = joined k (λ i. line_text t (display_row t.width i))

unfoldable pub display_text : Tableau → List ℕ
display_text t = header_text t.width ++ (newline ∷ lines_text t (2 * t.width))

-- the text of a tableau record; its questions end with room for this very text
unfoldable pub text_of_tableau : List ℕ → List ℕ
text_of_tableau t = display_text (tableau_of t)

unfoldable pub display_answer : List ℕ → ℕ → Outcome
display_answer t room = tableau_questions t and_then room_question (length (text_of_tableau t)) room

-- whether s starts with p
unfoldable pub starts_with : List ℕ → List ℕ → Bool
starts_with [] s = true
starts_with (x ∷ p) [] = false
starts_with (x ∷ p) (y ∷ s) = y == x && starts_with p s

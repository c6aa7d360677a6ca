-- Sparse text, written (scope document, "String record"; `to_sparse_str` of pauli_string.rs).
use Rattle.std.specs.Prelude.{ℕ, zero, suc, ◌+◌, ◌/◌, ◌%◌, min, cond, List, [], ◌∷◌, ◌++◌, length, nat_lt}
use Rattle.pauli_group.specs.Phase.{Phase, PlusOne, MinusOne, PlusI, MinusI}
use Rattle.pauli_group.specs.Letter.{Letter, I, X, Z, Y}
use Rattle.pauli_group.specs.PauliString.{PauliString, qubits}
use Rattle.pauli.specs.Layout.{phase_of, string_of}
use Rattle.pauli.specs.Questions.{◌and_then◌, string_questions, room_question}
use Rattle.pauli.specs.Rows.{letter_at}
use Rattle.pauli.specs.Answers.{Outcome}

-- 0 is 48
abbrev pub digit_text : ℕ → ℕ
digit_text d = 48 + d

-- the last k digits of n, fewer where n has fewer
unfoldable pub digits_to : ℕ → ℕ → List ℕ
digits_to zero n = []
digits_to (suc k) n = cond (nat_lt n 10) (digit_text n ∷ []) (digits_to k (n / 10) ++ (digit_text (n % 10) ∷ []))

-- the shortest decimal numeral of n: it has n + 1 digits at most
unfoldable pub decimal : ℕ → List ℕ
decimal n = digits_to (suc n) n

-- "+, -, +i or -i": + is 43, - is 45, i is 105
unfoldable pub prefix_text : Phase → List ℕ
prefix_text PlusOne = 43 ∷ []
prefix_text MinusOne = 45 ∷ []
prefix_text PlusI = 43 ∷ 105 ∷ []
prefix_text MinusI = 45 ∷ 105 ∷ []

unfoldable pub letter_text : Letter → ℕ
letter_text I = 73
letter_text X = 88
letter_text Y = 89
letter_text Z = 90

-- an entry: a letter and its qubit
unfoldable pub entry_word : Letter → ℕ → List ℕ
entry_word l q = letter_text l ∷ decimal q

-- the words of one qubit: I has none
unfoldable pub words_at : Letter → ℕ → List (List ℕ)
words_at I q = []
words_at X q = entry_word X q ∷ []
words_at Y q = entry_word Y q ∷ []
words_at Z q = entry_word Z q ∷ []

-- "entries by rising qubit": those of qubits 0 to n - 1
unfoldable pub entry_words : ℕ → (ℕ → Letter) → List (List ℕ)
entry_words zero f = []
entry_words (suc n) f = entry_words n f ++ words_at (f n) n

-- "with one space between"; a space is 32
unfoldable pub spaced : List ℕ → List (List ℕ) → List ℕ
spaced w [] = w
spaced w (x ∷ ws) = w ++ 32 ∷ spaced x ws

-- "or I where there are none"
unfoldable pub body_text : List (List ℕ) → List ℕ
body_text [] = letter_text I ∷ []
body_text (w ∷ ws) = spaced w ws

-- the text of the first n qubits of a string, and of a whole string
unfoldable pub sparse_text_to : ℕ → PauliString → List ℕ
sparse_text_to n s = prefix_text s.phase ++ body_text (entry_words n s.letters)

unfoldable pub sparse_text : PauliString → List ℕ
sparse_text s = sparse_text_to qubits s

-- the text of a phase byte and a row of letter bytes, of which the first 128 count
unfoldable pub row_string : ℕ → List ℕ → PauliString
row_string p a = record { phase = phase_of p; letters = letter_at a }

unfoldable pub row_text : ℕ → List ℕ → List ℕ
row_text p a = sparse_text_to (min (length a) qubits) (row_string p a)

-- the text of a string record; its questions end with room for this very text
unfoldable pub text_of_record : List ℕ → List ℕ
text_of_record s = sparse_text (string_of s)

unfoldable pub to_sparse_questions : List ℕ → ℕ → Outcome
to_sparse_questions s room = string_questions s and_then room_question (length (text_of_record s)) room

-- Text, read (scope document, "String record" and the questions on text). Offsets count from the text's first byte, before trimming.
use Rattle.std.specs.Prelude.{ℕ, suc, ◌+◌, ◌-◌, ◌*◌, ◌^◌, Bool, true, false, cond, not, ◌&&◌, ◌||◌, leb, List, [], ◌∷◌, ◌++◌, length, take, drop, ◌==◌, nat_le, nat_lt, slice_index, Ok, Err}
use Rattle.pauli_group.specs.Phase.{Phase, PlusOne, MinusOne, PlusI, MinusI}
use Rattle.pauli_group.specs.PauliString.{PauliString, qubits}
use Rattle.pauli.specs.declared.refusal.Refusal.TheVariants.{NotAscii, NotLetter, NoIndex, NotNumeral, TextQubit}
use Rattle.pauli.specs.Places.{first_place}
use Rattle.pauli.specs.Layout.{phase_byte, letter_of, string_length, string_record}
use Rattle.pauli.specs.Entries.{entries_string}
use Rattle.pauli.specs.Questions.{ask, ◌and_then◌, duplicate_question, room_question}
use Rattle.pauli.specs.Answers.{Outcome}

-- ---- bytes

-- "White space is bytes 9 to 13 and 32"
unfoldable pub is_space : ℕ → Bool
is_space c = (nat_le 9 c && nat_le c 13) || c == 32

-- 0 to 9
unfoldable pub is_digit : ℕ → Bool
is_digit c = nat_le 48 c && nat_le c 57

-- + is 43, - is 45, a small i is 105
unfoldable pub is_sign : ℕ → Bool
is_sign c = c == 43 || c == 45

unfoldable pub is_small_i : ℕ → Bool
is_small_i c = c == 105

-- "X, Y or Z, either case": the letter's byte, and 0 for any other byte of the text
unfoldable pub letter_named : ℕ → ℕ
letter_named c = cond (c == 88 || c == 120) 1 (cond (c == 90 || c == 122) 2 (cond (c == 89 || c == 121) 3 0))

-- "I, i and 1 are identity"
unfoldable pub is_identity : ℕ → Bool
is_identity c = (c == 73 || c == 105) || c == 49

-- ---- trimming and the prefix

-- how many bytes of white space come first, and how many that are none
unfoldable pub leading_spaces : List ℕ → ℕ
leading_spaces t = first_place (length t) (λ k. not (is_space (slice_index t k)))

-- the first byte that is no white space, and the place after the last
unfoldable pub text_start : List ℕ → ℕ
text_start t = leading_spaces t

unfoldable pub text_end : List ℕ → ℕ
text_end t = length t - first_place (length t) (λ k. not (is_space (slice_index t (length t - (k + 1)))))

-- "The prefix is +, −, +i, −i, i or none": the phase it stands for and its length, where a and b are the two bytes that come
unfoldable pub prefix_phase : ℕ → ℕ → Phase
prefix_phase a b =
    cond (a == 43) (cond (is_small_i b) PlusI PlusOne) (cond (a == 45) (cond (is_small_i b) MinusI MinusOne) (cond (is_small_i a) PlusI PlusOne))

unfoldable pub prefix_length : ℕ → ℕ → ℕ
prefix_length a b = cond (is_sign a) (cond (is_small_i b) 2 1) (cond (is_small_i a) 1 0)

unfoldable pub text_phase : List ℕ → Phase
text_phase t = prefix_phase (slice_index t (text_start t)) (slice_index t (suc (text_start t)))

-- where the text goes on after the prefix
unfoldable pub body_start : List ℕ → ℕ
body_start t = text_start t + prefix_length (slice_index t (text_start t)) (slice_index t (suc (text_start t)))

-- "is every byte below 128? 8, first offset"
unfoldable pub first_not_ascii : List ℕ → ℕ
first_not_ascii t = first_place (length t) (λ k. leb 128 (slice_index t k))

unfoldable pub ascii_question : List ℕ → Outcome
ascii_question t = ask (nat_le (length t) (first_not_ascii t)) (NotAscii (first_not_ascii t))

-- ---- sparse text

-- "tokens parted by white space": each with the offset of its first byte
pub record Token : Type 0 where
  pub offset : ℕ
  pub bytes : List ℕ

abbrev pub token : ℕ → List ℕ → Token
token k bs = record { offset = k; bytes = bs }

-- one byte more before a token that goes on, or a token of its own
unfoldable pub starts_word : List ℕ → Bool
starts_word [] = false
starts_word (c ∷ cs) = not (is_space c)

unfoldable pub longer : ℕ → ℕ → List Token → List Token
longer k c [] = token k (c ∷ []) ∷ []
longer k c (w ∷ ws) = token k (c ∷ w.bytes) ∷ ws

-- the tokens of a text whose first byte has offset k
unfoldable pub tokens : ℕ → List ℕ → List Token
tokens k [] = []
tokens k (c ∷ cs) =
    cond (is_space c) (tokens (suc k) cs) (cond (starts_word cs) (longer k c (tokens (suc k) cs)) (token k (c ∷ []) ∷ tokens (suc k) cs))

-- "An index is an optional + and then digits, leading zeros allowed, below 2^64"
unfoldable pub all_digits : List ℕ → Bool
all_digits [] = true
all_digits (c ∷ cs) = is_digit c && all_digits cs

unfoldable pub digits_value : ℕ → List ℕ → ℕ
digits_value v [] = v
digits_value v (c ∷ cs) = digits_value (10 * v + (c - 48)) cs

unfoldable pub without_plus : List ℕ → List ℕ
without_plus [] = []
without_plus (c ∷ cs) = cond (c == 43) cs (c ∷ cs)

unfoldable pub index_value : List ℕ → ℕ
index_value bs = digits_value 0 (without_plus bs)

unfoldable pub is_index : List ℕ → Bool
is_index bs = (nat_lt 0 (length (without_plus bs)) && all_digits (without_plus bs)) && nat_lt (index_value bs) (2 ^ 64)

-- "Is it a numeral below 2^64? 11, the numeral's offset. Is the qubit below 128? 13"
unfoldable pub index_questions : ℕ → List ℕ → Outcome
index_questions k bs = ask (is_index bs) (NotNumeral k) and_then ask (nat_lt (index_value bs) qubits) (TextQubit k)

-- "is it a known letter? 9, its offset"
unfoldable pub letter_question : Token → Outcome
letter_question w = ask (nat_lt 0 (letter_named (slice_index w.bytes 0))) (NotLetter w.offset)

-- "with the index attached or as the next token"
unfoldable pub has_index : Token → Bool
has_index w = nat_lt 1 (length w.bytes)

unfoldable pub attached_questions : Token → Outcome
attached_questions w = index_questions (suc w.offset) (drop 1 w.bytes)

-- left to right; "Is there an index? 10, the letter's offset"
unfoldable pub token_questions : List Token → Outcome
token_questions [] = Ok tt
token_questions (w ∷ []) = letter_question w and_then cond (has_index w) (attached_questions w) (Err (NoIndex w.offset))
token_questions (w ∷ x ∷ ws) =
    letter_question w
    and_then cond (has_index w) (attached_questions w and_then token_questions (x ∷ ws)) (index_questions x.offset x.bytes and_then token_questions ws)

-- the entries (letter, qubit) that the tokens name, where the questions let them by
unfoldable pub attached_entry : Token → List ℕ
attached_entry w = letter_named (slice_index w.bytes 0) ∷ index_value (drop 1 w.bytes) ∷ []

unfoldable pub apart_entry : Token → Token → List ℕ
apart_entry w x = letter_named (slice_index w.bytes 0) ∷ index_value x.bytes ∷ []

unfoldable pub token_entries : List Token → List ℕ
token_entries [] = []
token_entries (w ∷ []) = attached_entry w
token_entries (w ∷ x ∷ ws) = cond (has_index w) (attached_entry w ++ token_entries (x ∷ ws)) (apart_entry w x ++ token_entries ws)

unfoldable pub sparse_tokens : List ℕ → List Token
sparse_tokens t = tokens (body_start t) (drop (body_start t) t)

unfoldable pub sparse_entries : List ℕ → List ℕ
sparse_entries t = token_entries (sparse_tokens t)

-- "When all is read: is each qubit named once? 12"
unfoldable pub sparse_questions : List ℕ → Outcome
sparse_questions t = ascii_question t and_then token_questions (sparse_tokens t) and_then duplicate_question (sparse_entries t)

unfoldable pub sparse_string : List ℕ → PauliString
sparse_string t = entries_string (phase_byte (text_phase t)) (sparse_entries t)

-- "Last: is the destination long enough? 7"
unfoldable pub from_sparse_questions : List ℕ → ℕ → Outcome
from_sparse_questions t room = sparse_questions t and_then room_question string_length room

unfoldable pub sparse_record : List ℕ → List ℕ
sparse_record t = string_record (sparse_string t)

-- ---- dense text

-- the letters, after the prefix and up to the trimmed end
unfoldable pub dense_body : List ℕ → List ℕ
dense_body t = take (text_end t - body_start t) (drop (body_start t) t)

-- the letter c at offset k for qubit q: 9 for an unknown one; 13 for one other than I at 128 or above
unfoldable pub dense_letter : ℕ → ℕ → ℕ → Outcome
dense_letter c k q = ask (is_identity c || nat_lt 0 (letter_named c)) (NotLetter k) and_then ask (is_identity c || nat_lt q qubits) (TextQubit k)

-- letter by letter
unfoldable pub letter_questions : ℕ → ℕ → List ℕ → Outcome
letter_questions k q [] = Ok tt
letter_questions k q (c ∷ cs) = dense_letter c k q and_then letter_questions (suc k) (suc q) cs

unfoldable pub dense_questions : List ℕ → Outcome
dense_questions t = ascii_question t and_then letter_questions (body_start t) 0 (dense_body t)

-- "the letter's position after the prefix is its qubit"
unfoldable pub dense_string : List ℕ → PauliString
dense_string t = record { phase = text_phase t; letters = λ q. letter_of (letter_named (slice_index (dense_body t) q)) }

unfoldable pub from_dense_questions : List ℕ → ℕ → Outcome
from_dense_questions t room = dense_questions t and_then room_question string_length room

unfoldable pub dense_record : List ℕ → List ℕ
dense_record t = string_record (dense_string t)

-- ---- either

-- "after trimming drop all leading + and −, then one i; if any digit is left, the whole text is sparse, otherwise dense"
unfoldable pub without_signs : List ℕ → List ℕ
without_signs [] = []
without_signs (c ∷ cs) = cond (is_sign c) (without_signs cs) (c ∷ cs)

unfoldable pub without_i : List ℕ → List ℕ
without_i [] = []
without_i (c ∷ cs) = cond (is_small_i c) cs (c ∷ cs)

unfoldable pub any_digit : List ℕ → Bool
any_digit [] = false
any_digit (c ∷ cs) = is_digit c || any_digit cs

unfoldable pub is_sparse : List ℕ → Bool
is_sparse t = any_digit (without_i (without_signs (drop (text_start t) t)))

unfoldable pub text_questions : List ℕ → Outcome
text_questions t = cond (is_sparse t) (sparse_questions t) (dense_questions t)

unfoldable pub text_string : List ℕ → PauliString
text_string t = cond (is_sparse t) (sparse_string t) (dense_string t)

unfoldable pub from_str_questions : List ℕ → ℕ → Outcome
from_str_questions t room = text_questions t and_then room_question string_length room

unfoldable pub text_record : List ℕ → List ℕ
text_record t = string_record (text_string t)

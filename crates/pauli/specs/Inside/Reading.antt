-- What the functions that read text promise one another.
use Rattle.std.specs.Prelude.{◌≡◌, ℕ, zero, suc, ◌+◌, ◌^◌, ◌<◌, ◌≤◌, Bool, true, false, ◌&&◌, Option, Some, None, List, ◌∷◌, length, drop, nat_lt, slice_index, Ok, Err}
use Rattle.pauli.specs.declared.text.Head.{Head}
use Rattle.pauli.specs.declared.sparse_reader.Entry.{Entry}
use Rattle.pauli.specs.declared.refusal.Refusal.{Refusal}
use Rattle.pauli.specs.declared.entries.Marks.{Marks}
use Rattle.pauli.specs.Inside.Marks.{marks_of}
use Rattle.pauli.specs.Places.{listed, first_place}
use Rattle.pauli.specs.Layout.{phase_byte}
use Rattle.pauli.specs.Text.{text_end, dense_body, is_space, letter_named, Token, tokens, token_questions, token_entries, prefix_phase, prefix_length, text_phase, body_start, all_digits, digits_value, is_index, index_value}
use Rattle.pauli.specs.Answers.{Answer, answer_to}

-- the bytes before the first space
unfoldable pub leading_word : List ℕ → ℕ
leading_word t = first_place (length t) (λ k. is_space (slice_index t k))

-- r is as far after k as the text that begins there says
pub record Skipped (count : List ℕ → ℕ) (t : List ℕ) (k r : ℕ) : Type 0 where
  pub is : r ≡ k + count (drop k t)
  pub onward : k ≤ r
  pub within : r ≤ length t

pub record PrefixRead (a b : ℕ) (r : Head) : Type 0 where
  pub phase : r.phase ≡ phase_byte (prefix_phase a b)
  pub length : r.at ≡ prefix_length a b
  pub small : r.at ≤ 2

pub record HeadRead (t : List ℕ) (r : Head) : Type 0 where
  pub phase : r.phase ≡ phase_byte (text_phase t)
  pub place : r.at ≡ body_start t
  pub within : r.at ≤ length t

-- a letter's byte, or none for 0
unfoldable pub letter_if : ℕ → Option ℕ
letter_if zero = None
letter_if (suc l) = Some (suc l)

-- digits, and an index, as a value below 2^64 or none
abbrev pub numeral_if : Bool → ℕ → Option ℕ
numeral_if true v = Some v
numeral_if false v = None

unfoldable pub are_digits : List ℕ → Bool
are_digits ds = (nat_lt 0 (length ds) && all_digits ds) && nat_lt (digits_value 0 ds) (2 ^ 64)

unfoldable pub digits_numeral : List ℕ → Option ℕ
digits_numeral ds = numeral_if (are_digits ds) (digits_value 0 ds)

unfoldable pub index_numeral : List ℕ → Option ℕ
index_numeral bs = numeral_if (is_index bs) (index_value bs)

-- ---- sparse text

-- a token begins at this place of the text
pub record WordAt (t : List ℕ) (k : ℕ) : Type 0 where
  pub within : k < length t
  pub byte : is_space (slice_index t k) ≡ false

-- it is this letter, alone
pub record LetterAt (t : List ℕ) (k l : ℕ) : Type 0 where
  pub begins : WordAt t k
  pub letter : l ≡ letter_named (slice_index t k)
  pub known : 0 < l
  pub alone : leading_word (drop k t) ≡ 1

-- the first entry of the tokens ws of t, which begin at k: its letter on its qubit, and the rest from `next` on
pub record OneEntry (ws : List Token) (t : List ℕ) (k : ℕ) (e : Entry) : Type 0 where
  pub questions : token_questions ws ≡ token_questions (tokens e.next (drop e.next t))
  pub entries : token_entries ws ≡ e.letter ∷ e.qubit ∷ token_entries (tokens e.next (drop e.next t))
  pub place : e.qubit < 128
  pub onward : k < e.next
  pub within : e.next ≤ length t

-- the answer r to that entry
pub record EntryRead (ws : List Token) (t : List ℕ) (k : ℕ) (r : Answer Entry) : Type 0 where
  pub one : (e : Entry) → r ≡ Ok e → OneEntry ws t k e
  pub refused : (x : Refusal) → r ≡ Err x → token_questions ws ≡ Err x

-- the marks of the entries of tokens, after their questions
abbrev pub tokens_read : List Token → Answer Marks
tokens_read ws = answer_to (token_questions ws) (marks_of (token_entries ws))

-- ---- dense text

-- the letters that the bytes of a body name, for the first n qubits
unfoldable pub letters_named : ℕ → List ℕ → List ℕ
letters_named n body = listed n (λ q. letter_named (slice_index body q))

-- the trimmed end
pub record EndRead (t : List ℕ) (r : ℕ) : Type 0 where
  pub is : r ≡ text_end t
  pub within : r ≤ length t

-- the body of the text, which begins at k
pub record DenseAt (t b : List ℕ) (k : ℕ) : Type 0 where
  pub place : k ≡ body_start t
  pub body : b ≡ dense_body t
  pub fits : k + length b < 18446744073709551616

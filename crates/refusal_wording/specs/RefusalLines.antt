-- The line of a refusal (change requests, "Refusals the crew can read"): "its number, a colon, a space, its sentence, and, where the
-- detail has a meaning, a space and the detail, all numbers as shortest decimals."
use Rattle.std.specs.Prelude.{ℕ, Bool, cond, ◌&&◌, ◌||◌, List, [], ◌∷◌, ◌++◌, eqb, leb}
use Prim.Native.String.{String}
use Rattle.pauli.specs.QuotedText.{bytes_of}
use Rattle.pauli.specs.SparseText.{decimal}

-- ---- sentences

pub record Sentence : Type 0 where
  pub number : ℕ
  pub text : String

infix 70 ◌says◌
abbrev pub ◌says◌ : ℕ → String → Sentence
n says s = record { number = n; text = s }

-- "The sentences are fixed texts without digits"; docs/REFUSALS.md lists them. Each is true of every question that has its number.
unfoldable pub sentences : List Sentence
sentences =
    1 says "the width is not allowed" ∷
    2 says "the length is wrong" ∷
    3 says "not a phase or letter, at offset" ∷
    4 says "no such gate; list record (zero outside a list):" ∷
    5 says "qubit out of range; the qubit (in a list, the record):" ∷
    6 says "the two qubits are the same; the qubit (in a list, the record):" ∷
    7 says "the destination is too short" ∷
    8 says "not an ASCII byte, at offset" ∷
    9 says "not a known letter, at offset" ∷
    10 says "a letter without an index, at offset" ∷
    11 says "the index is not a number in range, at offset" ∷
    12 says "named more than once, qubit" ∷
    13 says "the qubit of a letter is too high, at offset" ∷
    16 says "the list has a wrong length" ∷
    17 says "wrong head or fixed zero, list record" ∷
    18 says "the next index is outside the list, list record" ∷
    19 says "the chain does not end; it comes back to list record" ∷
    24 says "a row weight is false, at offset" ∷
    []

-- "A number without a meaning has the sentence "unknown""
unfoldable pub sentence_among : List Sentence → ℕ → List ℕ
sentence_among [] n = bytes_of "unknown"
sentence_among (s ∷ rest) n = cond (eqb n s.number) (bytes_of s.text) (sentence_among rest n)

unfoldable pub sentence : ℕ → List ℕ
sentence n = sentence_among sentences n

-- ---- the detail

abbrev pub between : ℕ → ℕ → ℕ → Bool
between low high n = leb low n && leb n high

-- "The detail has a meaning for 3 to 6, 8 to 15 and 17 to 19." "Later numbers join as they come, with a detail where their request
-- names one": so far 24.
unfoldable pub has_detail : ℕ → Bool
has_detail n = between 3 6 n || between 8 15 n || between 17 19 n || eqb n 24

unfoldable pub detail_text : ℕ → ℕ → List ℕ
detail_text n d = cond (has_detail n) (bytes_of " " ++ decimal d) []

-- ---- "For 14 and 15 it is the wording of `PauliWidthError`, with detail and width inside it and nothing after."

abbrev pub is_width_error : ℕ → Bool
is_width_error n = between 14 15 n

unfoldable pub width_error_text : ℕ → ℕ → List ℕ
width_error_text d w =
    bytes_of "qubit " ++ (decimal d ++ (bytes_of " is outside num_qubits " ++ (decimal w
    ++ bytes_of "; pass a width greater than the maximum qubit index (max qubit + 1)")))

-- ---- the line of number n with detail d and width w, which only 14 and 15 look at

unfoldable pub wording : ℕ → ℕ → ℕ → List ℕ
wording n d w = cond (is_width_error n) (width_error_text d w) (sentence n ++ detail_text n d)

unfoldable pub refusal_line : ℕ → ℕ → ℕ → List ℕ
refusal_line n d w = decimal n ++ (bytes_of ": " ++ wording n d w)

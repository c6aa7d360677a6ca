-- The readings of text: those of the scope document, and those of the rulings on text in docs/DECISIONS.md.
use Rattle.std.specs.Prelude.{ℕ, List, [], ◌∷◌, ◌++◌, replicate, Ok, Err}
use Prim.Native.String.{String}
use Rattle.pauli.specs.Answers.{refusal_number, refusal_detail, Outcome}
use Rattle.pauli.specs.Layout.{string_length}
use Rattle.pauli.specs.SparseText.{text_of_record}
use Rattle.pauli.specs.Text.{from_sparse_questions, sparse_record, from_dense_questions, dense_record, from_str_questions, text_record}
use Rattle.pauli.specs.QuotedText.{bytes_of}

-- `from_sparse_str`, `from_dense_str`, `from_str`
pub data Reader : Type 0 where
  sparse : Reader
  dense : Reader
  either : Reader

-- the number and the detail of a refusal, or the sparse text of the record written, which tells the record (`record-reads`)
pub data TextAnswer : Type 0 where
  refusal : ℕ → ℕ → TextAnswer
  string : List ℕ → TextAnswer

unfoldable pub text_answer : Outcome → List ℕ → TextAnswer
text_answer (Ok tt) r = string (text_of_record r)
text_answer (Err x) r = refusal (refusal_number x) (refusal_detail x)

-- by the definitions that the contracts cite, with room for a record
unfoldable pub read_by : Reader → List ℕ → TextAnswer
read_by sparse t = text_answer (from_sparse_questions t string_length) (sparse_record t)
read_by dense t = text_answer (from_dense_questions t string_length) (dense_record t)
read_by either t = text_answer (from_str_questions t string_length) (text_record t)

pub record TextReading : Type 0 where
  pub reader : Reader
  pub text : List ℕ
  pub answer : TextAnswer

abbrev pub text_reading : Reader → List ℕ → TextAnswer → TextReading
text_reading r t a = record { reader = r; text = t; answer = a }

abbrev pub refuses : Reader → String → ℕ → ℕ → TextReading
refuses r t n d = text_reading r (bytes_of t) (refusal n d)

abbrev pub reads : Reader → String → String → TextReading
reads r t s = text_reading r (bytes_of t) (string (bytes_of s))

unfoldable pub text_readings : List TextReading
text_readings =
    -- the scope document's
    reads sparse "X+3" "+X3" ∷
    reads sparse "X127" "+X127" ∷
    refuses sparse "X128" 13 1 ∷
    refuses sparse "X18446744073709551616" 11 1 ∷
    refuses sparse "X" 10 0 ∷
    refuses sparse "+I" 9 1 ∷
    refuses sparse "X0 X0" 12 0 ∷
    refuses sparse "Y1 Q" 9 3 ∷
    -- "Empty text is the identity, phase +1"
    reads sparse "" "+I" ∷
    reads dense "" "+I" ∷
    reads either "" "+I" ∷
    reads sparse " \t" "+I" ∷
    reads dense " \t" "+I" ∷
    -- "a prefix alone is the identity with that phase"
    reads sparse "+" "+I" ∷
    reads sparse "-" "-I" ∷
    reads sparse "+i" "+iI" ∷
    reads sparse "-i" "-iI" ∷
    reads sparse "i" "+iI" ∷
    reads dense "+" "+I" ∷
    reads dense "-" "-I" ∷
    reads dense "+i" "+iI" ∷
    reads dense "-i" "-iI" ∷
    reads dense "i" "+iI" ∷
    -- "So "+I" is accepted here and refused by `from_sparse_str`": any digit makes a text sparse
    reads either "+I" "+I" ∷
    reads dense "+I" "+I" ∷
    reads either "-iXYZ" "-iX0 Y1 Z2" ∷
    reads either "-ix2 z 0" "-iZ0 X2" ∷
    reads dense "1" "+I" ∷
    refuses either "1" 9 0 ∷
    -- a prefix takes as much as it can
    reads dense "iX" "+iX0" ∷
    reads dense "ii" "+iI" ∷
    reads dense "iiX" "+iX1" ∷
    reads dense "Ix" "+X1" ∷
    -- a numeral starts at its first byte, a + included
    refuses sparse "X+128" 13 1 ∷
    refuses sparse "X +128" 13 2 ∷
    refuses sparse "X+" 11 1 ∷
    -- 13 is asked token by token, 12 when all is read
    refuses sparse "X128 Q" 13 1 ∷
    refuses sparse "Q X128" 9 0 ∷
    refuses sparse "X0 X0 X128" 13 7 ∷
    refuses sparse "X5 X5 X3 X3" 12 3 ∷
    -- 10 only where no token follows
    refuses sparse "X Y1" 11 2 ∷
    refuses sparse "X0 Y" 10 3 ∷
    refuses sparse "X0Y1" 11 1 ∷
    refuses sparse "X 0 1" 9 4 ∷
    -- white space after the prefix, and inside it
    reads sparse "+ X0" "+X0" ∷
    refuses dense "+ XYZ" 9 1 ∷
    refuses sparse "- iX0" 9 2 ∷
    -- overflow is tested, digits are not counted
    text_reading sparse (bytes_of "X" ++ replicate 400 48 ++ bytes_of "5") (string (bytes_of "+X5")) ∷
    refuses sparse "X18446744073709551619" 11 1 ∷
    refuses sparse "X18446744073709551615" 13 1 ∷
    -- 8 is asked of the whole text first; offsets count before trimming
    text_reading sparse (bytes_of "Q" ++ (128 ∷ [])) (refusal 8 1) ∷
    text_reading dense (bytes_of "Q" ++ (128 ∷ [])) (refusal 8 1) ∷
    refuses sparse " Q" 9 1 ∷
    refuses dense " Q" 9 1 ∷
    -- a dense letter's place is its qubit
    text_reading dense (replicate 127 73 ++ bytes_of "XI1i") (string (bytes_of "+X127")) ∷
    text_reading dense (replicate 128 73 ++ bytes_of "X") (refusal 13 128) ∷
    []

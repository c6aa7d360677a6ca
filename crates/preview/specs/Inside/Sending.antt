-- What the private functions promise.
use Rattle.std.specs.Prelude.{ℕ, List}
use Rattle.pauli_group.specs.PauliString.{single}
use Rattle.clifford_group.specs.Conjugation.{Generator, generator}
use Rattle.pauli.specs.Answers.{Written, Outcome}
use Rattle.pauli.specs.Layout.{string_record}
use Rattle.clifford.specs.Questions.{compose_questions}
use Rattle.clifford.specs.Tableaux.{apply_record}

-- X or Z on a qubit; a string has no place for it from 128 on
abbrev pub letter_record : (g : Generator) (qubit : ℕ) → List ℕ
letter_record g q = string_record (single (generator g) q)

-- that string sent through b and then a
unfoldable pub sent_through : (g : Generator) (a b : List ℕ) (qubit : ℕ) → List ℕ
sent_through g a b q = apply_record a (apply_record b (letter_record g q))

-- it is written over d, which becomes e, after the tableaux' questions
abbrev pub LetterSent : (g : Generator) (a b : List ℕ) (qubit : ℕ) (d e : List ℕ) (r : Outcome) → Type 0
LetterSent g a b q d e r = Written (compose_questions a b) (sent_through g a b q) d e r

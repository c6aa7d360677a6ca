-- What a preview shows, on the bytes that `compose` and `play` promise to write, and where it is refused (change requests, "Preview of
-- one image").
use Rattle.std.specs.Prelude.{ℕ, ◌+◌, ◌-◌, ◌≤◌, ◌<◌, ◌≡◌, List, ◌++◌, ◌↔◌, take, drop, Ok, Err}
use Rattle.pauli_group.specs.Letter.{I}
use Rattle.pauli_group.specs.PauliString.{qubits}
use Rattle.clifford_group.specs.Conjugation.{Generator, of_x, of_z}
use Rattle.pauli.specs.declared.refusal.Refusal.{Refusal}
use Rattle.pauli.specs.declared.refusal.Refusal.TheVariants.{Room, Slot}
use Rattle.pauli.specs.Places.{listed}
use Rattle.pauli.specs.Layout.{letter_byte, string_length}
use Rattle.pauli.specs.Questions.{string_questions}
use Rattle.clifford.specs.Layout.{width_of, row_part, record_length}
use Rattle.clifford.specs.Questions.{compose_questions, compose_answer}
use Rattle.clifford.specs.Tableaux.{apply_record}
use Rattle.clifford.specs.GateAnswers.{gate_record}
use Rattle.clifford.specs.Promises.{Composed}
use Rattle.clifford_laws.specs.Weights.{without_weight}
use Rattle.clifford_laws.specs.Validity.{generator_record, larger_width}
use Rattle.gate_play.specs.PlayQuestions.{play_questions}
use Rattle.gate_play.specs.Promises.{Played}
use Rattle.preview.specs.Previews.{preview_answer, composed_image}
use Rattle.preview.specs.Promises.{Previewed}

-- where the row of X or of Z on a qubit stands among the rows of a record of width w
unfoldable pub row_index : Generator → ℕ → ℕ → ℕ
row_index of_x w q = q
row_index of_z w q = w + q

-- A row at the front of these bytes "read without" its weight, "letters beyond the width being I": a string's 129 bytes.
unfoldable pub row_as_string : List ℕ → ℕ → List ℕ
row_as_string e r = without_weight (row_part e r) ++ listed (qubits - width_of e) (λ q. letter_byte I)

-- The preview of a and b wrote h over f: the row of the tableau in e, and nothing behind its 129 bytes.
pub record ShowsRow (g : Generator) (q : ℕ) (e f h : List ℕ) : Type 0 where
  pub inside : q < width_of e
  pub row : take string_length h ≡ row_as_string e (row_index g (width_of e) q)
  pub behind : drop string_length h ≡ drop string_length f

-- The request's sentences, of all bytes a and b, valid tableaux or not.
pub record PreviewSentence : Type 0 where
  -- "It equals that row of the composed copy", which stands in e
  pub composed : (g : Generator) (a b : List ℕ) (q : ℕ) (d e f h : List ℕ) → Composed a b d e (Ok tt) → Previewed g a b q f h (Ok tt)
      → ShowsRow g q e f h
  -- "Before committing a gate": the row that the tableau t has after it, in e; each of them, where the gate can be played
  pub played : (g : Generator) (gate q₀ q₁ : ℕ) (t e : List ℕ) (q : ℕ) (f h : List ℕ) → Played gate q₀ q₁ t e (Ok tt)
      → Previewed g (gate_record gate q₀ q₁) t q f h (Ok tt) → ShowsRow g q e f h
  pub plays : (gate q₀ q₁ : ℕ) (t : List ℕ) (q room : ℕ) → play_questions t gate q₀ q₁ ≡ Ok tt → q < width_of t → string_length ≤ room
      → preview_answer (gate_record gate q₀ q₁) t q room ≡ Ok tt
  -- "composing a after b": X or Z on the qubit sent through b and then a, and a string again
  pub sent : (g : Generator) (a b : List ℕ) (q : ℕ) → compose_questions a b ≡ Ok tt → q < larger_width a b
      → composed_image g a b q ≡ apply_record a (apply_record b (generator_record g q))
  pub string : (g : Generator) (a b : List ℕ) (q : ℕ) → string_questions (composed_image g a b q) ≡ Ok tt
  -- where it is accepted: where composing is that has room enough, and the qubit and the destination are right
  pub accepted : (a b : List ℕ) (q room : ℕ)
      → (preview_answer a b q room ≡ Ok tt) ↔ ((compose_answer a b (record_length (larger_width a b)) ≡ Ok tt) × (q < larger_width a b) × (string_length ≤ room))
  -- "Refusals are those of composing other than 7, then 15 for a row's qubit outside the larger width, then 7"
  pub refused : (a b : List ℕ) (q room enough : ℕ) (why : Refusal) → record_length (larger_width a b) ≤ enough
      → compose_answer a b enough ≡ Err why → preview_answer a b q room ≡ Err why
  pub outside : (a b : List ℕ) (q room : ℕ) → compose_questions a b ≡ Ok tt → larger_width a b ≤ q
      → preview_answer a b q room ≡ Err (Slot q (larger_width a b))
  pub short : (a b : List ℕ) (q room : ℕ) → compose_questions a b ≡ Ok tt → q < larger_width a b → room < string_length
      → preview_answer a b q room ≡ Err Room

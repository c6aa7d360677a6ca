-- What the functions that write a whole text promise, and the part of a sparse text that one qubit has.
use Rattle.std.specs.Prelude.{◌≡◌, ℕ, Bool, true, false, List, [], ◌∷◌, length}
use Rattle.pauli_group.specs.Letter.{Letter}
use Rattle.pauli.specs.Rows.{copied}
use Rattle.pauli.specs.SparseText.{words_at}

-- the text w was written to the front of d, and r is its length
pub record TextWritten (w d e : List ℕ) (r : ℕ) : Type 0 where
  pub bytes : e ≡ copied w d
  pub count : r ≡ length w

-- what words at one qubit add to a text that has no word yet, or has some
unfoldable pub added : Bool → List (List ℕ) → List ℕ
added none [] = []
added true (w ∷ ws) = w
added false (w ∷ ws) = 32 ∷ w

unfoldable pub more_text : Bool → Letter → ℕ → List ℕ
more_text none l q = added none (words_at l q)

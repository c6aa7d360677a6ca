-- What a preview promises of its answer r: the image of X or Z on qubit q under the tableau a composed with b, in the destination, which
-- held d at entry and holds e at exit.
use Rattle.std.specs.Prelude.{ℕ, List, length}
use Rattle.clifford_group.specs.Conjugation.{Generator}
use Rattle.pauli.specs.Answers.{Written, Outcome}
use Rattle.preview.specs.Previews.{preview_answer, composed_image}

abbrev pub Previewed : (g : Generator) (a b : List ℕ) (q : ℕ) (d e : List ℕ) (r : Outcome) → Type 0
Previewed g a b q d e r = Written (preview_answer a b q (length d)) (composed_image g a b q) d e r

-- One line more is counted.
use denote.Ref.{Bor}
use Rattle.std.proofs.Common.{ℕ, List, [], ◌∷◌, ◌++◌}
use Rattle.std.proofs.lemmas.Fn.{FoldsTo-push}
use Rattle.vectors.specs.declared.tally.Outcome.{Outcome}
use Rattle.vectors.specs.declared.tally.Tally.{Tally}
use Rattle.vectors.specs.Tallies.{Tallied}
use Rattle.vectors.specs.Replays.{Comes, Counted, Counts, none}

pub with_line : {F : Type 0} (M : F → F → Type 0) (lines : List (Bor (List ℕ))) (line : Bor (List ℕ)) (f g h : F) (t r : Tally) (o : Outcome) → Counts M lines f g t → Comes (M g h) line.now o → Tallied o t r → Counts M (lines ++ (line ∷ [])) f h r
with_line M lines line f g h t r o s c y = FoldsTo-push (Counted M) (f, none) lines (g, t) line (h, r) s (o, c, y)

-- What a replay counts. Assumes nothing.
use denote.Ref.{Bor, MutBor}
use Rattle.std.specs.Prelude.{◌≡◌, ◌↔◌, ◌⊎◌, ℕ, List, Option}
use Rattle.std.specs.List.{FoldsTo}
use Rattle.pauli.specs.declared.refusal.Reply.{Reply}
use Rattle.vectors.specs.declared.reading.Trial.{Trial}
use Rattle.vectors.specs.declared.tally.Outcome.{Outcome}
use Rattle.vectors.specs.declared.tally.Outcome.TheVariants.{Blank, Match}
use Rattle.vectors.specs.declared.tally.Tally.{Tally}
use Rattle.vectors.specs.Lines.{IsBlank}
use Rattle.vectors.specs.Tallies.{next, Tallied}
use Rattle.vectors.specs.Verdicts.{IsMatch}

-- a call, by which f becomes g, comes to what its case expects
abbrev pub Matches : {F X : Type 0} → (F → X → Option Reply → MutBor Trial → F → Type 0) → F → F → Type 0
Matches {X = X} step f g = (x : X) × (p : Option Reply) × (k : MutBor Trial) × step f x p k g × IsMatch k.now p

-- what comes of a line, where Matched says that the call of its case comes to what the case expects
pub record Comes (Matched : Type 0) (line : List ℕ) (o : Outcome) : Type 0 where
  pub blank : (o ≡ Blank) ↔ IsBlank line
  pub matched : o ≡ Match → Matched

abbrev pub none : Tally
none = record { lines = 0; cases = 0; mismatches = 0 }

-- one line more, from what calls and the counts so far to those after it
abbrev pub Counted : {F : Type 0} → (F → F → Type 0) → F × Tally → Bor (List ℕ) → F × Tally → Type 0
Counted Matched p line q = (o : Outcome) × Comes (Matched p.0 q.0) line.now o × Tallied o p.1 q.1

-- t counts these lines, by calls that take f to g
abbrev pub Counts : {F : Type 0} → (F → F → Type 0) → List (Bor (List ℕ)) → F → F → Tally → Type 0
Counts Matched lines f g t = FoldsTo (Counted Matched) (f, none) lines (g, t)

-- one mismatch more, for a last line that may be cut short
abbrev pub cut : Tally → Tally
cut t = record { lines = t.lines; cases = t.cases; mismatches = next t.mismatches }

-- t counts the lines of an input, of which no more is known
abbrev pub InputReplayed : {F : Type 0} → (F → F → Type 0) → F → F → Tally → Type 0
InputReplayed Matched f g t = (lines : List (Bor (List ℕ))) × (s : Tally) × Counts Matched lines f g s × ((t ≡ s) ⊎ (t ≡ cut s))

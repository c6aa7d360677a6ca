-- `entries::Marks::of` meets its contract, by the laws of `Marking`.
use Rattle.pauli.proofs.EntryMarks.{Marking}
use Rattle.pauli.proofs.entries.Marks.of.Given as goal

abbrev pub invariant-loop-letter : goal.invariant-loop-letter
invariant-loop-letter l = Marking l.entries l.letter-index l.marks.0

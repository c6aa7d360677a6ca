-- `entries::Marks::of` meets its contract, by the laws of `Marking`.
use Rattle.pauli.proofs.EntryMarks.{marks}
use Rattle.pauli.proofs.entries.Marks.of.Goals as goal

pub loop-letter-preserved : goal.loop-letter-preserved
loop-letter-preserved c = search marks

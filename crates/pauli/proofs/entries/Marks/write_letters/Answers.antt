-- `entries::Marks::write_letters` meets its contract.
use Rattle.std.proofs.Common.{arith}
use Rattle.pauli.proofs.EntryStrings.{letter_marked, letter_fills}
use Rattle.pauli.proofs.Places.{filled_step}
use Rattle.pauli.proofs.entries.Marks.write_letters.Goals as goal

pub loop-q-init : goal.loop-q-init
loop-q-init c = search letter_fills

pub loop-q-preserved : goal.loop-q-preserved
loop-q-preserved c = filled_step c.loop-q.invariant (omega arith) (letter_marked 128 _ _ _ c.letter.ensures (omega arith) (omega arith))

pub returns : goal.returns
returns c = search letter_fills

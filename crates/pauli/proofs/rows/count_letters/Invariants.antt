-- `rows::count_letters` meets its contract, by the laws of `Counted`.
use Rattle.std.proofs.Common.{length}
use Rattle.pauli.proofs.RowProducts.{Counted, letter_here}
use Rattle.pauli.proofs.rows.count_letters.Given as goal

abbrev pub invariant-loop-x : goal.invariant-loop-x
invariant-loop-x l = Counted (letter_here l.s) (length l.s) l.x-index l.count

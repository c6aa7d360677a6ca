-- `rows::largest` meets its contract.
use Rattle.pauli.proofs.Places.{LargestTo}
use Rattle.pauli.proofs.rows.largest.Given as goal

abbrev pub invariant-loop-x : goal.invariant-loop-x
invariant-loop-x l = LargestTo l.s l.x-index l.most

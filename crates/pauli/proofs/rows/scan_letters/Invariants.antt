-- `rows::scan_letters` meets its contract.
use Rattle.pauli.proofs.RowProducts.{ScannedTo}
use Rattle.pauli.proofs.rows.scan_letters.Given as goal

abbrev pub invariant-loop-x : goal.invariant-loop-x
invariant-loop-x l = ScannedTo l.s l.x-index l.seen

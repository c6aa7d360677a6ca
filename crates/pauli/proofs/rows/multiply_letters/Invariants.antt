-- `rows::multiply_letters` meets its contract, by the laws of `Before`.
use Rattle.pauli.proofs.RowProducts.{Before}
use Rattle.pauli.proofs.rows.multiply_letters.Given as goal

abbrev pub invariant-loop-i : goal.invariant-loop-i
invariant-loop-i l = Before l.fn.acc l.b l.phase l.n l.i l.x-items l.turns

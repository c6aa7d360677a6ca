-- `rows::copy` meets its contract, by the laws of `Filled`.
use Rattle.pauli.proofs.Places.{Filled}
use Rattle.pauli.proofs.rows.copy.Given as goal

abbrev pub invariant-loop-i : goal.invariant-loop-i
invariant-loop-i l = Filled l.src l.initial.dst l.n l.i l.dst

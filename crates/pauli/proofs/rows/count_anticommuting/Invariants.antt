-- `rows::count_anticommuting` meets its contract, by the laws of `Counted`.
use Rattle.std.proofs.Common.{length}
use Rattle.pauli.specs.Rows.{shorter}
use Rattle.pauli.proofs.RowProducts.{Counted, crosses}
use Rattle.pauli.proofs.rows.count_anticommuting.Given as goal

abbrev pub invariant-loop-x : goal.invariant-loop-x
invariant-loop-x l = Counted (crosses l.a l.b) (shorter l.a l.b) (length l.yielded) l.count

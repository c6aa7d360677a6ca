-- `inverting::InverseRow::write_letters` meets its contract, by the laws of `Filled`.
use Rattle.std.proofs.Common.{arith}
use Rattle.pauli.proofs.Places.{filled_step}
use Rattle.clifford.proofs.Inverse.{body_at, body_all}
use Rattle.clifford.proofs.inverting.InverseRow.write_letters.Goals as goal

pub loop-c-preserved : goal.loop-c-preserved
loop-c-preserved c = filled_step c.loop-c.invariant (omega arith) (body_at _ _ _ _ c.body_letter.ensures (omega arith))

pub returns : goal.returns
returns c = body_all _ _ c.requires c.loop-c.invariant (omega arith)

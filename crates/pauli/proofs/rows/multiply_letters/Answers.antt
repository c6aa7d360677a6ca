-- `rows::multiply_letters` meets its contract, by the laws of `Before`.
use Rattle.std.proofs.Common.{refl}
use Rattle.pauli.proofs.RowProducts.{before-none, before-step, before_all}
use Rattle.pauli.proofs.rows.multiply_letters.Goals as goal

pub loop-i-init : goal.loop-i-init
loop-i-init c = before-none c.phase_turns-turns.ensures

pub loop-i-preserved : goal.loop-i-preserved
loop-i-preserved c = before-step c.min-n.ensures c.loop-i-test.true c.loop-i.invariant c.times_turns-turns.ensures refl c.times_letter.ensures

pub returns : goal.returns
returns c = before_all c.min-n.ensures c.loop-i-test.false c.loop-i.auto.i-end c.loop-i.invariant c.turns_phase.ensures

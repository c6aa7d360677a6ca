-- `algebra::multiply_step` meets its contract, by the laws of `StepTo`.
use Rattle.std.proofs.Common.{arith, length-append}
use Rattle.pauli.proofs.Multiplying.{step_part, step_none, step_letters, step_place, step_more, length_part}
use Rattle.pauli.proofs.Places.{numbered_turn}
use Rattle.pauli.proofs.algebra.multiply_step.Goals as goal

pub loop-q-init : goal.loop-q-init
loop-q-init c = step_none c.requires

pub add_turns-turns-requires : goal.add_turns-turns-requires
add_turns-turns-requires c =
    let turn = numbered_turn (step_part c.args.at c.args.s.now) (step_part c.args.at c.args.t.now) _ c.into_iter-q-iterator.result _ c.next.new.self _ (cc) (cc) (cc) c.loop-q.yielded_by _ c.in-Some.is c.next.ensures.steps in
    step_letters c.loop-q.invariant (omega (arith, turn.0, length_part c.args.at c.args.s.now)) turn.3 turn.4

pub bounds-row-at : goal.bounds-row-at
bounds-row-at c =
    let turn = numbered_turn (step_part c.args.at c.args.s.now) (step_part c.args.at c.args.t.now) _ c.into_iter-q-iterator.result _ c.next.new.self _ (cc) (cc) (cc) c.loop-q.yielded_by _ c.in-Some.is c.next.ensures.steps in
    omega (arith, turn.2, step_place c.loop-q.invariant (omega (arith, turn.0, length_part c.args.at c.args.s.now)))

pub loop-q-preserved : goal.loop-q-preserved
loop-q-preserved c =
    let turn = numbered_turn (step_part c.args.at c.args.s.now) (step_part c.args.at c.args.t.now) _ c.into_iter-q-iterator.result _ c.next.new.self _ (cc) (cc) (cc) c.loop-q.yielded_by _ c.in-Some.is c.next.ensures.steps in
    rw length-append (step_more c.loop-q.invariant (omega (arith, turn.0, length_part c.args.at c.args.s.now)) turn.3 turn.4 turn.2 c.add_turns-turns.ensures)

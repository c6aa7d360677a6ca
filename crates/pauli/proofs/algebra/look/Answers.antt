-- `algebra::look` meets its contract, by the laws of `SeenTo`.
use Rattle.std.proofs.Common.{length-append}
use Rattle.pauli.proofs.Places.{from, numbered_turn, numbered_end}
use Rattle.pauli.proofs.Looking.{looks, seen_pair, seen_all}
use Rattle.pauli.proofs.algebra.look.Goals as goal

pub returns-then-s-ne-STRING_LENGTH : goal.returns-then-s-ne-STRING_LENGTH
returns-then-s-ne-STRING_LENGTH c = search looks

pub loop-q-init : goal.loop-q-init
loop-q-init c = search looks

pub loop-q-preserved : goal.loop-q-preserved
loop-q-preserved c =
    let turn = numbered_turn (from 1 c.args.s.now) (from 1 c.args.t.now) _ c.into_iter-q-iterator.result _ c.next.new.self _ (cc) (cc) (cc) c.loop-q.yielded_by _ c.in-Some.is c.next.ensures.steps in
    rw length-append (seen_pair c.loop-q.invariant turn.0 turn.2 turn.3 turn.4 c.see-sight.ensures)

pub returns : goal.returns
returns c =
    seen_all c.loop-q.invariant (numbered_end (from 1 c.args.s.now) (from 1 c.args.t.now) _ c.into_iter-q-iterator.result _ c.next.new.self _ (cc) (cc) (cc) c.loop-q.yielded_by c.in-None.is c.next.ensures.steps)

-- `rows::first_bad` meets its contract: no byte is above 3, or `position` finds the first.
use Rattle.std.proofs.Common.{ltb, arith, rules, tests}
use Rattle.pauli.specs.Questions.{first_bad}
use Rattle.pauli.proofs.Places.{none_bad, position_iff, position_of_slice}
use Rattle.pauli.proofs.rows.first_bad.Goals as goal

pub returns-then-largest-lt4 : goal.returns-then-largest-lt4
returns-then-largest-lt4 c = λ l. omega (arith, none_bad _ c.largest.ensures c.if-largest-lt4.true)

pub returns : goal.returns
unfolding first_bad
returns c = position_iff (ltb 3) _ _ (position_of_slice (ltb 3) c.args.s.now c.position.ensures.ran (cc) (λ x b q k. search (rules, tests)))

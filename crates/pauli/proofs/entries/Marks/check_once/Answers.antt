-- `entries::Marks::check_once` meets its contract.
use Rattle.std.proofs.Common.{rules, tests}
use Rattle.pauli.specs.Inside.Marks.{is_twice}
use Rattle.pauli.proofs.EntryStrings.{marks-twice, marks-once}
use Rattle.pauli.proofs.Places.{position_of_slice}
use Rattle.pauli.proofs.entries.Marks.check_once.Goals as goal

pub returns-in-Some : goal.returns-in-Some
unfolding is_twice
returns-in-Some c = marks-twice _ (search rules) (position_of_slice is_twice c.args.self.now.0 c.in-Some.ensures.ran (cc) (λ x b q k. search (rules, tests)))

pub returns-in-None : goal.returns-in-None
unfolding is_twice
returns-in-None c = marks-once _ (search rules) (position_of_slice is_twice c.args.self.now.0 c.in-None.ensures.ran (cc) (λ x b q k. search (rules, tests)))

-- `text::check_ascii` meets its contract.
use Rattle.std.proofs.Common.{rules, tests}
use Rattle.pauli.proofs.Places.{position_of_slice}
use Rattle.pauli.proofs.TextBytes.{ascii_not, ascii_all}
use Rattle.pauli.proofs.text.check_ascii.Goals as goal

pub returns-in-Some : goal.returns-in-Some
returns-in-Some c = ascii_not _ (position_of_slice _ c.args.t.now c.in-Some.ensures.ran (cc) (λ x b q k. search (rules, tests)))

pub returns-in-None : goal.returns-in-None
returns-in-None c = ascii_all _ (position_of_slice _ c.args.t.now c.in-None.ensures.ran (cc) (λ x b q k. search (rules, tests)))

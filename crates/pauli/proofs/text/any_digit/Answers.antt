-- `text::any_digit` meets its contract.
use Rattle.std.proofs.Common.{rules, tests}
use Rattle.std.specs.Char.{is_ascii_digit}
use Rattle.std.proofs.lemmas.Iterator.{YieldsList-from_slice}
use Rattle.std.proofs.lemmas.Iterator.Search.{any_from_yields_List}
use Rattle.pauli.proofs.EitherText.{sparse-any}
use Rattle.pauli.proofs.text.any_digit.Goals as goal

pub returns : goal.returns
returns c =
    sparse-any _ (any_from_yields_List is_ascii_digit _ _ _ c.any.ensures.ran (YieldsList-from_slice c.args.t.now cc) (λ x b q k. search (rules, tests)))

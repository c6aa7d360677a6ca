use Rattle.std.proofs.Common.{rules, ◌∙◌}
use borrow.Author.Tests.{tests}
use Rattle.clifford.specs.Layout.{tableau_of}
use Rattle.clifford.proofs.Ranges.{all-below}
use Rattle.clifford.proofs.IsValid.{valid_row, rows-valid}
use Rattle.clifford.proofs.tableau.TableauRecord.is_valid.Goals as goal

pub returns : goal.returns
unfolding valid_row
returns c =
    all-below c.width.result (valid_row (tableau_of c.args.self.now.bytes.now)) (cc) c.all.ensures.ran (λ x b q k. search (rules, tests))
    ∙ rows-valid c.args.self.now.bytes.now c.width.ensures.is

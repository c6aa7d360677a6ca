use Rattle.std.proofs.Common.{rules, arith}
use borrow.Author.Tests.{tests}
use Rattle.std.proofs.lemmas.Grind.{common_steps}
use Rattle.clifford_group.specs.Tableau.{valid_pair}
use Rattle.clifford.specs.Layout.{tableau_of}
use Rattle.clifford.proofs.Ranges.{all-below}
use Rattle.clifford.proofs.tableau.Qubit.is_valid.Goals as goal

pub returns-then-has_valid_rows : goal.returns-then-has_valid_rows
returns-then-has_valid_rows c =
    let e = all-below c.args.self.now.q (valid_pair (tableau_of c.args.self.now.bytes.now) c.args.self.now.q) (cc) c.all.ensures.ran (λ x b q k. search (rules, tests)) in
    grind (arith, common_steps)

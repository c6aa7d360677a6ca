use Rattle.std.proofs.Common.{rules, ◌∙◌}
use borrow.Author.Tests.{tests}
use Rattle.clifford.specs.Support.{supports_qubit}
use Rattle.clifford.specs.Layout.{tableau_of}
use Rattle.clifford.proofs.Ranges.{any-below}
use Rattle.clifford.proofs.SupportQubits.{support-is}
use Rattle.clifford.proofs.tableau.TableauRecord.in_support.Goals as goal

pub returns : goal.returns
returns c =
    any-below c.width.result (supports_qubit (tableau_of c.args.self.now.bytes.now) c.args.k) (cc) c.any.ensures.ran (λ x b q k. search (rules, tests))
    ∙ support-is c.args.self.now.bytes.now c.args.k c.width.ensures.is

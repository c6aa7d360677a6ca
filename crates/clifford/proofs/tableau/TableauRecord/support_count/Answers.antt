use Rattle.std.proofs.Common.{rules, ◌∙◌, ap, length}
use borrow.Author.Tests.{tests}
use Rattle.std.proofs.lemmas.Iterator.Consumers.{count_from_yields_List}
use Rattle.clifford.specs.Support.{in_support}
use Rattle.clifford.specs.Layout.{tableau_of}
use Rattle.clifford.proofs.Ranges.{kept-below}
use Rattle.clifford.proofs.SupportQubits.{places-all}
use Rattle.clifford.proofs.tableau.TableauRecord.support_count.Goals as goal

pub returns : goal.returns
returns c =
    count_from_yields_List _ _ c.count.ensures.ran
    (kept-below c.width.result (in_support (tableau_of c.args.self.now.bytes.now)) c.filter.ensures.source c.filter.ensures.closure (λ x b q k. search (rules, tests)))
    ∙ ap length (places-all c.args.self.now.bytes.now c.width.ensures.is)

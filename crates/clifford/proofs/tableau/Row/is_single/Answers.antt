use Rattle.std.proofs.Common.{arith, rules, refl}
use borrow.Author.Tests.{tests}
use Rattle.std.proofs.lemmas.Grind.{common_steps}
use Rattle.std.proofs.lemmas.Bool.Decides.{nat_tests}
use Rattle.std.proofs.lemmas.Iterator.{YieldsList-from_slice}
use Rattle.std.proofs.lemmas.Iterator.Consumers.{YieldsList-from_enumerate}
use Rattle.std.proofs.lemmas.Iterator.Search.{all_from_yields_List}
use Rattle.clifford_group.specs.Conjugation.{generator}
use Rattle.clifford.proofs.SupportQubits.{byte_same, single-is}
use Rattle.clifford.proofs.tableau.Row.is_single.Goals as goal

pub returns-then-phase-eq0 : goal.returns-then-phase-eq0
returns-then-phase-eq0 g c =
    let t = c.args.self.now.bytes.now in
    let r = c.args.self.now.r in
    let l = c.letters-letters.ensures in
    let a = generator g.G.Generator.letter in
    let e = single-is t r l a c.args.q c.phase.ensures
    (all_from_yields_List (byte_same t r l a c.args.q) _ _ _ c.all.ensures.ran
    (YieldsList-from_enumerate (YieldsList-from_slice c.letters-letters.result.now (cc)) (cc))
    (λ x b q k. search (rules, tests))) in
    grind (arith, common_steps, nat_tests)

pub returns-else-phase-eq0 : goal.returns-else-phase-eq0
returns-else-phase-eq0 g c =
    let t = c.args.self.now.bytes.now in
    let r = c.args.self.now.r in
    let e = single-is t r c.letters-letters.ensures (generator g.G.Generator.letter) c.args.q c.phase.ensures refl in
    grind (arith, common_steps, nat_tests)

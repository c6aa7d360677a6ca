-- `setting::check_inside` meets its contract.
use Rattle.std.proofs.Common.{rules, ◌≡◌, ◌+◌, get_or, arith}
use borrow.Author.Tests.{tests}
use Rattle.std.proofs.lemmas.Iterator.{first_from_Range}
use Rattle.clifford.proofs.SetImage.{outside_first, outside_none, inside_no, inside_yes}
use Rattle.clifford.proofs.setting.check_inside.Goals as goal

pub returns-in-Some : goal.returns-in-Some
returns-in-Some c =
    let found = first_from_Range _ _ _ _ (λ q. get_or c.args.s.now (q + 1) 0 ≡ 0 → ⊥) (λ q. get_or c.args.s.now (q + 1) 0 ≡ 0) c.find.ensures.ran
    (λ x q k. search (rules, tests)) (λ x q k. search (rules, tests)) in
    let first = outside_first c.requires (cc) (cc) (rw c.in-Some.is at found) in
    inside_no _ _ first.1 first.0

pub returns-in-None : goal.returns-in-None
returns-in-None c =
    let found = first_from_Range _ _ _ _ (λ q. get_or c.args.s.now (q + 1) 0 ≡ 0 → ⊥) (λ q. get_or c.args.s.now (q + 1) 0 ≡ 0) c.find.ensures.ran
    (λ x q k. search (rules, tests)) (λ x q k. search (rules, tests)) in
    inside_yes _ _ (outside_none c.requires (cc) (cc) (rw c.in-None.is at found)) (omega arith)

-- `pauli_tableau::span` meets its contract.
use Rattle.std.proofs.Common.{rules, tests, sym, ◌∙◌}
use Rattle.std.proofs.lemmas.Iterator.Adapters.{YieldsList-from_rev_slice}
use Rattle.std.proofs.lemmas.Iterator.Search.{position_from_yields_List}
use Rattle.pauli.proofs.Places.{from}
use Rattle.clifford.proofs.PauliTableau.{some_letter, span_some, span_one}
use Rattle.clifford.proofs.pauli_tableau.span.Goals as goal

pub returns-in-Some : goal.returns-in-Some
returns-in-Some c =
    span_some c.requires
    (sym c.in-Some.is ∙ position_from_yields_List some_letter _ _ _ c.position.ensures.ran (YieldsList-from_rev_slice (from 1 c.args.s.now) cc) (λ x b q k. search (rules, tests)))

pub returns-in-None : goal.returns-in-None
returns-in-None c =
    span_one c.requires
    (sym c.in-None.is ∙ position_from_yields_List some_letter _ _ _ c.position.ensures.ran (YieldsList-from_rev_slice (from 1 c.args.s.now) cc) (λ x b q k. search (rules, tests)))

use Rattle.std.proofs.Common.{rules, ◌≡◌, ℕ, length, arith, ap, set, sym, subst}
use borrow.Author.Tests.{tests}
use Rattle.std.specs.List.{enumerate_from}
use Rattle.std.proofs.lemmas.List.{length_push}
use Rattle.std.proofs.lemmas.List.FromFn.{length-enumerate_from}
use Rattle.std.proofs.lemmas.Iterator.Consumers.{YieldsList-at, YieldsList-from_enumerate, YieldsList-turn, YieldsList-end}
use Rattle.clifford.specs.Layout.{tableau_of}
use Rattle.clifford.specs.Support.{in_support, places_with, support_qubits}
use Rattle.clifford.proofs.Ranges.{kept-below}
use Rattle.clifford.proofs.SupportQubits.{WroteTo, Comes, comes, places-all, support-small, wrote_place, wrote_more, wrote_all}
use Rattle.clifford.proofs.tableau.TableauRecord.write_support.Goals as goal

-- the qubit that an iteration has
coming : (c : goal.In-Some) → Comes (support_qubits (tableau_of c.args.self.now.bytes.now)) (length c.writing.yielded) c.in-Some.place c.in-Some.k
coming c =
    comes (places-all c.args.self.now.bytes.now c.width.ensures.is)
    (YieldsList-turn (YieldsList-at c.into_iter-place-iterator.ensures.into_iter_gives
    (YieldsList-from_enumerate
    (YieldsList-at c.enumerate-place-items.ensures.source
    (kept-below c.width.result (in_support (tableau_of c.args.self.now.bytes.now)) c.filter-qubits.ensures.source c.filter-qubits.ensures.closure (λ x b q k. search (rules, tests))))
    c.enumerate-place-items.ensures.count))
    c.writing.yielded c.writing.place-iterator c.writing.yielded_by _ _ (c.in-Some.place, c.in-Some.k) c.in-Some.is c.next.ensures.steps)

pub overflow_cast-dst : goal.overflow_cast-dst
overflow_cast-dst c =
    record { fits = omega (arith, (coming c).is, support-small c.args.self.now.bytes.now (length c.writing.yielded) c.in-Some.k (omega (arith, c.width.ensures.is, c.width.ensures.narrow)) (coming c).there) }

pub bounds-dst-place : goal.bounds-dst-place
bounds-dst-place c =
    wrote_place (support_qubits (tableau_of c.args.self.now.bytes.now)) c.args.dst.now c.requires c.writing.invariant (coming c)

pub writing-preserved : goal.writing-preserved
writing-preserved c =
    subst (λ (j : ℕ). WroteTo (support_qubits (tableau_of c.args.self.now.bytes.now)) c.args.dst.now j (set c.writing.dst c.in-Some.place c.in-Some.k)) (sym (length_push c.writing.yielded (c.in-Some.place, c.in-Some.k)))
    (wrote_more (support_qubits (tableau_of c.args.self.now.bytes.now)) c.args.dst.now c.requires c.writing.invariant (coming c))

pub returns : goal.returns
returns c =
    let end : length c.writing.yielded ≡ length (enumerate_from 0 (places_with c.width.result (in_support (tableau_of c.args.self.now.bytes.now)))) = (YieldsList-end (YieldsList-at c.into_iter-place-iterator.ensures.into_iter_gives
    (YieldsList-from_enumerate
    (YieldsList-at c.enumerate-place-items.ensures.source
    (kept-below c.width.result (in_support (tableau_of c.args.self.now.bytes.now)) c.filter-qubits.ensures.source c.filter-qubits.ensures.closure (λ x b q k. search (rules, tests))))
    c.enumerate-place-items.ensures.count))
    c.writing.yielded c.writing.place-iterator c.writing.yielded_by _ _ c.in-None.is c.next.ensures.steps).1 in
    wrote_all (support_qubits (tableau_of c.args.self.now.bytes.now)) c.args.dst.now
    (omega (arith, end, length-enumerate_from 0 (places_with c.width.result (in_support (tableau_of c.args.self.now.bytes.now))), ap length (places-all c.args.self.now.bytes.now c.width.ensures.is)))
    c.writing.invariant

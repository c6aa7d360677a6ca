-- `algebra::multiply_places` meets its contract, by the laws of `PlacesTo`.
use Rattle.pauli.proofs.Multiplying.{PlacesTo}
use Rattle.pauli.proofs.algebra.multiply_places.Given as goal

abbrev pub invariant-loop-step : goal.invariant-loop-step
invariant-loop-step l = PlacesTo l.s l.t l.places l.initial.row l.step l.row l.turns

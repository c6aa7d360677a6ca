-- The order of a run: the first gate is composed on the left of the record before the gates after it.
use mathlib.Core.Path.{◌≡◌, refl}
use mathlib.Core.List.{List, ◌∷◌}
use Prim.Native.Nat.{ℕ}
use Rattle.clifford.specs.GateAnswers.{gate_record}
use Rattle.clifford.specs.Tableaux.{compose_record}
use Rattle.clifford_laws.specs.WayBack.{product_from}
use Rattle.gate_list.specs.Lists.{Play}
use Rattle.gate_list.specs.Runs.{tableaux_of}

pub product-first : (t : List ℕ) (p : Play) (rest : List Play)
    → product_from t (tableaux_of (p ∷ rest)) ≡ product_from (compose_record (gate_record p.gate p.first p.second) t) (tableaux_of rest)
unfolding product_from tableaux_of
product-first t p rest = refl

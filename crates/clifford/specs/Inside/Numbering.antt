-- The number of a gate.
use Rattle.std.specs.Prelude.{ℕ}
use Rattle.clifford.specs.declared.numbering.Gate.{Gate}
use Rattle.clifford.specs.declared.numbering.Gate.TheVariants.{One, Two}

unfoldable pub gate_number : Gate → ℕ
gate_number (One g) = g.number
gate_number (Two g) = g.number

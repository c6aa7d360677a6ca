-- `entries::Marks::write_letters` meets its contract, by the laws of `Filled`.
use Rattle.std.proofs.Common.{length}
use Rattle.pauli.specs.Inside.Marks.{letters_marked}
use Rattle.pauli.proofs.Places.{Filled}
use Rattle.pauli.proofs.entries.Marks.write_letters.Given as goal

abbrev pub invariant-loop-q : goal.invariant-loop-q
invariant-loop-q l = Filled (letters_marked 128 l.self.0) l.initial.row (length l.initial.row) l.q l.row

-- `inverting::InverseRow::write_letters` meets its contract, by the laws of `Filled`.
use Rattle.std.proofs.Common.{length}
use Rattle.pauli.proofs.Places.{Filled}
use Rattle.clifford.specs.Layout.{tableau_of}
use Rattle.clifford.specs.Inside.InverseRows.{body_bytes}
use Rattle.clifford.proofs.inverting.InverseRow.write_letters.Given as goal

abbrev pub invariant-loop-c : goal.invariant-loop-c
invariant-loop-c l = Filled (body_bytes (tableau_of l.self.t.bytes.now) l.self.row.width l.self.row.r) l.initial.letters (length l.initial.letters) l.c l.letters

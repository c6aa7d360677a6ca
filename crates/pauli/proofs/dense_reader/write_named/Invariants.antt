-- `dense_reader::write_named` meets its contract, by the laws of `Filled`.
use Rattle.std.proofs.Common.{length}
use Rattle.pauli.specs.Inside.Reading.{letters_named}
use Rattle.pauli.proofs.Places.{Filled}
use Rattle.pauli.proofs.dense_reader.write_named.Given as goal

abbrev pub invariant-loop-i : goal.invariant-loop-i
invariant-loop-i l = Filled (letters_named (length l.initial.dst) l.body) l.initial.dst (length l.initial.dst) l.i l.dst

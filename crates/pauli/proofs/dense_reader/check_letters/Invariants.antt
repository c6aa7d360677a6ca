-- `dense_reader::check_letters` meets its contract, by the laws of `Lettered`.
use Rattle.pauli.proofs.DenseReading.{Lettered}
use Rattle.pauli.proofs.dense_reader.check_letters.Given as goal

abbrev pub invariant-loop-i : goal.invariant-loop-i
invariant-loop-i l = Lettered l.body l.offset l.i

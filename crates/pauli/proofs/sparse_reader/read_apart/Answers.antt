-- `sparse_reader::read_apart` meets its contract.
use Rattle.std.proofs.Common.{arith}
use Rattle.pauli.proofs.SparseReading.{apart_not}
use Rattle.pauli.proofs.sparse_reader.read_apart.Goals as goal

pub returns-in_err-qubit : goal.returns-in_err-qubit
returns-in_err-qubit c = grind (arith, apart_not)

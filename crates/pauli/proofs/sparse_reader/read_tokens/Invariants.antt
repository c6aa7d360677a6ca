-- `sparse_reader::read_tokens` meets its contract, by the laws of `Reading`.
use Rattle.std.proofs.Common.{◌-◌, length, drop}
use Rattle.pauli.specs.Text.{tokens}
use Rattle.pauli.proofs.SparseTokens.{Reading}
use Rattle.pauli.proofs.sparse_reader.read_tokens.Given as goal

abbrev pub invariant-loop-at : goal.invariant-loop-at
invariant-loop-at l = Reading (tokens l.start (drop l.start l.t)) l.t l.at l.marks.0

abbrev pub decreases-loop-at : goal.decreases-loop-at
decreases-loop-at l = length l.t - l.at

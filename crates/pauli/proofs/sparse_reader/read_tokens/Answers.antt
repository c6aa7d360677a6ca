-- `sparse_reader::read_tokens` meets its contract, by the laws of `Reading`.
use Rattle.std.proofs.Common.{arith}
use Rattle.pauli.proofs.SparseTokens.{reading-refused, reading_done, readings}
use Rattle.pauli.proofs.sparse_reader.read_tokens.Goals as goal

pub loop-at-init : goal.loop-at-init
loop-at-init c = search readings

pub mark-requires : goal.mark-requires
mark-requires c = search (readings, c.in_ok-entry.ensures)

pub skip_spaces-at-requires-in-loop-at : goal.skip_spaces-at-requires-in-loop-at
skip_spaces-at-requires-in-loop-at c = search (readings, c.in_ok-entry.ensures)

pub loop-at-preserved : goal.loop-at-preserved
loop-at-preserved c = search (readings, c.in_ok-entry.ensures)

pub returns : goal.returns
returns c = reading_done c.loop-at.invariant (omega arith)

pub returns-in_err-entry : goal.returns-in_err-entry
returns-in_err-entry c = reading-refused c.loop-at.invariant c.in_err-entry.ensures c.from_residual.ensures.1

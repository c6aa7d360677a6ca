-- `text_writer::TextWriter::put_sparse` meets its contract, by the laws of `Wording`.
use Rattle.pauli.proofs.SparseTexts.{wording_none, wording_step, wording_empty, wording_some}
use Rattle.pauli.proofs.text_writer.TextWriter.put_sparse.Goals as goal

pub loop-q-init : goal.loop-q-init
loop-q-init c = wording_none c.min-n.ensures c.put_prefix.ensures

pub loop-q-preserved : goal.loop-q-preserved
loop-q-preserved c = wording_step c.loop-q.invariant c.loop-q-test.true c.put_more-first.ensures.text c.put_more-first.ensures.none

pub returns-then-first : goal.returns-then-first
returns-then-first c = wording_empty c.min-n.ensures c.loop-q-test.false c.loop-q.invariant c.if-first.true c.put.ensures

pub returns-else-first : goal.returns-else-first
returns-else-first c = wording_some c.min-n.ensures c.loop-q-test.false c.loop-q.invariant c.if-first.false

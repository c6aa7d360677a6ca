-- `text_writer::TextWriter::put_sparse` meets its contract, by the laws of `Wording`.
use Rattle.pauli.proofs.SparseTexts.{Wording}
use Rattle.pauli.proofs.text_writer.TextWriter.put_sparse.Given as goal

abbrev pub invariant-loop-q : goal.invariant-loop-q
invariant-loop-q l = Wording l.letters l.phase l.n l.q l.first l.fn.self l.self

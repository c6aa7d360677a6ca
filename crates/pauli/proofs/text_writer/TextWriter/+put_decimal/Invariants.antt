-- `text_writer::TextWriter::put_decimal` ends: a tenth is smaller.
use Rattle.pauli.proofs.text_writer.TextWriter.+put_decimal.Given as goal

abbrev pub decreases-put_decimal : goal.decreases-put_decimal
decreases-put_decimal l = l.n

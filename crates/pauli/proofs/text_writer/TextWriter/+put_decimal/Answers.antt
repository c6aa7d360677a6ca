-- `text_writer::TextWriter::put_decimal` meets its contract.
use Rattle.std.proofs.Common.{rules}
use Rattle.pauli.proofs.TextWriters.{number_one, number_more}
use Rattle.pauli.proofs.text_writer.TextWriter.+put_decimal.Goals as goal
use Rattle.pauli.proofs.text_writer.TextWriter.+put_decimal.Goals.{then-n-ge10, else-n-ge10}

pub returns : goal.returns
returns t c = elim c.if-n-ge10.branch [
  | then-n-ge10 w ↦ search (number_more, rules)
  | else-n-ge10 w ↦ search (number_one, rules)
]

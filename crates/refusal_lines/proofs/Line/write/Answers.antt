-- `Line::write` meets its contract.
use Rattle.std.proofs.Common.{rules}
use Rattle.refusal_lines.proofs.LineWrites.{line_written}
use Rattle.refusal_lines.proofs.Line.write.Goals as goal

pub returns : goal.returns
returns c = line_written (search rules) (search rules) (search rules) c.new-writer.ensures.front c.new-writer.ensures.same_bytes c.put_decimal.ensures c.put_text.ensures c.put_wording.ensures (search rules) c.place.ensures

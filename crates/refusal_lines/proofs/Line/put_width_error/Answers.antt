-- `Line::put_width_error` meets its contract.
use Rattle.refusal_lines.proofs.LineWrites.{error_put}
use Rattle.refusal_lines.proofs.Line.put_width_error.Goals as goal

pub returns : goal.returns
returns c = error_put c.args.self.detail c.args.self.width c.put_text.ensures c.put_decimal.ensures c.put_text-2.ensures c.put_decimal-2.ensures c.put_text-3.ensures

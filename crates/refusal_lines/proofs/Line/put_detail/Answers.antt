-- `Line::put_detail` meets its contract.
use Rattle.refusal_lines.proofs.LineWrites.{detail_none, detail_some}
use Rattle.refusal_lines.proofs.Line.put_detail.Goals as goal

pub returns-then-has_detail : goal.returns-then-has_detail
returns-then-has_detail c = detail_some c.args.self.number c.args.self.detail c.has_detail.ensures c.if-has_detail.true c.put_text.ensures c.put_decimal.ensures

pub returns-else-has_detail : goal.returns-else-has_detail
returns-else-has_detail c = detail_none c.args.self.number c.args.self.detail c.has_detail.ensures c.if-has_detail.false

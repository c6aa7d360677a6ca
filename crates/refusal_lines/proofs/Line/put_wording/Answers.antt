-- `Line::put_wording` meets its contract.
use Rattle.refusal_lines.proofs.LineWrites.{wording_error, wording_sentence}
use Rattle.refusal_lines.proofs.Line.put_wording.Goals as goal

pub returns-then-is_width_error : goal.returns-then-is_width_error
returns-then-is_width_error c = wording_error c.args.self.number c.args.self.detail c.args.self.width c.is_width_error.ensures c.if-is_width_error.true c.put_width_error.ensures

pub returns : goal.returns
returns c = wording_sentence c.args.self.number c.args.self.detail c.args.self.width c.is_width_error.ensures c.if-is_width_error.false c.sentence.ensures c.put_text.ensures c.put_detail.ensures

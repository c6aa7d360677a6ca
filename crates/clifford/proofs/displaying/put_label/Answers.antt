-- `displaying::put_label` meets its contract.
use Rattle.clifford.proofs.Display.{label_put}
use Rattle.clifford.proofs.displaying.put_label.Goals as goal

pub returns : goal.returns
returns c = label_put c.args.row.width c.args.row.r c.qubit.ensures.is c.put_text.ensures c.put_letter.ensures c.put_decimal.ensures c.put_text-2.ensures

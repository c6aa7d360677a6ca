-- `displaying::put_header` meets its contract.
use Rattle.clifford.proofs.Display.{header_put}
use Rattle.clifford.proofs.displaying.put_header.Goals as goal

pub returns : goal.returns
returns c = header_put c.args.width c.put_text.ensures c.put_decimal.ensures c.put_text-2.ensures

use Rattle.clifford.proofs.Display.{line_put}
use Rattle.clifford.proofs.tableau.Row.put_line.Goals as goal

pub returns : goal.returns
returns c = line_put c.args.self.now.own c.width.ensures c.phase.ensures c.letters.ensures c.put_label.ensures c.put_sparse.ensures c.put_text.ensures

use Rattle.clifford.proofs.Display.{Lines}
use Rattle.clifford.proofs.tableau.TableauRecord.write_display.Given as goal

abbrev pub invariant-loop-q : goal.invariant-loop-q
invariant-loop-q l = Lines l.self.bytes.now l.q l.initial.writer l.writer

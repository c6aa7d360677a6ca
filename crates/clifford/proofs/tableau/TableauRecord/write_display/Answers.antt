use Rattle.std.proofs.Common.{rules}
use Rattle.clifford.proofs.Display.{lines_none, lines_more, lines_written}
use Rattle.clifford.proofs.tableau.TableauRecord.write_display.Goals as goal

pub loop-q-init : goal.loop-q-init
loop-q-init c = lines_none _

pub loop-q-preserved : goal.loop-q-preserved
loop-q-preserved c =
    lines_more c.loop-q.invariant c.qubit-qubit.ensures.bytes c.qubit-qubit.ensures.place c.row.ensures.bytes c.row.ensures.place
    c.row-in-loop-q.ensures.bytes c.row-in-loop-q.ensures.place c.put_line.ensures c.put_line-in-loop-q.ensures

pub returns : goal.returns
returns c = lines_written c.width-n.ensures.is c.width-n.ensures.narrow c.loop-q.auto.q-end c.loop-q-test.false c.new-writer.ensures.front c.new-writer.ensures.same_bytes c.put_header.ensures c.put_text.ensures c.loop-q.invariant (search rules) c.place.ensures

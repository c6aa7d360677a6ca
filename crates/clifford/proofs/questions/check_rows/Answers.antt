-- `questions::check_rows` meets its contract: a loop over the rows that leaves at the first 3.
use Rattle.std.proofs.Common.{◌∙◌, sym}
use Rattle.clifford.proofs.Asking.{rows_more, rows_first, asked_rows}
use Rattle.clifford.proofs.questions.check_rows.Goals as goal
use Rattle.clifford.proofs.questions.check_rows.Goals.{then-not-branch, else-not-branch}

pub loop-r-init : goal.loop-r-init
loop-r-init c = search asked_rows

pub returns-in_err-check_row : goal.returns-in_err-check_row
returns-in_err-check_row c = search (asked_rows, c.in_err-check_row.ensures)

pub loop-r-preserved : goal.loop-r-preserved
loop-r-preserved c =
    let passed = sym c.in_ok-check_row.was ∙ c.check_row.ensures in
    elim c.if-not-branch.branch [
      | then-not-branch w ↦ rw (w.first-is, w.or-first.ensures) (rows_first c.loop-r.invariant c.loop-r-test.true passed w.if-not-branch.true)
      | else-not-branch w ↦ rw w.first-is (rows_more c.loop-r.invariant c.loop-r-test.true passed w.if-not-branch.false)
    ]

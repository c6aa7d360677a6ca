-- `pauli_string::from_sparse_str` meets its contract: the questions in their order, and the record where they let it by.
use Rattle.pauli.proofs.Answers.{written-exit}
use Rattle.pauli.proofs.SparseStrings.{sparse_not_ascii, sparse_bad_token, sparse_marks, sparse_asked, sparse_fit, sparse_written}
use Rattle.pauli.proofs.pauli_string.from_sparse_str.Goals as goal

pub returns-in_err-check_ascii : goal.returns-in_err-check_ascii
returns-in_err-check_ascii c = written-exit _ _ (sparse_not_ascii _ _ c.in_err-check_ascii.ensures) c.from_residual.ensures.1

pub returns-in_err-marks : goal.returns-in_err-marks
returns-in_err-marks c =
    written-exit _ _ (sparse_bad_token c.read_head-head.ensures c.in_ok-check_ascii.ensures _ c.in_err-marks.ensures) c.from_residual-in_err-marks.ensures.1

pub returns-in_err-check : goal.returns-in_err-check
returns-in_err-check c =
    written-exit _ _ (sparse_asked c.read_head-head.ensures c.in_ok-check_ascii.ensures _ c.in_ok-marks.ensures c.in_err-check.ensures) c.from_residual-in_err-check.ensures.1

pub write-requires : goal.write-requires
write-requires c =
    sparse_fit _ c.read_head-head.ensures (sparse_asked c.read_head-head.ensures c.in_ok-check_ascii.ensures _ c.in_ok-marks.ensures c.in_ok-check.ensures)
    (sparse_marks c.read_head-head.ensures c.in_ok-marks.ensures)

pub returns : goal.returns
returns c =
    sparse_written _ c.read_head-head.ensures (sparse_asked c.read_head-head.ensures c.in_ok-check_ascii.ensures _ c.in_ok-marks.ensures c.in_ok-check.ensures)
    (sparse_marks c.read_head-head.ensures c.in_ok-marks.ensures) c.write.ensures

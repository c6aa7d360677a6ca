-- `pauli_string::from_dense_str` meets its contract: the questions in their order, and the record where they let it by.
use Rattle.std.proofs.Common.{rules}
use Rattle.pauli.proofs.Answers.{written-exit}
use Rattle.pauli.proofs.Asking.{first_not, first_done}
use Rattle.pauli.proofs.DenseReading.{dense-at, dense_not_ascii, dense-asked, dense-room, dense-bytes}
use Rattle.pauli.proofs.pauli_string.from_dense_str.Goals as goal

pub returns-in_err-check_ascii : goal.returns-in_err-check_ascii
returns-in_err-check_ascii c = written-exit _ _ (dense_not_ascii _ _ c.in_err-check_ascii.ensures) c.from_residual.ensures.1

pub returns-in_err-check_letters : goal.returns-in_err-check_letters
returns-in_err-check_letters c =
    let at = dense-at c.read_head-head.ensures c.text_end.ensures c.max-end.ensures (search rules) in
    written-exit _ _ (dense-asked _ _ _ at _ (first_done c.in_ok-check_ascii.ensures (first_not _ c.in_err-check_letters.ensures)))
    c.from_residual-in_err-check_letters.ensures.1

pub returns-in_err-check_room : goal.returns-in_err-check_room
returns-in_err-check_room c =
    let at = dense-at c.read_head-head.ensures c.text_end.ensures c.max-end.ensures (search rules) in
    written-exit _ _ (dense-asked _ _ _ at _ (first_done c.in_ok-check_ascii.ensures (first_done c.in_ok-check_letters.ensures c.in_err-check_room.ensures)))
    c.from_residual-in_err-check_room.ensures.1

pub write_dense-requires : goal.write_dense-requires
write_dense-requires c = dense-room c.in_ok-check_room.ensures

pub returns : goal.returns
returns c =
    let at = dense-at c.read_head-head.ensures c.text_end.ensures c.max-end.ensures (search rules) in
    dense-bytes _ _ _ _ _ at c.read_head-head.ensures.phase
    (dense-asked _ _ _ at _ (first_done c.in_ok-check_ascii.ensures (first_done c.in_ok-check_letters.ensures c.in_ok-check_room.ensures))) c.write_dense.ensures

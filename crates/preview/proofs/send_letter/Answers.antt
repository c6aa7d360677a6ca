-- `send_letter` meets its contract.
use Rattle.preview.proofs.Previews.{sent_done, sent-not}
use Rattle.preview.proofs.send_letter.Goals as goal

pub returns-in-Ok : goal.returns-in-Ok
returns-in-Ok g c = sent_done _ _ _ _ c.one_letter-s.ensures c.apply-second.ensures c.requires c.in-Ok.is c.apply.ensures

pub returns-in-Err : goal.returns-in-Err
returns-in-Err g c = sent-not _ _ _ _ c.one_letter-s.ensures c.apply-second.ensures _ c.in-Err.is c.check_tableau.ensures c.and.ensures

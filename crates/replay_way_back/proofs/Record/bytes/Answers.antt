-- No record is longer than its room.
use Rattle.std.proofs.Common.{arith, min}
use Rattle.clifford.proofs.Records.{record-small}
use Rattle.replay_way_back.proofs.Record.bytes.Goals as goal

pub shared_ref_as_front-result : goal.shared_ref_as_front-result
shared_ref_as_front-result c = grind (arith, c.record_size.ensures, record-small (min c.width.result 128) (omega arith))

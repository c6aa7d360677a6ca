-- `reporting::write_refusal` meets its contract.
use Rattle.std.proofs.Common.{rules}
use Rattle.gate_list.proofs.RefusalTexts.{refusal_written}
use Rattle.gate_list.proofs.reporting.write_refusal.Goals as goal

pub returns : goal.returns
returns c =
    refusal_written c.args.why c.number.ensures c.detail.ensures (search rules) c.new-writer.ensures.front c.new-writer.ensures.same_bytes
    c.put_text.ensures c.put_decimal.ensures c.put_text-2.ensures c.put_decimal-2.ensures c.put_text-3.ensures (search rules) c.place.ensures

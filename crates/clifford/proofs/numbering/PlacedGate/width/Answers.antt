-- `PlacedGate::width` meets its contract.
use Rattle.clifford.proofs.GateWriting.{gate_spans}
use Rattle.clifford.proofs.numbering.PlacedGate.width.Goals as goal

pub returns-in-One : goal.returns-in-One
returns-in-One c = search gate_spans

pub overflow_add-result-in-Two : goal.overflow_add-result-in-Two
overflow_add-result-in-Two c = search gate_spans

pub returns-in-Two : goal.returns-in-Two
returns-in-Two c = search gate_spans

-- `entries::pairs` meets its contract.
use Rattle.std.proofs.Common.{rules}
use Rattle.pauli.proofs.EntryMarks.{paired}
use Rattle.pauli.proofs.entries.pairs.Goals as goal

pub returns : goal.returns
returns c = search (paired, rules)

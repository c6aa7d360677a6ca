-- `entries::check_entry_letters` meets its contract: no letter above 3 before the entry reached.
use Rattle.std.proofs.Common.{ltb}
use Rattle.pauli.specs.Entries.{entry_count, entry_letter}
use Rattle.pauli.proofs.Places.{NoneBefore}
use Rattle.pauli.proofs.entries.check_entry_letters.Given as goal

abbrev pub invariant-loop-j : goal.invariant-loop-j
invariant-loop-j l = NoneBefore (entry_count l.entries) (λ k. ltb 3 (entry_letter l.entries k)) l.j

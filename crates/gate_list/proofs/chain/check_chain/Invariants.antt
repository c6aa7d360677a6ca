-- `chain::check_chain` meets its contract, by the laws of `Walking`.
use Prim.Native.Nat.{◌-◌}
use Rattle.gate_list.specs.Lists.{record_count}
use Rattle.gate_list.specs.Inside.Reading.{links_question}
use Rattle.gate_list.proofs.Chains.{unmet, Walking}
use Rattle.gate_list.proofs.chain.check_chain.Given as goal

abbrev pub invariant-chain : goal.invariant-chain
invariant-chain l = Walking l.list (links_question l.list) l.met l.at

abbrev pub decreases-chain : goal.decreases-chain
decreases-chain l = unmet (record_count l.list - 1) l.met

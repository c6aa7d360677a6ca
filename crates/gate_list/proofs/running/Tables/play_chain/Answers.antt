-- `running::Tables::play_chain` meets its contract, by the laws of `Running`. Its attribute leaves these goals open.
use Rattle.gate_list.proofs.RunSteps.{begins, running_head, running_end}
use Rattle.gate_list.proofs.running.Tables.play_chain.Goals as goal

pub invariant_of-next : goal.invariant_of-next
invariant_of-next c = record { own = running_head (begins c.args.admitted.now.asked c.requires) }

pub returns : goal.returns
returns c = running_end c.chain.invariant c.chain-test.false

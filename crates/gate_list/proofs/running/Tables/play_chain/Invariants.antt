-- `running::Tables::play_chain` meets its contract, by the laws of `Running`.
use Prim.Native.Nat.{◌-◌}
use Rattle.gate_list.specs.Runs.{step_count}
use Rattle.gate_list.proofs.RunSteps.{Running}
use Rattle.gate_list.proofs.running.Tables.play_chain.Given as goal

abbrev pub invariant-chain : goal.invariant-chain
invariant-chain l = Running l.list l.t l.steps l.i

abbrev pub decreases-chain : goal.decreases-chain
decreases-chain l = step_count l.list - l.steps

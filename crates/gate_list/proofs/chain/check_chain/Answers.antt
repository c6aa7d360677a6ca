-- `chain::check_chain` meets its contract, by the laws of `Walking`. Its attribute leaves these goals open.
use Rattle.pauli.proofs.Asking.{exit_not}
use Rattle.gate_list.proofs.Chains.{walks, walking_refused}
use Rattle.gate_list.proofs.chain.check_chain.Goals as goal

pub chain-init : goal.chain-init
chain-init c = search (walks, c.in_ok-check_link.was)

pub returns-then-i-eq0 : goal.returns-then-i-eq0
returns-then-i-eq0 c = search walks

pub returns-then-met-i : goal.returns-then-met-i
returns-then-met-i c = search walks

pub returns-in_err-check : goal.returns-in_err-check
returns-in_err-check c = exit_not _ (walking_refused c.chain.invariant c.next-i.ensures (search walks) (search walks) c.in_err-check.ensures) c.from_residual-in_err-check.ensures.1

pub chain-smaller : goal.chain-smaller
chain-smaller c = search walks

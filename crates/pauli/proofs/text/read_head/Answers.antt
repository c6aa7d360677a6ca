-- `text::read_head` meets its contract.
use Rattle.pauli.specs.Text.{leading_spaces}
use Rattle.pauli.proofs.TextBytes.{head_read, skipped-all}
use Rattle.pauli.proofs.text.read_head.Goals as goal

pub returns : goal.returns
returns c = head_read _ (skipped-all leading_spaces _ c.skip_spaces-start.ensures) c.read_prefix-prefix.ensures

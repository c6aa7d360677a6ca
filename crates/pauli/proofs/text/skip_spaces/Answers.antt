-- `text::skip_spaces` meets its contract.
use Rattle.std.proofs.Common.{not, rules, tests}
use Rattle.pauli.specs.Text.{is_space, leading_spaces}
use Rattle.pauli.proofs.Places.{from, position-or, position_of_slice}
use Rattle.pauli.proofs.TextBytes.{spaces_within, skipped}
use Rattle.pauli.proofs.text.skip_spaces.Goals as goal

pub returns : goal.returns
unfolding leading_spaces
returns c =
    let found = position_of_slice (λ x. not (is_space x)) (from c.args.at c.args.t.now) c.position.ensures.ran (cc) (λ x b q k. search (rules, tests)) in
    skipped leading_spaces spaces_within _ _ (position-or _ _ _ c.unwrap_or.ensures found) c.requires

-- `text::skip_word` meets its contract.
use Rattle.std.proofs.Common.{rules, tests}
use Rattle.pauli.specs.Text.{is_space}
use Rattle.pauli.specs.Inside.Reading.{leading_word}
use Rattle.pauli.proofs.Places.{from, position-or, position_of_slice}
use Rattle.pauli.proofs.TextBytes.{words-within, skipped}
use Rattle.pauli.proofs.text.skip_word.Goals as goal

pub returns : goal.returns
unfolding leading_word
returns c =
    let found = position_of_slice is_space (from c.args.at c.args.t.now) c.position.ensures.ran (cc) (λ x b q k. search (rules, tests)) in
    skipped leading_word words-within _ _ (position-or _ _ _ c.unwrap_or.ensures found) c.requires

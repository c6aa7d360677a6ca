-- `dense_reader::text_end` meets its contract.
use Rattle.std.proofs.Common.{not, reverse, refl, rules, tests}
use Rattle.std.proofs.lemmas.Iterator.Adapters.{YieldsList-from_rev_slice}
use Rattle.std.proofs.lemmas.List.{length-reverse}
use Rattle.std.proofs.lemmas.Iterator.Search.{position_from_yields_List}
use Rattle.pauli.specs.Text.{is_space}
use Rattle.pauli.proofs.DenseReading.{end_found}
use Rattle.pauli.proofs.Places.{position-or}
use Rattle.pauli.proofs.dense_reader.text_end.Goals as goal

pub returns : goal.returns
returns c =
    let back = reverse c.args.t.now in
    end_found
    _ (position-or (λ x. not (is_space x)) back _ (rw length-reverse c.unwrap_or.ensures) (position_from_yields_List (λ x. not (is_space x)) _ _ _ c.position.ensures.ran (YieldsList-from_rev_slice c.args.t.now cc) (λ x b q k. search (rules, tests))))
    refl

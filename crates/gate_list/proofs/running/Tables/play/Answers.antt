-- `running::Tables::play` meets its contract.
use Rattle.std.proofs.Common.{rules}
use Rattle.gate_list.proofs.RunSteps.{record_plays, record_was_played}
use Rattle.gate_list.proofs.running.Tables.play.Goals as goal

pub returns : goal.returns
returns c =
    let played = record_was_played c.args.self.now.letters_own c.args.self.now.pairs_own c.play_with.ensures c.args.step.now.list.now c.args.step.now.i (search rules) (search rules) (search rules) in
    search (record_plays, played)

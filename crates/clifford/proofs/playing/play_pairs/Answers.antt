-- `playing::play_pairs` meets its contract, by the laws of `PlayedTo`.
use Rattle.clifford.proofs.Play.{plays}
use Rattle.clifford.proofs.playing.play_pairs.Goals as goal

pub loop-i-init : goal.loop-i-init
loop-i-init c = search plays

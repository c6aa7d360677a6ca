-- `playing::play_with` meets its contract.
use Rattle.clifford.proofs.Play.{playing}
use Rattle.clifford.proofs.playing.play_with.Goals as goal

pub play_pairs-requires : goal.play_pairs-requires
play_pairs-requires c = search playing

pub returns-in-One : goal.returns-in-One
returns-in-One c = rw (← c.from-g.ensures) (search playing)

pub returns-in-Two : goal.returns-in-Two
returns-in-Two c = rw (← c.from-g.ensures) (search playing)

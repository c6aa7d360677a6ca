-- `playing::play_gate` meets its contract: the tables are the gates' own.
use Rattle.clifford.proofs.Play.{own_playing}
use Rattle.clifford.proofs.playing.play_gate.Goals as goal

pub play_pairs-requires : goal.play_pairs-requires
play_pairs-requires c = search own_playing

pub returns-in-One : goal.returns-in-One
returns-in-One c = rw (← c.from-g.ensures) (search own_playing)

pub returns-in-Two : goal.returns-in-Two
returns-in-Two c = rw (← c.from-g.ensures) (search own_playing)

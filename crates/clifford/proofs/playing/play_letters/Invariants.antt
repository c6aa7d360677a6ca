-- `playing::play_letters` meets its contract, by the laws of `PlayedTo`.
use Rattle.clifford.specs.Playing.{letter_table_on_row}
use Rattle.clifford.proofs.Play.{PlayedTo}
use Rattle.clifford.proofs.playing.play_letters.Given as goal

abbrev pub invariant-loop-i : goal.invariant-loop-i
invariant-loop-i l = PlayedTo (letter_table_on_row l.table l.q) l.n l.initial.t l.i l.t

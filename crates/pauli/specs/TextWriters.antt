-- What is put through a text writer.
use Rattle.std.specs.Prelude.{◌≡◌, ℕ, min, List}
use Rattle.pauli.specs.declared.text_writer.TextWriter.{TextWriter}
use Rattle.pauli.specs.TextWriting.{last_place, Stored}

-- the place of a writer; none is above the last
abbrev pub writer_place : TextWriter → ℕ
writer_place s = min s.at last_place

-- the text w was put through a writer that was s and then was t, into the same destination
pub record Put (w : List ℕ) (s t : TextWriter) : Type 0 where
  pub same : t.dst.ghost_name ≡ s.dst.ghost_name
  pub stored : Stored (writer_place s) w s.dst.now t.dst.now (writer_place t)

-- What the program owes (scope document, "Program"): "Reads a gate list from standard input and writes the `Display` text [..]. A
-- refusal writes `refused N at D` and a newline".
use Rattle.std.specs.Prelude.{ℕ}

-- as much as is read: one byte more than the longest list has
abbrev pub input_most : ℕ
input_most = 24577

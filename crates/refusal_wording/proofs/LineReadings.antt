-- The readings of lines, by one computed test over their list.
use mathlib.Core.Path.{◌≡◌, refl}
use mathlib.Core.List.{map}
use Rattle.pauli.specs.QuotedText.{bytes_of}
use Rattle.pauli.specs.SparseText.{digits_to, decimal}
use Rattle.refusal_wording.specs.RefusalLines.{sentences, sentence_among, sentence, has_detail, detail_text, width_error_text, wording, refusal_line}
use Rattle.refusal_wording.specs.LineReadings.{line_readings}

pub line_readings_hold : map (λ r. refusal_line r.number r.detail r.width) line_readings ≡ map (λ r. bytes_of r.line) line_readings
unfolding line_readings refusal_line wording width_error_text detail_text has_detail sentence sentence_among sentences decimal digits_to
line_readings_hold = refl

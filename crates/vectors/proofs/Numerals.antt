-- No byte that is not a digit is in a numeral, and a numeral is ASCII text.
use Rattle.std.proofs.Common.{ℕ, List}
use Rattle.std.specs.Prelude.{EachIndex, slice_index}
use Rattle.std.specs.Char.{IsAsciiDigit}
use Rattle.std.specs.Str.{IsUtf8}
use Rattle.std.specs.Str.Parse.{AllDigits, IsNumeral}
use Rattle.std.proofs.lemmas.Fmt.{IsAscii-from_digits}
use Rattle.std.proofs.lemmas.Str.{IsUtf8-from_ascii}
use Rattle.std.proofs.lemmas.Str.Parse.{digit_at}

pub digits_of_numeral : (s : List ℕ) → IsNumeral 10 s → EachIndex s (λ k. IsAsciiDigit (slice_index s k))
digits_of_numeral s p = λ k h. digit_at s k p.1 h

pub utf8_from_digits : (s : List ℕ) → AllDigits 10 s → IsUtf8 s
utf8_from_digits s h = IsUtf8-from_ascii s (IsAscii-from_digits s h)

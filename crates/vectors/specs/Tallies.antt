-- How lines, cases and mismatches are counted. Assumes nothing.
use Rattle.std.specs.Prelude.{◌≡◌, ℕ, ◌+◌, ◌%◌, ◌^◌}
use Rattle.vectors.specs.declared.tally.Outcome.{Outcome}
use Rattle.vectors.specs.declared.tally.Outcome.TheVariants.{Blank, Match, Failed}
use Rattle.vectors.specs.declared.tally.Tally.{Tally}

-- one more, as a u64 counts
abbrev pub next : ℕ → ℕ
next n = (n + 1) % 2 ^ 64

-- each line that is not blank is a case
abbrev pub cases_after : Outcome → ℕ → ℕ
cases_after Blank n = n
cases_after Match n = next n
cases_after (Failed why) n = next n

-- and each case that does not match, also a malformed one, a mismatch
abbrev pub mismatches_after : Outcome → ℕ → ℕ
mismatches_after Blank n = n
mismatches_after Match n = n
mismatches_after (Failed why) n = next n

-- r is t with one line more, whose outcome is o
pub record Tallied (o : Outcome) (t r : Tally) : Type 0 where
  pub line : r.lines ≡ next t.lines
  pub case : r.cases ≡ cases_after o t.cases
  pub mismatch : r.mismatches ≡ mismatches_after o t.mismatches

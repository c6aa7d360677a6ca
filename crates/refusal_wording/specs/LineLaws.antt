-- What the line of a refusal tells, and how it is written: statements about the definition `refusal_line`, which the function of that name cites.
use Rattle.std.specs.Prelude.{ℕ, ◌<◌, ◌≤◌, ◌≡◌, true, List, length, get_or}
use Rattle.pauli.specs.Text.{all_digits, digits_value}
use Rattle.refusal_wording.specs.RefusalLines.{has_detail, is_width_error, refusal_line}

-- what a line shows of number n, detail d and width w is the same of m, e and v
pub record ShownAlike (n d w m e v : ℕ) : Type 0 where
  pub number : n ≡ m
  pub detail : has_detail n ≡ true → d ≡ e
  pub width : is_width_error n ≡ true → w ≡ v

-- "Two refusals that differ in number, or in a detail that the line shows, never share a line", over all numbers; and what a line
-- does not show makes no other line
pub record LineTheorem (n d w m e v : ℕ) : Type 0 where
  pub tells : refusal_line n d w ≡ refusal_line m e v → ShownAlike n d w m e v
  pub shares : ShownAlike n d w m e v → refusal_line n d w ≡ refusal_line m e v

-- ds is the shortest decimal numeral of n: some digits whose value is n, the first 0 for 0 alone; digits of this value are never fewer
pub record Shortest (n : ℕ) (ds : List ℕ) : Type 0 where
  pub some : 0 < length ds
  pub digits : all_digits ds ≡ true
  pub value : digits_value 0 ds ≡ n
  pub first : get_or ds 0 0 ≡ 48 → n ≡ 0
  pub least : (cs : List ℕ) → 0 < length cs → all_digits cs ≡ true → digits_value 0 cs ≡ n → length ds ≤ length cs

-- every byte is printed ASCII, from the space to the tilde: no newline, which is 10
pub record Printed (t : List ℕ) : Type 0 where
  pub low : (k : ℕ) → k < length t → 32 ≤ get_or t k 0
  pub high : (k : ℕ) → k < length t → get_or t k 0 ≤ 126

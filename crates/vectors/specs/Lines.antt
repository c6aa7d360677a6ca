-- What a line is. Assumes nothing.
use Rattle.std.specs.Prelude.{◌≡◌, ℕ, ◌<◌, ◌≤◌, ◌⊎◌, List, [], length, get_or, eqb, slice_index, EachIndex}
use Rattle.std.specs.List.{slice_split}
use Rattle.std.specs.Str.Parse.{IsNumeral, digits_value}
use Rattle.std.specs.Char.{IsAsciiDigit, IsAsciiLowercase}
use Rattle.vectors.specs.declared.reading.TheConstants.{FIELD_ROOM}
use Rattle.vectors.specs.declared.reading.Case.{Case}
use Rattle.vectors.specs.declared.reading.Trial.{Trial}
use Rattle.vectors.specs.declared.reading.Line.{Line}
use Rattle.vectors.specs.declared.reading.Room.{Room}
use Rattle.vectors.specs.declared.reading.Line.TheVariants as lines

-- empty, or a comment: it starts with `#`
abbrev pub IsBlank : List ℕ → Type 0
IsBlank s = (length s ≡ 0) ⊎ (slice_index s 0 ≡ 35)

-- a lowercase letter, a digit or `_`
abbrev pub IsNameByte : ℕ → Type 0
IsNameByte c = IsAsciiLowercase c ⊎ IsAsciiDigit c ⊎ (c ≡ 95)

abbrev pub IsName : List ℕ → Type 0
IsName s = (0 < length s) × EachIndex s (λ k. IsNameByte (slice_index s k))

-- the function has a name, and no field spells more bytes than there is room for
pub record CaseFits (k : Trial) : Type 0 where
  pub name : IsName k.case.name.now
  pub in_a : length k.case.a.now ≤ FIELD_ROOM
  pub in_b : length k.case.b.now ≤ FIELD_ROOM
  pub in_d : length k.d.now ≤ FIELD_ROOM
  pub in_after : length k.case.after.now ≤ FIELD_ROOM

-- the same of a line that is a case
abbrev pub LineFits : Line → Type 0
LineFits (lines.Case k) = CaseFits k
LineFits lines.Blank = Unit {0}
LineFits lines.Malformed = Unit {0}

-- a line's field of this number from 0, cut at the spaces
abbrev pub field : List ℕ → ℕ → List ℕ
field s k = get_or (slice_split (λ b. eqb b 32) s) k []

-- s is a decimal numeral of n
abbrev pub Says : List ℕ → ℕ → Type 0
Says s n = IsNumeral 10 s × (digits_value 10 s ≡ n)

-- the case's name and its numbers are those that the line s has in their fields
pub record CaseOf (s : List ℕ) (k : Case) : Type 0 where
  pub name : field s 0 ≡ k.name.now
  pub n1 : Says (field s 3) k.n1
  pub n2 : Says (field s 4) k.n2
  pub n3 : Says (field s 5) k.n3

-- the same of a line that is a case
abbrev pub LineSays : List ℕ → Line → Type 0
LineSays s (lines.Case k) = CaseOf s k.case
LineSays s lines.Blank = Unit {0}
LineSays s lines.Malformed = Unit {0}

abbrev pub IsZeros : List ℕ → Type 0
IsZeros s = EachIndex s (λ k. slice_index s k ≡ 0)

-- no line is read into the room yet
pub record Empty (r : Room) : Type 0 where
  pub a : IsZeros r.a
  pub b : IsZeros r.b
  pub d : IsZeros r.d
  pub after : IsZeros r.after

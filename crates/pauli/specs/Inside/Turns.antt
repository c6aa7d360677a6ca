-- What the pieces of the kernels promise. A place's phase is counted in quarter turns, the exponent of i; Y = iXZ and ZX = -XZ.
use Rattle.std.specs.Prelude.{◌≡◌, ℕ, zero, suc, ◌+◌, ◌%◌, ◌≤◌, max, cond}
use Rattle.pauli_group.specs.Letter.{letter_phase, anticommute, not_i}
use Rattle.pauli_group.specs.Papers.{power}
use Rattle.pauli.specs.Layout.{phase_of, letter_byte, letter_of}
use Rattle.pauli.specs.declared.rows.LetterScan.{LetterScan}

-- r is the byte x read as a letter
pub record LetterByte (x r : ℕ) : Type 0 where
  pub is : r ≡ letter_byte (letter_of x)
  pub small : r ≤ 3

-- x and y are bytes of letters
pub record LetterBytes (x y : ℕ) : Type 0 where
  pub first : x ≤ 3
  pub second : y ≤ 3

-- k for the byte of Y, else 0
unfoldable pub for_y : ℕ → ℕ → ℕ
for_y k zero = 0
for_y k (suc zero) = 0
for_y k (suc (suc zero)) = 0
for_y k (suc (suc (suc n))) = k

pub record ForY (k x r : ℕ) : Type 0 where
  pub is : r ≡ for_y k x
  pub small : r ≤ k

-- t quarter turns are the phase of a letter product; of a phase byte
pub record LetterTurns (a b t : ℕ) : Type 0 where
  pub is : power t ≡ letter_phase (letter_of a) (letter_of b)

pub record PhaseTurns (p t : ℕ) : Type 0 where
  pub is : power t ≡ phase_of p

-- 1 where two letter bytes anticommute, else 0
unfoldable pub anticommuting : ℕ → ℕ → ℕ
anticommuting a b = cond (anticommute (letter_of a) (letter_of b)) 1 0

-- 1 for the byte of a letter other than I, else 0
unfoldable pub lettered : ℕ → ℕ
lettered x = cond (not_i (letter_of x)) 1 0

-- what a pass over letters has seen with one more byte
unfoldable pub scanned_with : LetterScan → ℕ → LetterScan
scanned_with r x = record { largest = max r.largest x; letters = (r.letters + lettered x) % 256 }

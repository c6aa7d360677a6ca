-- Text written into a destination from a place on: as far as the destination reaches. Its length is answered in full.
use Rattle.std.specs.Prelude.{◌≡◌, ℕ, suc, ◌+◌, min, List, [], ◌∷◌, length, slice_set}

-- 2^64 - 1, past the end of every destination: it stands for each place from there on
abbrev pub last_place : ℕ
last_place = 18446744073709551615

-- the place n bytes after place k
abbrev pub place_after : ℕ → ℕ → ℕ
place_after k n = min (k + n) last_place

-- the bytes w in d, from place k on, where d has these places
unfoldable pub stored : ℕ → List ℕ → List ℕ → List ℕ
stored k [] d = d
stored k (c ∷ w) d = stored (suc k) w (slice_set d (min k last_place) c)

-- w was written into d from place k on: it then held e, and r is the place after w
pub record Stored (k : ℕ) (w d e : List ℕ) (r : ℕ) : Type 0 where
  pub bytes : e ≡ stored k w d
  pub place : r ≡ place_after k (length w)

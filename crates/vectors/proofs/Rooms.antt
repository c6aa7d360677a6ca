-- A room of zeros is empty.
use Rattle.std.proofs.Common.{ℕ, replicate}
use lib.ListN.{length-replicate, get_or-replicate}
use Rattle.vectors.specs.Lines.{IsZeros, Empty}

zeros : (n : ℕ) → IsZeros (replicate n 0)
zeros n k h = get_or-replicate n k 0 0 (rw (length-replicate {A = ℕ} n 0) at h)

pub empty_zeros : Empty (record { a = replicate 65536 0; b = replicate 65536 0; d = replicate 65536 0; after = replicate 65536 0 })
empty_zeros = record { a = zeros 65536; b = zeros 65536; d = zeros 65536; after = zeros 65536 }

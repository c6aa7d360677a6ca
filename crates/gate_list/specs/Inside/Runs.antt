-- What the functions that run an admitted list promise.
use Rattle.std.specs.Prelude.{ℕ, ◌≡◌, List, Ok}
use Rattle.pauli.specs.Answers.{written}
use Rattle.clifford.specs.Playing.{played}
use Rattle.gate_list.specs.Lists.{byte_of}
use Rattle.gate_list.specs.Runs.{run_record, step_count}

-- a record t after the gate of record i
unfoldable pub record_played : List ℕ → ℕ → List ℕ → List ℕ
record_played l i t = played (byte_of l i 0) (byte_of l i 1) (byte_of l i 2) t

pub record Ran (l e : List ℕ) (r : ℕ) : Type 0 where
  pub bytes : e ≡ run_record l
  pub steps : r ≡ step_count l

pub record RunWritten (l d e : List ℕ) (r : ℕ) : Type 0 where
  pub bytes : e ≡ written (Ok tt) (run_record l) d
  pub steps : r ≡ step_count l

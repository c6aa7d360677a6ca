-- What the functions of the program may count on, and what they promise.
use Rattle.std.specs.Prelude.{ℕ, ◌≤◌, ◌≡◌, List, length, take, Result, IfOk}
use Rattle.gate_list.specs.Reports.{report_text}
use Rattle.clifford_run.specs.Program.{input_most}

-- The text that is owed to what was read into a buffer of some length: its report, which is the report of every input that begins so.
pub record Owed (room : ℕ) (read text : List ℕ) : Type 0 where
  pub report : text ≡ report_text read
  pub whole : (l : List ℕ) → read ≡ take room l → text ≡ report_text l

-- room for the input, and for any report
pub record ReportRoom (text : List ℕ) : Type 0 where
  pub room : 138557 ≤ length text

pub record Buffers (input text : List ℕ) : Type 0 where
  pub long : length input ≡ input_most
  pub room : ReportRoom text

-- the buffer held d before and holds e now; the bytes read are at its front
pub record InputRead {E : Type 0} (d e : List ℕ) (r : Result ℕ E) : Type 0 where
  pub long : length e ≡ length d
  pub count : IfOk r (λ n. n ≤ length e)

-- the report of l at the front of what was d and is e, and its length r
pub record ReportWritten (l d e : List ℕ) (r : ℕ) : Type 0 where
  pub long : length e ≡ length d
  pub within : r ≤ length e
  pub text : take r e ≡ report_text l

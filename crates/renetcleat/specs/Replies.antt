-- Answers through the C interface.
use Rattle.std.specs.Prelude.{◌≡◌, ℕ}
use Rattle.pauli.specs.declared.refusal.Reply.{Reply}
use Rattle.pauli.specs.Answers.{Answer, reply_of}

-- r tells as two numbers an answer that the library's own promise P allows
pub record Replied {T : Type 0} (value : T → ℕ) (P : Answer T → Type 0) (r : Reply) : Type 0 where
  pub answer : Answer T
  pub promised : P answer
  pub told : r ≡ reply_of value answer

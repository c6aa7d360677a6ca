-- A list's questions one by one: what the tests of the code say of each.
use mathlib.Core.Path.{◌≡◌}
use mathlib.Core.List.{List}
use Prim.Native.Nat.{ℕ, ◌%◌, ◌<◌, ◌≤◌}
use native.Mathlib.Omega.{arith}
use lib.ListN.{length}
use borrow.Author.Tests.{le-leb, lt-leb, lt-ltb, le-ltb, eq-eqb, ne_eqb}
use Rattle.pauli.specs.declared.refusal.Refusal.TheVariants.{ListLength}
use Rattle.pauli.proofs.Asking.{asked_yes, asked_no}
use Rattle.gate_list.specs.Lists.{record_count, byte_of, next_of}
use Rattle.gate_list.specs.ListQuestions.{size_question, head_question, link_question}
use Rattle.std.specs.Prelude.{Ok, Err}

-- a question by the tests of numbers that it is made of
pub ruleset by_tests = (asked_yes, asked_no, lt-ltb, le-ltb, eq-eqb, ne_eqb, lt-leb, le-leb)

module _ (l : List ℕ) where
  -- ---- the whole list: its length, its head
  pub size_odd : (length l % 6 ≡ 0 → ⊥) → Err ListLength ≡ size_question l
  unfolding size_question
  size_odd h = grind (arith, by_tests)

  pub size_long : length l % 6 ≡ 0 → 6 ≤ length l → 24576 < length l → Err ListLength ≡ size_question l
  unfolding size_question
  size_long h k m = grind (arith, by_tests)

  pub size_good : length l % 6 ≡ 0 → 6 ≤ length l → length l ≤ 24576 → Ok tt ≡ size_question l
  unfolding size_question
  size_good h k m = grind (arith, by_tests)

  pub head-good : byte_of l 0 0 ≡ 0 → byte_of l 0 2 ≡ 0 → byte_of l 0 3 ≡ 0 → Ok tt ≡ head_question l
  unfolding head_question
  head-good g s f = grind (arith, by_tests)

  -- ---- record i
  module _ (i : ℕ) where
    pub link-good : next_of l i < record_count l → Ok tt ≡ link_question l i
    unfolding link_question
    link-good h = grind (arith, by_tests)

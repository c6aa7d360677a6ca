-- What the questions of a list that come to Done say of its bytes.
use mathlib.Core.Path.{◌≡◌, sym, ◌∙◌}
use mathlib.Core.List.{List}
use Prim.Native.Nat.{ℕ, ◌%◌, ◌<◌, ◌≤◌}
use native.Mathlib.Decide.{dec_lt}
use native.Mathlib.Omega.{arith}
use lib.Dec.{eqb, leb}
use lib.ListN.{length, get_or, replicate, length-replicate, get_or-replicate, get_or-eq_default}
use borrow.Author.Rules.{rules}
use borrow.Author.Tests.{eqb-true, leb-true}
use Rattle.pauli.specs.declared.refusal.Refusal.TheVariants.{ListLength}
use Rattle.pauli.proofs.Asking.{ask_done}
use Rattle.clifford_group.proofs.Valid.{and_both}
use Rattle.gate_list.specs.Lists.{record_count}
use Rattle.gate_list.specs.ListQuestions.{size_question}
use Rattle.gate_list.specs.Inside.Reading.{NoneMet, BeforeChain}
use Rattle.pauli.specs.Answers.{Outcome}
use Rattle.std.specs.Prelude.{Ok, Bool, false}

-- ---- a list of records: at least the head, and at most 4,096
pub record Sized (l : List ℕ) : Type 0 where
  pub whole : length l % 6 ≡ 0
  pub some : 6 ≤ length l
  pub few : length l ≤ 24576

pub size_done : (l : List ℕ) → size_question l ≡ Ok tt → Sized l
unfolding size_question
size_done l e =
    let all = ask_done _ ListLength e in
    let parts = and_both (eqb (length l % 6) 0) _ all in
    let bounds = and_both (leb 6 (length l)) (leb (length l) 24576) parts.1 in
    record { whole = eqb-true _ 0 parts.0; some = leb-true 6 (length l) bounds.0; few = leb-true (length l) 24576 bounds.1 }

pub sized_some : {l : List ℕ} → Sized l → 0 < record_count l
unfolding record_count
sized_some s = omega (arith, s.some)

pub sized_few : {l : List ℕ} → Sized l → record_count l ≤ 4096
unfolding record_count
sized_few s = omega (arith, s.few)

-- ---- no record is marked
pub blank_marks : NoneMet (replicate 4096 false)
blank_marks = record { long = length-replicate {A = Bool} 4096 false; clear = clear }
  where
    clear : (k : ℕ) → get_or {A = Bool} (replicate 4096 false) k false ≡ false
    clear k = elim (dec_lt k 4096) [
      | yes h ↦ get_or-replicate 4096 k false false h
      | no h ↦ get_or-eq_default {A = Bool} (replicate 4096 false) false {n = k} (omega (arith, length-replicate {A = Bool} 4096 false))
    ]

-- ---- the questions of a whole list in their order
pub head-own : (l : List ℕ) {q : Outcome} → q ≡ size_question l → q ≡ Ok tt → 0 < record_count l
head-own l e h = sized_some (size_done l (sym e ∙ h))

pub list_unmarked : {l : List ℕ} {q : Outcome} → q ≡ size_question l → q ≡ Ok tt → BeforeChain l (replicate 4096 false)
list_unmarked {l} e h =
    let s = size_done l (sym e ∙ h) in
    record { blank = blank_marks; some = sized_some s; few = sized_few s }

pub ruleset list_asks = (head-own, list_unmarked, rules)

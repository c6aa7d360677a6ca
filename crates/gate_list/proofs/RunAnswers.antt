-- The answer of a run: its questions, and the record written to the front of the destination.
use mathlib.Core.Path.{◌≡◌, refl, sym, ap, ap₂, ◌∙◌}
use mathlib.Core.List.{List, ◌++◌}
use Prim.Native.Nat.{ℕ, min, ◌-◌, ◌≤◌}
use native.Mathlib.Omega.{arith}
use lib.ListN.{length, take, drop, length-append, length-take, length-drop}
use lib.Seq.{take_at, drop_at}
use borrow.Author.Rules.{rules}
use borrow.Rule.Slice.PartMut.{put_mid}
use Rattle.pauli_group.specs.PauliString.{qubits}
use Rattle.pauli.specs.Answers.{written, Written, NumberWritten, Outcome}
use Rattle.pauli.specs.Questions.{room_question}
use Rattle.pauli.proofs.Asking.{first_done, passed, has_room, done_first, done_second, room-is}
use Rattle.pauli.proofs.Answers.{number-done}
use Rattle.clifford.specs.Layout.{record_length}
use Rattle.clifford.specs.Questions.{identity_answer}
use Rattle.clifford.specs.Tableaux.{identity_record}
use Rattle.clifford.proofs.RecordLaws.{identity-width, identity-good}
use Rattle.clifford.proofs.Asking.{width_narrow}
use Rattle.gate_list.specs.Lists.{list_width}
use Rattle.gate_list.specs.ListQuestions.{list_questions}
use Rattle.gate_list.specs.Runs.{run_record, step_count, run_answer}
use Rattle.gate_list.specs.Inside.Runs.{Ran, RunWritten}
use Rattle.gate_list.proofs.AdmittedChains.{admitted_narrow}
use Rattle.gate_list.proofs.RunTableaux.{run_length}
use Rattle.std.specs.Prelude.{Ok}

-- ---- the questions
-- an admitted list's record has the size that its width has
pub own_size : (l : List ℕ) {n k : ℕ} → list_questions l ≡ Ok tt → n ≡ list_width l → k ≡ record_length (min n 128) → k ≡ record_length (list_width l)
own_size l {n} done en ek =
    let same : min n 128 ≡ list_width l = omega (arith, en, admitted_narrow l done) in
    ek ∙ ap record_length same

-- so the room is asked for after the list alone
pub run_asked : (l : List ℕ) (room : ℕ) {n k : ℕ} {r : Outcome} → Ok tt ≡ list_questions l → n ≡ list_width l
    → k ≡ record_length (min n 128) → r ≡ room_question k room → r ≡ run_answer l room
unfolding run_answer
run_asked l room eq en ek er = first_done eq (er ∙ ap (λ (j : ℕ). room_question j room) (own_size l (sym eq) en ek))

pub ruleset run_asks = (run_asked, rules)

-- ---- the record in the front of a destination: first the identity
pub record RunRoom (l d : List ℕ) : Type 0 where
  pub asked : list_questions l ≡ Ok tt
  pub room : record_length (list_width l) ≤ length d

pub room_for : {l d : List ℕ} → list_questions l ≡ Ok tt → record_length (list_width l) ≤ length d → RunRoom l d
room_for a h = record { asked = a; room = h }

module _ {l d : List ℕ} {n k : ℕ} {e : List ℕ} {r : Outcome}
    (o : RunRoom l d) (b : n ≡ list_width l) (w : Written (identity_answer n (length d)) (identity_record n) d e r) (ek : k ≡ record_length (min n 128)) where
  own : k ≡ record_length (list_width l)
  own = own_size l o.asked b ek

  abbrev start : List ℕ
  start = identity_record (list_width l)

  start_long : length start ≡ k
  start_long =
      (identity-good (list_width l) (unfold qubits in admitted_narrow l o.asked)).formed.long ∙ ap record_length (identity-width (list_width l)) ∙ sym own

  begun : e ≡ start ++ drop k d
  unfolding identity_answer written
  begun =
      let narrow : n ≤ 128 = omega (arith, admitted_narrow l o.asked, b) in
      let done : Ok tt ≡ identity_answer n (length d) =
      passed (width_narrow narrow) refl (has_room (record_length n) (length d) (omega (arith, ap record_length b, o.room))) in
      w.bytes ∙ ap (λ q. written q (identity_record n) d) (sym done) ∙ ap (λ (j : ℕ). identity_record j ++ drop (length (identity_record j)) d) b
      ∙ ap (λ (j : ℕ). start ++ drop j d) start_long

  begun_long : length e ≡ length d
  begun_long = ap length begun ∙ length-append start (drop k d) ∙ omega (arith, start_long, own, o.room, length-drop k d)

  pub run_room : k ≤ length e
  run_room = omega (arith, own, o.room, begun_long)

  pub run_part : take (k - 0) e ≡ identity_record (list_width l)
  run_part = ap (take (k - 0)) begun ∙ take_at start (drop k d) (k - 0) (omega (arith, start_long))

  rest : drop (k - 0) e ≡ drop k d
  rest = ap (drop (k - 0)) begun ∙ drop_at start (drop k d) (k - 0) (omega (arith, start_long))

  module _ {ys : List ℕ} {m : ℕ} (x : Ran l ys m) where
    pub run_put : RunWritten l d (put_mid 0 (k - 0) e ys) m
    unfolding written
    run_put =
        let long : k ≡ length (run_record l) = omega (arith, own, run_length l o.asked) in
        record { bytes = ap₂ ◌++◌ x.bytes (rest ∙ ap (λ (j : ℕ). drop j d) long); steps = x.steps }

    pub run_put_same : length (put_mid 0 (k - 0) e ys) ≡ length d
    run_put_same =
        length-append ys (drop (k - 0) e) ∙ omega (arith, ap length x.bytes, run_length l o.asked, own, o.room, ap length rest, length-drop k d)

    pub run_ran_same : length ys ≡ length (take (k - 0) e)
    run_ran_same = omega (arith, ap length x.bytes, run_length l o.asked, own, run_room, length-take (k - 0) e)

pub ruleset run_writes = (room_for, run_room, run_part, run_put, run_put_same, run_ran_same, rules)

-- ---- the public answer
pub run_admits : (l : List ℕ) (room : ℕ) {q : Outcome} → q ≡ run_answer l room → q ≡ Ok tt → list_questions l ≡ Ok tt
unfolding run_answer
run_admits l room e h = done_first _ _ (sym e ∙ h)

pub run_roomy : (l : List ℕ) {room : ℕ} {q : Outcome} → q ≡ run_answer l room → q ≡ Ok tt → record_length (list_width l) ≤ room
unfolding run_answer
run_roomy l {room} e h = room-is _ room (done_second (list_questions l) _ (sym e ∙ h))

pub run_done : {l d e : List ℕ} {q : Outcome} {n : ℕ} → Ok tt ≡ q → RunWritten l d e n → NumberWritten q (step_count l) (run_record l) d e (Ok n)
run_done h w = number-done h w.steps w.bytes

pub run_same : {l d e : List ℕ} {n : ℕ} → RunRoom l d → RunWritten l d e n → length e ≡ length d
unfolding written
run_same {l} {d} o w =
    ap length w.bytes ∙ length-append (run_record l) (drop (length (run_record l)) d)
    ∙ omega (arith, run_length l o.asked, o.room, length-drop (length (run_record l)) d)

pub ruleset run_answers = (run_admits, run_roomy, room_for, run_done, run_same, rules)

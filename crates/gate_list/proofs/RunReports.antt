-- What is written of a run: the display text of its record, or the text of the refusal.
use mathlib.Core.Path.{◌≡◌, refl, sym, ap, ◌∙◌, subst}
use mathlib.Core.List.{List}
use Prim.Native.Nat.{ℕ, min, ◌-◌, ◌≤◌}
use native.Mathlib.Omega.{arith}
use lib.ListN.{length, take, drop}
use lib.Seq.{take_at}
use borrow.Author.Rules.{rules}
use Rattle.pauli.specs.declared.refusal.Refusal.{Refusal}
use Rattle.pauli.specs.Answers.{refusal_detail, written, CountWritten, Outcome, Answer}
use Rattle.pauli.specs.Questions.{room_question}
use Rattle.pauli.proofs.Decimals.{decimal-most}
use Rattle.pauli.proofs.Asking.{passed, has_room}
use Rattle.clifford.specs.Display.{text_of_tableau, display_answer}
use Rattle.clifford.specs.Layout.{record_length, longest_record}
use Rattle.clifford.proofs.Asking.{formed-good}
use Rattle.clifford.proofs.Records.{record-small}
use Rattle.clifford_laws.proofs.DisplayLengths.{valid_display_most}
use Rattle.gate_list.specs.Lists.{list_width}
use Rattle.gate_list.specs.ListQuestions.{list_questions}
use Rattle.gate_list.specs.Reports.{refusal_text, text_after, report_text, report_answer}
use Rattle.gate_list.specs.Inside.Reports.{TextReported}
use Rattle.gate_list.specs.Runs.{run_record}
use Rattle.gate_list.specs.Inside.Runs.{RunWritten}
use Rattle.gate_list.proofs.AdmittedChains.{admitted_narrow}
use Rattle.gate_list.proofs.ListRefusals.{Listed, refusal-listed}
use Rattle.gate_list.proofs.RefusalTexts.{number_short, refusal-length}
use Rattle.gate_list.proofs.RunTableaux.{run_good, run_valid, run_length}
use Rattle.gate_list.proofs.RunAnswers.{RunRoom, room_for, own_size, run_same}
use Rattle.std.specs.Prelude.{Ok, Err}

-- ---- the run shown
pub show_runs : (l t : List ℕ) → list_questions l ≡ Ok tt → length t ≡ longest_record → record_length (list_width l) ≤ length t
show_runs l t o long = omega (arith, long, record-small (list_width l) (admitted_narrow l o))

module _ {l t e : List ℕ} {n m k : ℕ} (o : RunRoom l t) (w : RunWritten l t e n) (b : m ≡ list_width l) (ek : k ≡ record_length (min m 128)) where
  long : k ≡ length (run_record l)
  long = own_size l o.asked b ek ∙ sym (run_length l o.asked)

  pub show_part : k ≤ length e
  show_part = omega (arith, run_same o w, o.room, long, run_length l o.asked)

  part_is : take (k - 0) e ≡ run_record l
  unfolding written
  part_is = ap (take (k - 0)) w.bytes ∙ take_at (run_record l) (drop (length (run_record l)) t) (k - 0) (omega (arith, long))

  pub run_shown : {d f : List ℕ} {r : Answer ℕ}
      → CountWritten (display_answer (take (k - 0) e) (length d)) (text_of_tableau (take (k - 0) e)) d f r → TextReported (text_of_tableau (run_record l)) d f r
  run_shown {d} {f} {r} x = subst (λ q. CountWritten q (text_of_tableau (run_record l)) d f r) (sym room) (subst (λ (y : List ℕ). CountWritten (display_answer y (length d)) (text_of_tableau y) d f r) part_is x)
    where
      room : room_question (length (text_of_tableau (run_record l))) (length d) ≡ display_answer (run_record l) (length d)
      room = unfold display_answer in passed (sym (formed-good (run_record l) (run_good l o.asked).formed)) refl refl

pub ruleset shows = (show_runs, room_for, run_same, show_part, run_shown, rules)

-- ---- the report
module _ (l : List ℕ) {q : Outcome} (e : q ≡ list_questions l) where
  reported : {text d f : List ℕ} {r : Answer ℕ} → text ≡ report_text l → TextReported text d f r
      → CountWritten (report_answer l (length d)) (report_text l) d f r
  unfolding report_answer
  reported {d = d} {f} {r} z x = subst (λ (y : List ℕ). CountWritten (room_question (length y) (length d)) y d f r) z x

  pub report_run : {d f : List ℕ} {r : Answer ℕ} → q ≡ Ok tt → TextReported (text_of_tableau (run_record l)) d f r
      → CountWritten (report_answer l (length d)) (report_text l) d f r
  unfolding report_text text_after
  report_run h x = reported (ap (λ y. text_after y (text_of_tableau (run_record l))) (sym h ∙ e)) x

  pub report-refusal : {x : Refusal} {d f : List ℕ} {r : Answer ℕ} → q ≡ Err x → TextReported (refusal_text x) d f r
      → CountWritten (report_answer l (length d)) (report_text l) d f r
  unfolding report_text text_after
  report-refusal h x = reported (ap (λ y. text_after y (text_of_tableau (run_record l))) (sym h ∙ e)) x

pub ruleset reports = (report_run, report-refusal, rules)

-- ---- its length: that of a valid tableau's text at most, and a refusal's is short
refusal-short : (r : Refusal) → Listed r → length (refusal_text r) ≤ 138557
refusal-short r o = omega (arith, refusal-length r, number_short r, decimal-most 3 (refusal_detail r) (omega (arith, o.detail)))

pub report-most : (l : List ℕ) → length (report_text l) ≤ 138557
unfolding report_text text_after
report-most l = by (list_questions l) refl
  where
    by : (q : Outcome) → list_questions l ≡ q → length (text_after q (text_of_tableau (run_record l))) ≤ 138557
    by (Ok tt) e = valid_display_most (run_record l) (formed-good (run_record l) (run_good l e).formed) (run_valid l e)
    by (Err r) e = refusal-short r (refusal-listed l e)

pub report_done : (l : List ℕ) (room : ℕ) → 138557 ≤ room → report_answer l room ≡ Ok tt
unfolding report_answer
report_done l room h = sym (has_room (length (report_text l)) room (omega (arith, report-most l)))

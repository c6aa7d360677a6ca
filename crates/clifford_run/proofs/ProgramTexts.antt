-- What the program hands on: the report of what was read, and of every input that begins so.
use mathlib.Core.Path.{◌≡◌, refl, sym, ap, ◌∙◌}
use mathlib.Core.List.{List}
use Prim.Native.Nat.{ℕ, ◌≤◌, ◌%◌}
use native.Mathlib.Decide.{ℕ_discrete, dec_lt}
use native.Mathlib.Omega.{arith}
use lib.ListN.{length, take, drop, length-take, length-drop, length-append}
use lib.Seq.{take_all, take_at}
use borrow.Author.Rules.{rules}
use Rattle.pauli.specs.declared.refusal.Refusal.TheVariants.{ListLength}
use Rattle.pauli.specs.Answers.{answer_to, written, CountWritten, Answer}
use Rattle.pauli.proofs.Asking.{refused}
use Rattle.clifford.specs.Display.{text_of_tableau}
use Rattle.gate_list.specs.ListQuestions.{size_question, list_questions}
use Rattle.gate_list.specs.Reports.{refusal_text, text_after, report_text, report_answer}
use Rattle.gate_list.specs.Runs.{run_record}
use Rattle.gate_list.proofs.ListAsking.{size_odd, size_long}
use Rattle.gate_list.proofs.RunReports.{report-most, report_done}
use Rattle.clifford_run.specs.Program.{input_most}
use Rattle.clifford_run.specs.Inside.Program.{Owed, ReportRoom, Buffers, InputRead, ReportWritten}
use Rattle.std.proofs.lemmas.Result.{IfOk-at_ok}
use Rattle.std.specs.Result.{result_unwrap_or}
use Rattle.std.specs.Prelude.{Result, Ok, Err}

-- ---- a longer input than the longest list is 16, whatever follows
size_over : (l : List ℕ) → input_most ≤ length l → Err ListLength ≡ size_question l
size_over l h = elim (ℕ_discrete (length l % 6) 0) [ yes e ↦ size_long l e (omega arith) (omega arith) | no e ↦ size_odd l e ]

text_over : (l : List ℕ) → input_most ≤ length l → report_text l ≡ refusal_text ListLength
unfolding report_text text_after list_questions
text_over l h = ap (λ q. text_after q (text_of_tableau (run_record l))) (sym (refused _ (size_over l h) refl))

pub report_read : (l : List ℕ) → report_text (take input_most l) ≡ report_text l
report_read l = elim (dec_lt (length l) input_most) [
  | yes h ↦ ap report_text (take_all input_most l (omega arith))
  | no h ↦ text_over (take input_most l) (omega (arith, length-take input_most l)) ∙ sym (text_over l (omega arith))
]

-- ---- the loop that reads into a buffer, which held d before: k bytes so far, and it holds e
pub record Reading (d e : List ℕ) (k : ℕ) : Type 0 where
  pub long : length e ≡ length d
  pub within : k ≤ length e

-- ---- the report of a list at the front of a text with room for any
module _ (l : List ℕ) {d e : List ℕ} {r : Answer ℕ} (o : ReportRoom d) (w : CountWritten (report_answer l (length d)) (report_text l) d e r) where
  done : report_answer l (length d) ≡ Ok tt
  done = report_done l (length d) o.room

  counted : r ≡ Ok (length (report_text l))
  unfolding answer_to
  counted = w.answer ∙ ap (λ q. answer_to q (length (report_text l))) done

  bytes : e ≡ written (Ok tt) (report_text l) d
  bytes = w.bytes ∙ ap (λ q. written q (report_text l) d) done

  pub text_made : {n : ℕ} → n ≡ result_unwrap_or r 0 → ReportWritten l d e n
  unfolding written
  text_made {n} h =
      let count : n ≡ length (report_text l) = h ∙ ap (λ x. result_unwrap_or x 0) counted in
      let long : length e ≡ length d = ap length bytes ∙ length-append (report_text l) (drop (length (report_text l)) d) ∙ omega (arith, length-drop (length (report_text l)) d, report-most l, o.room) in
      record {
        long = long;
        within = omega (arith, report-most l, o.room);
        text = ap (take n) bytes ∙ take_at (report_text l) (drop (length (report_text l)) d) n (sym count);
      }

pub ruleset program_texts = (text_made, rules)

-- ---- what is handed on
module _ {E : Type 0} {d e : List ℕ} {x : Result ℕ E} {n : ℕ} (i : InputRead d e x) (h : x ≡ Ok n) where
  pub read_within : n ≤ length e
  read_within = IfOk-at_ok _ h i.count

  pub read_owed : {t f : List ℕ} {k : ℕ} → Buffers d t → ReportWritten (take n e) t f k → Owed (length e) (take n e) (take k f)
  read_owed o w = record {
    report = w.text;
    whole = λ l p. w.text ∙ ap report_text p ∙ ap (λ (m : ℕ). report_text (take m l)) (i.long ∙ o.long) ∙ report_read l;
  }

pub written_within : {l d e : List ℕ} {k : ℕ} → ReportWritten l d e k → k ≤ length e
written_within w = w.within

pub buffers_room : {d t : List ℕ} → Buffers d t → ReportRoom t
buffers_room o = o.room

pub part_count : (n : ℕ) (e : List ℕ) → n ≤ length e → n ≡ length (take n e)
part_count n e h = omega (arith, length-take n e)

pub ruleset owings = (read_within, read_owed, written_within, buffers_room, part_count, rules)

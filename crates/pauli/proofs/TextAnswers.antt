-- A text that is written where there is room for it: what a function answers that counts it first.
use Rattle.std.proofs.Common.{◌≡◌, ℕ, List, length, sym, ap, ◌∙◌, Ok, Err, IsErrAnd}
use Rattle.pauli.specs.declared.refusal.Refusal.{Refusal}
use Rattle.pauli.specs.Answers.{CountWritten, Answer}
use Rattle.pauli.specs.Questions.{room_question}
use Rattle.pauli.specs.Inside.TextWriting.{TextWritten}
use Rattle.pauli.proofs.Answers.{number-done, number-exit}
use Rattle.pauli.proofs.Asking.{room-is}
use Rattle.pauli.proofs.StringTexts.{copied-whole}

module _ {w : List ℕ} {k : ℕ} (ek : k ≡ length w) where
  pub text-answered : {d e : List ℕ} {n : ℕ} → Ok tt ≡ room_question k (length d) → TextWritten w d e n
      → CountWritten (room_question (length w) (length d)) w d e (Ok n)
  text-answered {d} h t =
      let asked = h ∙ ap (λ (j : ℕ). room_question j (length d)) ek in
      number-done asked t.count (t.bytes ∙ copied-whole w d (room-is (length w) (length d) (sym asked)))

  pub text_no_room : {d : List ℕ} {r : Answer ℕ} {x : Refusal} → Err x ≡ room_question k (length d) → IsErrAnd r (λ e. e ≡ x)
      → CountWritten (room_question (length w) (length d)) w d d r
  text_no_room {d} h e = number-exit (length w) w d (h ∙ ap (λ (j : ℕ). room_question j (length d)) ek) e

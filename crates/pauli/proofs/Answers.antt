-- Laws of answers: what each says in numbers, and what an answer made from questions is.
use Rattle.std.proofs.Common.{◌≡◌, ℕ, List, refl, ap, ◌∙◌, Ok, Err, IsErrAnd, true, is_err}
use Rattle.pauli.specs.declared.refusal.Refusal.{Refusal}
use Rattle.pauli.specs.Answers.{Answer, Outcome, reply_to, reply_of, no_value, number_value, answer_to, written, Answered, Written, NumberWritten}

-- an answer made from questions has the number and the value that the questions give
pub answer-told : {T : Type 0} (value : T → ℕ) (q : Outcome) (x : T) → reply_of value (answer_to q x) ≡ reply_to q (value x)
unfolding reply_of answer_to reply_to
answer-told value (Ok tt) x = refl
answer-told value (Err r) x = refl

outcome-told : (q : Outcome) → reply_of no_value q ≡ reply_to q 0
unfolding reply_of reply_to
outcome-told (Ok tt) = refl
outcome-told (Err r) = refl

-- the exit of a `?` gives on the refusal as it is
pub exit-is : {T : Type 0} (r : Answer T) {x : Refusal} → IsErrAnd r (λ e. e ≡ x) → r ≡ Err x
exit-is (Ok y) h = absurd h
exit-is {T} (Err e) h = ap {B = Answer T} Err h

-- what an answer says of its questions
pub answer-ok : {T : Type 0} (q : Outcome) {x y : T} → Ok y ≡ answer_to q x → (q ≡ Ok tt) × (y ≡ x)
unfolding answer_to
answer-ok (Ok tt) e = (refl, cc)
answer-ok (Err r) e = cc

pub answer-err : {T : Type 0} (q : Outcome) {r : Refusal} (x : T) → Err r ≡ answer_to q x → q ≡ Err r
unfolding answer_to
answer-err (Ok tt) x e = cc
answer-err {T} (Err s) {r} x e = let same : s ≡ r = cc in ap {B = Outcome} Err same

-- ---- the two ways in which a function that answers a value ends
pub answer-done : {T : Type 0} {q : Outcome} {x y : T} → Ok tt ≡ q → y ≡ x → Ok y ≡ answer_to q x
unfolding answer_to
answer-done {T} {x = x} h e = ap {B = Answer T} Ok e ∙ ap (λ z. answer_to z x) h

pub answer-exit : {T : Type 0} {q : Outcome} {r : Answer T} {x : Refusal} (y : T) → Err x ≡ q → IsErrAnd r (λ e. e ≡ x) → r ≡ answer_to q y
unfolding answer_to
answer-exit {r = r} y h e = exit-is r e ∙ ap (λ z. answer_to z y) h

pub answered : {T : Type 0} {value : T → ℕ} {q : Outcome} {x : T} {r : Answer T} → r ≡ answer_to q x → Answered value q x r
answered {value = value} {q} {x} e = record { answer = e; told = ap (reply_of value) e ∙ answer-told value q x }

pub answered-done : {T : Type 0} {value : T → ℕ} {q : Outcome} {x y : T} → Ok tt ≡ q → y ≡ x → Answered value q x (Ok y)
answered-done h e = answered (answer-done h e)

pub answered-exit : {T : Type 0} {value : T → ℕ} {q : Outcome} {r : Answer T} {x : Refusal} (y : T) → Err x ≡ q → IsErrAnd r (λ e. e ≡ x) → Answered value q y r
answered-exit y h e = answered (answer-exit y h e)

pub answered-not : {T : Type 0} {value : T → ℕ} {q : Outcome} {r : Refusal} (x : T) → Err r ≡ q → Answered value q x (Err r)
unfolding answer_to
answered-not x h = answered (ap (λ z. answer_to z x) h)

-- ---- the two ways in which a function that writes ends
pub written-done : {q : Outcome} {out d e : List ℕ} → Ok tt ≡ q → e ≡ written (Ok tt) out d → Written q out d e (Ok tt)
written-done {q} {out} {d} h w = record { answer = h; told = ap (reply_of no_value) h ∙ outcome-told q; bytes = w ∙ ap (λ z. written z out d) h }

pub written-not : {q : Outcome} {r : Refusal} (out d : List ℕ) → Err r ≡ q → Written q out d d (Err r)
unfolding written
written-not {q} out d h = record { answer = h; told = ap (reply_of no_value) h ∙ outcome-told q; bytes = ap (λ z. written z out d) h }

pub written-exit : {q r : Outcome} {x : Refusal} (out d : List ℕ) → Err x ≡ q → IsErrAnd r (λ e. e ≡ x) → Written q out d d r
unfolding written
written-exit {q} {r} out d h e =
    let answer = exit-is r e ∙ h in
    record { answer = answer; told = ap (reply_of no_value) answer ∙ outcome-told q; bytes = ap (λ z. written z out d) h }

pub number-done : {q : Outcome} {n m : ℕ} {out d e : List ℕ} → Ok tt ≡ q → m ≡ n → e ≡ written (Ok tt) out d → NumberWritten q n out d e (Ok m)
number-done {q} {n} {out = out} {d} h c w =
    let told = answered-done {value = number_value} h c in
    record { answer = told.answer; told = told.told; bytes = w ∙ ap (λ z. written z out d) h }

pub number-not : {q : Outcome} {r : Refusal} (n : ℕ) (out d : List ℕ) → Err r ≡ q → NumberWritten q n out d d (Err r)
unfolding written
number-not n out d h =
    let told = answered-not {value = number_value} n h in
    record { answer = told.answer; told = told.told; bytes = ap (λ z. written z out d) h }

pub number-exit : {q : Outcome} {r : Answer ℕ} {x : Refusal} (n : ℕ) (out d : List ℕ) → Err x ≡ q → IsErrAnd r (λ e. e ≡ x) → NumberWritten q n out d d r
unfolding written
number-exit n out d h e =
    let told = answered-exit {value = number_value} n h e in
    record { answer = told.answer; told = told.told; bytes = ap (λ z. written z out d) h }

-- ---- the same, for `grind`: every argument stands in the conclusion
pub written_given : {q : Outcome} {out d e : List ℕ} {r : Outcome} → r ≡ q → e ≡ written r out d → Written q out d e r
written_given {q} {out} {d} p w = record { answer = p; told = ap (reply_of no_value) p ∙ outcome-told q; bytes = w ∙ ap (λ z. written z out d) p }

pub none_written : (r : Outcome) (out d : List ℕ) → is_err r ≡ true → written r out d ≡ d
unfolding written
none_written (Ok tt) out d h = cc
none_written (Err x) out d h = refl

pub ruleset by_answers = (written_given, none_written)

pub ruleset answers = (
  answered-done,
  answered-exit,
  answered-not,
  written-done,
  written-exit,
  written-not,
  number-done,
  number-exit,
  number-not,
)

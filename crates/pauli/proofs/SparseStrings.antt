-- Strings from sparse text: the questions in their order, and the record that is written from the marks.
use Rattle.std.proofs.Common.{◌≡◌, ℕ, ◌≤◌, List, ◌∷◌, ◌++◌, length, drop, sym, ap, ◌∙◌, arith, rules, Ok, Err}
use Rattle.pauli.specs.declared.refusal.Refusal.{Refusal}
use Rattle.pauli.specs.declared.text.Head.{Head}
use Rattle.pauli.specs.declared.entries.Marks.{Marks}
use Rattle.pauli.specs.Answers.{written, Written, Answer, Outcome}
use Rattle.pauli.specs.Entries.{entry_count, entries_string}
use Rattle.pauli.specs.Layout.{string_record}
use Rattle.pauli.specs.Inside.Marks.{marks_to, marks_of, marks_question, letters_marked, RecordFits}
use Rattle.pauli.specs.Questions.{◌and_then◌, duplicate_question, room_question}
use Rattle.pauli.specs.Inside.Reading.{HeadRead, tokens_read}
use Rattle.pauli.specs.Text.{Token, token_entries, text_phase, ascii_question, tokens, token_questions, sparse_tokens, sparse_entries, sparse_questions, sparse_string, from_sparse_questions, sparse_record}
use Rattle.pauli.proofs.Answers.{answer-ok, answer-err, written-done, written-not}
use Rattle.pauli.proofs.Asking.{first_done, first_not, and_then_assoc, done_first, done_second, room-is}
use Rattle.pauli.proofs.EntryStrings.{marks_question_lem, marked_bytes, marked_fit}
use Rattle.pauli.proofs.Records.{phase-small}

-- ---- the questions in their order
abbrev chain : List ℕ → ℕ → Outcome
chain t room = ascii_question t and_then token_questions (sparse_tokens t) and_then duplicate_question (sparse_entries t) and_then room_question 129 room

chain_is : (t : List ℕ) (room : ℕ) → chain t room ≡ from_sparse_questions t room
unfolding from_sparse_questions sparse_questions
chain_is t room =
    sym (and_then_assoc (ascii_question t) (token_questions (sparse_tokens t) and_then duplicate_question (sparse_entries t)) (room_question 129 room)
    ∙ ap (λ q. ascii_question t and_then q) (and_then_assoc (token_questions (sparse_tokens t)) (duplicate_question (sparse_entries t)) (room_question 129 room)))

pub sparse_not_ascii : (t : List ℕ) (room : ℕ) {x : Refusal} → Err x ≡ ascii_question t → Err x ≡ from_sparse_questions t room
sparse_not_ascii t room h = first_not _ h ∙ chain_is t room

module _ {t : List ℕ} {h : Head} (head : HeadRead t h) where
  tokens_are : tokens h.at (drop h.at t) ≡ sparse_tokens t
  unfolding sparse_tokens
  tokens_are = ap (λ (j : ℕ). tokens j (drop j t)) head.place

  pub sparse_marks : {m : Marks} → Ok m ≡ tokens_read (tokens h.at (drop h.at t)) → m ≡ marks_of (sparse_entries t)
  unfolding sparse_entries
  sparse_marks read = (answer-ok (token_questions (tokens h.at (drop h.at t))) read).1 ∙ ap (λ (ws : List Token). marks_of (token_entries ws)) tokens_are

  module _ (ascii : Ok tt ≡ ascii_question t) (room : ℕ) where
    pub sparse_bad_token : {x : Refusal} → Err x ≡ tokens_read (tokens h.at (drop h.at t)) → Err x ≡ from_sparse_questions t room
    sparse_bad_token e = first_done ascii (first_not _ (sym (answer-err _ _ e) ∙ ap token_questions tokens_are)) ∙ chain_is t room

    pub sparse_asked : {m : Marks} {q : Outcome} → Ok m ≡ tokens_read (tokens h.at (drop h.at t)) → q ≡ marks_question m.0 and_then room_question 129 room
        → q ≡ from_sparse_questions t room
    sparse_asked {m} read hq =
        first_done ascii (first_done (sym (answer-ok _ read).0 ∙ ap token_questions tokens_are) (hq
        ∙ ap (λ q. q and_then room_question 129 room) (ap (λ (x : Marks). marks_question x.0) (sparse_marks read) ∙ marks_question_lem (sparse_entries t))))
        ∙ chain_is t room

-- what the tokens are refused for is what the text is refused for
pub sparse_refused : {t d : List ℕ} {h : Head} {r : Answer Marks} {x : Refusal} → HeadRead t h → Ok tt ≡ ascii_question t → r ≡ tokens_read (tokens h.at (drop h.at t)) → r ≡ Err x
    → Written (from_sparse_questions t (length d)) (sparse_record t) d d (Err x)
sparse_refused {t} {d} head ascii e k = written-not (sparse_record t) d (sparse_bad_token head ascii (length d) (sym k ∙ e))

pub ruleset sparse_refusals = (sparse_refused, rules)

-- ---- the record
module _ {t : List ℕ} {m : Marks} {h : Head} (d : List ℕ) (head : HeadRead t h) (all : Ok tt ≡ from_sparse_questions t (length d)) (marks : m ≡ marks_of (sparse_entries t)) where
  all_asked : chain t (length d) ≡ Ok tt
  all_asked = chain_is t (length d) ∙ sym all

  marks-are : m.0 ≡ marks_to (sparse_entries t) (entry_count (sparse_entries t))
  marks-are = ap (λ (x : Marks). x.0) marks

  after-tokens : duplicate_question (sparse_entries t) and_then room_question 129 (length d) ≡ Ok tt
  after-tokens = done_second (token_questions (sparse_tokens t)) _ (done_second (ascii_question t) _ all_asked)

  phase-is : h.phase ≤ 3
  phase-is = omega (arith, head.phase, phase-small (text_phase t))

  pub sparse_fit : RecordFits d
  sparse_fit =
      marked_fit h.phase (sparse_entries t) m.0 phase-is (done_first _ _ after-tokens) marks-are d
      (room-is 129 (length d) (done_second (duplicate_question (sparse_entries t)) _ after-tokens))

  pub sparse_written : {out : List ℕ} → out ≡ h.phase ∷ letters_marked 128 m.0 ++ drop 129 d → Written (from_sparse_questions t (length d)) (sparse_record t) d out (Ok tt)
  unfolding sparse_record sparse_string
  sparse_written w =
      written-done all
      (marked_bytes h.phase (sparse_entries t) m.0 phase-is (done_first _ _ after-tokens) marks-are d w
      ∙ ap (λ (p : ℕ). written (Ok tt) (string_record (entries_string p (sparse_entries t))) d) head.phase)

-- The text of a string record: its questions, and what is written.
use Rattle.std.proofs.Common.{◌≡◌, ℕ, zero, suc, ◌<◌, ◌≤◌, min, List, ◌++◌, length, get_or, take, drop, sym, refl, ap, ◌∙◌, ap₂, append-nil, arith, length-append, length-drop, length-take, take_all, rules, Ok, Err}
use native.Mathlib.Decide.{ℕ_discrete}
use Rattle.pauli_group.specs.Letter.{Letter, I}
use Rattle.pauli_group.specs.PauliString.{PauliString, qubits, Within}
use Rattle.pauli.specs.declared.refusal.Refusal.{Refusal}
use Rattle.pauli.specs.Answers.{written, Outcome}
use Rattle.pauli.specs.Layout.{phase_of, letter_of, string_of, decode_string, WellFormed}
use Rattle.pauli.specs.Questions.{string_questions, room_question}
use Rattle.pauli.specs.Rows.{letter_at, shorter, copied}
use Rattle.pauli.specs.SparseText.{words_at, entry_words, prefix_text, body_text, sparse_text_to, sparse_text, row_string, row_text, text_of_record, to_sparse_questions}
use Rattle.pauli.specs.Inside.TextWriting.{TextWritten}
use Rattle.pauli.proofs.Asking.{own_done, first_done, first_not, in_order, done_first, done_second, string-formed, room-is}
use Rattle.pauli.proofs.Places.{from, from_at, length_from}
use Rattle.pauli.proofs.Records.{decode_letter, decode_within}

-- ---- the text of a row and of a record
pub words_ext : (n : ℕ) (f g : ℕ → Letter) → ((q : ℕ) → q < n → f q ≡ g q) → entry_words n f ≡ entry_words n g
unfolding entry_words
words_ext zero f g h = refl
words_ext (suc n) f g h = ap₂ (λ ws l. ws ++ words_at l n) (words_ext n f g (λ q l. h q (omega arith))) (h n (omega arith))

-- letters that are I have no words
words_beyond : (n m : ℕ) (f : ℕ → Letter) → n ≤ m → ((q : ℕ) → n ≤ q → f q ≡ I) → entry_words m f ≡ entry_words n f
unfolding entry_words words_at
words_beyond n zero f h i = let e : 0 ≡ n = omega arith in ap (λ (k : ℕ). entry_words k f) e
words_beyond n (suc m) f h i = elim (ℕ_discrete n (suc m)) [
  | yes e ↦ ap (λ (k : ℕ). entry_words k f) (sym e)
  | no e ↦ ap (λ l. entry_words m f ++ words_at l m) (i m (omega arith)) ∙ append-nil (entry_words m f) ∙ words_beyond n m f (omega arith) i
]

pub text-within : (n : ℕ) (s : PauliString) → n ≤ 128 → Within n s → sparse_text_to n s ≡ sparse_text s
unfolding sparse_text sparse_text_to qubits
text-within n s h i = ap (λ ws. prefix_text s.phase ++ body_text ws) (sym (words_beyond n 128 s.letters h i))

row_words : (w : ℕ) (s : List ℕ) → min (length (from 1 s)) 128 ≡ w → ((q : ℕ) → q < w → letter_of (get_or (from 1 s) q 0) ≡ (decode_string w s).letters q)
    → row_text (get_or s 0 0) (from 1 s) ≡ sparse_text_to w (decode_string w s)
unfolding row_text row_string sparse_text_to decode_string letter_at qubits
row_words w s e h =
    ap (λ (n : ℕ). sparse_text_to n (row_string (get_or s 0 0) (from 1 s))) e ∙ ap (λ ws. prefix_text (phase_of (get_or s 0 0)) ++ body_text ws) (words_ext w _ _ h)

-- the text of a row's bytes is the text of its string
pub row-text : {w : ℕ} {s : List ℕ} → w ≤ 128 → WellFormed w s → row_text (get_or s 0 0) (from 1 s) ≡ sparse_text (decode_string w s)
row-text {w} {s} h f =
    row_words w s (omega (arith, f.long, length_from 1 s)) (λ q l. ap letter_of (from_at s q) ∙ sym (decode_letter w s q l))
    ∙ text-within w (decode_string w s) h (decode_within w s)

row_is : {s : List ℕ} → WellFormed 128 s → row_text (get_or s 0 0) (from 1 s) ≡ text_of_record s
unfolding text_of_record string_of qubits
row_is f = row-text (omega arith) f

-- ---- the questions
pub text-refused : (s : List ℕ) {x : Refusal} (room : ℕ) → Err x ≡ string_questions s → Err x ≡ to_sparse_questions s room
unfolding to_sparse_questions
text-refused s room p = first_not _ p

pub text-asked : (s : List ℕ) {t : Outcome} {n : ℕ} (room : ℕ) → Ok tt ≡ string_questions s → n ≡ length (row_text (get_or s 0 0) (from 1 s))
    → t ≡ room_question n room → t ≡ to_sparse_questions s room
unfolding to_sparse_questions
text-asked s room p c q = first_done p (q ∙ ap (λ (k : ℕ). room_question k room) (c ∙ ap length (row_is (string-formed s (sym p)))))

pub text-byte : (s : List ℕ) → Ok tt ≡ string_questions s → 1 ≤ length s
text-byte s p = omega (arith, (string-formed s (sym p)).long)

-- ---- what is written
copied-length : (w d : List ℕ) → length (copied w d) ≡ length d
unfolding copied
copied-length w d = length-append (take (shorter w d) w) (drop (shorter w d) d) ∙ omega (arith, length-take (shorter w d) w, length-drop (shorter w d) d)

pub text_same : {w d e : List ℕ} {n : ℕ} → TextWritten w d e n → length e ≡ length d
text_same {w} {d} t = ap length t.bytes ∙ copied-length w d

pub copied-whole : (w d : List ℕ) → length w ≤ length d → copied w d ≡ written (Ok tt) w d
unfolding copied written
copied-whole w d l =
    let short : shorter w d ≡ length w = omega arith in
    ap (λ (k : ℕ). take k w ++ drop k d) short ∙ ap (λ (x : List ℕ). x ++ drop (length w) d) (take_all (length w) w (omega arith))

module _ (s d : List ℕ) (p : to_sparse_questions s (length d) ≡ Ok tt) where
  formed : WellFormed 128 s
  unfolding to_sparse_questions
  formed = string-formed s (done_first _ _ p)

  room : length (text_of_record s) ≤ length d
  unfolding to_sparse_questions
  room = room-is _ (length d) (done_second (string_questions s) _ p)

  pub text_place : 1 ≤ length s
  text_place = omega (arith, formed.long)

  pub text_count : length (row_text (get_or s 0 0) (from 1 s)) ≡ length (text_of_record s)
  text_count = ap length (row_is formed)

  pub text_bytes : copied (row_text (get_or s 0 0) (from 1 s)) d ≡ written (Ok tt) (text_of_record s) d
  text_bytes = ap (λ (w : List ℕ). copied w d) (row_is formed) ∙ copied-whole (text_of_record s) d room

pub ruleset written_texts = (text_place, text_count, text_bytes, text_same)

pub ruleset string_texts = (text-refused, text-asked, text-byte, in_order, rules)

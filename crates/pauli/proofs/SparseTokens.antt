-- All tokens of a sparse text: what has been read and marked before a place.
use Rattle.std.proofs.Common.{◌≡◌, ℕ, zero, suc, ◌+◌, ◌-◌, ◌*◌, ◌<◌, ◌≤◌, Bool, true, false, cond, eqb, List, [], ◌∷◌, ◌++◌, length, get_or, drop, set, replicate, sym, refl, ap, ◌∙◌, subst, append_assoc, append-nil, not-suc-le-zero, arith, length-append, drop_of_length-le, drop-drop, get_or-append-add, rules, Ok, Err, IsErrAnd}
use lib.ListN.{get_or-append}
use Rattle.pauli.specs.declared.refusal.Refusal.{Refusal}
use Rattle.pauli.specs.declared.sparse_reader.Entry.{Entry}
use Rattle.pauli.specs.Answers.{Answer}
use Rattle.pauli.specs.declared.entries.Mark.{Mark}
use Rattle.pauli.specs.declared.entries.Mark.TheVariants.{Unnamed}
use Rattle.pauli.specs.declared.entries.Marks.{Marks}
use Rattle.pauli_group.specs.PauliString.{qubits}
use Rattle.pauli.specs.Entries.{entry_count, entry_letter, entry_qubit}
use Rattle.pauli.specs.Inside.Marks.{mark_more, marks_to}
use Rattle.pauli.specs.Inside.Reading.{Skipped, WordAt, OneEntry, EntryRead, tokens_read}
use Rattle.pauli.specs.Text.{is_space, leading_spaces, Token, tokens, token_questions, token_entries}
use Rattle.pauli.proofs.EntryMarks.{no_marks, mark_ext, length-marks, mark_step}
use Rattle.pauli.proofs.Places.{listed_ext}
use Rattle.pauli.proofs.SparseReading.{space-ends, no_more}
use Rattle.pauli.proofs.Tokens.{tokens_skip}
use Rattle.pauli.proofs.Answers.{answer-done, answer-exit}

-- ---- one entry more at the end of a list of entries
module _ (e : List ℕ) (l q : ℕ) (even : length e ≡ entry_count e + entry_count e) where
  abbrev more : List ℕ
  more = e ++ (l ∷ q ∷ [])

  abbrev n : ℕ
  n = entry_count e

  long : length more ≡ length e + 2
  long = length-append e (l ∷ q ∷ [])

  count-more : entry_count more ≡ suc n
  unfolding entry_count
  count-more = omega (arith, long, even)

  even-more : length more ≡ entry_count more + entry_count more
  even-more = omega (arith, long, even, count-more)

  letter_kept : (j : ℕ) → j < n → entry_letter more j ≡ entry_letter e j
  unfolding entry_letter
  letter_kept j h = get_or-append e (l ∷ q ∷ []) 0 (2 * j) (omega (arith, even))

  qubit_kept : (j : ℕ) → j < n → entry_qubit more j ≡ entry_qubit e j
  unfolding entry_qubit
  qubit_kept j h = get_or-append e (l ∷ q ∷ []) 0 (2 * j + 1) (omega (arith, even))

  letter_new : entry_letter more n ≡ l
  unfolding entry_letter
  letter_new = let place : 2 * n ≡ length e + 0 = omega (arith, even) in ap (λ (j : ℕ). get_or more j 0) place ∙ get_or-append-add e (l ∷ q ∷ []) 0 0

  qubit_new : entry_qubit more n ≡ q
  unfolding entry_qubit
  qubit_new = let place : 2 * n + 1 ≡ length e + 1 = omega (arith, even) in ap (λ (j : ℕ). get_or more j 0) place ∙ get_or-append-add e (l ∷ q ∷ []) 1 0

marks_ext : (d e : List ℕ) (n : ℕ) → ((j : ℕ) → j < n → entry_letter d j ≡ entry_letter e j)
    → ((j : ℕ) → j < n → entry_qubit d j ≡ entry_qubit e j) → marks_to d n ≡ marks_to e n
unfolding marks_to
marks_ext d e n hl hq =
    listed_ext qubits _ _ (λ k l. mark_ext n (λ j. eqb (entry_qubit d j) k) (λ j. eqb (entry_qubit e j) k) (entry_letter d) (entry_letter e) (λ j h. ap (λ (x : ℕ). eqb x k) (hq j h)) hl)

marks-more : (e : List ℕ) (l q : ℕ) → length e ≡ entry_count e + entry_count e → q < 128
    → set (marks_to e (entry_count e)) q (mark_more (get_or (marks_to e (entry_count e)) q Unnamed) l) ≡ marks_to (e ++ (l ∷ q ∷ [])) (entry_count (e ++ (l ∷ q ∷ [])))
marks-more e l q even h =
    ap (λ (m : List Mark). set m q (mark_more (get_or m q Unnamed) l)) (sym (marks_ext (more e l q even) e (entry_count e) (letter_kept e l q even) (qubit_kept e l q even)))
    ∙ mark_step (more e l q even) (entry_count e) l q (sym (letter_new e l q even)) (sym (qubit_new e l q even)) h
    ∙ ap (marks_to (more e l q even)) (sym (count-more e l q even))

-- ---- the tokens ws of t, read up to place k
pub record Reading (ws : List Token) (t : List ℕ) (k : ℕ) (m : List Mark) : Type 0 where
  pub seen : List ℕ
  pub within : k ≤ length t
  pub begins : k < length t → is_space (get_or t k 0) ≡ false
  pub marks : m ≡ marks_to seen (entry_count seen)
  pub even : length seen ≡ entry_count seen + entry_count seen
  pub questions : token_questions ws ≡ token_questions (tokens k (drop k t))
  pub entries : token_entries ws ≡ seen ++ token_entries (tokens k (drop k t))

skip_tokens : (t : List ℕ) (n k : ℕ) → Skipped leading_spaces t n k → tokens n (drop n t) ≡ tokens k (drop k t)
skip_tokens t n k s =
    tokens_skip n (drop n t) ∙ ap (tokens (n + leading_spaces (drop n t))) (drop-drop (leading_spaces (drop n t)) n t) ∙ ap (λ (j : ℕ). tokens j (drop j t)) (sym s.is)

pub reading-none : {t : List ℕ} {m : List Mark} {s k : ℕ} → m ≡ replicate 128 Unnamed → Skipped leading_spaces t s k → Reading (tokens s (drop s t)) t k m
unfolding entry_count
reading-none {t} {m} {s} {k} z h = record {
  seen = [];
  within = h.within;
  begins = space-ends t s k h;
  marks = z ∙ no_marks [];
  even = refl;
  questions = ap token_questions (skip_tokens t s k h);
  entries = ap token_entries (skip_tokens t s k h);
}

pub reading-word : {ws : List Token} {t : List ℕ} {m : List Mark} {k : ℕ} → Reading ws t k m → k < length t → WordAt t k
reading-word r l = record { within = l; byte = r.begins l }

-- one entry more
module _ {ws : List Token} {t : List ℕ} {m : List Mark} {k : ℕ} {e : Entry} (r : Reading ws t k m) (read : EntryRead (tokens k (drop k t)) t k (Ok e)) where
  one : OneEntry (tokens k (drop k t)) t k e
  one = read.one e refl

  pub reading-below : e.qubit < 128
  reading-below = one.place

  pub reading-next : e.next ≤ length t
  reading-next = one.within

  pub reading_less : {j : ℕ} → Skipped leading_spaces t e.next j → length t - j < length t - k
  reading_less s = omega (arith, one.onward, one.within, s.onward, s.within)

  pub reading_step : {d : List Mark} {j : ℕ} → d ≡ set m e.qubit (mark_more (get_or m e.qubit Unnamed) e.letter) → Skipped leading_spaces t e.next j → Reading ws t j d
  reading_step {d} {j} ed s = record {
    seen = r.seen ++ (e.letter ∷ e.qubit ∷ []);
    within = s.within;
    begins = space-ends t e.next j s;
    marks = ed ∙ ap (λ (x : List Mark). set x e.qubit (mark_more (get_or x e.qubit Unnamed) e.letter)) r.marks ∙ marks-more r.seen e.letter e.qubit r.even one.place;
    even = even-more r.seen e.letter e.qubit r.even;
    questions = r.questions ∙ one.questions ∙ ap token_questions (skip_tokens t e.next j s);
    entries = r.entries ∙ ap (λ (x : List ℕ). r.seen ++ x) (one.entries ∙ ap (λ (w : List Token). e.letter ∷ e.qubit ∷ token_entries w) (skip_tokens t e.next j s))
        ∙ sym (append_assoc r.seen (e.letter ∷ e.qubit ∷ []) (token_entries (tokens j (drop j t))));
  }

pub reading-refused : {ws : List Token} {t : List ℕ} {m : List Mark} {k : ℕ} {x : Refusal} {o : Answer Marks} → Reading ws t k m → EntryRead (tokens k (drop k t)) t k (Err x)
    → IsErrAnd o (λ e. e ≡ x) → o ≡ tokens_read ws
reading-refused {x = x} r read h = answer-exit _ (sym (r.questions ∙ read.refused x refl)) h

pub reading_done : {ws : List Token} {t : List ℕ} {m : List Mark} {k : ℕ} → Reading ws t k m → length t ≤ k → Ok (record { 0 = m }) ≡ tokens_read ws
unfolding token_questions token_entries
reading_done {ws} {t} {m} {k} r l =
    let left : tokens k (drop k t) ≡ [] = no_more k (drop k t) (drop_of_length-le t l) in
    let all : token_entries ws ≡ r.seen = r.entries ∙ ap (λ (w : List Token). r.seen ++ token_entries w) left ∙ append-nil r.seen in
    let marks : m ≡ marks_to (token_entries ws) (entry_count (token_entries ws)) = r.marks ∙ ap (λ (x : List ℕ). marks_to x (entry_count x)) (sym all) in
    answer-done (sym (r.questions ∙ ap token_questions left)) (λ i. record { 0 = marks i })

pub reading-length : {ws : List Token} {t : List ℕ} {d : List Mark} {k : ℕ} → Reading ws t k d → length d ≡ 128
reading-length r = ap length r.marks ∙ length-marks r.seen _

pub ruleset readings = (
  reading-none,
  reading-word,
  reading-below,
  reading-next,
  reading_less,
  reading_step,
  reading-length,
  rules,
)

-- Tokens of a text: where each begins and ends, and what the questions put to the first one say of the whole.
use Rattle.std.proofs.Common.{◌≡◌, ℕ, zero, suc, ◌+◌, ◌<◌, Bool, true, false, cond, not, List, [], ◌∷◌, ◌++◌, length, get_or, take, drop, sym, refl, ap, ◌∙◌, ap₂, append-nil, arith, le-ltb, lt-ltb, Ok, Err}
use lib.Seq.{drop-nil}
use Rattle.pauli.specs.declared.refusal.Refusal.{Refusal}
use Rattle.pauli.specs.declared.refusal.Refusal.TheVariants.{NotLetter, NoIndex}
use Rattle.pauli.specs.Places.{first_place}
use Rattle.pauli.specs.Questions.{◌and_then◌}
use Rattle.pauli.specs.Text.{is_space, letter_named, leading_spaces, Token, token, starts_word, longer, tokens, index_questions, letter_question, has_index, attached_questions, token_questions, attached_entry, apart_entry, token_entries}
use Rattle.pauli.specs.Inside.Reading.{leading_word}
use Rattle.pauli.proofs.Asking.{asked_yes, asked_no, and_then_done}
use Rattle.pauli.specs.Answers.{Outcome}

-- ---- white space and words at the front

pub spaces_here : (c : ℕ) (cs : List ℕ) → is_space c ≡ true → leading_spaces (c ∷ cs) ≡ suc (leading_spaces cs)
unfolding leading_spaces first_place
spaces_here c cs e = ap (λ b. cond (not b) zero (suc (first_place (length cs) (λ k. not (is_space (get_or cs k 0)))))) e

pub spaces_none : (c : ℕ) (cs : List ℕ) → is_space c ≡ false → leading_spaces (c ∷ cs) ≡ 0
unfolding leading_spaces first_place
spaces_none c cs e = ap (λ b. cond (not b) zero (suc (first_place (length cs) (λ k. not (is_space (get_or cs k 0)))))) e

pub word_here : (c : ℕ) (cs : List ℕ) → is_space c ≡ false → leading_word (c ∷ cs) ≡ suc (leading_word cs)
unfolding leading_word first_place
word_here c cs e = ap (λ b. cond b zero (suc (first_place (length cs) (λ k. is_space (get_or cs k 0))))) e

word_none : (cs : List ℕ) → starts_word cs ≡ false → leading_word cs ≡ 0
unfolding starts_word leading_word first_place
word_none [] e = refl
word_none (c ∷ cs) e = ap (λ b. cond b zero (suc (first_place (length cs) (λ k. is_space (get_or cs k 0))))) (was (is_space c) e)
  where
    was : (b : Bool) → not b ≡ false → b ≡ true
    was true e = refl
    was false e = sym e

-- ---- tokens
abbrev split : Bool → Bool → ℕ → ℕ → List Token → List Token
split space more k c ws = cond space ws (cond more (longer k c ws) (token k (c ∷ []) ∷ ws))

tokens_here : (k c : ℕ) (cs : List ℕ) → tokens k (c ∷ cs) ≡ split (is_space c) (starts_word cs) k c (tokens (suc k) cs)
unfolding tokens
tokens_here k c cs = refl

no_tokens : (k j : ℕ) (s : List ℕ) → s ≡ [] → tokens k [] ≡ tokens j s
unfolding tokens
no_tokens k j s e = sym (ap (tokens j) e)

-- white space is passed over
pub tokens_skip : (k : ℕ) (s : List ℕ) → tokens k s ≡ tokens (k + leading_spaces s) (drop (leading_spaces s) s)
tokens_skip k [] = no_tokens k (k + leading_spaces []) (drop (leading_spaces []) []) (drop-nil (leading_spaces []))
tokens_skip k (c ∷ cs) = step (is_space c) refl (tokens_skip (suc k) cs)
  where
    step : (b : Bool) → is_space c ≡ b → tokens (suc k) cs ≡ tokens (suc k + leading_spaces cs) (drop (leading_spaces cs) cs)
        → tokens k (c ∷ cs) ≡ tokens (k + leading_spaces (c ∷ cs)) (drop (leading_spaces (c ∷ cs)) (c ∷ cs))
    step true e rest =
        let one : leading_spaces (c ∷ cs) ≡ suc (leading_spaces cs) = spaces_here c cs e in
        let next : suc k + leading_spaces cs ≡ k + suc (leading_spaces cs) = omega arith in
        tokens_here k c cs ∙ ap (λ b. split b (starts_word cs) k c (tokens (suc k) cs)) e ∙ rest
        ∙ ap (λ (j : ℕ). tokens j (drop (leading_spaces cs) cs)) next
        ∙ sym (ap (λ (j : ℕ). tokens (k + j) (drop j (c ∷ cs))) one)
    step false e rest =
        let zeroth : leading_spaces (c ∷ cs) ≡ 0 = spaces_none c cs e in
        let same : k + 0 ≡ k = omega arith in
        sym (ap (λ (j : ℕ). tokens (k + j) (drop j (c ∷ cs))) zeroth ∙ ap (λ (j : ℕ). tokens j (c ∷ cs)) same)

-- a word is a token
abbrev Word : ℕ → List ℕ → Type 0
Word k s = tokens k s ≡ token k (take (leading_word s) s) ∷ tokens (k + leading_word s) (drop (leading_word s) s)

-- of one byte
word-alone : (k c : ℕ) (cs : List ℕ) → is_space c ≡ false → starts_word cs ≡ false → Word k (c ∷ cs)
word-alone k c cs e h =
    let one : leading_word (c ∷ cs) ≡ 1 = word_here c cs e ∙ ap suc (word_none cs h) in
    let next : suc k ≡ k + 1 = omega arith in
    tokens_here k c cs ∙ ap₂ (λ a b. split a b k c (tokens (suc k) cs)) e h ∙ ap (λ (j : ℕ). token k (c ∷ []) ∷ tokens j cs) next
    ∙ sym (ap (λ (j : ℕ). token k (take j (c ∷ cs)) ∷ tokens (k + j) (drop j (c ∷ cs))) one)

-- one byte longer
longer-is : (k c : ℕ) (w : Token) (ws : List Token) → longer k c (w ∷ ws) ≡ token k (c ∷ w.bytes) ∷ ws
unfolding longer
longer-is k c w ws = refl

word_more : (k c : ℕ) (cs : List ℕ) → is_space c ≡ false → starts_word cs ≡ true → Word (suc k) cs → Word k (c ∷ cs)
word_more k c cs e h rest =
    let one : leading_word (c ∷ cs) ≡ suc (leading_word cs) = word_here c cs e in
    let next : suc k + leading_word cs ≡ k + suc (leading_word cs) = omega arith in
    tokens_here k c cs ∙ ap₂ (λ a b. split a b k c (tokens (suc k) cs)) e h ∙ ap (longer k c) rest ∙ longer-is k c _ _
    ∙ ap (λ (j : ℕ). token k (c ∷ take (leading_word cs) cs) ∷ tokens j (drop (leading_word cs) cs)) next
    ∙ sym (ap (λ (j : ℕ). token k (take j (c ∷ cs)) ∷ tokens (k + j) (drop j (c ∷ cs))) one)

starts : (d : ℕ) (ds : List ℕ) → starts_word (d ∷ ds) ≡ not (is_space d)
unfolding starts_word
starts d ds = refl

starts_none : starts_word [] ≡ false
unfolding starts_word
starts_none = refl

pub tokens-word : (k c : ℕ) (cs : List ℕ) → is_space c ≡ false → Word k (c ∷ cs)
tokens-word k c [] e = word-alone k c [] e starts_none
tokens-word k c (d ∷ ds) e = step (is_space d) refl (λ h. tokens-word (suc k) d ds h)
  where
    step : (b : Bool) → is_space d ≡ b → (is_space d ≡ false → Word (suc k) (d ∷ ds)) → Word k (c ∷ d ∷ ds)
    step true h rest = word-alone k c (d ∷ ds) e (starts d ds ∙ ap not h)
    step false h rest = word_more k c (d ∷ ds) e (starts d ds ∙ ap not h) (rest h)

-- ---- the questions put to the first token
pub refused-first : (q r : Outcome) {x : Refusal} → q ≡ Err x → q and_then r ≡ Err x
unfolding ◌and_then◌
refused-first q r h = ap (λ z. z and_then r) h

pub done_then : (q r : Outcome) → q ≡ Ok tt → q and_then r ≡ r
unfolding ◌and_then◌
done_then q r h = ap (λ z. z and_then r) h

module _ (w : Token) where
  abbrev letter : ℕ
  letter = letter_named (get_or w.bytes 0 0)

  unknown : letter ≡ 0 → letter_question w ≡ Err (NotLetter w.offset)
  unfolding letter_question
  unknown h = sym (asked_no (NotLetter w.offset) (le-ltb 0 letter (omega arith)))

  known : 0 < letter → letter_question w ≡ Ok tt
  unfolding letter_question
  known h = sym (asked_yes (NotLetter w.offset) (lt-ltb 0 letter h))

  pub not-letter : (ws : List Token) → letter ≡ 0 → token_questions (w ∷ ws) ≡ Err (NotLetter w.offset)
  unfolding token_questions
  not-letter [] h = refused-first (letter_question w) _ (unknown h)
  not-letter (x ∷ ws) h = refused-first (letter_question w) _ (unknown h)

  pub attached_questions_lem : (ws : List Token) → 0 < letter → has_index w ≡ true → token_questions (w ∷ ws) ≡ attached_questions w and_then token_questions ws
  unfolding token_questions
  attached_questions_lem [] h i = done_then (letter_question w) _ (known h) ∙ ap (λ b. cond b (attached_questions w) (Err (NoIndex w.offset))) i ∙ and_then_done (attached_questions w)
  attached_questions_lem (x ∷ ws) h i =
      done_then (letter_question w) _ (known h)
      ∙ ap (λ b. cond b (attached_questions w and_then token_questions (x ∷ ws)) (index_questions x.offset x.bytes and_then token_questions ws)) i

  pub attached_entries : (ws : List Token) → has_index w ≡ true → token_entries (w ∷ ws) ≡ attached_entry w ++ token_entries ws
  unfolding token_entries
  attached_entries [] i = sym (append-nil (attached_entry w))
  attached_entries (x ∷ ws) i = ap (λ b. cond b (attached_entry w ++ token_entries (x ∷ ws)) (apart_entry w x ++ token_entries ws)) i

  pub no_index : 0 < letter → has_index w ≡ false → token_questions (w ∷ []) ≡ Err (NoIndex w.offset)
  unfolding token_questions
  no_index h i = done_then (letter_question w) _ (known h) ∙ ap (λ b. cond b (attached_questions w) (Err (NoIndex w.offset))) i

  pub apart_questions : (x : Token) (ws : List Token) → 0 < letter → has_index w ≡ false
      → token_questions (w ∷ x ∷ ws) ≡ index_questions x.offset x.bytes and_then token_questions ws
  unfolding token_questions
  apart_questions x ws h i =
      done_then (letter_question w) _ (known h)
      ∙ ap (λ b. cond b (attached_questions w and_then token_questions (x ∷ ws)) (index_questions x.offset x.bytes and_then token_questions ws)) i

  pub apart_entries : (x : Token) (ws : List Token) → has_index w ≡ false → token_entries (w ∷ x ∷ ws) ≡ apart_entry w x ++ token_entries ws
  unfolding token_entries
  apart_entries x ws i = ap (λ b. cond b (attached_entry w ++ token_entries (x ∷ ws)) (apart_entry w x ++ token_entries ws)) i

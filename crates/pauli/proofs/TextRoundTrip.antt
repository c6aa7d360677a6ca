-- Written sparse text, read back. `from_sparse_str` reads every text of a string that has a letter other than I, and refuses I by
-- itself, which `from_dense_str` reads; `from_str` reads them all.
use Rattle.std.proofs.Common.{◌≡◌, ℕ, zero, suc, ◌+◌, ◌<◌, Bool, true, false, cond, ◌||◌, leb, List, [], ◌∷◌, ◌++◌, length, get_or, drop, sym, refl, ap, ◌∙◌, ap₂, not-suc-le-zero, arith, le-leb, Ok, Err}
use native.Mathlib.Decide.{ℕ_discrete, dec_lt}
use lib.Seq.{drop-append_seam}
use borrow.Author.Tests.{lt-leb}
use Rattle.pauli_group.specs.Phase.{Phase, PlusOne, MinusOne, PlusI, MinusI}
use Rattle.pauli_group.specs.Letter.{Letter, I, X, Z, Y}
use Rattle.pauli_group.specs.PauliString.{PauliString, qubits, Within}
use Rattle.pauli_group.proofs.Strings.{string_ext}
use Rattle.pauli.specs.declared.refusal.Refusal.TheVariants.{NotAscii, NotLetter}
use Rattle.pauli.specs.Places.{first_place}
use Rattle.pauli.specs.Layout.{phase_byte, letter_of, string_record, string_of}
use Rattle.pauli.specs.Entries.{entries_string}
use Rattle.pauli.specs.Questions.{ask, ◌and_then◌, duplicate_question, string_questions}
use Rattle.pauli.specs.SparseText.{prefix_text, letter_text, words_at, entry_words, spaced, body_text, sparse_text_to, sparse_text, text_of_record}
use Rattle.pauli.specs.Text.{is_space, is_digit, is_sign, is_small_i, letter_named, is_identity, leading_spaces, text_start, text_end, prefix_phase, prefix_length, text_phase, body_start, first_not_ascii, ascii_question}
use Rattle.pauli.specs.Text.{tokens, token_questions, letter_question, starts_word, token_entries, sparse_tokens, sparse_entries, sparse_questions, sparse_string, dense_body, dense_letter, letter_questions, dense_questions, dense_string, without_signs, without_i, any_digit, is_sparse, text_questions, text_string}
use Rattle.pauli.proofs.Asking.{asked_yes, admitted_strings}
use Rattle.pauli.proofs.LetterEntries.{entries_to, entries-once, entries_name}
use Rattle.pauli.proofs.Places.{first-is}
use Rattle.pauli.proofs.Records.{decode_within}
use Rattle.pauli.proofs.Words.{Each, none, more, each_append, each_at, each_map, word_tokens, tokens-joined}
use Rattle.pauli.proofs.WrittenWords.{EntryWord, words-entries, words-asked, tokens-entries}

-- ---- the prefix, before a text t
prefix_read : (p : Phase) (t : List ℕ) → is_small_i (get_or t 0 0) ≡ false → text_phase (prefix_text p ++ t) ≡ p
unfolding text_phase text_start leading_spaces first_place is_space prefix_text prefix_phase is_small_i
prefix_read PlusOne t h = ap (λ b. cond b PlusI PlusOne) h
prefix_read MinusOne t h = ap (λ b. cond b MinusI MinusOne) h
prefix_read PlusI t h = refl
prefix_read MinusI t h = refl

body-place : (p : Phase) (t : List ℕ) → is_small_i (get_or t 0 0) ≡ false → body_start (prefix_text p ++ t) ≡ length (prefix_text p)
unfolding body_start text_start leading_spaces first_place is_space is_sign prefix_text prefix_length is_small_i
body-place PlusOne t h = ap (λ b. 0 + cond b 2 1) h
body-place MinusOne t h = ap (λ b. 0 + cond b 2 1) h
body-place PlusI t h = refl
body-place MinusI t h = refl

body_read : (p : Phase) (t : List ℕ) → is_small_i (get_or t 0 0) ≡ false → drop (body_start (prefix_text p ++ t)) (prefix_text p ++ t) ≡ t
body_read p t h = ap (λ (n : ℕ). drop n (prefix_text p ++ t)) (body-place p t h) ∙ drop-append_seam (prefix_text p) t

-- the digits are looked for after the prefix
without_prefix : (t : List ℕ) → is_sign (get_or t 0 0) ≡ false → is_small_i (get_or t 0 0) ≡ false → without_i (without_signs t) ≡ t
unfolding without_i without_signs
without_prefix [] h k = refl
without_prefix (c ∷ t) h k = ap (λ b. without_i (cond b (without_signs t) (c ∷ t))) h ∙ ap (λ b. cond b t (c ∷ t)) k

sparse-is : (p : Phase) (t : List ℕ) → is_sign (get_or t 0 0) ≡ false → is_small_i (get_or t 0 0) ≡ false → is_sparse (prefix_text p ++ t) ≡ any_digit t
unfolding is_sparse text_start leading_spaces first_place is_space is_sign prefix_text without_signs without_i is_small_i
sparse-is PlusOne t h k = ap any_digit (without_prefix t h k)
sparse-is MinusOne t h k = ap any_digit (without_prefix t h k)
sparse-is PlusI t h k = refl
sparse-is MinusI t h k = refl

-- ---- every byte is below 128
abbrev pub Ascii : List ℕ → Type 0
Ascii t = Each (λ c. c < 128) t

pub ascii_asked : (t : List ℕ) → Ascii t → ascii_question t ≡ Ok tt
unfolding ascii_question first_not_ascii
ascii_asked t a = sym (asked_yes (NotAscii _) (le-leb (length t) _ (omega (arith, all))))
  where
    never : length t < length t → ⊥
    never l = omega arith

    all : length t ≡ first_place (length t) (λ k. leb 128 (get_or t k 0))
    all = first-is (length t) _ (length t) (omega arith) (λ k l. lt-leb 128 (get_or t k 0) (each_at 0 a k l)) (λ l. absurd (never l))

prefix_ascii : (p : Phase) → Ascii (prefix_text p)
unfolding prefix_text
prefix_ascii PlusOne = more {a = 43} (omega arith) none
prefix_ascii MinusOne = more {a = 45} (omega arith) none
prefix_ascii PlusI = more {a = 43} (omega arith) (more {a = 105} (omega arith) none)
prefix_ascii MinusI = more {a = 45} (omega arith) (more {a = 105} (omega arith) none)

joined_ascii : (w : List ℕ) (ws : List (List ℕ)) → EntryWord w → Each EntryWord ws → Ascii (spaced w ws)
unfolding spaced
joined_ascii w [] e none = e.ascii
joined_ascii w (x ∷ ws) e (more f r) = each_append e.ascii (more {a = 32} (omega arith) (joined_ascii x ws f r))

-- ---- words that are spaced begin as the first word does, and hold its digits
joined-first : (w : List ℕ) (ws : List (List ℕ)) → 0 < length w → get_or (spaced w ws) 0 0 ≡ get_or w 0 0
unfolding spaced
joined-first [] ws h = absurd (not-suc-le-zero h)
joined-first (c ∷ w) [] h = refl
joined-first (c ∷ w) (x ∷ ws) h = refl

digit_append : (a b : List ℕ) → any_digit a ≡ true → any_digit (a ++ b) ≡ true
unfolding any_digit
digit_append [] b h = cc
digit_append (c ∷ a) b h = step (is_digit c) h (digit_append a b)
  where
    step : (x : Bool) → (x || any_digit a) ≡ true → (any_digit a ≡ true → any_digit (a ++ b) ≡ true) → (x || any_digit (a ++ b)) ≡ true
    step true h r = refl
    step false h r = r h

joined_digit : (w : List ℕ) (ws : List (List ℕ)) → any_digit w ≡ true → any_digit (spaced w ws) ≡ true
unfolding spaced
joined_digit w [] h = h
joined_digit w (x ∷ ws) h = digit_append w (32 ∷ spaced x ws) h

-- ---- a string with some words
module _ (p : Phase) (w : List ℕ) (ws : List (List ℕ)) (e : EntryWord w) (r : Each EntryWord ws) where
  begins : get_or (spaced w ws) 0 0 ≡ get_or w 0 0
  begins = joined-first w ws e.word.some

  not_i_lem : is_small_i (get_or (spaced w ws) 0 0) ≡ false
  not_i_lem = ap is_small_i begins ∙ e.small

  tokens_are : sparse_tokens (prefix_text p ++ spaced w ws) ≡ word_tokens (length (prefix_text p)) w ws
  unfolding sparse_tokens
  tokens_are =
      ap₂ tokens (body-place p (spaced w ws) not_i_lem) (body_read p (spaced w ws) not_i_lem)
      ∙ tokens-joined (length (prefix_text p)) w ws e.word (each_map (λ x f. f.word) r)

  words-sparse : is_sparse (prefix_text p ++ spaced w ws) ≡ true
  words-sparse = sparse-is p (spaced w ws) (ap is_sign begins ∙ e.sign) not_i_lem ∙ joined_digit w ws e.digit

  module _ (n : ℕ) (f : ℕ → Letter) (h : entry_words n f ≡ w ∷ ws) where
    entries_are : sparse_entries (prefix_text p ++ spaced w ws) ≡ entries_to n f
    unfolding sparse_entries
    entries_are = ap token_entries tokens_are ∙ tokens-entries (length (prefix_text p)) n f w ws h e r

    words_asked_all : sparse_questions (prefix_text p ++ spaced w ws) ≡ Ok tt
    unfolding sparse_questions ◌and_then◌
    words_asked_all =
        ap₂ (λ x y. x and_then (y and_then duplicate_question (sparse_entries (prefix_text p ++ spaced w ws))))
        (ascii_asked _ (each_append (prefix_ascii p) (joined_ascii w ws e r)))
        (ap token_questions tokens_are ∙ words-asked (length (prefix_text p)) w ws e r)
        ∙ ap duplicate_question entries_are ∙ entries-once n f

    words-string : sparse_string (prefix_text p ++ spaced w ws) ≡ entries_string (phase_byte p) (entries_to n f)
    unfolding sparse_string
    words-string = ap₂ (λ (q : Phase) (l : List ℕ). entries_string (phase_byte q) l) (prefix_read p (spaced w ws) not_i_lem) entries_are

-- ---- a string has words where it has a letter other than I
append_empty : {A : Type 0} (a b : List A) → a ++ b ≡ [] → (a ≡ []) × (b ≡ [])
append_empty [] b h = (refl, h)
append_empty (x ∷ a) b h = (cc, cc)

no_word : (l : Letter) (q : ℕ) → words_at l q ≡ [] → l ≡ I
unfolding words_at
no_word I q h = refl
no_word X q h = cc
no_word Y q h = cc
no_word Z q h = cc

no_words_lem : (n : ℕ) (f : ℕ → Letter) → entry_words n f ≡ [] → (q : ℕ) → q < n → f q ≡ I
unfolding entry_words
no_words_lem zero f h q l = absurd (not-suc-le-zero l)
no_words_lem (suc n) f h q l =
    let both = append_empty (entry_words n f) (words_at (f n) n) h in
    elim (ℕ_discrete q n) [ yes e ↦ ap f e ∙ no_word (f n) n both.1 | no e ↦ no_words_lem n f both.0 q (omega arith) ]

all_identity : (n : ℕ) (f : ℕ → Letter) → ((q : ℕ) → f q ≡ I) → entry_words n f ≡ []
unfolding entry_words words_at
all_identity zero f h = refl
all_identity (suc n) f h = ap₂ (λ ws l. ws ++ words_at l n) (all_identity n f h) (h n)

-- ---- I by itself
abbrev alone : Phase → List ℕ
alone p = prefix_text p ++ (73 ∷ [])

alone-refused : (p : Phase) → sparse_questions (alone p) ≡ Err (NotLetter (length (prefix_text p)))
unfolding sparse_questions ascii_question first_not_ascii first_place sparse_tokens body_start text_start leading_spaces is_space is_sign is_small_i prefix_text prefix_length tokens starts_word token_questions letter_question letter_named ask ◌and_then◌
alone-refused PlusOne = refl
alone-refused MinusOne = refl
alone-refused PlusI = refl
alone-refused MinusI = refl

alone-body : (p : Phase) → dense_body (alone p) ≡ 73 ∷ []
unfolding dense_body text_end body_start text_start leading_spaces first_place is_space is_sign is_small_i prefix_text prefix_length
alone-body PlusOne = refl
alone-body MinusOne = refl
alone-body PlusI = refl
alone-body MinusI = refl

alone-asked : (p : Phase) → dense_questions (alone p) ≡ Ok tt
unfolding dense_questions dense_letter letter_questions is_identity ask ◌and_then◌
alone-asked p =
    ap₂ (λ x b. x and_then letter_questions (body_start (alone p)) 0 b)
    (ascii_asked (alone p) (each_append (prefix_ascii p) (more {a = 73} (omega arith) none)))
    (alone-body p)

alone-letter : (q : ℕ) → letter_of (letter_named (get_or (73 ∷ []) q 0)) ≡ I
unfolding letter_of letter_named
alone-letter zero = refl
alone-letter (suc q) = refl

alone-string : (s : PauliString) → ((q : ℕ) → s.letters q ≡ I) → dense_string (alone s.phase) ≡ s
unfolding dense_string is_small_i
alone-string s h =
    string_ext _ s (prefix_read s.phase (73 ∷ []) refl)
    (λ q. ap (λ (b : List ℕ). letter_of (letter_named (get_or b q 0))) (alone-body s.phase) ∙ alone-letter q ∙ sym (h q))

alone-dense : (p : Phase) → is_sparse (alone p) ≡ false
unfolding is_sign is_small_i any_digit is_digit
alone-dense p = sparse-is p (73 ∷ []) refl refl

-- ---- the text of a string is one or the other
data Form (s : PauliString) : Type 0 where
  nothing : ((q : ℕ) → s.letters q ≡ I) → sparse_text s ≡ alone s.phase → Form s
  entries : (w : List ℕ) (ws : List (List ℕ)) → EntryWord w → Each EntryWord ws → entry_words 128 s.letters ≡ w ∷ ws
      → sparse_text s ≡ prefix_text s.phase ++ spaced w ws → Form s

text-is : (s : PauliString) (ws : List (List ℕ)) → entry_words 128 s.letters ≡ ws → sparse_text s ≡ prefix_text s.phase ++ body_text ws
unfolding sparse_text sparse_text_to qubits
text-is s ws h = ap (λ v. prefix_text s.phase ++ body_text v) h

form : (s : PauliString) → Within qubits s → Form s
unfolding body_text letter_text qubits
form s h = go (entry_words 128 s.letters) refl (words-entries 128 s.letters (omega arith))
  where
    go : (ws : List (List ℕ)) → entry_words 128 s.letters ≡ ws → Each EntryWord ws → Form s
    go [] e none = nothing (λ q. elim (dec_lt q 128) [ yes l ↦ no_words_lem 128 s.letters e q l | no l ↦ h q (omega arith) ]) (text-is s [] e)
    go (w ∷ ws) e (more f r) = entries w ws f r e (text-is s (w ∷ ws) e)

identity-text : (s : PauliString) → ((q : ℕ) → s.letters q ≡ I) → sparse_text s ≡ alone s.phase
unfolding body_text letter_text
identity-text s h = text-is s [] (all_identity 128 s.letters h)

-- ---- read back: a string with a letter other than I
pub sparse-accepts : (s : PauliString) → Within qubits s → (q : ℕ) → (s.letters q ≡ I → ⊥) → sparse_questions (sparse_text s) ≡ Ok tt
sparse-accepts s h q l = go (form s h)
  where
    go : Form s → sparse_questions (sparse_text s) ≡ Ok tt
    go (nothing i t) = absurd (l (i q))
    go (entries w ws e r n t) = ap sparse_questions t ∙ words_asked_all s.phase w ws e r 128 s.letters n

pub sparse-reads : (s : PauliString) → Within qubits s → (q : ℕ) → (s.letters q ≡ I → ⊥) → sparse_string (sparse_text s) ≡ s
unfolding qubits
sparse-reads s h q l = go (form s h)
  where
    go : Form s → sparse_string (sparse_text s) ≡ s
    go (nothing i t) = absurd (l (i q))
    go (entries w ws e r n t) = ap sparse_string t ∙ words-string s.phase w ws e r 128 s.letters n ∙ entries_name 128 s h

-- a string of I alone: "+I" is 9 at 1
pub sparse-refuses : (s : PauliString) → ((q : ℕ) → s.letters q ≡ I) → sparse_questions (sparse_text s) ≡ Err (NotLetter (length (prefix_text s.phase)))
sparse-refuses s h = ap sparse_questions (identity-text s h) ∙ alone-refused s.phase

pub dense-accepts : (s : PauliString) → ((q : ℕ) → s.letters q ≡ I) → dense_questions (sparse_text s) ≡ Ok tt
dense-accepts s h = ap dense_questions (identity-text s h) ∙ alone-asked s.phase

pub dense-reads : (s : PauliString) → ((q : ℕ) → s.letters q ≡ I) → dense_string (sparse_text s) ≡ s
dense-reads s h = ap dense_string (identity-text s h) ∙ alone-string s h

-- every string, by `from_str`
pub text-accepts : (s : PauliString) → Within qubits s → text_questions (sparse_text s) ≡ Ok tt
unfolding text_questions
text-accepts s h = go (form s h)
  where
    go : Form s → cond (is_sparse (sparse_text s)) (sparse_questions (sparse_text s)) (dense_questions (sparse_text s)) ≡ Ok tt
    go (nothing i t) =
        ap (λ b. cond b (sparse_questions (sparse_text s)) (dense_questions (sparse_text s))) (ap is_sparse t ∙ alone-dense s.phase) ∙ dense-accepts s i
    go (entries w ws e r n t) =
        ap (λ b. cond b (sparse_questions (sparse_text s)) (dense_questions (sparse_text s))) (ap is_sparse t ∙ words-sparse s.phase w ws e r)
        ∙ ap sparse_questions t ∙ words_asked_all s.phase w ws e r 128 s.letters n

pub text-reads : (s : PauliString) → Within qubits s → text_string (sparse_text s) ≡ s
unfolding text_string qubits
text-reads s h = go (form s h)
  where
    go : Form s → cond (is_sparse (sparse_text s)) (sparse_string (sparse_text s)) (dense_string (sparse_text s)) ≡ s
    go (nothing i t) = ap (λ b. cond b (sparse_string (sparse_text s)) (dense_string (sparse_text s))) (ap is_sparse t ∙ alone-dense s.phase) ∙ dense-reads s i
    go (entries w ws e r n t) =
        ap (λ b. cond b (sparse_string (sparse_text s)) (dense_string (sparse_text s))) (ap is_sparse t ∙ words-sparse s.phase w ws e r)
        ∙ ap sparse_string t ∙ words-string s.phase w ws e r 128 s.letters n ∙ entries_name 128 s h

-- and of records: the record that is read from a record's text is that record
pub record-accepts : (b : List ℕ) → text_questions (text_of_record b) ≡ Ok tt
unfolding text_of_record string_of
record-accepts b = text-accepts (string_of b) (decode_within qubits b)

pub record-reads : (b : List ℕ) → string_questions b ≡ Ok tt → string_record (text_string (text_of_record b)) ≡ b
unfolding text_of_record string_of
record-reads b h = ap string_record (text-reads (string_of b) (decode_within qubits b)) ∙ sym (admitted_strings b h)

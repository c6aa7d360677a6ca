-- The words of written sparse text, as they are read.
use Rattle.std.proofs.Common.{◌≡◌, ℕ, zero, suc, ◌+◌, ◌^◌, ◌<◌, ◌≤◌, Bool, true, false, cond, ◌&&◌, ◌||◌, ltb, leb, List, [], ◌∷◌, ◌++◌, length, get_or, drop, sym, refl, ap, ◌∙◌, ap₂, not-suc-le-zero, arith, lt-ltb, ne_eqb, le-leb, leb-true, Ok, Err}
use borrow.Author.Tests.{lt-leb}
use Rattle.pauli_group.specs.Letter.{Letter, I, X, Z, Y}
use Rattle.pauli_group.specs.PauliString.{qubits}
use Rattle.pauli.specs.declared.refusal.Refusal.TheVariants.{NotLetter, NoIndex, NotNumeral, TextQubit}
use Rattle.pauli.specs.Layout.{letter_byte}
use Rattle.pauli.specs.Questions.{◌and_then◌}
use Rattle.pauli.specs.SparseText.{decimal, letter_text, entry_word, words_at, entry_words}
use Rattle.pauli.specs.Text.{is_space, is_digit, is_sign, is_small_i, letter_named, all_digits, without_plus, digits_value, index_value, is_index, index_questions, Token, token, letter_question, has_index, attached_questions, token_questions, attached_entry, token_entries, any_digit}
use Rattle.pauli_group.proofs.Finite.{and_both}
use Rattle.pauli.proofs.Asking.{asked_yes}
use Rattle.pauli.proofs.Decimals.{decimal-value, decimal-digits, decimal-some}
use Rattle.pauli.proofs.LetterEntries.{entry_at, entries_to}
use Rattle.pauli.proofs.Words.{Each, none, more, each_append, each_map, Word, word_tokens}
use Rattle.pauli.proofs.Tokens.{attached_entries}

-- ---- a numeral is read as its number
-- what the bytes of a text are: digits, or letters of entries
pub record DigitByte (c : ℕ) : Type 0 where
  pub low : 48 ≤ c
  pub high : c ≤ 57

digit_bytes : (w : List ℕ) → all_digits w ≡ true → Each DigitByte w
unfolding all_digits is_digit
digit_bytes [] h = none
digit_bytes (c ∷ w) h =
    let both = and_both (leb 48 c && leb c 57) (all_digits w) h in
    let digit = and_both (leb 48 c) (leb c 57) both.0 in
    more (record { low = leb-true 48 c digit.0; high = leb-true c 57 digit.1 }) (digit_bytes w both.1)

pub decimal-bytes : (n : ℕ) → Each DigitByte (decimal n)
decimal-bytes n = digit_bytes (decimal n) (decimal-digits n)

without_plus_lem : (w : List ℕ) → Each DigitByte w → without_plus w ≡ w
unfolding without_plus
without_plus_lem [] none = refl
without_plus_lem (c ∷ w) (more p r) = ap (λ b. cond b w (c ∷ w)) (ne_eqb c 43 (λ e. never e))
  where
    never : c ≡ 43 → ⊥
    never e = omega (arith, p.low)

pub index_value_lem : (n : ℕ) → index_value (decimal n) ≡ n
unfolding index_value
index_value_lem n = ap (digits_value 0) (without_plus_lem (decimal n) (decimal-bytes n)) ∙ decimal-value n

pub index_is : (n : ℕ) → n < 2 ^ 64 → is_index (decimal n) ≡ true
unfolding is_index
index_is n h =
    ap₂ (λ a b. (ltb 0 (length a) && all_digits a) && ltb b (2 ^ 64)) (without_plus_lem (decimal n) (decimal-bytes n)) (index_value_lem n)
    ∙ ap₂ (λ a b. (a && b) && ltb n (2 ^ 64)) (lt-ltb 0 (length (decimal n)) (decimal-some n)) (decimal-digits n)
    ∙ lt-ltb n (2 ^ 64) h

any_digit_lem : (w : List ℕ) → 0 < length w → Each DigitByte w → any_digit w ≡ true
unfolding any_digit is_digit
any_digit_lem [] h none = absurd (not-suc-le-zero h)
any_digit_lem (c ∷ w) h (more p r) = ap₂ (λ a b. (a && b) || any_digit w) (le-leb 48 c p.low) (le-leb c 57 p.high)

-- ---- bytes of words
pub not-space : (c : ℕ) → 33 ≤ c → is_space c ≡ false
unfolding is_space
not-space c h = (λ i. (le-leb 9 c (omega arith) i && lt-leb c 13 (omega arith) i) || ne_eqb c 32 (λ e. never e) i)
  where
    never : c ≡ 32 → ⊥
    never e = omega arith

-- X, Y and Z
record LetterCode (c : ℕ) : Type 0 where
  low : 88 ≤ c
  high : c ≤ 90

not-sign : {c : ℕ} → LetterCode c → is_sign c ≡ false
unfolding is_sign
not-sign {c} h = ap₂ ◌||◌ (ne_eqb c 43 (λ e. plus e)) (ne_eqb c 45 (λ e. minus e))
  where
    plus : c ≡ 43 → ⊥
    plus e = omega (arith, h.low)

    minus : c ≡ 45 → ⊥
    minus e = omega (arith, h.low)

not_i_lem : {c : ℕ} → LetterCode c → is_small_i c ≡ false
unfolding is_small_i
not_i_lem {c} h = ne_eqb c 105 (λ e. never e)
  where
    never : c ≡ 105 → ⊥
    never e = omega (arith, h.high)

-- ---- a word that is an entry
pub record EntryWord (w : List ℕ) : Type 0 where
  pub word : Word w
  pub long : 1 < length w
  pub letter : 0 < letter_named (get_or w 0 0)
  pub index : is_index (drop 1 w) ≡ true
  pub below : index_value (drop 1 w) < 128
  pub ascii : Each (λ c. c < 128) w
  pub digit : any_digit w ≡ true
  pub sign : is_sign (get_or w 0 0) ≡ false
  pub small : is_small_i (get_or w 0 0) ≡ false

pub any_more : (a b : Bool) → b ≡ true → (a || b) ≡ true
any_more true b h = refl
any_more false b h = h

entry-word : (l : Letter) (q : ℕ) → q < 128 → LetterCode (letter_text l) → 0 < letter_named (letter_text l) → EntryWord (entry_word l q)
unfolding entry_word any_digit
entry-word l q h b n = record {
  word = record {
    some = omega arith;
    plain = more (not-space (letter_text l) (omega (arith, b.low))) (each_map (λ c d. not-space c (omega (arith, d.low))) (decimal-bytes q));
  };
  long = omega (arith, decimal-some q);
  letter = n;
  index = index_is q (omega arith);
  below = omega (arith, index_value_lem q);
  ascii = more {a = letter_text l} (omega (arith, b.high)) (each_map (λ c d. omega (arith, d.high)) (decimal-bytes q));
  digit = any_more (is_digit (letter_text l)) (any_digit (decimal q)) (any_digit_lem (decimal q) (decimal-some q) (decimal-bytes q));
  sign = not-sign b;
  small = not_i_lem b;
}

words-at : (l : Letter) (q : ℕ) → q < 128 → Each EntryWord (words_at l q)
unfolding words_at letter_text letter_named
words-at I q h = none
words-at X q h = more (entry-word X q h (record { low = omega arith; high = omega arith }) (omega arith)) none
words-at Y q h = more (entry-word Y q h (record { low = omega arith; high = omega arith }) (omega arith)) none
words-at Z q h = more (entry-word Z q h (record { low = omega arith; high = omega arith }) (omega arith)) none

pub words-entries : (n : ℕ) (f : ℕ → Letter) → n ≤ 128 → Each EntryWord (entry_words n f)
unfolding entry_words
words-entries zero f h = none
words-entries (suc n) f h = each_append (words-entries n f (omega arith)) (words-at (f n) n (omega arith))

-- ---- the questions let each word by
has_index_lem : {w : List ℕ} (k : ℕ) → EntryWord w → has_index (token k w) ≡ true
unfolding has_index
has_index_lem {w} k e = lt-ltb 1 (length w) e.long

letter-asked : {w : List ℕ} (k : ℕ) → EntryWord w → letter_question (token k w) ≡ Ok tt
unfolding letter_question
letter-asked {w} k e = sym (asked_yes (NotLetter k) (lt-ltb 0 (letter_named (get_or w 0 0)) e.letter))

index_asked : {w : List ℕ} (k : ℕ) → EntryWord w → attached_questions (token k w) ≡ Ok tt
unfolding attached_questions index_questions ◌and_then◌ qubits
index_asked {w} k e =
    ap₂ ◌and_then◌ (sym (asked_yes (NotNumeral (suc k)) e.index)) (sym (asked_yes (TextQubit (suc k)) (lt-ltb (index_value (drop 1 w)) 128 e.below)))

token_asked : (t : Token) (ts : List Token) → letter_question t ≡ Ok tt → has_index t ≡ true → attached_questions t ≡ Ok tt → token_questions ts ≡ Ok tt
    → token_questions (t ∷ ts) ≡ Ok tt
unfolding token_questions ◌and_then◌
token_asked t [] l h a r = ap₂ (λ q b. q and_then cond b (attached_questions t) (Err (NoIndex t.offset))) l h ∙ a
token_asked t (x ∷ ts) l h a r =
    ap₂ (λ q b. q and_then cond b (attached_questions t and_then token_questions (x ∷ ts)) (index_questions x.offset x.bytes and_then token_questions ts)) l h
    ∙ ap₂ ◌and_then◌ a r

pub words-asked : (k : ℕ) (w : List ℕ) (ws : List (List ℕ)) → EntryWord w → Each EntryWord ws → token_questions (word_tokens k w ws) ≡ Ok tt
unfolding token_questions
words-asked k w [] e none = token_asked (token k w) [] (letter-asked k e) (has_index_lem k e) (index_asked k e) refl
words-asked k w (x ∷ ws) e (more f r) =
    token_asked (token k w) (word_tokens (suc (k + length w)) x ws) (letter-asked k e) (has_index_lem k e) (index_asked k e) (words-asked (suc (k + length w)) x ws f r)

-- ---- and they name the entries
abbrev word_entries : List (List ℕ) → List ℕ
word_entries [] = []
word_entries (w ∷ ws) = letter_named (get_or w 0 0) ∷ index_value (drop 1 w) ∷ word_entries ws

entries_append : (v w : List (List ℕ)) → word_entries (v ++ w) ≡ word_entries v ++ word_entries w
entries_append [] w = refl
entries_append (x ∷ v) w = ap (λ (e : List ℕ). letter_named (get_or x 0 0) ∷ index_value (drop 1 x) ∷ e) (entries_append v w)

entries_at : (l : Letter) (q : ℕ) → word_entries (words_at l q) ≡ entry_at l q
unfolding words_at entry_word letter_text letter_named letter_byte
entries_at I q = refl
entries_at X q = ap (λ (k : ℕ). 1 ∷ k ∷ []) (index_value_lem q)
entries_at Z q = ap (λ (k : ℕ). 2 ∷ k ∷ []) (index_value_lem q)
entries_at Y q = ap (λ (k : ℕ). 3 ∷ k ∷ []) (index_value_lem q)

words_name : (n : ℕ) (f : ℕ → Letter) → word_entries (entry_words n f) ≡ entries_to n f
unfolding entry_words
words_name zero f = refl
words_name (suc n) f = entries_append (entry_words n f) (words_at (f n) n) ∙ ap₂ ◌++◌ (words_name n f) (entries_at (f n) n)

tokens_name : (k : ℕ) (w : List ℕ) (ws : List (List ℕ)) → EntryWord w → Each EntryWord ws → token_entries (word_tokens k w ws) ≡ word_entries (w ∷ ws)
unfolding token_entries attached_entry
tokens_name k w [] e none = refl
tokens_name k w (x ∷ ws) e (more f r) =
    attached_entries (token k w) (word_tokens (suc (k + length w)) x ws) (has_index_lem k e)
    ∙ ap (λ (n : List ℕ). letter_named (get_or w 0 0) ∷ index_value (drop 1 w) ∷ n) (tokens_name (suc (k + length w)) x ws f r)

-- the tokens of all words of a string name its entries
pub tokens-entries : (k n : ℕ) (f : ℕ → Letter) (w : List ℕ) (ws : List (List ℕ)) → entry_words n f ≡ w ∷ ws → EntryWord w → Each EntryWord ws
    → token_entries (word_tokens k w ws) ≡ entries_to n f
tokens-entries k n f w ws h e r = tokens_name k w ws e r ∙ ap word_entries (sym h) ∙ words_name n f

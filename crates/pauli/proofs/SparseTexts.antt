-- The text of a row: word by word, its length, and the loop that writes it.
use Rattle.std.proofs.Common.{◌≡◌, ℕ, zero, suc, ◌+◌, ◌-◌, ◌<◌, ◌≤◌, min, Bool, true, false, cond, ◌&&◌, eqb, List, [], ◌∷◌, ◌++◌, length, get_or, take, sym, refl, ap, ap₂, ◌∙◌, append_assoc, append-nil, add-one, arith, length-append, length-take, get_or-take, ne_eqb}
use native.Mathlib.Decide.{ℕ_discrete}
use borrow.Author.Tests.{eqb-false}
use Rattle.pauli_group.specs.Phase.{Phase, PlusOne, MinusOne, PlusI, MinusI}
use Rattle.pauli_group.specs.Letter.{Letter, I, X, Z, Y}
use Rattle.pauli_group.specs.PauliString.{PauliString, qubits}
use Rattle.pauli.specs.Layout.{phase_of, letter_of}
use Rattle.pauli.specs.Rows.{letter_at}
use Rattle.pauli.specs.SparseText.{decimal, digits_to, prefix_text, letter_text, entry_word, words_at, entry_words, spaced, body_text, sparse_text_to, sparse_text, row_string, row_text}
use Rattle.pauli.specs.declared.text_writer.TextWriter.{TextWriter}
use Rattle.pauli.specs.TextWriters.{Put}
use Rattle.pauli.specs.Inside.TextWriting.{TextWritten, added, more_text}
use Rattle.pauli.proofs.TextWriters.{put_none, put_as, put_join, put_whole}

-- ---- words, spaced; nothing where there are none
abbrev pub words_text : List (List ℕ) → List ℕ
words_text [] = []
words_text (w ∷ ws) = spaced w ws

abbrev pub no_words : List (List ℕ) → Bool
no_words [] = true
no_words (w ∷ ws) = false

joined-more : (w x : List ℕ) (ws : List (List ℕ)) → spaced w (ws ++ (x ∷ [])) ≡ spaced w ws ++ (32 ∷ x)
unfolding spaced
joined-more w x [] = refl
joined-more w x (v ∷ ws) = ap (λ (t : List ℕ). w ++ 32 ∷ t) (joined-more v x ws) ∙ sym (append_assoc w (32 ∷ spaced v ws) (32 ∷ x))

words-added : (ws : List (List ℕ)) (x : List ℕ) → words_text (ws ++ (x ∷ [])) ≡ words_text ws ++ added (no_words ws) (x ∷ [])
unfolding spaced added
words-added [] x = refl
words-added (w ∷ ws) x = joined-more w x ws

words_kept : (ws : List (List ℕ)) → words_text (ws ++ []) ≡ words_text ws ++ added (no_words ws) []
unfolding added
words_kept ws = ap words_text (append-nil ws) ∙ sym (append-nil (words_text ws))

words_more : (ws : List (List ℕ)) (l : Letter) (q : ℕ) → words_text (ws ++ words_at l q) ≡ words_text ws ++ more_text (no_words ws) l q
unfolding words_at more_text
words_more ws I q = words_kept ws
words_more ws X q = words-added ws (entry_word X q)
words_more ws Y q = words-added ws (entry_word Y q)
words_more ws Z q = words-added ws (entry_word Z q)

-- what ends a text that has no word, or has some
abbrev end_text : Bool → List ℕ
end_text true = letter_text I ∷ []
end_text false = []

words_end : (ws : List (List ℕ)) → words_text ws ++ end_text (no_words ws) ≡ body_text ws
unfolding body_text
words_end [] = refl
words_end (w ∷ ws) = append-nil (spaced w ws)

-- ---- lengths. n qubits take up to this many bytes, with a space for each
abbrev span_to : ℕ → ℕ
span_to zero = 0
span_to (suc n) = span_to n + (2 + length (decimal n))

span_grows : (n k : ℕ) → n ≤ k → span_to n ≤ span_to k
span_grows n zero h = let e : n ≡ 0 = omega arith in omega (arith, ap span_to e)
span_grows n (suc k) h = elim (ℕ_discrete n (suc k)) [ yes e ↦ omega (arith, ap span_to e) | no e ↦ omega (arith, span_grows n k (omega arith)) ]

-- what is known of the words of n qubits
record WordsTo (n : ℕ) (ws : List (List ℕ)) : Type 0 where
  none : eqb (length (words_text ws)) 0 ≡ no_words ws
  short : length (words_text ws) ≤ span_to n - 1

words_skip : {n : ℕ} {ws : List (List ℕ)} → WordsTo n ws → WordsTo (suc n) (ws ++ [])
words_skip {n} {ws} m = let short : length (words_text ws) ≤ span_to n - 1 = m.short in record {
  none = ap (λ (v : List (List ℕ)). eqb (length (words_text v)) 0) (append-nil ws) ∙ m.none ∙ ap no_words (sym (append-nil ws));
  short = omega (arith, ap (λ (v : List (List ℕ)). length (words_text v)) (append-nil ws));
}

words-one : {n : ℕ} (ws : List (List ℕ)) (x : List ℕ) → length x ≡ suc (length (decimal n)) → WordsTo n ws → WordsTo (suc n) (ws ++ (x ∷ []))
unfolding spaced
words-one [] x h m = record { none = ne_eqb (length x) 0 (λ e. never e); short = omega arith }
  where
    never : length x ≡ 0 → ⊥
    never e = omega arith
words-one {n} (w ∷ ws) x h m = record { none = ne_eqb _ 0 (λ e. never e); short = omega (arith, long, some) }
  where
    short : length (spaced w ws) ≤ span_to n - 1
    short = m.short

    long : length (spaced w (ws ++ (x ∷ []))) ≡ length (spaced w ws) + suc (length x)
    long = ap length (joined-more w x ws) ∙ length-append (spaced w ws) (32 ∷ x)

    never : length (spaced w (ws ++ (x ∷ []))) ≡ 0 → ⊥
    never e = omega (arith, long)

    some : length (spaced w ws) ≡ 0 → ⊥
    some e = eqb-false _ 0 m.none e

words-letter : {n : ℕ} (ws : List (List ℕ)) (l : Letter) → WordsTo n ws → WordsTo (suc n) (ws ++ words_at l n)
unfolding words_at entry_word
words-letter ws I m = words_skip m
words-letter ws X m = words-one ws _ refl m
words-letter ws Y m = words-one ws _ refl m
words-letter ws Z m = words-one ws _ refl m

words_to : (n : ℕ) (f : ℕ → Letter) → WordsTo n (entry_words n f)
unfolding entry_words
words_to zero f = record { none = refl; short = omega arith }
words_to (suc n) f = words-letter (entry_words n f) (f n) (words_to n f)

span_most : (n : ℕ) → n ≤ 128 → span_to n ≤ 530
unfolding decimal digits_to
span_most n h = omega (arith, span_grows n 128 h)

prefix-length : (p : Phase) → length (prefix_text p) ≤ 2
unfolding prefix_text
prefix-length PlusOne = omega arith
prefix-length MinusOne = omega arith
prefix-length PlusI = omega arith
prefix-length MinusI = omega arith

body-length : {n : ℕ} (ws : List (List ℕ)) → n ≤ 128 → WordsTo n ws → length (body_text ws) ≤ 529
unfolding body_text
body-length [] h m = omega arith
body-length {n} (w ∷ ws) h m = omega (arith, m.short, span_most n h)

-- -iX0 Y10 Z127
pub text-reading : sparse_text (record { phase = MinusI; letters = λ q. cond (eqb q 0) X (cond (eqb q 10) Y (cond (eqb q 127) Z I)) })
    ≡ 45 ∷ 105 ∷ 88 ∷ 48 ∷ 32 ∷ 89 ∷ 49 ∷ 48 ∷ 32 ∷ 90 ∷ 49 ∷ 50 ∷ 55 ∷ []
unfolding sparse_text sparse_text_to qubits prefix_text entry_words words_at entry_word letter_text decimal digits_to body_text spaced
text-reading = refl

-- "Written sparse text is at most 531 bytes"
pub text_length_to : (n : ℕ) (s : PauliString) → n ≤ 128 → length (sparse_text_to n s) ≤ 531
unfolding sparse_text_to
text_length_to n s h =
    omega (arith, length-append (prefix_text s.phase) (body_text (entry_words n s.letters)), prefix-length s.phase, body-length _ h (words_to n s.letters))

pub text-length : (s : PauliString) → length (sparse_text s) ≤ 531
unfolding sparse_text qubits
text-length s = text_length_to 128 s (omega arith)

-- and that many where every letter is there
pub text-longest : length (sparse_text (record { phase = MinusI; letters = λ q. Y })) ≡ 531
unfolding sparse_text sparse_text_to qubits prefix_text entry_words words_at entry_word decimal digits_to body_text spaced
text-longest = refl

-- "Written sparse text is at most 531 bytes": of a row too
row_text-length : (p : ℕ) (a : List ℕ) → length (row_text p a) ≤ 531
unfolding row_text qubits
row_text-length p a = text_length_to (min (length a) 128) (row_string p a) (omega arith)

-- ---- the loop that writes a row's words after its prefix: n qubits in all, q so far
no_words_more : (ws : List (List ℕ)) (l q : ℕ) → no_words (ws ++ words_at (letter_of l) q) ≡ (no_words ws && eqb l 0)
unfolding words_at letter_of
no_words_more (w ∷ ws) l q = refl
no_words_more [] zero q = refl
no_words_more [] (suc zero) q = refl
no_words_more [] (suc (suc zero)) q = refl
no_words_more [] (suc (suc (suc l))) q = sym (ne_eqb (suc (suc (suc l))) 0 (λ e. never e))
  where
    never : suc (suc (suc l)) ≡ 0 → ⊥
    never e = omega arith

pub record Wording (a : List ℕ) (p n q : ℕ) (first : Bool) (s t : TextWriter) : Type 0 where
  pub within : q ≤ n
  pub row : n ≤ length a
  pub most : n ≤ 128
  pub none : first ≡ no_words (entry_words q (letter_at a))
  pub text : Put (prefix_text (phase_of p) ++ words_text (entry_words q (letter_at a))) s t

pub wording_none : {a : List ℕ} {n p : ℕ} {s t : TextWriter} → n ≡ min (length a) 128 → Put (prefix_text (phase_of p)) s t → Wording a p n 0 true s t
unfolding entry_words
wording_none h x = record {
  within = omega arith;
  row = omega arith;
  most = omega arith;
  none = refl;
  text = put_as (sym (append-nil _)) x;
}

pub wording_step : {a : List ℕ} {p n q : ℕ} {first next : Bool} {s t u : TextWriter} → Wording a p n q first s t → q < length (take n a)
    → Put (more_text first (letter_of (get_or (take n a) q 0)) q) t u → next ≡ (first && eqb (get_or (take n a) q 0) 0) → Wording a p n (q + 1) next s u
unfolding entry_words letter_at
wording_step {a} {p} {n} {q} {first} {s = s} {t} {u} m h x e = record {
  within = omega (arith, h, length-take n a);
  row = m.row;
  most = m.most;
  none = e ∙ ap₂ (λ b c. b && eqb c 0) m.none at ∙ sym (no_words_more ws (get_or a q 0) q) ∙ ap (λ (j : ℕ). no_words (entry_words j (letter_at a))) (sym (add-one q));
  text = put_as more (put_join m.text x);
}
  where
    ws : List (List ℕ)
    ws = entry_words q (letter_at a)

    at : get_or (take n a) q 0 ≡ get_or a q 0
    at = get_or-take n a q 0 (omega (arith, h, length-take n a))

    added-words : words_text ws ++ more_text first (letter_of (get_or (take n a) q 0)) q ≡ words_text (entry_words (q + 1) (letter_at a))
    added-words =
        ap₂ (λ b c. words_text ws ++ more_text b (letter_of c) q) m.none at
        ∙ sym (words_more ws (letter_of (get_or a q 0)) q) ∙ ap (λ (j : ℕ). words_text (entry_words j (letter_at a))) (sym (add-one q))

    more : (prefix_text (phase_of p) ++ words_text ws) ++ more_text first (letter_of (get_or (take n a) q 0)) q
        ≡ prefix_text (phase_of p) ++ words_text (entry_words (q + 1) (letter_at a))
    more = append_assoc (prefix_text (phase_of p)) (words_text ws) _ ∙ ap (λ (x : List ℕ). prefix_text (phase_of p) ++ x) added-words

module _ {a : List ℕ} {p n q : ℕ} {first : Bool} {s t : TextWriter} (h : n ≡ min (length a) 128) (end : length (take n a) ≤ q) (m : Wording a p n q first s t) where
  wording_all : {u : TextWriter} → Put (end_text first) t u → Put (row_text p a) s u
  unfolding row_text row_string sparse_text_to qubits
  wording_all x =
      let all : q ≡ min (length a) 128 = omega (arith, end, m.within, m.row, h, length-take n a) in
      let ws = entry_words q (letter_at a) in
      let ends : words_text ws ++ end_text first ≡ body_text (entry_words (min (length a) 128) (letter_at a)) =
      ap (λ b. words_text ws ++ end_text b) m.none ∙ words_end ws ∙ ap (λ (j : ℕ). body_text (entry_words j (letter_at a))) all in
      put_as (append_assoc (prefix_text (phase_of p)) (words_text ws) _ ∙ ap (λ (x : List ℕ). prefix_text (phase_of p) ++ x) ends) (put_join m.text x)

  pub wording_empty : {u : TextWriter} → first ≡ true → Put (73 ∷ []) t u → Put (row_text p a) s u
  unfolding letter_text
  wording_empty z x = wording_all (put_as (sym (ap end_text z)) x)

  pub wording_some : first ≡ false → Put (row_text p a) s t
  wording_some z = wording_all (put_as (sym (ap end_text z)) put_none)

-- ---- the whole text over the front of a destination
pub row_whole : (p : ℕ) (a : List ℕ) {s t : TextWriter} {d f : List ℕ} {r : ℕ} → s.at ≡ 0 → s.dst.now ≡ d → Put (row_text p a) s t → f ≡ t.dst.now
    → r ≡ t.at → TextWritten (row_text p a) d f r
row_whole p a = put_whole (omega (arith, row_text-length p a))

-- Sparse text read token by token: an index, one entry, and the tokens that are left.
use Rattle.std.proofs.Common.{◌≡◌, ℕ, zero, suc, ◌+◌, ◌-◌, ◌<◌, ◌≤◌, Bool, true, false, cond, not, ◌||◌, eqb, ltb, List, [], ◌∷◌, length, get_or, take, drop, sym, refl, ap, ◌∙◌, subst, ap₂, not-suc-le-zero, add-one, arith, length-drop, drop_of_length-le, length-take, get_or-drop, drop-cons, get_or-take, drop-drop, rules, ltb-true, le-ltb, lt-ltb, Some, None, Ok, Err, IsErrAnd}
use Rattle.pauli_group.specs.PauliString.{qubits}
use Rattle.pauli.specs.Answers.{Answer, Outcome, answer_to}
use Rattle.pauli.proofs.Answers.{answer-ok, answer-err}
use Rattle.pauli.specs.declared.refusal.Refusal.{Refusal}
use Rattle.pauli.specs.declared.refusal.Refusal.TheVariants.{NotLetter, NoIndex, NotNumeral}
use Rattle.pauli.specs.declared.sparse_reader.Entry.{Entry}
use Rattle.pauli.specs.Questions.{ask, ◌and_then◌}
use Rattle.pauli.specs.Inside.Reading.{Skipped, letter_if, WordAt, LetterAt, OneEntry, EntryRead, leading_word}
use Rattle.pauli.specs.Text.{is_space, letter_named, leading_spaces, Token, token, tokens, is_index, index_value, index_questions, has_index, attached_questions, attached_entry, apart_entry, token_questions, token_entries}
use Rattle.pauli.proofs.Asking.{ask_done, done_second}
use Rattle.pauli.specs.Places.{first_place}
use Rattle.pauli.proofs.Places.{first_has}
use Rattle.pauli.proofs.TextBytes.{named_some, named_not}
use Rattle.pauli.proofs.Tokens.{word_here, refused-first, done_then, tokens_skip, tokens-word, not-letter, attached_questions_lem, attached_entries, no_index, apart_questions, apart_entries}

-- ---- an index
module _ (bs : List ℕ) (k : ℕ) where
  index-below : index_questions k bs ≡ Ok tt → index_value bs < 128
  unfolding index_questions qubits
  index-below e = ltb-true _ _ (ask_done _ _ (done_second (ask (is_index bs) (NotNumeral k)) _ e))

-- ---- one entry
pub entry-refused : {ws : List Token} {t : List ℕ} {k : ℕ} {x : Refusal} → token_questions ws ≡ Err x → EntryRead ws t k (Err x)
entry-refused {x = x} h = record { one = λ e h. cc; refused = λ y e. h ∙ same y e }
  where
    same : (y : Refusal) → ◌≡◌ {A = Answer Entry} (Err x) (Err y) → ◌≡◌ {A = Outcome} (Err x) (Err y)
    same y e = cc

entry-one : {ws : List Token} {t : List ℕ} {k : ℕ} {e : Entry} → OneEntry ws t k e → EntryRead ws t k (Ok e)
entry-one {ws} {t} {k} {e} h = record { one = λ d p. subst (OneEntry ws t k) (same d p) h; refused = λ x p. cc }
  where
    same : (d : Entry) → ◌≡◌ {A = Answer Entry} (Ok e) (Ok d) → e ≡ d
    same d p = cc

-- an index bs at offset o after the letter l, and the rest from n on
module _ (ws : List Token) (t : List ℕ) (k l n o : ℕ) (bs : List ℕ) (onward : k < n) (within : n ≤ length t)
    (questions : token_questions ws ≡ index_questions o bs and_then token_questions (tokens n (drop n t)))
    (entries : token_entries ws ≡ l ∷ index_value bs ∷ token_entries (tokens n (drop n t))) where
  pub entry_read : {q : ℕ} → Ok q ≡ answer_to (index_questions o bs) (index_value bs) → EntryRead ws t k (Ok (record { letter = l; qubit = q; next = n }))
  entry_read {q} e =
      let told = answer-ok (index_questions o bs) e in
      entry-one (record {
        questions = questions ∙ done_then (index_questions o bs) _ told.0;
        entries = entries ∙ ap (λ (x : ℕ). l ∷ x ∷ token_entries (tokens n (drop n t))) (sym told.1);
        place = omega (arith, told.1, index-below bs o told.0);
        onward = onward;
        within = within;
      })

-- ---- small facts
pub letter-small : (c : ℕ) → letter_named c ≤ 3
unfolding letter_named
letter-small c = go (eqb c 88 || eqb c 120) (eqb c 90 || eqb c 122) (eqb c 89 || eqb c 121)
  where
    go : (x y z : Bool) → cond x 1 (cond y 2 (cond z 3 0)) ≤ 3
    go true y z = omega arith
    go false true z = omega arith
    go false false true = omega arith
    go false false false = omega arith

without_first : (n c : ℕ) (cs : List ℕ) → 1 ≤ n → drop 1 (take n (c ∷ cs)) ≡ take (n - 1) cs
without_first zero c cs h = absurd (not-suc-le-zero h)
without_first (suc n) c cs h = let e : n ≡ suc n - 1 = omega arith in ap (λ (j : ℕ). take j cs) e

-- white space ends at a byte that is none
pub space-ends : (t : List ℕ) (j f : ℕ) → Skipped leading_spaces t j f → f < length t → is_space (get_or t f 0) ≡ false
unfolding leading_spaces
space-ends t j f s h = was (is_space (get_or t f 0)) (ap (λ (i : ℕ). not (is_space (get_or t i 0))) s.is ∙ sym (ap (λ (x : ℕ). not (is_space x)) (get_or-drop j t p 0)) ∙ first_has (length (drop j t)) (λ i. not (is_space (get_or (drop j t) i 0))) short)
  where
    p : ℕ
    p = first_place (length (drop j t)) (λ i. not (is_space (get_or (drop j t) i 0)))

    short : p < length (drop j t)
    short = omega (arith, s.is, length-drop j t)

    was : (b : Bool) → not b ≡ true → b ≡ false
    was true e = sym e
    was false e = refl

pub no_more : (k : ℕ) (s : List ℕ) → s ≡ [] → tokens k s ≡ []
unfolding tokens
no_more k s e = ap (tokens k) e

-- ---- the token at a place of the text
module _ (t : List ℕ) (k : ℕ) (at : WordAt t k) where
  abbrev word-length : ℕ
  word-length = leading_word (drop k t)

  abbrev first : Token
  first = token k (take word-length (drop k t))

  here : drop k t ≡ get_or t k 0 ∷ drop (suc k) t
  here = drop-cons t k 0 at.within

  some : 1 ≤ word-length
  some = omega (arith, ap leading_word here ∙ word_here (get_or t k 0) (drop (suc k) t) at.byte)

  -- the word goes on after its first byte
  word_from : {e : ℕ} → Skipped leading_word t (k + 1) e → Skipped leading_word t k e
  word_from {e} s =
      let rest : leading_word (drop (k + 1) t) ≡ leading_word (drop (suc k) t) = ap (λ (j : ℕ). leading_word (drop j t)) (add-one k) in
      record {
        is = omega (arith, s.is, rest, ap leading_word here ∙ word_here (get_or t k 0) (drop (suc k) t) at.byte);
        onward = omega (arith, s.onward);
        within = s.within;
      }

  first-token : tokens k (drop k t) ≡ first ∷ tokens (k + word-length) (drop (k + word-length) t)
  first-token =
      ap (tokens k) here ∙ tokens-word k (get_or t k 0) (drop (suc k) t) at.byte
      ∙ ap (λ (s : List ℕ). token k (take (leading_word s) s) ∷ tokens (k + leading_word s) (drop (leading_word s) s)) (sym here)
      ∙ ap (λ (s : List ℕ). first ∷ tokens (k + word-length) s) (drop-drop word-length k t)

  first_byte : get_or first.bytes 0 0 ≡ get_or t k 0
  first_byte = get_or-take word-length (drop k t) 0 0 some ∙ get_or-drop k t 0 0 ∙ ap (λ (j : ℕ). get_or t j 0) same
    where
      same : k + 0 ≡ k
      same = omega arith

  first-letter : (l : ℕ) → l ≡ letter_named (get_or t k 0) → letter_named (get_or first.bytes 0 0) ≡ l
  first-letter l e = ap letter_named first_byte ∙ sym e

  first-length : word-length ≤ length (drop k t) → length first.bytes ≡ word-length
  first-length h = length-take word-length (drop k t) ∙ omega arith

  pub unknown_letter : None ≡ letter_if (letter_named (get_or t k 0)) → EntryRead (tokens k (drop k t)) t k (Err (NotLetter k))
  unknown_letter e =
      entry-refused (ap token_questions first-token ∙ not-letter first _ (ap letter_named first_byte ∙ named_not _ e))

  -- a letter with its index attached
  module _ {e : ℕ} (known : 0 < letter_named (get_or t k 0)) (after : Skipped leading_word t (k + 1) e) (long : k + 1 < e) where
    end : Skipped leading_word t k e
    end = word_from after

    abbrev l : ℕ
    l = letter_named (get_or t k 0)

    ends : k + word-length ≡ e
    ends = sym end.is

    index_bytes : drop 1 first.bytes ≡ take (e - (k + 1)) (drop (k + 1) t)
    index_bytes =
        let count : word-length - 1 ≡ e - (k + 1) = omega (arith, ends) in
        ap (λ (s : List ℕ). drop 1 (take word-length s)) here ∙ without_first word-length (get_or t k 0) (drop (suc k) t) some
        ∙ ap₂ (λ (i j : ℕ). take i (drop j t)) count (sym (add-one k))

    has : has_index first ≡ true
    unfolding has_index
    has = lt-ltb 1 (length first.bytes) (omega (arith, first-length (omega (arith, ends, end.within, length-drop k t)), ends))

    questions_are : token_questions (tokens k (drop k t)) ≡ index_questions (k + 1) (take (e - (k + 1)) (drop (k + 1) t)) and_then token_questions (tokens e (drop e t))
    unfolding attached_questions
    questions_are =
        ap token_questions first-token ∙ attached_questions_lem first _ (omega (arith, known, first-letter l refl)) has
        ∙ ap₂ (λ (o : ℕ) (bs : List ℕ). index_questions o bs and_then token_questions (tokens (k + word-length) (drop (k + word-length) t))) (sym (add-one k)) index_bytes
        ∙ ap (λ (j : ℕ). index_questions (k + 1) (take (e - (k + 1)) (drop (k + 1) t)) and_then token_questions (tokens j (drop j t))) ends

    entries_are : token_entries (tokens k (drop k t)) ≡ l ∷ index_value (take (e - (k + 1)) (drop (k + 1) t)) ∷ token_entries (tokens e (drop e t))
    unfolding attached_entry
    entries_are =
        ap token_entries first-token ∙ attached_entries first _ has
        ∙ ap₂ (λ (x : ℕ) (bs : List ℕ). x ∷ index_value bs ∷ token_entries (tokens (k + word-length) (drop (k + word-length) t))) (first-letter l refl) index_bytes
        ∙ ap (λ (j : ℕ). l ∷ index_value (take (e - (k + 1)) (drop (k + 1) t)) ∷ token_entries (tokens j (drop j t))) ends

    abbrev index : List ℕ
    index = take (e - (k + 1)) (drop (k + 1) t)

    pub attached : {m q : ℕ} → m ≡ l → Ok q ≡ answer_to (index_questions (k + 1) index) (index_value index)
        → EntryRead (tokens k (drop k t)) t k (Ok (record { letter = m; qubit = q; next = e }))
    attached {m} {q} is h = subst (λ (x : ℕ). EntryRead (tokens k (drop k t)) t k (Ok (record { letter = x; qubit = q; next = e }))) (sym is)
        (entry_read (tokens k (drop k t)) t k l e (k + 1) index (omega arith) end.within questions_are entries_are h)

    pub attached_not : {x : Refusal} → Err x ≡ answer_to (index_questions (k + 1) index) (index_value index) → token_questions (tokens k (drop k t)) ≡ Err x
    attached_not h = questions_are ∙ refused-first (index_questions (k + 1) index) _ (answer-err _ _ h)

  pub alone : {l e : ℕ} → Some l ≡ letter_if (letter_named (get_or t k 0)) → Skipped leading_word t (k + 1) e → e ≤ k + 1 → LetterAt t k l
  alone named after h =
      let is = named_some _ named in
      record { begins = at; letter = is.0; known = omega (arith, is.1); alone = omega (arith, some, (word_from after).is) }

-- ---- a letter that stands alone
module _ (t : List ℕ) (k l f : ℕ) (at : LetterAt t k l) (skip : Skipped leading_spaces t (k + 1) f) where
  rest-is : tokens k (drop k t) ≡ first t k at.begins ∷ tokens f (drop f t)
  rest-is =
      first-token t k at.begins
      ∙ ap (λ (j : ℕ). first t k at.begins ∷ tokens (k + j) (drop (k + j) t)) at.alone
      ∙ ap (λ (ws : List Token). first t k at.begins ∷ ws) (tokens_skip (k + 1) (drop (k + 1) t)
      ∙ ap (λ (s : List ℕ). tokens (k + 1 + leading_spaces (drop (k + 1) t)) s) (drop-drop (leading_spaces (drop (k + 1) t)) (k + 1) t)
      ∙ ap (λ (j : ℕ). tokens j (drop j t)) (sym skip.is))

  letter-is : letter_named (get_or (first t k at.begins).bytes 0 0) ≡ l
  letter-is = first-letter t k at.begins l at.letter

  lacks : has_index (first t k at.begins) ≡ false
  unfolding has_index
  lacks = le-ltb 1 (length (first t k at.begins).bytes) (omega (arith, length-take (leading_word (drop k t)) (drop k t), at.alone))

  pub apart_none : length t ≤ f → token_questions (tokens k (drop k t)) ≡ Err (NoIndex k)
  apart_none h =
      ap token_questions rest-is
      ∙ ap (λ (ws : List Token). token_questions (first t k at.begins ∷ ws)) (no_more f (drop f t) (drop_of_length-le t h))
      ∙ no_index (first t k at.begins) (omega (arith, letter-is, at.known)) lacks

  module _ {e : ℕ} (h : f < length t) (end : Skipped leading_word t f e) where
    second_at : WordAt t f
    second_at = record { within = h; byte = space-ends t (k + 1) f skip h }

    abbrev second : List ℕ
    second = take (e - f) (drop f t)

    second-token : tokens f (drop f t) ≡ token f second ∷ tokens e (drop e t)
    second-token =
        let count : leading_word (drop f t) ≡ e - f = omega (arith, end.is) in
        first-token t f second_at ∙ ap (λ (j : ℕ). token f (take j (drop f t)) ∷ tokens (f + leading_word (drop f t)) (drop (f + leading_word (drop f t)) t)) count
        ∙ ap (λ (j : ℕ). token f second ∷ tokens j (drop j t)) (sym end.is)

    apart_asked : token_questions (tokens k (drop k t)) ≡ index_questions f second and_then token_questions (tokens e (drop e t))
    apart_asked =
        ap token_questions rest-is ∙ ap (λ (ws : List Token). token_questions (first t k at.begins ∷ ws)) second-token
        ∙ apart_questions (first t k at.begins) (token f second) _ (omega (arith, letter-is, at.known)) lacks

    apart_named : token_entries (tokens k (drop k t)) ≡ l ∷ index_value second ∷ token_entries (tokens e (drop e t))
    unfolding apart_entry
    apart_named =
        ap token_entries rest-is ∙ ap (λ (ws : List Token). token_entries (first t k at.begins ∷ ws)) second-token
        ∙ apart_entries (first t k at.begins) (token f second) _ lacks
        ∙ ap (λ (x : ℕ). x ∷ index_value second ∷ token_entries (tokens e (drop e t))) letter-is

    pub apart_some : {q : ℕ} → Ok q ≡ answer_to (index_questions f second) (index_value second)
        → EntryRead (tokens k (drop k t)) t k (Ok (record { letter = l; qubit = q; next = e }))
    apart_some = entry_read (tokens k (drop k t)) t k l e f second (omega (arith, skip.onward, end.onward)) end.within apart_asked apart_named

    pub apart_not : {x : Refusal} → Err x ≡ answer_to (index_questions f second) (index_value second) → token_questions (tokens k (drop k t)) ≡ Err x
    apart_not h = apart_asked ∙ refused-first (index_questions f second) _ (answer-err _ _ h)

pub ruleset sparse_entries = (unknown_letter, attached, attached_not, alone, apart_none, apart_some, apart_not, rules)

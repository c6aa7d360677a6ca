-- Dense text: the questions let by exactly the dense texts of strings, and each is of one string.
use mathlib.Core.Path.{◌≡◌, refl, sym, ap, subst, ◌∙◌}
use mathlib.Core.Bool.{Bool, true, false, ◌||◌, true≢false}
use mathlib.Core.List.{List, [], ◌∷◌, ◌++◌, append_assoc, append-nil}
use Prim.Native.Nat.{ℕ, zero, suc, ◌+◌, ◌<◌, ◌≤◌}
use native.Mathlib.Nat.{not-suc-le-zero}
use native.Mathlib.Decide.{dec_lt}
use native.Mathlib.Omega.{arith}
use lib.Dec.{ltb, eqb}
use lib.ListN.{length, get_or, length-append, get_or-eq_default}
use borrow.Author.Tests.{ltb-true, lt-ltb, le-ltb}
use Rattle.pauli_group.specs.Phase.{Phase, PlusOne, MinusOne, PlusI, MinusI}
use Rattle.pauli_group.specs.Letter.{Letter, I}
use Rattle.pauli_group.specs.PauliString.{PauliString, qubits}
use Rattle.pauli_group.proofs.Strings.{string_ext}
use Rattle.pauli.specs.declared.refusal.Refusal.TheVariants.{NotLetter, TextQubit}
use Rattle.pauli.specs.Layout.{letter_byte, letter_of, string_length}
use Rattle.pauli.specs.Questions.{ask}
use Rattle.pauli.specs.Text.{is_space, is_sign, is_small_i, is_identity, letter_named, text_phase, ascii_question, body_start, dense_body, dense_letter, letter_questions, dense_questions, dense_string, from_dense_questions}
use Rattle.pauli.proofs.Asking.{asked_yes, ask_done, passed, done_first, done_second, has_room, room-is}
use Rattle.pauli.proofs.Records.{letter-back}
use Rattle.pauli.proofs.TextRoundTrip.{Ascii, ascii_asked}
use Rattle.pauli.proofs.Words.{Each, none, more, each_append, each_map}
use Rattle.pauli.proofs.WrittenWords.{any_more}
use Rattle.pauli_laws.specs.DenseTexts.{◌among◌, prefixes, spellings, White, DenseText}
use Rattle.pauli_laws.proofs.Spellings.{each_among, Spelled, spelled, known_spelled, identity_unnamed}
use Rattle.pauli_laws.proofs.TrimmedText.{white_append, Ends, blank-body, Between, Trimmed, trimmed}
use Rattle.pauli_laws.proofs.Prefixes.{Prefixed, space-small, blank-phase, phase-is, dense-is, PrefixSplit, prefixed_none, prefix_split}
use Rattle.std.specs.Prelude.{Ok}

-- ---- the questions
-- the byte c is known, and I where q is not below 128

record LetterFits (c q : ℕ) : Type 0 where
  known : (is_identity c || ltb 0 (letter_named c)) ≡ true
  low : (is_identity c || ltb q 128) ≡ true

letter_let_by : {c q : ℕ} (k : ℕ) → LetterFits c q → Ok tt ≡ dense_letter c k q
unfolding dense_letter qubits
letter_let_by k f = passed (asked_yes (NotLetter k) f.known) refl (asked_yes (TextQubit k) f.low)

letter-fits : (c k q : ℕ) → dense_letter c k q ≡ Ok tt → LetterFits c q
unfolding dense_letter qubits
letter-fits c k q h = record {
  known = ask_done _ _ (done_first _ _ h);
  low = ask_done _ _ (done_second (ask (is_identity c || ltb 0 (letter_named c)) (NotLetter k)) _ h);
}

letters_let_by : (k q : ℕ) (b : List ℕ) → ((j : ℕ) → j < length b → LetterFits (get_or b j 0) (q + j)) → Ok tt ≡ letter_questions k q b
unfolding letter_questions
letters_let_by k q [] h = refl
letters_let_by k q (c ∷ b) h =
    passed (letter_let_by k (subst (LetterFits c) here (h 0 (omega arith)))) refl
    (letters_let_by (suc k) (suc q) b (λ j l. subst (LetterFits (get_or b j 0)) (next j) (h (suc j) (omega arith))))
  where
    here : q + 0 ≡ q
    here = omega arith

    next : (j : ℕ) → q + suc j ≡ suc q + j
    next j = omega arith

letters_fit : (k q : ℕ) (b : List ℕ) → letter_questions k q b ≡ Ok tt → (j : ℕ) → j < length b → LetterFits (get_or b j 0) (q + j)
unfolding letter_questions
letters_fit k q [] h j l = absurd (not-suc-le-zero l)
letters_fit k q (c ∷ b) h zero l = let here : q ≡ q + 0 = omega arith in subst (LetterFits c) here (letter-fits c k q (done_first _ _ h))
letters_fit k q (c ∷ b) h (suc j) l =
    let next : suc q + j ≡ q + suc j = omega arith in
    subst (LetterFits (get_or b j 0)) next (letters_fit (suc k) (suc q) b (done_second (dense_letter c k q) _ h) j (omega arith))

-- ---- the bytes of a prefix and of letters
record Plain (c : ℕ) : Type 0 where
  ascii : c < 128
  solid : is_space c ≡ false

plain : (c : ℕ) → ltb c 128 ≡ true → is_space c ≡ false → Plain c
plain c a s = record { ascii = ltb-true c 128 a; solid = s }

plain_prefixes : (p : Phase) → Each (Each Plain) (prefixes p)
unfolding prefixes is_space
plain_prefixes PlusOne = more none (more (more (plain 43 refl refl) none) none)
plain_prefixes MinusOne = more (more (plain 45 refl refl) none) none
plain_prefixes PlusI = more (more (plain 43 refl refl) (more (plain 105 refl refl) none)) (more (more (plain 105 refl refl) none) none)
plain_prefixes MinusI = more (more (plain 45 refl refl) (more (plain 105 refl refl) none)) none

plain_ends : (c : ℕ) (l : List ℕ) → Plain c → Each Plain l → Ends (c ∷ l)
plain_ends c [] p none = Ends.last p.solid
plain_ends c (d ∷ l) p (more q r) = Ends.before (plain_ends d l q r)

each_of : {P : ℕ → Type 0} (l : List ℕ) → ((k : ℕ) → k < length l → P (get_or l k 0)) → Each P l
each_of [] h = none
each_of (c ∷ l) h = more (h 0 (omega arith)) (each_of l (λ k b. h (suc k) (omega arith)))

white_ascii : {w : List ℕ} → White w → Ascii w
white_ascii White.none = none
white_ascii (White.space {c} h w) = let small : c ≤ 32 = space-small c h in more {a = c} (omega arith) (white_ascii w)

-- a phase with no prefix is +1
not_empty : {p : Phase} (c : ℕ) (l : List ℕ) → length (c ∷ l) ≡ 0 → p ≡ PlusOne
not_empty c l h = absurd (omega arith)

empty_prefix : (p : Phase) → Each (λ pre. length pre ≡ 0 → p ≡ PlusOne) (prefixes p)
unfolding prefixes
empty_prefix PlusOne = more (λ h. refl) (more (λ h. refl) none)
empty_prefix MinusOne = more (not_empty 45 []) none
empty_prefix PlusI = more (not_empty 43 (105 ∷ [])) (more (not_empty 105 []) none)
empty_prefix MinusI = more (not_empty 45 (105 ∷ [])) none

nothing : (l : List ℕ) → length l ≡ 0 → [] ≡ l
nothing [] h = refl
nothing (c ∷ l) h = absurd (omega arith)

-- ---- a dense text is let by, and is its string's
module _ {s : PauliString} {t : List ℕ} (d : DenseText s t) where
  spelled_at : (q : ℕ) → q < length d.body → Spelled (s.letters q) (get_or d.body q 0)
  spelled_at q h = spelled (s.letters q) (get_or d.body q 0) (d.letters q h)

  plain_prefix : Each Plain d.prefix
  plain_prefix = each_among (Each Plain) (plain_prefixes s.phase) d.phase

  plain_body : Each Plain d.body
  plain_body = each_of d.body (λ q h. record { ascii = (spelled_at q h).ascii; solid = (spelled_at q h).solid })

  ascii_bytes : Ascii t
  ascii_bytes = rw d.bytes
      (each_append (white_ascii d.white_before)
      (each_append (each_map (λ c f. f.ascii) plain_prefix) (each_append (each_map (λ c f. f.ascii) plain_body) (white_ascii d.white_after))))

  unsigned_body : is_sign (get_or d.body 0 0) ≡ false
  unfolding is_sign
  unsigned_body = elim (dec_lt 0 (length d.body)) [
    | yes h ↦ (spelled_at 0 h).unsigned
    | no h ↦ ap is_sign (get_or-eq_default d.body 0 (omega arith))
  ]

  prefixed : Prefixed s.phase d.prefix d.body
  prefixed = record { written = d.phase; longest = d.longest; unsigned = λ h. unsigned_body }

  regrouped : t ≡ d.before ++ ((d.prefix ++ d.body) ++ d.after)
  regrouped = d.bytes ∙ ap (λ (l : List ℕ). d.before ++ l) (sym (append_assoc d.prefix d.body d.after))

  read_text : (c : List ℕ) → d.prefix ++ d.body ≡ c → (text_phase t ≡ s.phase) × (dense_body t ≡ d.body)
  read_text [] e =
      let none : length d.prefix + length d.body ≡ 0 = sym (length-append d.prefix d.body) ∙ ap length e in
      let bytes : t ≡ d.before ++ d.after = regrouped ∙ ap (λ (l : List ℕ). d.before ++ (l ++ d.after)) e in
      let white : White t = subst White (sym bytes) (white_append d.white_before d.white_after) in
      let real : s.phase ≡ PlusOne = each_among (λ pre. length pre ≡ 0 → s.phase ≡ PlusOne) (empty_prefix s.phase) d.phase (omega arith) in
      (blank-phase white ∙ sym real, blank-body white ∙ nothing d.body (omega arith))
  read_text (x ∷ c) e = go (subst (Each Plain) e (each_append plain_prefix plain_body))
    where
      go : Each Plain (x ∷ c) → (text_phase t ≡ s.phase) × (dense_body t ≡ d.body)
      go (more p r) =
          let b : Between d.before (d.prefix ++ d.body) d.after =
          record {
            before = d.white_before;
            begins = ap (λ (l : List ℕ). is_space (get_or l 0 0)) e ∙ p.solid;
            ends = subst Ends (sym e) (plain_ends x c p r);
            after = d.white_after;
          } in
          (ap text_phase regrouped ∙ phase-is d.prefix d.body b prefixed, ap dense_body regrouped ∙ dense-is d.prefix d.body b prefixed)

  phase_read : text_phase t ≡ s.phase
  phase_read = (read_text (d.prefix ++ d.body) refl).0

  body_read : dense_body t ≡ d.body
  body_read = (read_text (d.prefix ++ d.body) refl).1

  letter_read : (q : ℕ) → letter_of (letter_named (get_or d.body q 0)) ≡ s.letters q
  unfolding letter_named letter_of
  letter_read q = elim (dec_lt q (length d.body)) [
    | yes h ↦ ap letter_of (spelled_at q h).named ∙ letter-back (s.letters q)
    | no h ↦ ap (λ (c : ℕ). letter_of (letter_named c)) (get_or-eq_default d.body 0 (omega arith)) ∙ sym (d.rest q (omega arith))
  ]

  pub dense-string : dense_string t ≡ s
  unfolding dense_string
  dense-string = string_ext _ s phase_read (λ q. ap (λ (b : List ℕ). letter_of (letter_named (get_or b q 0))) body_read ∙ letter_read q)

  fits : (q : ℕ) → q < length d.body → LetterFits (get_or d.body q 0) (0 + q)
  unfolding qubits letter_byte
  fits q h = record {
    known = (spelled_at q h).known;
    low = elim (dec_lt (0 + q) 128) [
      | yes l ↦ any_more (is_identity (get_or d.body q 0)) (ltb (0 + q) 128) (lt-ltb (0 + q) 128 l)
      | no l ↦ ap (λ x. x || ltb (0 + q) 128) ((spelled_at q h).identity ∙ ap (λ (l : Letter). eqb (letter_byte l) 0) (d.within q (omega arith)))
    ];
  }

  letters-asked : (k : ℕ) → Ok tt ≡ letter_questions k 0 (dense_body t)
  letters-asked k = rw body_read (letters_let_by k 0 d.body fits)

  pub dense_admitted : (room : ℕ) → string_length ≤ room → from_dense_questions t room ≡ Ok tt
  unfolding from_dense_questions dense_questions
  dense_admitted room h = sym (passed (passed (sym (ascii_asked t ascii_bytes)) refl (letters-asked (body_start t))) refl (has_room 129 room h))

-- ---- and what is let by is a dense text
identity_past : (a : Bool) {b : Bool} → (a || b) ≡ true → b ≡ false → a ≡ true
identity_past true h k = refl
identity_past false h k = absurd (true≢false (sym h ∙ k))

module _ (t : List ℕ) (room : ℕ) (h : from_dense_questions t room ≡ Ok tt) where
  asked : dense_questions t ≡ Ok tt
  unfolding from_dense_questions
  asked = done_first _ _ h

  fit : (q : ℕ) → q < length (dense_body t) → LetterFits (get_or (dense_body t) q 0) (0 + q)
  unfolding dense_questions
  fit = letters_fit (body_start t) 0 (dense_body t) (done_second (ascii_question t) _ asked)

  abbrev letter_of_lem : ℕ → Letter
  letter_of_lem q = letter_of (letter_named (get_or (dense_body t) q 0))

  rest-is : (q : ℕ) → length (dense_body t) ≤ q → letter_of_lem q ≡ I
  unfolding letter_named letter_of
  rest-is q l = ap (λ (c : ℕ). letter_of (letter_named c)) (get_or-eq_default (dense_body t) 0 l)

  within-is : (q : ℕ) → 128 ≤ q → letter_of_lem q ≡ I
  within-is q h = elim (dec_lt q (length (dense_body t))) [
    | yes l ↦ identity_unnamed (get_or (dense_body t) q 0) (identity_past _ (fit q l).low (le-ltb (0 + q) 128 (omega arith)))
    | no l ↦ rest-is q (omega arith)
  ]

  text_of : (a pre body z : List ℕ) → t ≡ a ++ (pre ++ (body ++ z)) → White a → White z → Prefixed (text_phase t) pre body → dense_body t ≡ body
      → DenseText (dense_string t) t
  unfolding dense_string qubits
  text_of a pre body z e wa wz f b = record {
    before = a;
    prefix = pre;
    body = body;
    after = z;
    bytes = e;
    white_before = wa;
    white_after = wz;
    phase = f.written;
    longest = f.longest;
    letters = λ q l. subst (λ (k : List ℕ). get_or k q 0 among spellings (letter_of_lem q)) b
        (known_spelled (get_or (dense_body t) q 0) (fit q (omega (arith, ap length b))).known);
    rest = λ q l. rest-is q (omega (arith, ap length b));
    within = within-is;
  }

  of_trimmed : Trimmed t → DenseText (dense_string t) t
  unfolding is_small_i is_sign
  of_trimmed (Trimmed.blank w) =
      text_of t [] [] [] (sym (append-nil t)) w White.none (subst (λ p. Prefixed p [] []) (sym (blank-phase w)) (prefixed_none refl refl)) (blank-body w)
  of_trimmed (Trimmed.text a c z e b) = go (prefix_split c)
    where
      go : PrefixSplit c → DenseText (dense_string t) t
      go f =
          let bytes : t ≡ a ++ ((f.pre ++ f.body) ++ z) = e ∙ ap (λ (l : List ℕ). a ++ (l ++ z)) f.bytes in
          let so : Between a (f.pre ++ f.body) z = subst (λ (l : List ℕ). Between a l z) f.bytes b in
          let phase : f.phase ≡ text_phase t = sym (ap text_phase bytes ∙ phase-is f.pre f.body so f.is) in
          text_of a f.pre f.body z (bytes ∙ ap (λ (l : List ℕ). a ++ l) (append_assoc f.pre f.body z)) b.before b.after
          (subst (λ p. Prefixed p f.pre f.body) phase f.is) (ap dense_body bytes ∙ dense-is f.pre f.body so f.is)

  pub admitted_dense : DenseText (dense_string t) t × (string_length ≤ room)
  unfolding from_dense_questions
  admitted_dense = (of_trimmed (trimmed t), room-is 129 room (done_second (dense_questions t) _ h))

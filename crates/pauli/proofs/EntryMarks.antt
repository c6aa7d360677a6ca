-- Entries and their marks: the questions put to entries, what the marks say of them, and the string that they name.
use Rattle.std.proofs.Common.{◌≡◌, ℕ, zero, suc, ◌+◌, ◌-◌, ◌*◌, ◌/◌, ◌%◌, ◌<◌, ◌≤◌, Bool, true, false, cond, eqb, ltb, leb, ◌≢◌, List, [], length, get_or, drop, set, replicate, sym, refl, ap, ◌∙◌, ap₂, add-one, arith, length-set, length-drop, get_or-drop, get_or-take, not-suc-le-zero, get_or-set_other, get_or-set_same, ext_get_or, rules, ltb-false, le-ltb, lt-ltb, eq-eqb, ne_eqb, le-leb, leb-false, leb-true, Ok, Err}
use Rattle.std.specs.Simd.{first_chunks}
use native.Mathlib.Decide.{ℕ_discrete}
use lib.ListN.{get_or-replicate, length-replicate}
use borrow.Author.Tests.{lt-leb}
use Rattle.pauli_group.specs.Letter.{I}
use Rattle.pauli_group.specs.PauliString.{qubits, count_to}
use Rattle.pauli.specs.declared.refusal.Refusal.TheVariants.{Length, BadByte, Qubit}
use Rattle.pauli.specs.Places.{first_place}
use Rattle.pauli.specs.Layout.{letter_of, letter_byte}
use Rattle.pauli.specs.Entries.{entry_count, entry_letter, entry_qubit, occurrences, entry_of, entries_string}
use Rattle.pauli.specs.declared.entries.Mark.{Mark}
use Rattle.pauli.specs.declared.entries.Mark.TheVariants.{Unnamed, Twice}
use Rattle.pauli.specs.declared.entries.Marks.{Marks}
use Rattle.pauli.specs.Inside.Marks.{mark_once, mark_more, mark_to, marks_to, is_twice, first_twice, unmarked, EntriesFit, marks_of, Paired}
use Rattle.pauli.specs.Questions.{byte_question, even_question, first_bad_entry, entry_letters_question, first_high_entry, entry_qubits_question, entry_questions, smallest_duplicate}
use Rattle.pauli.proofs.Asking.{asked_yes, asked_no, ask_done, done_first, done_second}
use Rattle.pauli.proofs.Places.{NoneBefore, none_start, none_more, none_found, none_left_lem, length-listed, get_d_listed, first_le, first-is, first-before, first_has}

-- ---- the questions
pub entries-even : (e : List ℕ) → length e % 2 ≡ 0 → Ok tt ≡ even_question e
unfolding even_question
entries-even e h = asked_yes Length (eq-eqb (length e % 2) 0 h)

pub letters_bad : (e : List ℕ) {j : ℕ} → j ≡ first_bad_entry e → j < entry_count e → Err (BadByte (2 * j)) ≡ entry_letters_question e
unfolding entry_letters_question
letters_bad e p h = ap (λ (k : ℕ). Err (BadByte (2 * k))) p ∙ asked_no (BadByte (2 * first_bad_entry e)) (lt-leb (entry_count e) (first_bad_entry e) (omega arith))

pub letters-good : (e : List ℕ) {j : ℕ} → j ≡ first_bad_entry e → entry_count e ≤ j → Ok tt ≡ entry_letters_question e
unfolding entry_letters_question
letters-good e p h = asked_yes (BadByte (2 * first_bad_entry e)) (le-leb (entry_count e) (first_bad_entry e) (omega arith))

pub qubits_bad : (e : List ℕ) {j q : ℕ} → j ≡ first_high_entry e → j < entry_count e → q ≡ entry_qubit e j → Err (Qubit q) ≡ entry_qubits_question e
unfolding entry_qubits_question
qubits_bad e p h eq =
    ap (λ (k : ℕ). Err (Qubit k)) (eq ∙ ap (entry_qubit e) p)
    ∙ asked_no (Qubit (entry_qubit e (first_high_entry e))) (lt-leb (entry_count e) (first_high_entry e) (omega arith))

pub qubits-good : (e : List ℕ) {j : ℕ} → j ≡ first_high_entry e → entry_count e ≤ j → Ok tt ≡ entry_qubits_question e
unfolding entry_qubits_question
qubits-good e p h = asked_yes (Qubit (entry_qubit e (first_high_entry e))) (le-leb (entry_count e) (first_high_entry e) (omega arith))

-- ---- the entries as pairs
chunk_at : (n : ℕ) (e : List ℕ) (j k : ℕ) → j < n → 2 * n ≤ length e → k < 2 → get_or (get_or (first_chunks 2 n e) j []) k 0 ≡ get_or e (2 * j + k) 0
chunk_at zero e j k h l b = absurd (not-suc-le-zero h)
chunk_at (suc n) e zero k h l b = let same : k ≡ 2 * 0 + k = omega arith in get_or-take 2 e k 0 b ∙ ap (λ (i : ℕ). get_or e i 0) same
chunk_at (suc n) e (suc j) k h l b =
    let next : 2 + (2 * j + k) ≡ 2 * suc j + k = omega arith in
    chunk_at n (drop 2 e) j k (omega arith) (omega (arith, length-drop 2 e)) b ∙ get_or-drop 2 e (2 * j + k) 0 ∙ ap (λ (i : ℕ). get_or e i 0) next

pub paired : (e : List ℕ) {p : List (List ℕ)} → p ≡ first_chunks 2 (length e / 2) e → length p ≡ length e / 2 → Paired e p
unfolding entry_count entry_letter entry_qubit
paired e {p} h l = record {
  count = l;
  letters = λ j b. at j 0 b (omega arith) ∙ ap (λ (i : ℕ). get_or e i 0) (none j);
  qubits = λ j b. at j 1 b (omega arith);
}
  where
    at : (j k : ℕ) → j < length p → k < 2 → get_or (get_or p j []) k 0 ≡ get_or e (2 * j + k) 0
    at j k b c = ap (λ (q : List (List ℕ)). get_or (get_or q j []) k 0) h ∙ chunk_at (length e / 2) e j k (omega arith) (omega arith) c

    none : (j : ℕ) → 2 * j + 0 ≡ 2 * j
    none j = omega arith

-- a loop over them stops at the first that is refused
module _ {e : List ℕ} {p : List (List ℕ)} (pairs : Paired e p) {j : ℕ} where
  module _ (m : NoneBefore (entry_count e) (λ k. ltb 3 (entry_letter e k)) j) where
    pub letter_refused : j < length p → 3 < get_or (get_or p j []) 0 0 → Err (BadByte (2 * j)) ≡ entry_letters_question e
    unfolding first_bad_entry
    letter_refused h b =
        let within : j < entry_count e = omega (arith, pairs.count) in
        letters_bad e (none_found m within (lt-ltb 3 (entry_letter e j) (omega (arith, pairs.letters j h)))) within

    pub letter_more : j < length p → get_or (get_or p j []) 0 0 ≤ 3 → NoneBefore (entry_count e) (λ k. ltb 3 (entry_letter e k)) (j + 1)
    letter_more h b = none_more m (omega (arith, pairs.count)) (le-ltb 3 (entry_letter e j) (omega (arith, pairs.letters j h)))

    pub letters_pass : length p ≤ j → Ok tt ≡ entry_letters_question e
    unfolding first_bad_entry
    letters_pass h = letters-good e (none_left_lem m (omega (arith, pairs.count))) (omega (arith, pairs.count))

  module _ (m : NoneBefore (entry_count e) (λ k. leb 128 (entry_qubit e k)) j) where
    pub qubit_refused : {q : ℕ} → j < length p → q ≡ get_or (get_or p j []) 1 0 → 128 ≤ q → Err (Qubit q) ≡ entry_qubits_question e
    unfolding first_high_entry qubits
    qubit_refused h eq b =
        let within : j < entry_count e = omega (arith, pairs.count) in
        qubits_bad e (none_found m within (le-leb 128 (entry_qubit e j) (omega (arith, pairs.qubits j h)))) within (eq ∙ pairs.qubits j h)

    pub qubit_more : {q : ℕ} → j < length p → q ≡ get_or (get_or p j []) 1 0 → q < 128 → NoneBefore (entry_count e) (λ k. leb 128 (entry_qubit e k)) (j + 1)
    qubit_more h eq b = none_more m (omega (arith, pairs.count)) (lt-leb 128 (entry_qubit e j) (omega (arith, pairs.qubits j h)))

    pub qubits_pass : length p ≤ j → Ok tt ≡ entry_qubits_question e
    unfolding first_high_entry qubits
    qubits_pass h = qubits-good e (none_left_lem m (omega (arith, pairs.count))) (omega (arith, pairs.count))

pub ruleset entry_scans = (none_start, letter_refused, letter_more, letters_pass, qubit_refused, qubit_more, qubits_pass, rules)

-- what they let by
pub letters-small : (p : ℕ) (e : List ℕ) → entry_questions p e ≡ Ok tt → (j : ℕ) → j < entry_count e → entry_letter e j ≤ 3
unfolding entry_questions entry_letters_question first_bad_entry
letters-small p e h j l =
    let all : entry_count e ≤ first_bad_entry e =
    leb-true _ _ (ask_done _ _ (done_first _ _ (done_second (even_question e) _ (done_second (byte_question p) _ h)))) in
    ltb-false 3 (entry_letter e j) (first-before (entry_count e) (λ k. ltb 3 (entry_letter e k)) j (omega arith))

pub qubits-below : (p : ℕ) (e : List ℕ) → entry_questions p e ≡ Ok tt → (j : ℕ) → j < entry_count e → entry_qubit e j < 128
unfolding entry_questions entry_qubits_question first_high_entry qubits
qubits-below p e h j l =
    let all : entry_count e ≤ first_high_entry e =
    leb-true _ _ (ask_done _ _ (done_second (entry_letters_question e) _ (done_second (even_question e) _ (done_second (byte_question p) _ h)))) in
    leb-false 128 (entry_qubit e j) (first-before (entry_count e) (λ k. leb 128 (entry_qubit e k)) j (omega arith))

-- ---- the marks after n entries
pub mark_ext : (n : ℕ) (f g : ℕ → Bool) (a b : ℕ → ℕ) → ((j : ℕ) → j < n → f j ≡ g j) → ((j : ℕ) → j < n → a j ≡ b j) → mark_to f a n ≡ mark_to g b n
unfolding mark_to
mark_ext zero f g a b h k = refl
mark_ext (suc n) f g a b h k =
    let rest : mark_to f a n ≡ mark_to g b n = mark_ext n f g a b (λ j l. h j (omega arith)) (λ j l. k j (omega arith)) in
    λ i. cond (h n (omega arith) i) (mark_more (rest i) (k n (omega arith) i)) (rest i)

pub length-marks : (e : List ℕ) (n : ℕ) → length (marks_to e n) ≡ 128
unfolding marks_to qubits
length-marks e n = length-listed 128 _

mark_at : (e : List ℕ) (n q : ℕ) → q < 128 → get_or (marks_to e n) q Unnamed ≡ mark_to (λ j. eqb (entry_qubit e j) q) (entry_letter e) n
unfolding marks_to qubits
mark_at e n q h = get_d_listed 128 _ q Unnamed h

module _ (names : ℕ → Bool) (letter : ℕ → ℕ) (j : ℕ) where
  mark_named : names j ≡ true → mark_to names letter (suc j) ≡ mark_more (mark_to names letter j) (letter j)
  unfolding mark_to
  mark_named h = ap (λ b. cond b (mark_more (mark_to names letter j) (letter j)) (mark_to names letter j)) h

  mark_unnamed : names j ≡ false → mark_to names letter (suc j) ≡ mark_to names letter j
  unfolding mark_to
  mark_unnamed h = ap (λ b. cond b (mark_more (mark_to names letter j) (letter j)) (mark_to names letter j)) h

-- one entry more, at the qubit that it names
pub mark_step : (e : List ℕ) (j l q : ℕ) → l ≡ entry_letter e j → q ≡ entry_qubit e j → q < 128
    → set (marks_to e j) q (mark_more (get_or (marks_to e j) q Unnamed) l) ≡ marks_to e (suc j)
mark_step e j l q el eq h =
    ext_get_or Unnamed _ (marks_to e (suc j)) (length-set (marks_to e j) q _ ∙ length-marks e j ∙ sym (length-marks e (suc j)))
    (λ k b. at k (omega (arith, length-set (marks_to e j) q (mark_more (get_or (marks_to e j) q Unnamed) l), length-marks e j)))
  where
    x : Mark
    x = mark_more (get_or (marks_to e j) q Unnamed) l

    same : get_or (set (marks_to e j) q x) q Unnamed ≡ get_or (marks_to e (suc j)) q Unnamed
    same =
        get_or-set_same (marks_to e j) q x Unnamed (omega (arith, length-marks e j)) ∙ ap₂ mark_more (mark_at e j q h) el
        ∙ sym (mark_at e (suc j) q h ∙ mark_named (λ i. eqb (entry_qubit e i) q) (entry_letter e) j (eq-eqb (entry_qubit e j) q (sym eq)))

    other : (k : ℕ) → k < 128 → k ≢ q → get_or (set (marks_to e j) q x) k Unnamed ≡ get_or (marks_to e (suc j)) k Unnamed
    other k b d =
        get_or-set_other (marks_to e j) q k x Unnamed d ∙ mark_at e j k b
        ∙ sym (mark_at e (suc j) k b ∙ mark_unnamed (λ i. eqb (entry_qubit e i) k) (entry_letter e) j (ne_eqb (entry_qubit e j) k (λ p. d (sym (eq ∙ p)))))

    at : (k : ℕ) → k < 128 → get_or (set (marks_to e j) q x) k Unnamed ≡ get_or (marks_to e (suc j)) k Unnamed
    at k b = elim (ℕ_discrete k q) [
      | yes d ↦ ap (λ (i : ℕ). get_or (set (marks_to e j) q x) i Unnamed) d ∙ same ∙ ap (λ (i : ℕ). get_or (marks_to e (suc j)) i Unnamed) (sym d)
      | no d ↦ other k b d
    ]

-- ---- the loop that marks entries, j so far
pub record Marking (e : List ℕ) (j : ℕ) (m : List Mark) : Type 0 where
  pub within : j ≤ entry_count e
  pub marks : m ≡ marks_to e j
  pub places : (i : ℕ) → i < entry_count e → entry_qubit e i < 128

pub no_marks : (e : List ℕ) → replicate 128 Unnamed ≡ marks_to e 0
unfolding marks_to mark_to
no_marks e =
    ext_get_or Unnamed _ (marks_to e 0) (length-replicate {A = Mark} 128 Unnamed ∙ sym (length-marks e 0))
    (λ k b. unnamed_at k (omega (arith, length-replicate {A = Mark} 128 Unnamed)))
  where
    unnamed_at : (k : ℕ) → k < 128 → get_or (replicate 128 Unnamed) k Unnamed ≡ get_or (marks_to e 0) k Unnamed
    unnamed_at k b = get_or-replicate 128 k Unnamed Unnamed b ∙ sym (mark_at e 0 k b)

pub marking_none : {e : List ℕ} {m : List Mark} → EntriesFit e → m ≡ replicate 128 Unnamed → Marking e 0 m
marking_none {e} f z = record { within = omega arith; marks = z ∙ no_marks e; places = f.places }

module _ {e : List ℕ} {p : List (List ℕ)} (pairs : Paired e p) {m : List Mark} {j : ℕ} (k : Marking e j m) where
  pub marking_below : {q : ℕ} → j < length p → q ≡ get_or (get_or p j []) 1 0 → q < 128
  marking_below h eq = omega (arith, pairs.count, pairs.qubits j h, k.places j (omega (arith, pairs.count)))

  pub marking_step : {d : List Mark} {q : ℕ} → j < length p → q ≡ get_or (get_or p j []) 1 0
      → d ≡ set m q (mark_more (get_or m q Unnamed) (get_or (get_or p j []) 0 0)) → Marking e (j + 1) d
  marking_step {d} {q} h eq ed = record {
    within = omega (arith, pairs.count);
    marks = ed ∙ ap (λ (x : List Mark). set x q (mark_more (get_or x q Unnamed) (get_or (get_or p j []) 0 0))) k.marks
        ∙ mark_step e j (get_or (get_or p j []) 0 0) q (pairs.letters j h) (eq ∙ pairs.qubits j h) (marking_below h eq) ∙ ap (marks_to e) (sym (add-one j));
    places = k.places;
  }

  pub marking_all : length p ≤ j → ◌≡◌ {A = Marks} (record { 0 = m }) (marks_of e)
  marking_all l =
      let within : j ≤ entry_count e = k.within in
      let whole : j ≡ entry_count e = omega (arith, pairs.count) in
      let all : m ≡ marks_to e (entry_count e) = k.marks ∙ ap (marks_to e) whole in
      λ i. record { 0 = all i }

pub marking_length : {e : List ℕ} {d : List Mark} {j : ℕ} → Marking e j d → length d ≡ 128
marking_length {e} {j = j} k = ap length k.marks ∙ length-marks e j

pub ruleset marks = (marking_none, marking_below, marking_step, marking_length, marking_all, rules)

-- ---- what a mark says: how many entries name the qubit, and the letter of the first
pub data MarkIs (letter : ℕ → ℕ) (n count first : ℕ) (mark : Mark) : Type 0 where
  unnamed : count ≡ 0 → first ≡ n → mark ≡ Unnamed → MarkIs letter n count first mark
  once : count ≡ 1 → first < n → mark ≡ mark_once (letter first) → MarkIs letter n count first mark
  twice : 2 ≤ count → mark ≡ Twice → MarkIs letter n count first mark

-- the first place, where one place more is looked at
first_kept : (n : ℕ) (f : ℕ → Bool) → first_place n f < n → first_place n f ≡ first_place (suc n) f
first_kept n f h = first-is (suc n) f (first_place n f) (omega arith) (first-before n f) (λ l. first_has n f h)

first_new : (n : ℕ) (f : ℕ → Bool) → first_place n f ≡ n → f n ≡ true → n ≡ first_place (suc n) f
first_new n f e h = first-is (suc n) f n (omega arith) (λ k l. first-before n f k (omega arith)) (λ l. h)

first-none : (n : ℕ) (f : ℕ → Bool) → first_place n f ≡ n → f n ≡ false → suc n ≡ first_place (suc n) f
first-none n f e h = first-is (suc n) f (suc n) (omega arith) below (λ l. absurd (never l))
  where
    never : suc n < suc n → ⊥
    never l = omega arith

    below : (k : ℕ) → k < suc n → f k ≡ false
    below k l = elim (ℕ_discrete k n) [ yes d ↦ ap f d ∙ h | no d ↦ first-before n f k (omega arith) ]

count-named : (n : ℕ) (f : ℕ → Bool) → f n ≡ true → count_to (suc n) f ≡ count_to n f + 1
unfolding count_to
count-named n f h = ap (λ b. count_to n f + cond b 1 0) h

count_unnamed : (n : ℕ) (f : ℕ → Bool) → f n ≡ false → count_to (suc n) f ≡ count_to n f + 0
unfolding count_to
count_unnamed n f h = ap (λ b. count_to n f + cond b 1 0) h

mark_first : {m : Mark} (l : ℕ) → m ≡ Unnamed → mark_more m l ≡ mark_once l
unfolding mark_more
mark_first l e = ap (λ x. mark_more x l) e

more_than_once : (k l : ℕ) → mark_more (mark_once k) l ≡ Twice
unfolding mark_once mark_more
more_than_once zero l = refl
more_than_once (suc zero) l = refl
more_than_once (suc (suc zero)) l = refl
more_than_once (suc (suc (suc k))) l = refl

mark_second : {m : Mark} (k l : ℕ) → m ≡ mark_once k → mark_more m l ≡ Twice
mark_second k l e = ap (λ x. mark_more x l) e ∙ more_than_once k l

mark_again : {m : Mark} (l : ℕ) → m ≡ Twice → mark_more m l ≡ Twice
unfolding mark_more
mark_again l e = ap (λ x. mark_more x l) e

module _ (names : ℕ → Bool) (letter : ℕ → ℕ) where
  abbrev State : ℕ → Type 0
  State n = MarkIs letter n (count_to n names) (first_place n names) (mark_to names letter n)

  named : (n : ℕ) → names n ≡ true → State n → State (suc n)
  named n h (unnamed c f m) =
      let new : n ≡ first_place (suc n) names = first_new n names f h in
      once (omega (arith, count-named n names h)) (omega arith) (mark_named names letter n h ∙ mark_first (letter n) m ∙ ap (λ (j : ℕ). mark_once (letter j)) new)
  named n h (once c f m) =
      twice (omega (arith, count-named n names h)) (mark_named names letter n h ∙ mark_second (letter (first_place n names)) (letter n) m)
  named n h (twice c m) = twice (omega (arith, count-named n names h)) (mark_named names letter n h ∙ mark_again (letter n) m)

  not_named : (n : ℕ) → names n ≡ false → State n → State (suc n)
  not_named n h (unnamed c f m) = unnamed (omega (arith, count_unnamed n names h)) (sym (first-none n names f h)) (mark_unnamed names letter n h ∙ m)
  not_named n h (once c f m) =
      let kept : first_place n names ≡ first_place (suc n) names = first_kept n names f in
      once (omega (arith, count_unnamed n names h)) (omega arith) (mark_unnamed names letter n h ∙ m ∙ ap (λ (j : ℕ). mark_once (letter j)) kept)
  not_named n h (twice c m) = twice (omega (arith, count_unnamed n names h)) (mark_unnamed names letter n h ∙ m)

  no_state : State 0
  unfolding count_to first_place mark_to
  no_state = unnamed refl refl refl

  pub mark_is : (n : ℕ) → State n
  mark_is zero = no_state
  mark_is (suc n) = next (names n) refl (mark_is n)
    where
      next : (b : Bool) → names n ≡ b → State n → State (suc n)
      next true e m = named n e m
      next false e m = not_named n e m

-- ---- the mark of a qubit that more entries than one name
pub once-not_twice : (k : ℕ) → is_twice (mark_once k) ≡ false
unfolding mark_once is_twice
once-not_twice zero = refl
once-not_twice (suc zero) = refl
once-not_twice (suc (suc zero)) = refl
once-not_twice (suc (suc (suc k))) = refl

pub mark_twice : {letter : ℕ → ℕ} {n count first : ℕ} {mark : Mark} → MarkIs letter n count first mark → is_twice mark ≡ leb 2 count
unfolding is_twice
mark_twice (unnamed c f m) = ap is_twice m ∙ sym (ap (λ (x : ℕ). leb 2 x) c)
mark_twice {letter} {first = first} (once c f m) = ap is_twice m ∙ once-not_twice (letter first) ∙ sym (ap (λ (x : ℕ). leb 2 x) c)
mark_twice {count = count} (twice c m) = ap is_twice m ∙ sym (le-leb 2 count c)

pub once-letter : (k : ℕ) → unmarked (mark_once k) ≡ letter_byte (letter_of k)
unfolding mark_once unmarked letter_byte letter_of
once-letter zero = refl
once-letter (suc zero) = refl
once-letter (suc (suc zero)) = refl
once-letter (suc (suc (suc k))) = refl

-- a mark of at most one entry holds its letter, or I
pub marked_letter : (letter : ℕ → ℕ) (n count first : ℕ) (mark : Mark) → count < 2 → MarkIs letter n count first mark
    → unmarked mark ≡ letter_byte (cond (ltb first n) (letter_of (letter first)) I)
unfolding unmarked letter_byte
marked_letter letter n count first mark h (unnamed c f m) =
    ap unmarked m ∙ sym (ap (λ b. letter_byte (cond b (letter_of (letter first)) I)) (le-ltb first n (omega arith)))
marked_letter letter n count first mark h (once c f m) =
    ap unmarked m ∙ once-letter (letter first) ∙ sym (ap (λ b. letter_byte (cond b (letter_of (letter first)) I)) (lt-ltb first n f))
marked_letter letter n count first mark h (twice c m) = absurd (omega arith)

first_ext : (n : ℕ) (f g : ℕ → Bool) → ((k : ℕ) → k < n → f k ≡ g k) → first_place n f ≡ first_place n g
first_ext n f g h =
    first-is n g (first_place n f) (first_le n f) (λ k l. sym (h k (below k l)) ∙ first-before n f k l) (λ l. sym (h (first_place n f) l) ∙ first_has n f l)
  where
    below : (k : ℕ) → k < first_place n f → k < n
    below k l = omega (arith, first_le n f)

module _ (e : List ℕ) where
  twice-is : (q : ℕ) → q < 128 → is_twice (get_or (marks_to e (entry_count e)) q Unnamed) ≡ leb 2 (occurrences e q)
  unfolding occurrences
  twice-is q h = ap is_twice (mark_at e (entry_count e) q h) ∙ mark_twice (mark_is (λ j. eqb (entry_qubit e j) q) (entry_letter e) (entry_count e))

  pub first_duplicate : first_twice (marks_to e (entry_count e)) ≡ smallest_duplicate e
  unfolding first_twice smallest_duplicate qubits
  first_duplicate =
      ap (λ (n : ℕ). first_place n (λ k. is_twice (get_or (marks_to e (entry_count e)) k Unnamed))) (length-marks e (entry_count e)) ∙ first_ext 128 _ _ twice-is

  -- where no qubit is named twice, the marks hold the letters
  letter_marked : (q : ℕ) → q < 128 → 128 ≤ smallest_duplicate e → occurrences e q < 2
  unfolding smallest_duplicate qubits
  letter_marked q h none = leb-false 2 (occurrences e q) (first-before 128 (λ k. leb 2 (occurrences e k)) q (omega arith))

  pub letter-byte : (p q : ℕ) → q < 128 → 128 ≤ smallest_duplicate e
      → unmarked (get_or (marks_to e (entry_count e)) q Unnamed) ≡ letter_byte ((entries_string p e).letters q)
  unfolding entries_string entry_of occurrences
  letter-byte p q h none =
      ap unmarked (mark_at e (entry_count e) q h)
      ∙ marked_letter (entry_letter e) (entry_count e) _ _ _ (letter_marked q h none) (mark_is (λ j. eqb (entry_qubit e j) q) (entry_letter e) (entry_count e))

-- Entries: the questions let by exactly the bytes of pairs that name qubits below 128, each once; and the string that they name.
use mathlib.Core.Path.{◌≡◌, refl, sym, ap, ap₂, ◌∙◌}
use mathlib.Core.Bool.{Bool, true, false, cond}
use mathlib.Core.List.{List, [], ◌∷◌}
use Prim.Native.Nat.{ℕ, zero, suc, ◌+◌, ◌*◌, ◌%◌, ◌<◌, ◌≤◌}
use native.Mathlib.Decide.{ℕ_discrete, dec_lt}
use native.Mathlib.Omega.{arith}
use lib.Dec.{eqb, ltb, leb}
use lib.ListN.{length, get_or}
use borrow.Author.Tests.{lt-ltb, le-ltb, lt-leb, le-leb, eq-eqb, ne_eqb, eqb-true, leb-true, leb-false}
use Rattle.pauli_group.specs.Letter.{I}
use Rattle.pauli_group.specs.PauliString.{qubits, count_to}
use Rattle.pauli_group.proofs.Strings.{string_ext}
use Rattle.pauli.specs.declared.refusal.Refusal.TheVariants.{Duplicate}
use Rattle.pauli.specs.Places.{first_place}
use Rattle.pauli.specs.Layout.{phase_of, letter_byte, letter_of}
use Rattle.pauli.specs.Entries.{entry_count, entry_letter, entry_qubit, occurrences, entry_of, entries_string}
use Rattle.pauli.specs.Questions.{◌and_then◌, byte_question, even_question, first_bad_entry, entry_letters_question, first_high_entry, entry_qubits_question, entry_questions, smallest_duplicate, duplicate_question, room_question, with_phase_questions}
use Rattle.pauli.proofs.Asking.{asked_yes, ask_done, passed, done_first, done_second, byte-good, byte_small, has_room, room-is}
use Rattle.pauli.proofs.EntryMarks.{entries-even, letters-good, qubits-good, letters-small, qubits-below}
use Rattle.pauli.proofs.Places.{none_left_lem, first-before}
use Rattle.pauli.proofs.Records.{letter-back, letter_there, letter-small}
use Rattle.pauli_laws.specs.EntryLists.{Entry, entry_bytes, Unnamed, NamedOnce, EntriesGiven, letter_for, named_string}
use Rattle.std.specs.Prelude.{Ok}

-- ---- one entry in front
module _ (x y : ℕ) (b : List ℕ) where
  count_front : entry_count (x ∷ y ∷ b) ≡ suc (entry_count b)
  unfolding entry_count
  count_front = omega arith

  letter_front : (j : ℕ) → entry_letter (x ∷ y ∷ b) (suc j) ≡ entry_letter b j
  unfolding entry_letter
  letter_front j = let e : 2 * suc j ≡ suc (suc (2 * j)) = omega arith in ap (λ (k : ℕ). get_or (x ∷ y ∷ b) k 0) e

  qubit_front : (j : ℕ) → entry_qubit (x ∷ y ∷ b) (suc j) ≡ entry_qubit b j
  unfolding entry_qubit
  qubit_front j = let e : 2 * suc j + 1 ≡ suc (suc (2 * j + 1)) = omega arith in ap (λ (k : ℕ). get_or (x ∷ y ∷ b) k 0) e

-- how many places have f, counted from the first
count-first : (n : ℕ) (f : ℕ → Bool) → count_to (suc n) f ≡ cond (f 0) 1 0 + count_to n (λ k. f (suc k))
unfolding count_to
count-first zero f = omega arith
count-first (suc n) f = ap (λ (k : ℕ). k + cond (f (suc n)) 1 0) (count-first n f) ∙ omega arith

named_front : (x y : ℕ) (b : List ℕ) (q : ℕ) → occurrences (x ∷ y ∷ b) q ≡ cond (eqb y q) 1 0 + occurrences b q
unfolding occurrences entry_qubit
named_front x y b q =
    ap (λ (n : ℕ). count_to n (λ j. eqb (entry_qubit (x ∷ y ∷ b) j) q)) (count_front x y b)
    ∙ count-first (entry_count b) (λ j. eqb (entry_qubit (x ∷ y ∷ b) j) q)
    ∙ ap (λ (f : ℕ → ℕ). cond (eqb y q) 1 0 + count_to (entry_count b) (λ j. eqb (f j) q)) (λ i j. qubit_front x y b j i)

named_here : (x : ℕ) (b : List ℕ) (q : ℕ) → occurrences (x ∷ q ∷ b) q ≡ suc (occurrences b q)
named_here x b q = named_front x q b q ∙ ap (λ t. cond t 1 0 + occurrences b q) (eq-eqb q q refl) ∙ omega arith

named_there : (x y : ℕ) (b : List ℕ) (q : ℕ) → (y ≡ q → ⊥) → occurrences (x ∷ y ∷ b) q ≡ occurrences b q
named_there x y b q h = named_front x y b q ∙ ap (λ t. cond t 1 0 + occurrences b q) (ne_eqb y q h) ∙ omega arith

-- ---- what pairs give: letters, qubits, and no qubit twice
even-bytes : (es : List Entry) → length (entry_bytes es) % 2 ≡ 0
unfolding entry_bytes
even-bytes [] = refl
even-bytes (e ∷ es) = omega (arith, even-bytes es)

letter-bytes : (es : List Entry) (j : ℕ) → entry_letter (entry_bytes es) j ≤ 3
unfolding entry_bytes entry_letter
letter-bytes [] j = omega arith
letter-bytes (e ∷ es) zero = letter-small e.letter
letter-bytes (e ∷ es) (suc j) = omega (arith, letter_front (letter_byte e.letter) e.qubit (entry_bytes es) j, letter-bytes es j)

qubit-bytes : {es : List Entry} → NamedOnce es → (j : ℕ) → entry_qubit (entry_bytes es) j < 128
unfolding entry_bytes entry_qubit qubits
qubit-bytes NamedOnce.none j = omega arith
qubit-bytes (NamedOnce.entry low u o) zero = low
qubit-bytes (NamedOnce.entry {e} {es} low u o) (suc j) = omega (arith, qubit_front (letter_byte e.letter) e.qubit (entry_bytes es) j, qubit-bytes o j)

no_entries : (q : ℕ) → occurrences [] q ≡ 0
unfolding occurrences entry_count count_to
no_entries q = refl

unnamed_none : {q : ℕ} {es : List Entry} → Unnamed q es → occurrences (entry_bytes es) q ≡ 0
unfolding entry_bytes
unnamed_none {q} Unnamed.none = no_entries q
unnamed_none {q} (Unnamed.other {e} {es} h u) = named_there (letter_byte e.letter) e.qubit (entry_bytes es) q h ∙ unnamed_none u

once-named : {es : List Entry} → NamedOnce es → (q : ℕ) → occurrences (entry_bytes es) q ≤ 1
unfolding entry_bytes
once-named NamedOnce.none q = omega (arith, no_entries q)
once-named (NamedOnce.entry {e} {es} low u o) q = go (ℕ_discrete e.qubit q) (once-named o q)
  where
    front : List ℕ
    front = letter_byte e.letter ∷ e.qubit ∷ entry_bytes es

    go : Dec (e.qubit ≡ q) → occurrences (entry_bytes es) q ≤ 1 → occurrences front q ≤ 1
    go (yes d) r = omega (arith, named_here (letter_byte e.letter) (entry_bytes es) e.qubit, unnamed_none u, ap (occurrences front) d)
    go (no d) r = omega (arith, named_there (letter_byte e.letter) e.qubit (entry_bytes es) q d)

-- ---- and the way back
none_unnamed : (q : ℕ) (es : List Entry) → occurrences (entry_bytes es) q ≡ 0 → Unnamed q es
unfolding entry_bytes
none_unnamed q [] h = Unnamed.none
none_unnamed q (e ∷ es) h = go (ℕ_discrete e.qubit q) (none_unnamed q es)
  where
    front : List ℕ
    front = letter_byte e.letter ∷ e.qubit ∷ entry_bytes es

    go : Dec (e.qubit ≡ q) → (occurrences (entry_bytes es) q ≡ 0 → Unnamed q es) → Unnamed q (e ∷ es)
    go (yes d) r = absurd (omega (arith, named_here (letter_byte e.letter) (entry_bytes es) e.qubit, ap (occurrences front) d))
    go (no d) r = Unnamed.other d (r (sym (named_there (letter_byte e.letter) e.qubit (entry_bytes es) q d) ∙ h))

named-once : (es : List Entry) → ((j : ℕ) → j < entry_count (entry_bytes es) → entry_qubit (entry_bytes es) j < 128)
    → ((q : ℕ) → q < 128 → occurrences (entry_bytes es) q ≤ 1) → NamedOnce es
unfolding entry_bytes entry_qubit qubits
named-once [] low once = NamedOnce.none
named-once (e ∷ es) low once = NamedOnce.entry first (none_unnamed e.qubit es rest-none)
    (named-once es (λ j h. omega (arith, qubit_front x e.qubit b j, low (suc j) (omega (arith, count_front x e.qubit b)))) rest-once)
  where
    x : ℕ
    x = letter_byte e.letter

    b : List ℕ
    b = entry_bytes es

    first : e.qubit < 128
    first = low 0 (omega (arith, count_front x e.qubit b))

    rest-none : occurrences b e.qubit ≡ 0
    rest-none = omega (arith, named_here x b e.qubit, once e.qubit first)

    rest-once : (q : ℕ) → q < 128 → occurrences b q ≤ 1
    rest-once q h = omega (arith, named_front x e.qubit b q, once q h)

-- pairs of bytes, as entries
abbrev entries_of : List ℕ → List Entry
entries_of [] = []
entries_of (x ∷ []) = []
entries_of (x ∷ y ∷ b) = record { letter = letter_of x; qubit = y } ∷ entries_of b

bytes_are : (b : List ℕ) → length b % 2 ≡ 0 → ((j : ℕ) → j < entry_count b → entry_letter b j ≤ 3) → b ≡ entry_bytes (entries_of b)
unfolding entry_bytes entry_letter
bytes_are [] h small = refl
bytes_are (x ∷ []) h small = absurd (omega arith)
bytes_are (x ∷ y ∷ b) h small =
    ap₂ (λ (c : ℕ) (t : List ℕ). c ∷ y ∷ t) (sym (letter_there x (small 0 (omega (arith, count_front x y b)))))
    (bytes_are b (omega arith) (λ j l. omega (arith, letter_front x y b j, small (suc j) (omega (arith, count_front x y b)))))

-- ---- what is admitted
pub all_before : {n : ℕ} {f : ℕ → Bool} → ((k : ℕ) → k < n → f k ≡ false) → n ≡ first_place n f
all_before h = none_left_lem (record { within = omega arith; none = h }) (omega arith)

module _ (b : List ℕ) where
  entry_letters_let_by : ((j : ℕ) → entry_letter b j ≤ 3) → Ok tt ≡ entry_letters_question b
  unfolding first_bad_entry entry_count
  entry_letters_let_by h = letters-good b (all_before (λ j l. le-ltb 3 (entry_letter b j) (h j))) (omega arith)

  entry_qubits_let_by : ((j : ℕ) → entry_qubit b j < 128) → Ok tt ≡ entry_qubits_question b
  unfolding first_high_entry entry_count qubits
  entry_qubits_let_by h = qubits-good b (all_before (λ j l. lt-leb 128 (entry_qubit b j) (h j))) (omega arith)

  once_let_by : ((q : ℕ) → occurrences b q ≤ 1) → Ok tt ≡ duplicate_question b
  unfolding duplicate_question smallest_duplicate
  once_let_by h = asked_yes (Duplicate _) (le-leb qubits _ (omega (arith, all_before {n = qubits} (λ q l. lt-leb 2 (occurrences b q) (omega (arith, h q))))))

entries-asked : {es : List Entry} {p room : ℕ} → p ≤ 3 → NamedOnce es → 129 ≤ room → Ok tt ≡ with_phase_questions p (entry_bytes es) room
unfolding with_phase_questions entry_questions
entries-asked {es} {p} {room} small once enough =
    let b : List ℕ = entry_bytes es in
    let pairs : Ok tt ≡ entry_letters_question b and_then entry_qubits_question b =
    passed (entry_letters_let_by b (letter-bytes es)) refl (entry_qubits_let_by b (qubit-bytes once)) in
    passed (passed (byte-good small) refl (passed (entries-even b (even-bytes es)) refl pairs)) refl
    (passed (once_let_by b (once-named once)) refl (has_room 129 room enough))

pub entries_admitted : {p : ℕ} {b : List ℕ} {room : ℕ} → EntriesGiven p b room → with_phase_questions p b room ≡ Ok tt
entries_admitted {p} {b} {room} g = ap (λ (e : List ℕ). with_phase_questions p e room) g.bytes ∙ sym (entries-asked g.phase g.once g.enough)

module _ (p : ℕ) (b : List ℕ) (room : ℕ) (h : with_phase_questions p b room ≡ Ok tt) where
  of_entries : entry_questions p b ≡ Ok tt
  unfolding with_phase_questions
  of_entries = done_first _ _ h

  of_all : duplicate_question b and_then room_question 129 room ≡ Ok tt
  unfolding with_phase_questions
  of_all = done_second (entry_questions p b) _ h

  phase-byte : p ≤ 3
  unfolding entry_questions
  phase-byte = byte_small p (done_first _ _ of_entries)

  even : length b % 2 ≡ 0
  unfolding entry_questions even_question
  even = eqb-true _ _ (ask_done _ _ (done_first _ _ (done_second (byte_question p) _ of_entries)))

  once : (q : ℕ) → q < 128 → occurrences b q ≤ 1
  unfolding duplicate_question smallest_duplicate qubits
  once q l =
      let all : 128 ≤ first_place 128 (λ k. leb 2 (occurrences b k)) = leb-true _ _ (ask_done _ _ (done_first _ _ of_all)) in
      omega (arith, leb-false 2 (occurrences b q) (first-before 128 (λ k. leb 2 (occurrences b k)) q (omega arith)))

  are_bytes : b ≡ entry_bytes (entries_of b)
  are_bytes = bytes_are b even (letters-small p b of_entries)

  pub admitted_entries : EntriesGiven p b room
  admitted_entries = record {
    phase = phase-byte;
    entries = entries_of b;
    bytes = are_bytes;
    once = named-once (entries_of b)
        (λ j l. rw (← are_bytes) (qubits-below p b of_entries j (omega (arith, ap entry_count are_bytes))))
        (λ q l. rw (← are_bytes) (once q l));
    enough = room-is 129 room (done_second (duplicate_question b) _ of_all);
  }

-- ---- the string that they name
less_suc : (a n : ℕ) → ltb (suc a) (suc n) ≡ ltb a n
less_suc a n = elim (dec_lt a n) [
  | yes l ↦ lt-ltb (suc a) (suc n) (omega arith) ∙ sym (lt-ltb a n l)
  | no l ↦ le-ltb (suc a) (suc n) (omega arith) ∙ sym (le-ltb a n (omega arith))
]

-- the first entry that names q, where there is one more in front
place_front : (x y : ℕ) (b : List ℕ) (q : ℕ) → entry_of (x ∷ y ∷ b) q ≡ cond (eqb y q) 0 (suc (entry_of b q))
unfolding entry_of first_place entry_qubit
place_front x y b q =
    ap (λ (n : ℕ). first_place n (λ j. eqb (entry_qubit (x ∷ y ∷ b) j) q)) (count_front x y b)
    ∙ ap (λ (f : ℕ → ℕ). cond (eqb y q) 0 (suc (first_place (entry_count b) (λ j. eqb (f j) q)))) (λ i j. qubit_front x y b j i)

letter-named : (p x y : ℕ) (b : List ℕ) (q : ℕ) → (entries_string p (x ∷ y ∷ b)).letters q ≡ cond (eqb y q) (letter_of x) ((entries_string p b).letters q)
unfolding entries_string entry_letter
letter-named p x y b q = ap₂ (λ (k n : ℕ). cond (ltb k n) (letter_of (entry_letter (x ∷ y ∷ b) k)) I) (place_front x y b q) (count_front x y b) ∙ go (eqb y q)
  where
    go : (t : Bool) → cond (ltb (cond t 0 (suc (entry_of b q))) (suc (entry_count b))) (letter_of (entry_letter (x ∷ y ∷ b) (cond t 0 (suc (entry_of b q))))) I
        ≡ cond t (letter_of x) (cond (ltb (entry_of b q) (entry_count b)) (letter_of (entry_letter b (entry_of b q))) I)
    go true = ap (λ c. cond c (letter_of x) I) (lt-ltb 0 (suc (entry_count b)) (omega arith))
    go false = ap₂ (λ c (l : ℕ). cond c (letter_of l) I) (less_suc (entry_of b q) (entry_count b)) (letter_front x y b (entry_of b q))

none_named : (p q : ℕ) → (entries_string p []).letters q ≡ I
unfolding entries_string entry_of entry_count first_place
none_named p q = refl

letters-named : (p : ℕ) (es : List Entry) (q : ℕ) → (entries_string p (entry_bytes es)).letters q ≡ letter_for es q
unfolding entry_bytes letter_for
letters-named p [] q = none_named p q
letters-named p (e ∷ es) q =
    letter-named p (letter_byte e.letter) e.qubit (entry_bytes es) q ∙ ap₂ (cond (eqb e.qubit q)) (letter-back e.letter) (letters-named p es q)

pub entries-string : (p : ℕ) (es : List Entry) → entries_string p (entry_bytes es) ≡ named_string (phase_of p) es
unfolding named_string entries_string
entries-string p es = string_ext _ _ refl (letters-named p es)

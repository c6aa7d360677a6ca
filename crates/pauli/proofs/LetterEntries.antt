-- The entries that name the letters of a string other than I, by rising qubit: each qubit is named once, and they name the string.
use Rattle.std.proofs.Common.{◌≡◌, ℕ, zero, suc, ◌+◌, ◌*◌, ◌/◌, ◌<◌, Bool, true, false, cond, eqb, ltb, leb, List, [], ◌∷◌, ◌++◌, length, get_or, sym, refl, ap, ◌∙◌, subst, ap₂, append-nil, arith, length-append, get_or-append-add, le-ltb, lt-ltb, eq-eqb, ne_eqb, le-leb, leb-false, Ok}
use native.Mathlib.Decide.{ℕ_discrete, dec_lt}
use lib.ListN.{get_or-append}
use lib.Seq.{get_or_at}
use Rattle.pauli_group.specs.Phase.{Phase}
use Rattle.pauli_group.specs.Letter.{Letter, I, X, Z, Y}
use Rattle.pauli_group.specs.PauliString.{PauliString, qubits, Within}
use Rattle.pauli_group.proofs.Strings.{string_ext}
use Rattle.pauli.specs.declared.refusal.Refusal.TheVariants.{Duplicate}
use Rattle.pauli.specs.Places.{first_place}
use Rattle.pauli.specs.Layout.{phase_byte, letter_byte, letter_of}
use Rattle.pauli.specs.Entries.{entry_count, entry_letter, entry_qubit, occurrences, entry_of, entries_string}
use Rattle.pauli.specs.declared.entries.Mark.{Mark}
use Rattle.pauli.specs.declared.entries.Mark.TheVariants.{Unnamed}
use Rattle.pauli.specs.Inside.Marks.{mark_once, mark_more, mark_to, is_twice, unmarked}
use Rattle.pauli.specs.Questions.{smallest_duplicate, duplicate_question}
use Rattle.pauli.proofs.Asking.{asked_yes}
use Rattle.pauli.proofs.EntryMarks.{mark_ext, mark_is, mark_twice, marked_letter}
use Rattle.pauli.proofs.Places.{first-is}
use Rattle.pauli.proofs.Records.{phase-back, letter-back}

-- the entry of one qubit, and those of the first n
abbrev pub entry_at : Letter → ℕ → List ℕ
entry_at I q = []
entry_at X q = letter_byte X ∷ q ∷ []
entry_at Z q = letter_byte Z ∷ q ∷ []
entry_at Y q = letter_byte Y ∷ q ∷ []

abbrev pub entries_to : ℕ → (ℕ → Letter) → List ℕ
entries_to zero f = []
entries_to (suc n) f = entries_to n f ++ entry_at (f n) n

-- ---- one entry more
module _ (e : List ℕ) (l k : ℕ) (even : length e ≡ 2 * entry_count e) where
  abbrev longer : List ℕ
  longer = e ++ (l ∷ k ∷ [])

  count-longer : entry_count longer ≡ suc (entry_count e)
  unfolding entry_count
  count-longer = ap (λ (n : ℕ). n / 2) (length-append e (l ∷ k ∷ [])) ∙ omega arith

  even-longer : length longer ≡ 2 * entry_count longer
  even-longer = length-append e (l ∷ k ∷ []) ∙ omega (arith, count-longer)

  letter-old : (j : ℕ) → j < entry_count e → entry_letter longer j ≡ entry_letter e j
  unfolding entry_letter
  letter-old j h = get_or-append e (l ∷ k ∷ []) 0 (2 * j) (omega arith)

  letter_new : entry_letter longer (entry_count e) ≡ l
  unfolding entry_letter
  letter_new = get_or_at e l (k ∷ []) 0 (2 * entry_count e) even

  qubit-old : (j : ℕ) → j < entry_count e → entry_qubit longer j ≡ entry_qubit e j
  unfolding entry_qubit
  qubit-old j h = get_or-append e (l ∷ k ∷ []) 0 (2 * j + 1) (omega arith)

  qubit_new : entry_qubit longer (entry_count e) ≡ k
  unfolding entry_qubit
  qubit_new = ap (λ (n : ℕ). get_or longer (n + 1) 0) (sym even) ∙ get_or-append-add e (l ∷ k ∷ []) 1 0

-- ---- marks
abbrev mark_of : List ℕ → ℕ → Mark
mark_of e q = mark_to (λ j. eqb (entry_qubit e j) q) (entry_letter e) (entry_count e)

mark_longer : (e : List ℕ) (l k q : ℕ) → length e ≡ 2 * entry_count e
    → mark_of (e ++ (l ∷ k ∷ [])) q ≡ cond (eqb k q) (mark_more (mark_of e q) l) (mark_of e q)
unfolding mark_to
mark_longer e l k q even =
    ap (mark_to (λ j. eqb (entry_qubit (e ++ (l ∷ k ∷ [])) j) q) (entry_letter (e ++ (l ∷ k ∷ [])))) (count-longer e l k even)
    ∙ (λ i. cond (eqb (qubit_new e l k even i) q) (mark_more (old i) (letter_new e l k even i)) (old i))
  where
    old : mark_to (λ j. eqb (entry_qubit (e ++ (l ∷ k ∷ [])) j) q) (entry_letter (e ++ (l ∷ k ∷ []))) (entry_count e) ≡ mark_of e q
    old = mark_ext (entry_count e) _ _ _ _ (λ j h. ap (λ (x : ℕ). eqb x q) (qubit-old e l k even j h)) (letter-old e l k even)

-- the mark of a letter
abbrev letter_mark : Letter → Mark
letter_mark I = Unnamed
letter_mark X = mark_once (letter_byte X)
letter_mark Z = mark_once (letter_byte Z)
letter_mark Y = mark_once (letter_byte Y)

-- what is known of the entries of n qubits
record Listing (n : ℕ) (f : ℕ → Letter) (e : List ℕ) : Type 0 where
  even : length e ≡ 2 * entry_count e
  mark : (q : ℕ) → mark_of e q ≡ cond (ltb q n) (letter_mark (f q)) Unnamed

-- the mark of qubit q, where qubit n is looked at too
mark_below : (n q : ℕ) (m : Mark) → (q ≡ n → m ≡ Unnamed) → cond (ltb q n) m Unnamed ≡ cond (ltb q (suc n)) m Unnamed
mark_below n q m h = elim (dec_lt q n) [
  | yes l ↦ ap (λ b. cond b m Unnamed) (lt-ltb q n l ∙ sym (lt-ltb q (suc n) (omega arith)))
  | no l ↦ elim (ℕ_discrete q n) [
    | yes e ↦ ap (λ b. cond b m Unnamed) (le-ltb q n (omega arith)) ∙ sym (h e) ∙ sym (ap (λ b. cond b m Unnamed) (lt-ltb q (suc n) (omega arith)))
    | no e ↦ ap (λ b. cond b m Unnamed) (le-ltb q n (omega arith) ∙ sym (le-ltb q (suc n) (omega arith)))
  ]
]

mark_at_last : (n q l : ℕ) (m : Mark) → (q ≡ n → m ≡ mark_once l)
    → cond (eqb n q) (mark_more (cond (ltb q n) m Unnamed) l) (cond (ltb q n) m Unnamed) ≡ cond (ltb q (suc n)) m Unnamed
unfolding mark_more
mark_at_last n q l m h = elim (ℕ_discrete q n) [
  | yes e ↦ ap₂ (λ a b. cond a (mark_more (cond b m Unnamed) l) (cond b m Unnamed)) (eq-eqb n q (sym e)) (le-ltb q n (omega arith))
      ∙ sym (h e) ∙ sym (ap (λ b. cond b m Unnamed) (lt-ltb q (suc n) (omega arith)))
  | no e ↦ ap (λ a. cond a (mark_more (cond (ltb q n) m Unnamed) l) (cond (ltb q n) m Unnamed)) (ne_eqb n q (λ d. e (sym d))) ∙ mark_below n q m (λ d. absurd (e d))
]

listing_skip : {n : ℕ} {f : ℕ → Letter} {e : List ℕ} → f n ≡ I → Listing n f e → Listing (suc n) f e
listing_skip {n} {f} {e} h m = record {
  even = m.even;
  mark = λ q. m.mark q ∙ mark_below n q (letter_mark (f q)) (λ d. ap (λ (k : ℕ). letter_mark (f k)) d ∙ ap letter_mark h);
}

listing_one : {n : ℕ} {f : ℕ → Letter} {e : List ℕ} (l : ℕ) → letter_mark (f n) ≡ mark_once l → Listing n f e → Listing (suc n) f (e ++ (l ∷ n ∷ []))
listing_one {n} {f} {e} l h m = record {
  even = even-longer e l n m.even;
  mark = λ q. mark_longer e l n q m.even ∙ ap (λ (x : Mark). cond (eqb n q) (mark_more x l) x) (m.mark q)
      ∙ mark_at_last n q l (letter_mark (f q)) (λ d. ap (λ (k : ℕ). letter_mark (f k)) d ∙ h);
}

listing_letter : {n : ℕ} {f : ℕ → Letter} {e : List ℕ} (l : Letter) → f n ≡ l → Listing n f e → Listing (suc n) f (e ++ entry_at l n)
listing_letter {n} {f} {e} I h m = subst (Listing (suc n) f) (sym (append-nil e)) (listing_skip h m)
listing_letter X h m = listing_one (letter_byte X) (ap letter_mark h) m
listing_letter Z h m = listing_one (letter_byte Z) (ap letter_mark h) m
listing_letter Y h m = listing_one (letter_byte Y) (ap letter_mark h) m

no_entries : (f : ℕ → Letter) → Listing 0 f []
unfolding entry_count mark_to
no_entries f = record { even = refl; mark = λ q. sym (ap (λ b. cond b (letter_mark (f q)) Unnamed) (le-ltb q 0 (omega arith))) }

listing : (n : ℕ) (f : ℕ → Letter) → Listing n f (entries_to n f)
listing zero f = no_entries f
listing (suc n) f = listing_letter (f n) refl (listing n f)

-- ---- the string that they name
not_twice : (b : Bool) (l : Letter) → is_twice (cond b (letter_mark l) Unnamed) ≡ false
unfolding mark_once is_twice letter_byte
not_twice true I = refl
not_twice true X = refl
not_twice true Z = refl
not_twice true Y = refl
not_twice false l = refl

mark_letter : (l : Letter) → unmarked (letter_mark l) ≡ letter_byte l
unfolding mark_once unmarked letter_byte
mark_letter I = refl
mark_letter X = refl
mark_letter Z = refl
mark_letter Y = refl

module _ {n : ℕ} {f : ℕ → Letter} {e : List ℕ} (m : Listing n f e) where
  once : (q : ℕ) → leb 2 (occurrences e q) ≡ false
  unfolding occurrences
  once q = sym (mark_twice (mark_is (λ j. eqb (entry_qubit e j) q) (entry_letter e) (entry_count e))) ∙ ap is_twice (m.mark q) ∙ not_twice (ltb q n) (f q)

  named-once : duplicate_question e ≡ Ok tt
  unfolding duplicate_question smallest_duplicate
  named-once = sym (asked_yes (Duplicate _) (le-leb qubits _ (omega (arith, none))))
    where
      none : qubits ≡ first_place qubits (λ q. leb 2 (occurrences e q))
      none = first-is qubits _ qubits (omega arith) (λ q l. once q) (λ l. absurd (never l))
        where
          never : qubits < qubits → ⊥
          never l = omega arith

  letter-named : (p q : ℕ) → letter_byte ((entries_string p e).letters q) ≡ unmarked (cond (ltb q n) (letter_mark (f q)) Unnamed)
  unfolding entries_string entry_of occurrences
  letter-named p q =
      sym (marked_letter (entry_letter e) (entry_count e) _ _ _ (leb-false 2 (occurrences e q) (once q)) (mark_is (λ j. eqb (entry_qubit e j) q) (entry_letter e) (entry_count e)))
      ∙ ap unmarked (m.mark q)

letters_equal : (a b : Letter) → letter_byte a ≡ letter_byte b → a ≡ b
letters_equal a b h = sym (letter-back a) ∙ ap letter_of h ∙ letter-back b

pub entries-once : (n : ℕ) (f : ℕ → Letter) → duplicate_question (entries_to n f) ≡ Ok tt
entries-once n f = named-once (listing n f)

entries-phase : (p : Phase) (e : List ℕ) → (entries_string (phase_byte p) e).phase ≡ p
unfolding entries_string
entries-phase p e = phase-back p

pub entries_name : (n : ℕ) (s : PauliString) → Within n s → entries_string (phase_byte s.phase) (entries_to n s.letters) ≡ s
entries_name n s h = string_ext _ s (entries-phase s.phase (entries_to n s.letters)) letter-is
  where
    letter-is : (q : ℕ) → (entries_string (phase_byte s.phase) (entries_to n s.letters)).letters q ≡ s.letters q
    letter-is q = letters_equal _ _ (letter-named (listing n s.letters) (phase_byte s.phase) q ∙ elim (dec_lt q n) [
      | yes l ↦ ap (λ b. unmarked (cond b (letter_mark (s.letters q)) Unnamed)) (lt-ltb q n l) ∙ mark_letter (s.letters q)
      | no l ↦ ap (λ b. unmarked (cond b (letter_mark (s.letters q)) Unnamed)) (le-ltb q n (omega arith)) ∙ mark_letter I ∙ sym (ap letter_byte (h q (omega arith)))
    ])

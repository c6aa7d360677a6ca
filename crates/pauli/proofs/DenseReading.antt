-- Dense text: its end, its letters, and the record that is written from them.
use Rattle.std.proofs.Common.{◌≡◌, ℕ, suc, ◌+◌, ◌-◌, ◌<◌, ◌≤◌, max, Bool, true, false, Option, not, reverse, ◌||◌, ltb, List, ◌∷◌, ◌++◌, length, get_or, take, drop, set, sym, refl, ap, ◌∙◌, ap₂, append-nil, add-one, arith, length-drop, drop_of_length-le, length-take, take_all, drop-cons, rules, le-ltb, lt-ltb, ne_eqb, Ok, Err}
use Rattle.std.specs.Option.{is_none}
use Rattle.std.proofs.lemmas.List.{get_or-reverse, length-reverse}
use Rattle.pauli_group.specs.PauliString.{qubits}
use Rattle.pauli.specs.declared.refusal.Refusal.{Refusal}
use Rattle.pauli.specs.declared.refusal.Refusal.TheVariants.{NotLetter, TextQubit}
use Rattle.pauli.specs.declared.text.Head.{Head}
use Rattle.pauli.specs.Answers.{written, Written, Outcome}
use Rattle.pauli.specs.Places.{listed, first_place}
use Rattle.pauli.specs.Layout.{phase_byte, encode_string, string_record}
use Rattle.pauli.specs.Questions.{◌and_then◌, room_question}
use Rattle.pauli.specs.Inside.Reading.{EndRead, HeadRead, letter_if, letters_named, DenseAt}
use Rattle.pauli.specs.Inside.Marks.{RecordFits}
use Rattle.pauli.specs.Text.{is_space, is_identity, letter_named, text_end, text_phase, body_start, ascii_question, dense_body, dense_letter, letter_questions, dense_questions, dense_string, from_dense_questions, dense_record}
use Rattle.pauli.proofs.Answers.{written-done}
use Rattle.pauli.proofs.Asking.{own_done, own_not, first_done, first_not, and_then_assoc, asked_yes, asked_no, refused, passed, room-is, record-bytes}
use Rattle.pauli.proofs.Places.{first_of, first_ext, length-listed, get_d_listed, listed_ext, Filled, fill, fill_more, filled_none, filled_step, filled_length, filled_room}
use Rattle.pauli.proofs.Records.{letter_there}
use Rattle.pauli.proofs.SparseReading.{letter-small}
use Rattle.pauli.proofs.TextBytes.{named_lacks, named_has}

-- ---- I, i and 1
pub identity-not : {c : ℕ} → (c ≡ 73 → ⊥) → (c ≡ 105 → ⊥) → (c ≡ 49 → ⊥) → false ≡ is_identity c
unfolding is_identity
identity-not {c} p q r = sym (λ i. (ne_eqb c 73 p i || ne_eqb c 105 q i) || ne_eqb c 49 r i)

-- ---- the trimmed end
pub end_found : (t : List ℕ) {r k : ℕ} → k ≡ first_of (λ c. not (is_space c)) (reverse t) → r ≡ length t - k → EndRead t r
unfolding text_end
end_found t {r} {k} e h = record { is = h ∙ ap (λ (j : ℕ). length t - j) (e ∙ ap₂ first_place long refl ∙ first_ext (length t) _ _ back); within = omega arith }
  where
    long : length (reverse t) ≡ length t
    long = length-reverse t

    back : (k : ℕ) → k < length t → not (is_space (get_or (reverse t) k 0)) ≡ not (is_space (get_or t (length t - (k + 1)) 0))
    back k l = ap (λ (c : ℕ). not (is_space c)) (get_or-reverse t k 0 l ∙ ap (λ (j : ℕ). get_or t j 0) same)
      where
        same : length t - 1 - k ≡ length t - (k + 1)
        same = omega arith

-- ---- one letter
pub letter-identity : (c k q : ℕ) {b : Bool} → b ≡ is_identity c → b ≡ true → Ok tt ≡ dense_letter c k q
unfolding dense_letter
letter-identity c k q e h =
    let is : is_identity c ≡ true = sym e ∙ h in
    passed (asked_yes (NotLetter k) (ap (λ x. x || ltb 0 (letter_named c)) is)) refl (asked_yes (TextQubit k) (ap (λ x. x || ltb q qubits) is))

module _ (c k q : ℕ) {b : Bool} {r : Option ℕ} (e : b ≡ is_identity c) (h : b ≡ false) (el : r ≡ letter_if (letter_named c)) where
  not-identity : is_identity c ≡ false
  not-identity = sym e ∙ h

  pub letter_unknown : is_none r ≡ true → Err (NotLetter k) ≡ dense_letter c k q
  unfolding dense_letter
  letter_unknown z =
      let none : letter_named c ≡ 0 = named_lacks (letter_named c) (ap is_none (sym el) ∙ z) in
      refused _ (asked_no (NotLetter k) (ap₂ ◌||◌ not-identity (le-ltb 0 (letter_named c) (omega arith)))) refl

  known : is_none r ≡ false → (is_identity c || ltb 0 (letter_named c)) ≡ true
  known z =
      let some : letter_named c ≡ 0 → ⊥ = named_has (letter_named c) (ap is_none (sym el) ∙ z) in
      ap₂ ◌||◌ not-identity (lt-ltb 0 (letter_named c) (omega arith))

  pub letter_in_lem : is_none r ≡ false → q < 128 → Ok tt ≡ dense_letter c k q
  unfolding dense_letter qubits
  letter_in_lem z s = passed (asked_yes (NotLetter k) (known z)) refl (asked_yes (TextQubit k) (ap₂ ◌||◌ not-identity (lt-ltb q 128 s)))

  pub letter-out : is_none r ≡ false → 128 ≤ q → Err (TextQubit k) ≡ dense_letter c k q
  unfolding dense_letter qubits
  letter-out z s = passed (asked_yes (NotLetter k) (known z)) refl (asked_no (TextQubit k) (ap₂ ◌||◌ not-identity (le-ltb q 128 s)))

pub ruleset dense_letters = (letter-identity, letter_unknown, letter_in_lem, letter-out, rules)

-- ---- letter by letter, before place i
pub record Lettered (b : List ℕ) (o i : ℕ) : Type 0 where
  pub within : i ≤ length b
  pub rest : letter_questions o 0 b ≡ letter_questions (o + i) i (drop i b)

pub lettered-none : (b : List ℕ) (o : ℕ) → Lettered b o 0
lettered-none b o = let e : o ≡ o + 0 = omega arith in record { within = omega arith; rest = ap (λ (k : ℕ). letter_questions k 0 b) e }

letters_here : (b : List ℕ) (k i : ℕ) → i < length b
    → letter_questions k i (drop i b) ≡ dense_letter (get_or b i 0) k i and_then letter_questions (suc k) (suc i) (drop (suc i) b)
unfolding letter_questions
letters_here b k i h = ap (letter_questions k i) (drop-cons b i 0 h)

pub lettered-more : {b : List ℕ} {o i : ℕ} {r : Outcome} → Lettered b o i → i < length b → r ≡ dense_letter (get_or b i 0) (o + i) i
    → r ≡ Ok tt → Lettered b o (i + 1)
lettered-more {b} {o} {i} m h e d =
    let next : suc (o + i) ≡ o + (i + 1) = omega arith in
    record {
      within = omega arith;
      rest = m.rest ∙ letters_here b (o + i) i h ∙ sym (first_done (own_done e d) refl)
          ∙ ap₂ (λ (k j : ℕ). letter_questions k j (drop j b)) next (sym (add-one i));
    }

pub lettered-refused : {b : List ℕ} {o i : ℕ} {r : Outcome} {x : Refusal} → Lettered b o i → i < length b
    → r ≡ dense_letter (get_or b i 0) (o + i) i → r ≡ Err x
    → Err x ≡ letter_questions o 0 b
lettered-refused {b} {o} {i} m h e d = first_not _ (own_not e d) ∙ sym (m.rest ∙ letters_here b (o + i) i h)

pub lettered_all : {b : List ℕ} {o i : ℕ} → Lettered b o i → length b ≤ i → Ok tt ≡ letter_questions o 0 b
unfolding letter_questions
lettered_all {b} {o} {i} m h = sym (m.rest ∙ ap (letter_questions (o + i) i) (drop_of_length-le b h))

pub ruleset letterings = (lettered-none, lettered-more, lettered-refused, lettered_all, rules)

-- ---- the letters written
length-named : (n : ℕ) (b : List ℕ) → length (letters_named n b) ≡ n
unfolding letters_named
length-named n b = length-listed n _

pub named-at : (n : ℕ) (b : List ℕ) (i : ℕ) {x : ℕ} → x ≡ letter_named (get_or b i 0) → i < n → x ≡ get_or (letters_named n b) i 0
unfolding letters_named
named-at n b i ex h = ex ∙ sym (get_d_listed n _ i 0 h)

pub named_none : (b d : List ℕ) → Filled (letters_named (length d) b) d (length d) 0 d
named_none b d = filled_none (omega (arith, length-named (length d) b)) (omega arith)

pub named_all : (b d : List ℕ) {i : ℕ} → i ≤ length d → length d ≤ i → fill (letters_named (length d) b) d i ≡ letters_named (length d) b
named_all b d h k =
    ap₂ ◌++◌ (take_all _ (letters_named (length d) b) (omega (arith, length-named (length d) b))) (drop_of_length-le d (omega arith))
    ∙ append-nil (letters_named (length d) b)

pub ruleset named_fills = (named-at, named_none, named_all, fill_more, filled_step, filled_length, filled_room, rules)

-- ---- the questions in their order
module _ (t b : List ℕ) (k : ℕ) (at : DenseAt t b k) where
  letters_are : letter_questions k 0 b ≡ letter_questions (body_start t) 0 (dense_body t)
  letters_are = ap₂ (λ (j : ℕ) (s : List ℕ). letter_questions j 0 s) at.place at.body

  abbrev chain : ℕ → Outcome
  chain room = ascii_question t and_then letter_questions k 0 b and_then room_question 129 room

  chain_is : (room : ℕ) → chain room ≡ from_dense_questions t room
  unfolding from_dense_questions dense_questions
  chain_is room =
      ap (λ q. ascii_question t and_then q and_then room_question 129 room) letters_are
      ∙ sym (and_then_assoc (ascii_question t) (letter_questions (body_start t) 0 (dense_body t)) (room_question 129 room))

  pub dense-asked : (room : ℕ) {r : Outcome} → r ≡ chain room → r ≡ from_dense_questions t room
  dense-asked room e = e ∙ chain_is room

pub dense_not_ascii : (t : List ℕ) (room : ℕ) {x : Refusal} → Err x ≡ ascii_question t → Err x ≡ from_dense_questions t room
unfolding from_dense_questions dense_questions
dense_not_ascii t room h = first_not _ (first_not _ h)

-- ---- the record
pub dense-room : {d : List ℕ} → Ok tt ≡ room_question 129 (length d) → RecordFits d
dense-room {d} h = record { room = room-is 129 (length d) (sym h) }

named-record : (t b : List ℕ) (k p : ℕ) → DenseAt t b k → p ≡ phase_byte (text_phase t) → p ∷ letters_named 128 b ≡ dense_record t
unfolding dense_record string_record encode_string dense_string letters_named qubits
named-record t b k p at ep =
    ap₂ (λ (x : ℕ) (l : List ℕ). x ∷ l) ep
    (ap (λ (s : List ℕ). listed 128 (λ q. letter_named (get_or s q 0))) at.body
    ∙ listed_ext 128 _ _ (λ q l. sym (letter_there (letter_named (get_or (dense_body t) q 0)) (letter-small (get_or (dense_body t) q 0)))))

dense-record : (t d : List ℕ) → dense_record t ++ drop 129 d ≡ written (Ok tt) (dense_record t) d
unfolding dense_record
dense-record t d = record-bytes (dense_string t) d

pub dense-bytes : (t b d : List ℕ) (k p : ℕ) {e : List ℕ} → DenseAt t b k → p ≡ phase_byte (text_phase t) → Ok tt ≡ from_dense_questions t (length d)
    → e ≡ p ∷ letters_named 128 b ++ drop 129 d → Written (from_dense_questions t (length d)) (dense_record t) d e (Ok tt)
dense-bytes t b d k p at ep h w = written-done h (w ∙ ap (λ (l : List ℕ). l ++ drop 129 d) (named-record t b k p at ep) ∙ dense-record t d)

-- the body, from the prefix to the trimmed end
pub dense-at : {t : List ℕ} {h : Head} {k e : ℕ} → HeadRead t h → EndRead t k → e ≡ max k h.at → length t < 18446744073709551616
    → DenseAt t (take (e - h.at) (drop h.at t)) h.at
unfolding dense_body
dense-at {t} {h} {k} {e} head end m big =
    let count : e - h.at ≡ text_end t - h.at = omega (arith, end.is) in
    let whole : length (take (e - h.at) (drop h.at t)) ≤ length t - h.at = omega (arith, length-take (e - h.at) (drop h.at t), length-drop h.at t) in
    record {
      place = head.place;
      body = ap (λ (n : ℕ). take n (drop h.at t)) count ∙ ap (λ (j : ℕ). take (text_end t - j) (drop j t)) head.place;
      fits = omega (arith, head.within);
    }

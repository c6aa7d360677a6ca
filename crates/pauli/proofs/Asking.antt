-- Questions put in order: what a question that lets by or refuses says of the whole, and what the whole says of each.
use Rattle.std.proofs.Common.{◌≡◌, ℕ, ◌+◌, ◌<◌, ◌≤◌, Bool, true, false, eqb, ltb, List, ◌++◌, length, get_or, drop, sym, refl, ap, ◌∙◌, ap₂, arith, rules, ltb-false, ltb-true, le-ltb, lt-ltb, eq-eqb, ne_eqb, eqb-true, le-leb, leb-true, Ok, Err, IsErrAnd, Break, Continue}
use borrow.Author.Tests.{lt-leb}
use Rattle.pauli_group.specs.PauliString.{PauliString, qubits}
use Rattle.pauli.specs.declared.refusal.Refusal.{Refusal}
use Rattle.pauli.specs.declared.refusal.Refusal.TheVariants.{Length, BadByte, Qubit, Room}
use Rattle.std.specs.Result.{result_from_control_flow}
use Rattle.pauli.proofs.Answers.{exit-is, by_answers}
use Rattle.pauli.specs.Answers.{written, Outcome}
use Rattle.pauli.specs.Layout.{WellFormed, string_record, string_of}
use Rattle.pauli.specs.Questions.{ask, ◌and_then◌, first_bad, bytes_question, byte_question, string_questions, qubit_question, room_question}
use Rattle.pauli.proofs.Places.{first-is, first-before}
use Rattle.pauli.proofs.Records.{encode_formed, encode_decode}

-- ---- one question
pub asked_yes : {b : Bool} (r : Refusal) → b ≡ true → Ok tt ≡ ask b r
unfolding ask
asked_yes r e = sym (ap (λ b. ask b r) e)

pub asked_no : {b : Bool} (r : Refusal) → b ≡ false → Err r ≡ ask b r
unfolding ask
asked_no r e = sym (ap (λ b. ask b r) e)

pub ask_done : (b : Bool) (r : Refusal) → ask b r ≡ Ok tt → b ≡ true
unfolding ask
ask_done true r e = refl
ask_done false r e = cc

pub never_done : {x : Refusal} → ◌≡◌ {A = Outcome} (Err x) (Ok tt) → ⊥
never_done e = let z : ◌≡◌ {A = ℕ} 0 1 = cc in omega arith

-- ---- questions in order: what one of them answered says of all from it on
pub own_not : {r q : Outcome} {x : Refusal} → r ≡ q → r ≡ Err x → Err x ≡ q
own_not p h = sym h ∙ p

pub own_done : {r q : Outcome} → r ≡ q → r ≡ Ok tt → Ok tt ≡ q
own_done p h = sym h ∙ p

-- at a `?`, which gives on a refusal as it is
pub branch_done : {r q : Outcome} {b : _} {u : Unit {0}} → r ≡ q → r ≡ result_from_control_flow b → b ≡ Continue u → Ok tt ≡ q
branch_done p h k = sym (h ∙ ap result_from_control_flow k) ∙ p

pub exit_not : (r : Outcome) {q : Outcome} {x : Refusal} → Err x ≡ q → IsErrAnd r (λ e. e ≡ x) → r ≡ q
exit_not r h e = exit-is r e ∙ h

pub first_not : {q : Outcome} {x : Refusal} (y : Outcome) → Err x ≡ q → Err x ≡ q and_then y
unfolding ◌and_then◌
first_not y h = ap (λ z. z and_then y) h

pub first_done : {q y z : Outcome} → Ok tt ≡ q → z ≡ y → z ≡ q and_then y
unfolding ◌and_then◌
first_done {y = y} h e = e ∙ ap (λ z. z and_then y) h

-- the same as equations
pub then_ok : {q : Outcome} (y : Outcome) → q ≡ Ok tt → q and_then y ≡ y
unfolding ◌and_then◌
then_ok y h = ap (λ z. z and_then y) h

pub then_err : {q : Outcome} {x : Refusal} (y : Outcome) → q ≡ Err x → q and_then y ≡ Err x
unfolding ◌and_then◌
then_err y h = ap (λ z. z and_then y) h

-- one question by its test
pub ruleset by_tests = (asked_yes, asked_no)

pub ruleset by_questions = (then_ok, then_err, by_answers)

pub ruleset in_order = (branch_done, exit_not, first_not, first_done)

-- ---- two questions in order
pub refused : {r q : Outcome} {x : Refusal} (y : Outcome) → r ≡ q → r ≡ Err x → r ≡ q and_then y
unfolding ◌and_then◌
refused y p h = h ∙ ap (λ z. z and_then y) (sym h ∙ p)

pub passed : {r q y z : Outcome} → r ≡ q → r ≡ Ok tt → z ≡ y → z ≡ q and_then y
unfolding ◌and_then◌
passed {r} {q} {y} p h e = e ∙ ap (λ x. x and_then y) (sym h ∙ p)

pub then_second : {a : Outcome} (b : Outcome) → a ≡ Ok tt → b ≡ a and_then b
then_second b e = passed refl e refl

pub then_asked : {a b r x y : Outcome} → r ≡ a and_then b → a ≡ x → b ≡ y → r ≡ x and_then y
then_asked e p q = e ∙ ap₂ ◌and_then◌ p q

pub done_both : (q y : Outcome) → q ≡ Ok tt → y ≡ Ok tt → q and_then y ≡ Ok tt
done_both q y h k = sym (then_second y h) ∙ k

pub done_first : (q y : Outcome) → q and_then y ≡ Ok tt → q ≡ Ok tt
unfolding ◌and_then◌
done_first (Ok tt) y e = refl
done_first (Err r) y e = e

pub done_second : (q y : Outcome) → q and_then y ≡ Ok tt → y ≡ Ok tt
unfolding ◌and_then◌
done_second (Ok tt) y e = e
done_second (Err r) y e = cc

pub and_then_assoc : (a b c : Outcome) → (a and_then b) and_then c ≡ a and_then b and_then c
unfolding ◌and_then◌
and_then_assoc (Ok tt) b c = refl
and_then_assoc (Err r) b c = refl

pub and_then_done : (q : Outcome) → q ≡ q and_then Ok tt
unfolding ◌and_then◌
and_then_done (Ok tt) = refl
and_then_done (Err r) = refl

-- ---- a byte, a qubit, room
pub byte_bad : {b : ℕ} → 3 < b → Err (BadByte 0) ≡ byte_question b
unfolding byte_question
byte_bad {b} h = asked_no (BadByte 0) (lt-leb b 3 h)

pub byte-good : {b : ℕ} → b ≤ 3 → Ok tt ≡ byte_question b
unfolding byte_question
byte-good {b} h = asked_yes (BadByte 0) (le-leb b 3 h)

pub byte_small : (b : ℕ) → byte_question b ≡ Ok tt → b ≤ 3
unfolding byte_question
byte_small b e = leb-true b 3 (ask_done _ _ e)

pub qubit_in : {q : ℕ} → q < 128 → Ok tt ≡ qubit_question q
unfolding qubit_question qubits
qubit_in {q} h = asked_yes (Qubit q) (lt-ltb q 128 h)

pub qubit-out : {q : ℕ} → 128 ≤ q → Err (Qubit q) ≡ qubit_question q
unfolding qubit_question qubits
qubit-out {q} h = asked_no (Qubit q) (le-ltb q 128 h)

pub qubit-below : (q : ℕ) → qubit_question q ≡ Ok tt → q < 128
unfolding qubit_question qubits
qubit-below q e = ltb-true q 128 (ask_done _ _ e)

pub no_room : (needed room : ℕ) → room < needed → Err Room ≡ room_question needed room
unfolding room_question
no_room needed room h = asked_no Room (lt-leb needed room h)

pub has_room : (needed room : ℕ) → needed ≤ room → Ok tt ≡ room_question needed room
unfolding room_question
has_room needed room h = asked_yes Room (le-leb needed room h)

pub done_room : (q : Outcome) (needed room : ℕ) → q ≡ Ok tt → needed ≤ room → q and_then room_question needed room ≡ Ok tt
done_room q needed room h l = done_both q _ h (sym (has_room needed room l))

pub room-is : (needed room : ℕ) → room_question needed room ≡ Ok tt → needed ≤ room
unfolding room_question
room-is needed room e = leb-true needed room (ask_done _ _ e)

-- ---- a string record
pub string-short : (s : List ℕ) → (length s ≡ 129 → ⊥) → Err Length ≡ string_questions s
unfolding string_questions
string-short s h = refused (bytes_question 0 s) (asked_no Length (ne_eqb (length s) 129 h)) refl

zero_add : (k : ℕ) → 0 + k ≡ k
zero_add k = omega arith

pub string_bad : (s : List ℕ) {k : ℕ} → length s ≡ 129 → k ≡ first_bad s → first_bad s < length s → Err (BadByte k) ≡ string_questions s
unfolding string_questions bytes_question
string_bad s {k} l e h =
    passed (asked_yes Length (eq-eqb (length s) 129 l)) refl
    (ap (λ j. Err (BadByte j)) (e ∙ sym (zero_add (first_bad s))) ∙ asked_no (BadByte (0 + first_bad s)) (lt-leb (length s) (first_bad s) (omega arith)))

pub string-good : (s : List ℕ) → length s ≡ 129 → (first_bad s < length s → ⊥) → Ok tt ≡ string_questions s
unfolding string_questions bytes_question
string-good s l h =
    passed (asked_yes Length (eq-eqb (length s) 129 l)) refl (asked_yes (BadByte (0 + first_bad s)) (le-leb (length s) (first_bad s) (omega arith)))

pub ruleset questions = (
  in_order,
  then_asked,
  refused,
  passed,
  byte_bad,
  byte-good,
  qubit_in,
  qubit-out,
  no_room,
  has_room,
  string-short,
  string_bad,
  string-good,
  rules,
)

-- ---- what is admitted: a string's questions let by exactly the bytes of some string
pub string-length : (s : List ℕ) → string_questions s ≡ Ok tt → length s ≡ 129
unfolding string_questions
string-length s e = eqb-true _ _ (ask_done _ _ (done_first _ _ e))

string_bytes_lem : (s : List ℕ) → string_questions s ≡ Ok tt → length s ≤ first_bad s
unfolding string_questions bytes_question
string_bytes_lem s e = leb-true _ _ (ask_done _ _ (done_second (ask (eqb (length s) 129) Length) _ e))

pub string-formed : (s : List ℕ) → string_questions s ≡ Ok tt → WellFormed 128 s
unfolding first_bad
string-formed s e = record {
  long = string-length s e;
  small = λ k h. ltb-false 3 (get_or s k 0) (first-before (length s) (λ j. ltb 3 (get_or s j 0)) k (omega (arith, string_bytes_lem s e)));
}

pub formed-good : (s : List ℕ) → WellFormed 128 s → string_questions s ≡ Ok tt
unfolding first_bad
formed-good s f = sym (string-good s f.long (λ l. omega (arith, first-is (length s) (λ j. ltb 3 (get_or s j 0)) (length s) (omega arith) (λ k h. le-ltb 3 (get_or s k 0) (f.small k h)) (λ h. absurd (never h)))))
  where
    never : length s < length s → ⊥
    never h = omega arith

pub strings_admitted : (s : PauliString) → string_questions (string_record s) ≡ Ok tt
unfolding string_record qubits
strings_admitted s = formed-good _ (encode_formed 128 s)

pub admitted_strings : (b : List ℕ) → string_questions b ≡ Ok tt → b ≡ string_record (string_of b)
unfolding string_record string_of qubits
admitted_strings b e = sym (encode_decode (string-formed b e))

-- ---- a record written over the front of a destination
pub record-length : (s : PauliString) → length (string_record s) ≡ 129
unfolding string_record qubits
record-length s = (encode_formed 128 s).long

pub record-bytes : (s : PauliString) (d : List ℕ) → string_record s ++ drop 129 d ≡ written (Ok tt) (string_record s) d
unfolding written
record-bytes s d = ap (λ (j : ℕ). string_record s ++ drop j d) (sym (record-length s))

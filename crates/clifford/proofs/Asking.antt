-- The questions put to tableaux: what is let by, and what an answer says of the bytes.
use Rattle.std.proofs.Common.{inl, inr, ◌≡◌, ℕ, zero, suc, ◌+◌, ◌-◌, ◌*◌, ◌<◌, ◌≤◌, min, Bool, true, false, cond, not, ltb, leb, List, [], ◌∷◌, length, get_or, sym, refl, ap, ◌∙◌, ap₂, not-suc-le-zero, add-one, arith, rules, ltb-false, ltb-true, le-ltb, lt-ltb, eq-eqb, ne_eqb, eqb-true, le-leb, leb-true, Ok, Err, subst, Option, Some, None, IfSome, unwrap_or, IsErrAnd}
use native.Mathlib.Decide.{ℕ_discrete}
use Rattle.std.specs.Option.{option_or}
use borrow.Author.Tests.{lt-leb, not-false}
use Rattle.pauli_group.specs.PauliString.{qubits, weight_to}
use Rattle.clifford_group.specs.Tableau.{Tableau, Proper}
use Rattle.pauli.specs.declared.refusal.Refusal.{Refusal}
use Rattle.pauli.specs.declared.refusal.Refusal.TheVariants.{Width, Length, BadByte, Slot, FalseWeight}
use Rattle.pauli.specs.Places.{first_place}
use Rattle.pauli.specs.Questions.{ask, ◌and_then◌, first_bad, bytes_question}
use Rattle.pauli.proofs.Asking.{passed, refused, asked_yes, asked_no, ask_done, exit_not, first_not, first_done, done_first, done_second, questions}
use Rattle.pauli.proofs.Places.{first-is, first-before, FirstSeen, first_start, first_found, first_held, first_past, first_end}
use Rattle.clifford.specs.Layout.{weight_place, letter_place, letters_of, decode_row, record_length, row_length, row_offset, row_part, tableau_record, width_of, tableau_of, FormedRow, FormedTableau}
use Rattle.clifford.specs.Inside.Rows.{Sized, RowIndex, Laid, RowInside, FirstFalse, row_answer}
use Rattle.clifford.specs.Questions.{width_question, length_question, row_question, rows_question, true_weight, first_false, weights_question, tableau_questions, slot_question}
use Rattle.clifford.proofs.Rows.{letters-at, letters-long, length_part, row_part_lem}
use Rattle.clifford.proofs.Records.{record-small, record_there, record-formed, proper_of}
use Rattle.pauli.specs.Answers.{Outcome, answer_to}
use Rattle.pauli.proofs.Answers.{exit-is}

-- ---- width, length, slot
pub width_narrow : {n : ℕ} → n ≤ 128 → Ok tt ≡ width_question n
unfolding width_question qubits
width_narrow {n} h = asked_yes Width (le-leb n 128 h)

pub width_is : (n : ℕ) → width_question n ≡ Ok tt → n ≤ 128
unfolding width_question qubits
width_is n e = leb-true n 128 (ask_done _ _ e)

pub width_done : {n : ℕ} → Ok tt ≡ width_question n → n ≤ 128
width_done {n} h = width_is n (sym h)

pub slot_in : {slot w : ℕ} → slot < w → Ok tt ≡ slot_question slot w
unfolding slot_question
slot_in {slot} {w} h = asked_yes (Slot slot w) (lt-ltb slot w h)

pub slot-out : {slot w : ℕ} → w ≤ slot → Err (Slot slot w) ≡ slot_question slot w
unfolding slot_question
slot-out {slot} {w} h = asked_no (Slot slot w) (le-ltb slot w h)

pub slot_is : (slot w : ℕ) → slot_question slot w ≡ Ok tt → slot < w
unfolding slot_question
slot_is slot w e = ltb-true slot w (ask_done _ _ e)

-- ---- one row
-- of a list of bytes: the first bad one is what the question names
pub bytes_bad : (base : ℕ) (s : List ℕ) → first_bad s < length s → Err (BadByte (base + first_bad s)) ≡ bytes_question base s
unfolding bytes_question
bytes_bad base s h = asked_no (BadByte (base + first_bad s)) (lt-leb (length s) (first_bad s) h)

pub bytes_good : (base : ℕ) (s : List ℕ) → length s ≤ first_bad s → Ok tt ≡ bytes_question base s
unfolding bytes_question
bytes_good base s h = asked_yes (BadByte (base + first_bad s)) (le-leb (length s) (first_bad s) h)

bytes_small : (base : ℕ) (s : List ℕ) → bytes_question base s ≡ Ok tt → (k : ℕ) → k < length s → get_or s k 0 ≤ 3
unfolding bytes_question first_bad
bytes_small base s e k h =
    let all : length s ≤ first_place (length s) (λ j. ltb 3 (get_or s j 0)) = leb-true _ _ (ask_done _ _ e) in
    ltb-false 3 (get_or s k 0) (first-before (length s) (λ j. ltb 3 (get_or s j 0)) k (omega arith))

small_bytes : (base : ℕ) (s : List ℕ) → ((k : ℕ) → k < length s → get_or s k 0 ≤ 3) → bytes_question base s ≡ Ok tt
small_bytes base s small = sym (bytes_good base s (omega (arith, all)))
  where
    never : length s < length s → ⊥
    never h = omega arith

    all : length s ≡ first_bad s
    all = unfold first_bad in
        first-is (length s) (λ j. ltb 3 (get_or s j 0)) (length s) (omega arith) (λ k h. le-ltb 3 (get_or s k 0) (small k h)) (λ h. absurd (never h))

-- what is let by, with a true weight, is a formed row
row_question-formed : (w start : ℕ) (b : List ℕ) → length b ≡ row_length w → row_question start b ≡ Ok tt → get_or b weight_place 0 ≡ weight_to w (decode_row w b) → FormedRow w b
unfolding row_question
row_question-formed w start b long e v = record {
  long = long;
  phase = leb-true (get_or b 0 0) 3 (ask_done _ _ (done_first _ _ e));
  letters = λ q h. omega (arith, letters-at b q, bytes_small _ (letters_of b) (done_second (ask (leb (get_or b 0 0) 3) (BadByte start)) _ e) q (omega (arith, letters-long w b long)));
  weight = v;
}

formed-row_question : {w : ℕ} (start : ℕ) {b : List ℕ} → FormedRow w b → row_question start b ≡ Ok tt
unfolding row_question
formed-row_question {w} start {b} f = sym (
    first_done (asked_yes (BadByte start) (le-leb (get_or b 0 0) 3 f.phase))
    (sym (small_bytes (start + letter_place 0) (letters_of b) (λ q h. omega (arith, letters-at b q, f.letters q (omega (arith, letters-long w b f.long)))))))

-- ---- all rows, in their order
asked-rows : (k : ℕ) (b : List ℕ) → rows_question (suc k) b ≡ rows_question k b and_then row_question (row_offset (width_of b) k) (row_part b k)
unfolding rows_question
asked-rows k b = refl

rows_each : (k : ℕ) (b : List ℕ) → rows_question k b ≡ Ok tt → (r : ℕ) → r < k → row_question (row_offset (width_of b) r) (row_part b r) ≡ Ok tt
rows_each zero b e r h = absurd (not-suc-le-zero h)
rows_each (suc k) b e r h = elim (ℕ_discrete r k) [
  | yes d ↦ ap (λ (j : ℕ). row_question (row_offset (width_of b) j) (row_part b j)) d ∙ done_second (rows_question k b) _ (sym (asked-rows k b) ∙ e)
  | no d ↦ rows_each k b (done_first _ _ (sym (asked-rows k b) ∙ e)) r (omega arith)
]

each_rows : (k : ℕ) (b : List ℕ) → ((r : ℕ) → r < k → row_question (row_offset (width_of b) r) (row_part b r) ≡ Ok tt) → rows_question k b ≡ Ok tt
each_rows zero b h = unfold rows_question in refl
each_rows (suc k) b h = asked-rows k b ∙ sym (first_done (sym (each_rows k b (λ r l. h r (omega arith)))) (sym (h k (omega arith))))

-- a refusal stays
rows_stay : (k m : ℕ) (b : List ℕ) {x : Refusal} → rows_question k b ≡ Err x → rows_question (k + m) b ≡ Err x
rows_stay k zero b e = (let z : k + 0 ≡ k = omega arith in ap (λ (j : ℕ). rows_question j b) z) ∙ e
rows_stay k (suc m) b {x} e =
    let z : k + suc m ≡ suc (k + m) = omega arith in
    ap (λ (j : ℕ). rows_question j b) z ∙ asked-rows (k + m) b ∙ sym (first_not _ (sym (rows_stay k m b e)))

-- the first row whose weight is false, kept
-- the rows before r are let by, and p is the first of them whose weight is false
pub record RowsGood (b : List ℕ) (n r : ℕ) (p : Option ℕ) : Type 0 where
  pub wide : n ≡ 2 * width_of b
  pub within : r ≤ n
  pub asked : rows_question r b ≡ Ok tt
  pub weighed : FirstSeen n (λ k. not (true_weight b k)) r (unwrap_or p n)
  pub own : IfSome p (λ k. k < r)

pub rows_start : (b : List ℕ) {n : ℕ} → n ≡ width_of b → RowsGood b (2 * n) 0 None
unfolding rows_question
rows_start b {n} e = record { wide = ap (λ (j : ℕ). 2 * j) e; within = omega arith; asked = refl; weighed = first_start (2 * n) _; own = tt }

answer-done : {q : Outcome} {v w : Bool} → Ok w ≡ answer_to q v → (q ≡ Ok tt) × (v ≡ w)
unfolding answer_to
answer-done {q = Ok tt} e = (refl, cc)
answer-done {q = Err x} e = absurd cc

answer-exit : {q : Outcome} (v : Bool) {x : Refusal} → Err x ≡ answer_to q v → q ≡ Err x
unfolding answer_to
answer-exit {q = Ok tt} v e = absurd cc
answer-exit {q = Err x} v e = cc

module _ {b : List ℕ} {n r : ℕ} {p : Option ℕ} (m : RowsGood b n r p) where
  pub rows_done : n ≤ r → Ok tt ≡ rows_question (2 * width_of b) b
  rows_done h = let e : r ≡ 2 * width_of b = omega (arith, m.within, m.wide) in sym m.asked ∙ ap (λ (j : ℕ). rows_question j b) e

  pub rows-weighed : Laid b → n ≤ r → FirstFalse b p
  unfolding first_false
  rows-weighed l h = record {
    narrow = l.narrow;
    is = ap (unwrap_or p) (sym m.wide) ∙ first_end m.weighed h ∙ ap (λ (j : ℕ). first_place j (λ k. not (true_weight b k))) m.wide;
    own = some p m.own;
  }
    where
      some : (p : Option ℕ) → IfSome p (λ k. k < r) → IfSome p (λ k. k < 2 * width_of b)
      some None h = tt
      some (Some k) h = omega (arith, m.within, m.wide)

  pub rows-asked : {v : Outcome} → n ≤ r → v ≡ weights_question b → v ≡ rows_question (2 * width_of b) b and_then weights_question b
  rows-asked h e = first_done (rows_done h) e

  module _ (h : r < n) where
    pub rows_inside : Laid b → RowInside b r
    rows_inside l = record { laid = l; own = omega (arith, m.wide) }

    -- the next row is let by, and its weight is true or false
    module _ {w : Bool} (e : Ok w ≡ row_answer b r) where
      next : rows_question (r + 1) b ≡ Ok tt
      next = ap (λ (j : ℕ). rows_question j b) (add-one r) ∙ asked-rows r b ∙ sym (passed (sym m.asked) refl (sym (answer-done e).0))

      pub rows_more : w ≡ true → RowsGood b n (r + 1) p
      rows_more t = record {
        wide = m.wide;
        within = omega arith;
        asked = next;
        weighed = first_past m.weighed h (ap not ((answer-done e).1 ∙ t)) refl;
        own = some p m.own;
      }
        where
          some : (p : Option ℕ) → IfSome p (λ k. k < r) → IfSome p (λ k. k < r + 1)
          some None h = tt
          some (Some k) h = omega arith

      pub rows_first : w ≡ false → RowsGood b n (r + 1) (option_or p (Some r))
      rows_first t = record { wide = m.wide; within = omega arith; asked = next; weighed = weighed p m.weighed m.own; own = some p m.own }
        where
          weighed : (p : Option ℕ) → FirstSeen n (λ k. not (true_weight b k)) r (unwrap_or p n) → IfSome p (λ k. k < r)
              → FirstSeen n (λ k. not (true_weight b k)) (r + 1) (unwrap_or (option_or p (Some r)) n)
          weighed None m o = first_found m h (ap not ((answer-done e).1 ∙ t)) (omega arith) refl
          weighed (Some k) m o = first_held m h (omega arith) refl

          some : (p : Option ℕ) → IfSome p (λ k. k < r) → IfSome (option_or p (Some r)) (λ k. k < r + 1)
          some None o = omega arith
          some (Some k) o = omega arith

    pub rows-refused : {x : Refusal} {q : Outcome} → Err x ≡ row_answer b r → IsErrAnd q (λ e. e ≡ x) → q ≡ rows_question (2 * width_of b) b and_then weights_question b
    rows-refused {x} {q} e d =
        let z : r + 1 + (n - (r + 1)) ≡ 2 * width_of b = omega (arith, m.wide) in
        let one : rows_question (r + 1) b ≡ Err x = ap (λ (j : ℕ). rows_question j b) (add-one r) ∙ asked-rows r b ∙ sym (passed (sym m.asked) refl (sym (answer-exit _ e))) in
        refused _ (exit-is q d ∙ sym (rows_stay (r + 1) (n - (r + 1)) b one) ∙ ap (λ (j : ℕ). rows_question j b) z) (exit-is q d)

pub laid-narrow : {b : List ℕ} {n : ℕ} → Laid b → n ≡ width_of b → n ≤ 128
laid-narrow l e = omega (arith, l.narrow)

-- ---- weights
module _ (b : List ℕ) where
  pub weights_all : first_false b ≡ 2 * width_of b → Ok tt ≡ weights_question b
  unfolding weights_question
  weights_all h = asked_yes (FalseWeight _) (le-leb (2 * width_of b) (first_false b) (omega arith))

  pub weights_each : weights_question b ≡ Ok tt → (r : ℕ) → r < 2 * width_of b → get_or (row_part b r) weight_place 0 ≡ weight_to (width_of b) (decode_row (width_of b) (row_part b r))
  unfolding weights_question first_false true_weight
  weights_each e r h =
      let all : 2 * width_of b ≤ first_false b = leb-true _ _ (ask_done _ _ e) in
      eqb-true _ _ (not-false _ (first-before (2 * width_of b) (λ r. not (true_weight b r)) r (omega arith)))
      ∙ ap (weight_to (width_of b)) (row_part_lem b r h)

  formed_weights : FormedTableau b → weights_question b ≡ Ok tt
  unfolding first_false true_weight
  formed_weights f = sym (weights_all (sym (first-is (2 * width_of b) (λ r. not (true_weight b r)) (2 * width_of b) (omega arith)
      (λ r h. ap not (eq-eqb _ _ ((f.rows r h).weight ∙ ap (weight_to (width_of b)) (sym (row_part_lem b r h))))) (λ h. absurd (never h)))))
    where
      never : 2 * width_of b < 2 * width_of b → ⊥
      never h = omega arith

-- the first false one is known
module _ {b : List ℕ} {p : Option ℕ} (o : FirstFalse b p) where
  pub false_index : {n r : ℕ} → n ≡ width_of b → p ≡ Some r → RowIndex n r
  false_index {n} {r} e h = record { narrow = omega (arith, o.narrow); own = omega (arith, own) }
    where
      own : r < 2 * width_of b
      own = subst (λ p. IfSome p (λ r. r < 2 * width_of b)) h o.own

  pub false-row : {n r at : ℕ} → n ≡ width_of b → p ≡ Some r → Sized (row_offset n r) at → Err (FalseWeight (at + 1)) ≡ weights_question b
  unfolding weights_question
  false-row {n} {r} e h s =
      let first : r ≡ first_false b = sym (ap (λ p. unwrap_or p (2 * width_of b)) h) ∙ o.is in
      let i : RowIndex n r = false_index e h in
      ap (λ (k : ℕ). Err (FalseWeight (k + weight_place))) (s.is ∙ ap₂ row_offset e first)
      ∙ asked_no (FalseWeight _) (lt-leb (2 * width_of b) (first_false b) (omega (arith, first, i.own)))

  pub false-none : p ≡ None → Ok tt ≡ weights_question b
  unfolding weights_question
  false-none h =
      let all : 2 * width_of b ≡ first_false b = sym (ap (λ p. unwrap_or p (2 * width_of b)) h) ∙ o.is in
      asked_yes (FalseWeight _) (le-leb (2 * width_of b) (first_false b) (omega arith))

pub ruleset false_rows = (false_index, false-row, false-none, rules)

-- ---- all of them
pub tableau-none : (b : List ℕ) → length b ≡ 0 → Err Length ≡ tableau_questions b
unfolding tableau_questions
tableau-none b e = first_not _ (asked_no Length (le-ltb 0 (length b) (omega arith)))

pub width-none : (b : List ℕ) → length b ≡ 0 → 0 ≡ width_of b
width-none [] e = refl
width-none (x ∷ b) e = absurd (omega arith)

module _ (b : List ℕ) (some : length b ≡ 0 → ⊥) where
  some_done : Ok tt ≡ ask (ltb 0 (length b)) Length
  some_done = asked_yes Length (lt-ltb 0 (length b) (omega arith))

  module _ {m : ℕ} (w : m ≡ width_of b) where
    pub tableau-wide : {x : Refusal} → Err x ≡ width_question m → Err x ≡ tableau_questions b
    unfolding tableau_questions
    tableau-wide h = first_done some_done (first_not _ (h ∙ ap width_question w))

    module _ (h : Ok tt ≡ width_question m) {n : ℕ} (s : Sized (record_length m) n) where
      pub tableau-short : (length b ≡ n → ⊥) → Err Length ≡ tableau_questions b
      unfolding tableau_questions length_question
      tableau-short k =
          first_done some_done
          (first_done (h ∙ ap width_question w) (first_not _ (asked_no Length (ne_eqb _ _ (λ z. k (z ∙ sym (s.is ∙ ap record_length w)))))))

      pub tableau-rows : {q : Outcome} → length b ≡ n → q ≡ rows_question (2 * width_of b) b and_then weights_question b → q ≡ tableau_questions b
      unfolding tableau_questions length_question
      tableau-rows k z =
          first_done some_done
          (first_done (h ∙ ap width_question w) (first_done (asked_yes Length (eq-eqb _ _ (k ∙ s.is ∙ ap record_length w))) z))

      pub tableau-laid : length b ≡ n → Laid b
      tableau-laid k = record { narrow = omega (arith, width_done h); long = k ∙ s.is ∙ ap record_length w }

pub ruleset asked_tableaux = (
  questions,
  width_done,
  tableau-none,
  width-none,
  tableau-wide,
  tableau-short,
  tableau-rows,
  tableau-laid,
)

pub ruleset asked_rows = (rows_start, rows_inside, rows_more, rows_first, rows-refused, rows-weighed, rows-asked, laid-narrow, rules)

-- ---- what is admitted: a tableau's questions let by exactly the records of tableaux of width at most 128
module _ (b : List ℕ) (e : tableau_questions b ≡ Ok tt) where
  asked : ask (ltb 0 (length b)) Length and_then width_question (width_of b) and_then length_question b and_then rows_question (2 * width_of b) b and_then weights_question b ≡ Ok tt
  unfolding tableau_questions
  asked = e

  after_first : width_question (width_of b) and_then length_question b and_then rows_question (2 * width_of b) b and_then weights_question b ≡ Ok tt
  after_first = done_second (ask (ltb 0 (length b)) Length) _ asked

  after-width : length_question b and_then rows_question (2 * width_of b) b and_then weights_question b ≡ Ok tt
  after-width = done_second (width_question (width_of b)) _ after_first

  after-length : rows_question (2 * width_of b) b and_then weights_question b ≡ Ok tt
  after-length = done_second (length_question b) _ after-width

  long : length b ≡ record_length (width_of b)
  unfolding length_question
  long = eqb-true _ _ (ask_done _ _ (done_first (length_question b) _ after-width))

  pub tableau-formed : FormedTableau b
  tableau-formed = record {
    some = ltb-true 0 (length b) (ask_done _ _ (done_first _ _ asked));
    narrow = width_is (width_of b) (done_first _ _ after_first);
    long = long;
    rows = λ r h. row_question-formed (width_of b) (row_offset (width_of b) r) (row_part b r) (length_part b (width_of b) r refl long h)
        (rows_each (2 * width_of b) b (done_first _ _ after-length) r h)
        (weights_each b (done_second (rows_question (2 * width_of b) b) _ after-length) r h);
  }

-- from a check's answer
pub checked : {b : List ℕ} → Ok tt ≡ tableau_questions b → FormedTableau b
checked {b} h = tableau-formed b (sym h)

pub formed-good : (b : List ℕ) → FormedTableau b → tableau_questions b ≡ Ok tt
formed-good b f = sym (
    tableau-rows b (λ z. absurd (no z f.some)) refl (width_narrow f.narrow) (record { is = refl; small = record-small (width_of b) f.narrow }) f.long
    (first_done (sym (each_rows (2 * width_of b) b (λ r h. formed-row_question _ (f.rows r h)))) (sym (formed_weights b f))))
  where
    no : length b ≡ 0 → 0 < length b → ⊥
    no z p = omega arith

pub tableaux_admitted : (t : Tableau) → Proper t → tableau_questions (tableau_record t) ≡ Ok tt
tableaux_admitted t p = formed-good (tableau_record t) (record-formed t p.narrow)

pub admitted_tableaux : (b : List ℕ) → tableau_questions b ≡ Ok tt → b ≡ tableau_record (tableau_of b)
admitted_tableaux b e = sym (record_there (tableau-formed b e))

pub admitted_proper : (b : List ℕ) → tableau_questions b ≡ Ok tt → Proper (tableau_of b)
admitted_proper b e = proper_of (tableau-formed b e)

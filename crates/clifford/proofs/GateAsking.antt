-- The questions put to gates, and what they let by.
use Rattle.std.proofs.Common.{◌≡◌, ℕ, ◌+◌, ◌<◌, ◌≤◌, max, cond, not, eqb, ltb, ◌≢◌, List, length, sym, refl, ap, ◌∙◌, ap₂, arith, w64, Fits, rules, ltb-true, le-ltb, lt-ltb, eq-eqb, ne_eqb, Ok, Err, IsErrAnd, true, false}
use native.Mathlib.Decide.{dec_lt}
use borrow.Author.Tests.{eqb-false, not-true}
use Rattle.pauli.specs.declared.refusal.Refusal.{Refusal}
use Rattle.pauli.specs.declared.refusal.Refusal.TheVariants.{Gate, Qubit, SameQubit}
use Rattle.pauli.specs.Answers.{Outcome}
use Rattle.pauli.specs.Questions.{◌and_then◌}
use Rattle.pauli.proofs.Asking.{asked_yes, ask_done, first_not, first_done, and_then_done, done_first, done_second}
use Rattle.clifford_gates.specs.GateNumbers.{gate_tableau}
use Rattle.pauli_group.specs.PauliString.{qubits}
use Rattle.clifford_group.specs.Tableau.{widen}
use Rattle.clifford_group.proofs.Same.{same_refl}
use Rattle.clifford.specs.Questions.{width_question}
use Rattle.clifford.proofs.Asking.{width_done}
use Rattle.clifford.specs.GateQuestions.{gate_question, different_question, own_qubit_question, qubits_questions, gate_width, on_qubits_questions, on_qubits_answer, on_width_questions, on_width_answer}
use Rattle.clifford.specs.GateAnswers.{gate_record, width_gate_record}
use Rattle.clifford.specs.Inside.GateRows.{GateOn, GateSpan}
use Rattle.clifford.specs.Inside.Made.{TableauWritten, GateInside}
use Rattle.clifford.specs.Promises.{GateWritten, WidthGateWritten}
use Rattle.clifford.proofs.GateWriting.{gate-width, width_one, width_two, widened_own}
use Rattle.clifford.proofs.Answers.{made-answer, refused-answer}

-- ---- one question
pub gate_in : {limit g : ℕ} → g < limit → Ok tt ≡ gate_question limit g
unfolding gate_question
gate_in {limit} {g} h = asked_yes Gate (lt-ltb g limit h)

pub gate-below : (limit g : ℕ) → gate_question limit g ≡ Ok tt → g < limit
unfolding gate_question
gate-below limit g e = ltb-true g limit (ask_done (ltb g limit) Gate e)

pub qubits_differ : {q r : ℕ} → (q ≡ r → ⊥) → Ok tt ≡ different_question q r
unfolding different_question
qubits_differ {q} {r} h = asked_yes (SameQubit q) (ap not (ne_eqb q r h))

pub are_different : (q r : ℕ) → different_question q r ≡ Ok tt → q ≢ r
unfolding different_question
are_different q r e = eqb-false q r (not-true (eqb q r) (ask_done (not (eqb q r)) (SameQubit q) e))

pub own_in : {w q : ℕ} → q < w → Ok tt ≡ own_qubit_question w q
unfolding own_qubit_question
own_in {w} {q} h = asked_yes (Qubit q) (lt-ltb q w h)

pub own_below : (w q : ℕ) → own_qubit_question w q ≡ Ok tt → q < w
unfolding own_qubit_question
own_below w q e = ltb-true q w (ask_done (ltb q w) (Qubit q) e)

-- ---- the qubits of a gate
qubits_of_one : (w g q r : ℕ) → g < 24 → (own_qubit_question w q and_then Ok tt) ≡ qubits_questions w g q r
unfolding qubits_questions
qubits_of_one w g q r h = sym (ap (λ b. own_qubit_question w q and_then cond b (Ok tt) (own_qubit_question w r and_then different_question q r)) (lt-ltb g 24 h))

pub qubits_of_two : (w g q r : ℕ) → 24 ≤ g → (own_qubit_question w q and_then own_qubit_question w r and_then different_question q r) ≡ qubits_questions w g q r
unfolding qubits_questions
qubits_of_two w g q r h = sym (ap (λ b. own_qubit_question w q and_then cond b (Ok tt) (own_qubit_question w r and_then different_question q r)) (le-ltb g 24 h))

pub qubits-one : (w : ℕ) {g : ℕ} (q r : ℕ) {a : Outcome} → g ≤ 23 → a ≡ own_qubit_question w q → a ≡ qubits_questions w g q r
qubits-one w {g} q r h e = e ∙ and_then_done (own_qubit_question w q) ∙ qubits_of_one w g q r (omega arith)

pub qubits-first : (w g q r : ℕ) {x : Refusal} → Err x ≡ own_qubit_question w q → Err x ≡ qubits_questions w g q r
unfolding qubits_questions
qubits-first w g q r h = first_not _ h

-- ---- what they let by: a gate with a place on w qubits
module _ (w g q r : ℕ) (n : w ≤ 128) (e : (gate_question 38 g and_then qubits_questions w g q r) ≡ Ok tt) where
  placed : qubits_questions w g q r ≡ Ok tt
  placed = done_second (gate_question 38 g) _ e

  first : q < w
  first = unfold qubits_questions in own_below w q (done_first _ _ placed)

  two : 24 ≤ g → (own_qubit_question w r and_then different_question q r) ≡ Ok tt
  two h = done_second (own_qubit_question w q) _ (qubits_of_two w g q r h ∙ placed)

  second : 24 ≤ g → r < w
  second h = own_below w r (done_first _ _ (two h))

  pub placed_on : GateOn g q r
  placed_on = record {
    gate = gate-below 38 g (done_first _ _ e);
    first = omega (arith, first);
    second = λ h. omega (arith, second h);
    different = λ h. are_different q r (done_second (own_qubit_question w r) _ (two h));
  }

  pub placed_inside : gate_width g q r ≤ w
  placed_inside = elim (dec_lt g 24) [
    | yes l ↦ omega (arith, first, width_one g q r l)
    | no l ↦ let m : 24 ≤ g = omega arith in omega (arith, first, second m, width_two g q r m)
  ]

-- ---- a gate at its own width
module _ (g q r : ℕ) where
  pub gate-refused : {y : Outcome} {x : Refusal} (d : List ℕ) → Err x ≡ gate_question 38 g → IsErrAnd y (λ e. e ≡ x) → GateWritten g q r d d y
  unfolding on_qubits_answer on_qubits_questions
  gate-refused d h e = refused-answer _ _ d (first_not _ h) e

  pub gate-inside : {w : ℕ} → GateSpan g q r w → GateInside g q r w
  gate-inside s = record { wide = omega (arith, s.is); narrow = s.small }

  module _ (hg : Ok tt ≡ gate_question 38 g) where
    pub gate_qubits-refused : {y : Outcome} {x : Refusal} (d : List ℕ) → Err x ≡ qubits_questions 128 g q r → IsErrAnd y (λ e. e ≡ x) → GateWritten g q r d d y
    unfolding on_qubits_answer on_qubits_questions qubits
    gate_qubits-refused d h e = refused-answer _ _ d (first_done hg h) e

    module _ (hq : Ok tt ≡ qubits_questions 128 g q r) where
      pub gate-on : GateOn g q r
      gate-on = placed_on 128 g q r (omega arith) (sym (first_done hg hq))

      pub gate_written : {w : ℕ} {y : Outcome} (d e : List ℕ) → GateSpan g q r w → TableauWritten w (widen w (gate_tableau g q r)) d e y → GateWritten g q r d e y
      unfolding on_qubits_answer on_qubits_questions gate_record qubits
      gate_written {w} d e s o = made-answer (first_done hg hq) s.is (widened_own w (gate_tableau g q r) (omega (arith, s.is, gate-width g q r))) o

pub ruleset gate_answers = (gate-refused, gate_qubits-refused, gate-on, gate-inside, gate_written, rules)

-- ---- a gate at the width n
module _ (n g q r : ℕ) where
  pub width-refused : {y : Outcome} {x : Refusal} (d : List ℕ) → Err x ≡ width_question n → IsErrAnd y (λ e. e ≡ x) → WidthGateWritten n g q r d d y
  unfolding on_width_answer on_width_questions
  width-refused d h e = refused-answer _ _ d (first_not _ h) e

  module _ (hn : Ok tt ≡ width_question n) where
    pub width_gate-refused : {y : Outcome} {x : Refusal} (d : List ℕ) → Err x ≡ gate_question 38 g → IsErrAnd y (λ e. e ≡ x) → WidthGateWritten n g q r d d y
    unfolding on_width_answer on_width_questions
    width_gate-refused d h e = refused-answer _ _ d (first_done hn (first_not _ h)) e

    module _ (hg : Ok tt ≡ gate_question 38 g) where
      pub width_qubits-refused : {y : Outcome} {x : Refusal} (d : List ℕ) → Err x ≡ qubits_questions n g q r → IsErrAnd y (λ e. e ≡ x) → WidthGateWritten n g q r d d y
      unfolding on_width_answer on_width_questions
      width_qubits-refused d h e = refused-answer _ _ d (first_done hn (first_done hg h)) e

      module _ (hq : Ok tt ≡ qubits_questions n g q r) where
        put : (gate_question 38 g and_then qubits_questions n g q r) ≡ Ok tt
        put = sym (first_done hg hq)

        pub width-on : GateOn g q r
        width-on = placed_on n g q r (width_done hn) put

        pub width-inside : GateInside g q r n
        width-inside = record { wide = placed_inside n g q r (width_done hn) put; narrow = width_done hn }

        pub width_written : {y : Outcome} (d e : List ℕ) → TableauWritten n (widen n (gate_tableau g q r)) d e y → WidthGateWritten n g q r d e y
        unfolding on_width_answer on_width_questions width_gate_record
        width_written d e o = made-answer (first_done hn (first_done hg hq)) refl (same_refl (widen n (gate_tableau g q r))) o

pub ruleset width_answers = (width-refused, width_gate-refused, width_qubits-refused, width-on, width-inside, width_written, rules)

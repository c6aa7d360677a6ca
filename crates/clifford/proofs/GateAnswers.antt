-- The answers of the functions on gates.
use Rattle.std.proofs.Common.{◌≡◌, ℕ, suc, ◌+◌, ◌<◌, ◌≤◌, List, length, get_or, sym, refl, ap, ◌∙◌, subst, arith, rules, Ok, Err, IsErrAnd}
use Rattle.pauli_group.specs.PauliString.{qubits}
use Rattle.clifford_gates.specs.GateTableaux.{on_qubit}
use Rattle.clifford_gates.specs.GateNumbers.{one_qubit_gate, gate_tableau, single_qubit_clifford, inverse_gate, inverse_numbers, product_gates}
use Rattle.clifford_gates.proofs.GateNames.{gate-one}
use Rattle.clifford_gates.proofs.GateInverses.{inverse_numbers_lem}
use Rattle.clifford_gates.proofs.Products24.{products, product_small}
use Rattle.pauli.specs.declared.refusal.Refusal.{Refusal}
use Rattle.pauli.specs.Answers.{Written, Outcome}
use Rattle.pauli.specs.Questions.{◌and_then◌, qubit_question}
use Rattle.pauli.proofs.Asking.{first_not, first_done, qubit-below}
use Rattle.clifford_group.specs.Tableau.{Same, widen}
use Rattle.clifford_group.proofs.Same.{same_refl, same_sym}
use Rattle.clifford.specs.Inside.Made.{TableauWritten, GateInside}
use Rattle.clifford.specs.Inside.GateRows.{GateOn, GateSpan}
use Rattle.clifford.specs.GateQuestions.{gate_question, on_qubit_questions, on_qubit_answer, compose_gate_questions}
use Rattle.pauli.proofs.Answers.{answered-done, answered-exit}
use Rattle.clifford.specs.GateAnswers.{GateAnswered, one_qubit_record, single_qubit_clifford_record}
use Rattle.clifford.specs.Promises.{OneQubitGateWritten, SingleQubitCliffordWritten}
use Rattle.clifford.proofs.Asking.{checked}
use Rattle.clifford.proofs.GateAsking.{gate-below}
use Rattle.clifford.proofs.GateWriting.{gate-width, width_one, widened_own}
use Rattle.clifford.proofs.Answers.{made-answer, refused-answer}

-- ---- a one-qubit gate on its qubit, at its own width
module _ {n q : ℕ} (small : n < 24) where
  pub one_on : q < 128 → GateOn n q q
  one_on h = record { gate = omega arith; first = h; second = λ l. h; different = λ l. absurd (no l) }
    where
      no : 24 ≤ n → ⊥
      no l = omega arith

  module _ {w : ℕ} (s : GateSpan n q q w) where
    pub one_inside : GateInside n q q w
    one_inside = record { wide = omega (arith, s.is); narrow = s.small }

    own : Same (widen w (gate_tableau n q q)) (on_qubit (one_qubit_gate n) q)
    own = subst (λ t. Same (widen w (gate_tableau n q q)) t) (gate-one n q q small)
        (widened_own w (gate_tableau n q q) (omega (arith, s.is, gate-width n q q)))

    pub one_made : {y : Outcome} (d e : List ℕ) → TableauWritten w (widen w (gate_tableau n q q)) d e y → TableauWritten (suc q) (on_qubit (one_qubit_gate n) q) d e y
    unfolding ◌and_then◌
    one_made d e o = made-answer {q = Ok tt} refl (s.is ∙ width_one n q q small) own o

pub ruleset one_qubit_writes = (one_on, one_inside, rules)

-- ---- that gate, or a product of this index
module _ (g q : ℕ) (hg : Ok tt ≡ gate_question 24 g) where
  pub one-small : g < 24
  one-small = gate-below 24 g (sym hg)

  pub product_below : {n : ℕ} → n ≡ get_or product_gates g 0 → n < 24
  product_below e = omega (arith, e, product_small g one-small)

  module _ (hq : Ok tt ≡ qubit_question q) where
    pub one_below : q < 128
    one_below = qubit-below q (sym hq)

    pub one_written : {y : Outcome} (d e : List ℕ) → TableauWritten (suc q) (on_qubit (one_qubit_gate g) q) d e y → OneQubitGateWritten g q d e y
    unfolding on_qubit_answer on_qubit_questions one_qubit_record
    one_written d e o = made-answer (first_done hg hq) refl (same_refl _) o

    pub product_written : {y : Outcome} {n : ℕ} (d e : List ℕ) → n ≡ get_or product_gates g 0
        → TableauWritten (suc q) (on_qubit (one_qubit_gate n) q) d e y → SingleQubitCliffordWritten g q d e y
    unfolding on_qubit_answer on_qubit_questions single_qubit_clifford_record qubits
    product_written {y} {n} d e en o =
        made-answer (first_done hg hq) refl
        (subst (λ (j : ℕ). Same (on_qubit (one_qubit_gate j) q) (single_qubit_clifford g q)) (sym en) (same_sym _ _ (products g q one-small one_below))) o

  pub one_qubit-refused : {y : Outcome} {x : Refusal} (out d : List ℕ) → Err x ≡ qubit_question q → IsErrAnd y (λ e. e ≡ x) → Written (on_qubit_answer g q (length d)) out d d y
  unfolding on_qubit_answer on_qubit_questions
  one_qubit-refused out d h e = refused-answer _ out d (first_done hg h) e

pub one_gate-refused : (g q : ℕ) {y : Outcome} {x : Refusal} (out d : List ℕ) → Err x ≡ gate_question 24 g → IsErrAnd y (λ e. e ≡ x)
    → Written (on_qubit_answer g q (length d)) out d d y
unfolding on_qubit_answer on_qubit_questions
one_gate-refused g q out d h e = refused-answer _ out d (first_not _ h) e

pub ruleset one_qubit_answers = (one-small, product_below, one_below, one_written, product_written, one_qubit-refused, one_gate-refused, rules)

-- ---- names
pub ruleset name_answers = (checked, answered-done, answered-exit, rules)

-- ---- gates by number
module _ (g h : ℕ) where
  pub gates_asked : {x : Outcome} → Ok tt ≡ gate_question 24 g → x ≡ gate_question 24 h → x ≡ compose_gate_questions g h
  unfolding compose_gate_questions
  gates_asked eg eh = first_done eg eh

  pub gate_small : Ok tt ≡ gate_question 24 g → g < 24
  gate_small e = gate-below 24 g (sym e)

pub gate-number : (g : ℕ) → Ok tt ≡ gate_question 38 g → g < 38
gate-number g e = gate-below 38 g (sym e)

pub gate_inverted : (g : ℕ) {n : ℕ} → Ok tt ≡ gate_question 38 g → n ≡ get_or inverse_numbers g 0 → GateAnswered (gate_question 38 g) (inverse_gate g) (Ok n)
gate_inverted g e h = answered-done e (h ∙ sym (inverse_numbers_lem g (gate-number g e)))

pub ruleset gate-products = (answered-done, gates_asked, gate_small, rules)

pub ruleset gate_numbers = (answered-exit, gate-number, gate_inverted, rules)

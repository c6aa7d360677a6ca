-- What each public function on tableaux and on gates promises of its answer r: the questions, the answer, and the destination, which
-- held d at entry and holds e at exit. a, b and t are tableau records, s is a string record.
use Rattle.std.specs.Prelude.{ℕ, List, length, Option, Bool}
use Rattle.clifford_group.specs.Conjugation.{Generator}
use Rattle.clifford_gates.specs.GateNumbers.{compose_gate, inverse_gate}
use Rattle.pauli.specs.Answers.{Outcome, Answer, number_value, one_or_zero, Answered, Written, CountWritten}
use Rattle.clifford.specs.Layout.{width_of, row_offset, generator_row}
use Rattle.clifford.specs.Questions.{tableau_questions, image_questions, set_questions, identity_answer, apply_answer, compose_answer, extend_answer, inverse_answer, pauli_answer, support_answer}
use Rattle.clifford.specs.Tableaux.{record_valid, set_record, identity_record, apply_record, compose_record, extend_record, inverse_record, pauli_record, support_bytes}
use Rattle.clifford.specs.Display.{text_of_tableau, display_answer}
use Rattle.clifford.specs.GateQuestions.{gate_question, on_qubits_answer, on_width_answer, on_qubit_answer, compose_gate_questions}
use Rattle.clifford.specs.GateAnswers.{GateAnswered, NameAnswered, gate_record, width_gate_record, one_qubit_record, single_qubit_clifford_record, record_name}

-- ---- images: where they start in the record, and in place set to s

abbrev pub ImageAt : (g : Generator) (t : List ℕ) (q : ℕ) (r : Answer ℕ) → Type 0
ImageAt g t q r = Answered number_value (image_questions t q) (row_offset (width_of t) (generator_row g (width_of t) q)) r

abbrev pub ImageSet : (g : Generator) (q : ℕ) (s t e : List ℕ) (r : Outcome) → Type 0
ImageSet g q s t e r = Written (set_questions t q s) (set_record g t q s) t e r

-- ---- tableaux

abbrev pub IdentityWritten : (n : ℕ) (d e : List ℕ) (r : Outcome) → Type 0
IdentityWritten n d e r = Written (identity_answer n (length d)) (identity_record n) d e r

abbrev pub Applied : (t s d e : List ℕ) (r : Outcome) → Type 0
Applied t s d e r = Written (apply_answer t s (length d)) (apply_record t s) d e r

abbrev pub Composed : (a b d e : List ℕ) (r : Outcome) → Type 0
Composed a b d e r = Written (compose_answer a b (length d)) (compose_record a b) d e r

abbrev pub Extended : (t : List ℕ) (n : ℕ) (d e : List ℕ) (r : Outcome) → Type 0
Extended t n d e r = Written (extend_answer t n (length d)) (extend_record t n) d e r

abbrev pub Inverted : (t d e : List ℕ) (r : Outcome) → Type 0
Inverted t d e r = Written (inverse_answer t (length d)) (inverse_record t) d e r

abbrev pub ValidityTold : (t : List ℕ) (r : Answer Bool) → Type 0
ValidityTold t r = Answered one_or_zero (tableau_questions t) (record_valid t) r

abbrev pub FromPauliString : (s d e : List ℕ) (r : Outcome) → Type 0
FromPauliString s d e r = Written (pauli_answer s (length d)) (pauli_record s) d e r

abbrev pub SupportWritten : (t d e : List ℕ) (r : Answer ℕ) → Type 0
SupportWritten t d e r = CountWritten (support_answer t (length d)) (support_bytes t) d e r

abbrev pub Displayed : (t d e : List ℕ) (r : Answer ℕ) → Type 0
Displayed t d e r = CountWritten (display_answer t (length d)) (text_of_tableau t) d e r

-- ---- gates g and h, on qubits q and p, at their own width or at the width n; k is an index of the 24 products

abbrev pub GateWritten : (g q p : ℕ) (d e : List ℕ) (r : Outcome) → Type 0
GateWritten g q p d e r = Written (on_qubits_answer g q p (length d)) (gate_record g q p) d e r

abbrev pub WidthGateWritten : (n g q p : ℕ) (d e : List ℕ) (r : Outcome) → Type 0
WidthGateWritten n g q p d e r = Written (on_width_answer n g q p (length d)) (width_gate_record n g q p) d e r

abbrev pub OneQubitGateWritten : (g q : ℕ) (d e : List ℕ) (r : Outcome) → Type 0
OneQubitGateWritten g q d e r = Written (on_qubit_answer g q (length d)) (one_qubit_record g q) d e r

abbrev pub SingleQubitCliffordWritten : (k q : ℕ) (d e : List ℕ) (r : Outcome) → Type 0
SingleQubitCliffordWritten k q d e r = Written (on_qubit_answer k q (length d)) (single_qubit_clifford_record k q) d e r

abbrev pub GatesComposed : (g h : ℕ) (r : Answer ℕ) → Type 0
GatesComposed g h r = GateAnswered (compose_gate_questions g h) (compose_gate g h) r

abbrev pub GateInverted : (g : ℕ) (r : Answer ℕ) → Type 0
GateInverted g r = GateAnswered (gate_question 38 g) (inverse_gate g) r

abbrev pub GateNamed : (t : List ℕ) (r : Answer (Option ℕ)) → Type 0
GateNamed t r = NameAnswered (tableau_questions t) (record_name t) r

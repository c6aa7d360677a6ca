-- The answers of the functions on gates: the number and the value of each case, and what is written.
use Rattle.std.specs.Prelude.{ℕ, cond, List, nat_lt, Some, None, Option}
use Rattle.clifford_group.specs.Tableau.{widen}
use Rattle.clifford_gates.specs.GateTableaux.{on_qubit}
use Rattle.clifford_gates.specs.GateNumbers.{one_qubit_gate, gate_tableau, single_qubit_clifford, name_of}
use Rattle.pauli.specs.Answers.{Outcome, Answer, number_value, gate_value, Answered}
use Rattle.clifford.specs.Layout.{tableau_of, tableau_record}

-- the gate of a number below 24; 24 is none
unfoldable pub named : ℕ → Option ℕ
named n = cond (nat_lt n 24) (Some n) None

abbrev pub GateAnswered : (q : Outcome) (g : ℕ) (r : Answer ℕ) → Type 0
GateAnswered q g r = Answered number_value q g r

abbrev pub NameAnswered : (q : Outcome) (n : ℕ) (r : Answer (Option ℕ)) → Type 0
NameAnswered q n r = Answered gate_value q (named n) r

-- ---- records

-- a one-qubit gate on q, and a gate on q and r
unfoldable pub one_qubit_record : ℕ → ℕ → List ℕ
one_qubit_record g q = tableau_record (on_qubit (one_qubit_gate g) q)

unfoldable pub gate_record : ℕ → ℕ → ℕ → List ℕ
gate_record g q r = tableau_record (gate_tableau g q r)

-- that gate at the width n: the identity's rows on the other qubits
unfoldable pub width_gate_record : ℕ → ℕ → ℕ → ℕ → List ℕ
width_gate_record n g q r = tableau_record (widen n (gate_tableau g q r))

-- one of "the 24 products of `single_qubit_cliffords`, had one at a time by their index"
unfoldable pub single_qubit_clifford_record : ℕ → ℕ → List ℕ
single_qubit_clifford_record k q = tableau_record (single_qubit_clifford k q)

-- the gate of 0 to 23 whose tableau on qubit 0 a record is, or 24
unfoldable pub record_name : List ℕ → ℕ
record_name t = name_of (tableau_of t)

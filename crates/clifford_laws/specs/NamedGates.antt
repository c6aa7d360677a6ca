-- What is claimed of `from_clifford_rep`: "a gate is named exactly when the tableau has width 1 and is valid; otherwise the answer is
-- none" (change requests).
use Rattle.std.specs.Prelude.{ℕ, ◌<◌, ◌≡◌, cond, ◌&&◌, List, eqb, Ok, Some, None, Option}
use Rattle.clifford.specs.Layout.{width_of}
use Rattle.clifford.specs.Questions.{tableau_questions}
use Rattle.clifford.specs.Tableaux.{record_valid}
use Rattle.clifford.specs.GateAnswers.{one_qubit_record, record_name}
use Rattle.clifford.specs.Promises.{GateNamed}
use Rattle.pauli.specs.Answers.{Answer}

-- the answer r to the record t
pub record NamedExactly (t : List ℕ) (r : Answer (Option ℕ)) : Type 0 where
  -- valid by the definition that `is_valid` cites
  pub exactly : r ≡ cond (eqb (width_of t) 1 && record_valid t) (Ok (Some (record_name t))) (Ok None)
  -- a gate that is named has the record as its tableau on qubit 0, byte for byte, and a gate that has it is named
  pub own : (g : ℕ) → r ≡ Ok (Some g) → (g < 24) × (one_qubit_record g 0 ≡ t)
  pub only : (g : ℕ) → g < 24 → one_qubit_record g 0 ≡ t → r ≡ Ok (Some g)

-- for every record that passes its questions, whatever `from_clifford_rep` answers by its promise
abbrev pub NameTheorem : Type 0
NameTheorem = (t : List ℕ) → tableau_questions t ≡ Ok tt → (r : Answer (Option ℕ)) → GateNamed t r → NamedExactly t r

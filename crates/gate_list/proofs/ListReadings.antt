-- Lists on which two readings of the questions could differ, with the answer of their run. The definitions are computed on them.
use mathlib.Core.Path.{◌≡◌, refl, ap₂}
use mathlib.Core.Bool.{Bool, ◌&&◌}
use mathlib.Core.List.{List, [], ◌∷◌}
use Prim.Native.Nat.{ℕ}
use lib.Dec.{T, eqb, eqb→eq}
use Rattle.pauli_group.specs.PauliString.{qubits}
use Rattle.pauli_group.proofs.PaperForms.{both}
use Rattle.clifford_gates.specs.Gates.{All}
use Rattle.clifford_gates.proofs.GateTables.{all_of}
use Rattle.pauli.specs.declared.refusal.Reply.{Reply}
use Rattle.pauli.specs.Answers.{refusal_number, refusal_detail, reply, refusal_reply, reply_of, no_value}
use Rattle.pauli.specs.Questions.{ask, ◌and_then◌, room_question}
use Rattle.clifford.specs.Layout.{row_length, record_length, letter_place}
use Rattle.clifford.specs.Questions.{width_question}
use Rattle.gate_list.specs.Lists.{record_count, byte_of, list_width, next_of, play_of, chain_from, chain_of, plays_of, gates_of}
use Rattle.gate_list.specs.ListQuestions.{size_question, head_question, link_question, zeros_question, step_gate_question, step_qubit_question, step_second_questions, record_questions, is_met, chain_questions, list_questions}
use Rattle.gate_list.specs.Runs.{run_answer}

-- number 0 is for a list that runs
pub record Reading : Type 0 where
  pub list : List ℕ
  pub room : ℕ
  pub number : ℕ
  pub detail : ℕ

abbrev pub reading : List ℕ → ℕ → ℕ → ℕ → Reading
reading l room n d = record { list = l; room = room; number = n; detail = d }

-- H on 0, CX 0 to 1
abbrev pub example : List ℕ
example = 0 ∷ 2 ∷ 0 ∷ 0 ∷ 1 ∷ 0 ∷ 4 ∷ 0 ∷ 0 ∷ 0 ∷ 2 ∷ 0 ∷ 24 ∷ 0 ∷ 1 ∷ 0 ∷ 0 ∷ 0 ∷ []

-- a head of width 2, and one record
abbrev one : ℕ → ℕ → ℕ → ℕ → ℕ → List ℕ
one g q r z n = 0 ∷ 2 ∷ 0 ∷ 0 ∷ 1 ∷ 0 ∷ g ∷ q ∷ r ∷ z ∷ n ∷ 0 ∷ []

abbrev pub readings : List Reading
readings =
    reading example 17 0 0
    ∷ reading example 16 7 0
    ∷ reading [] 0 16 0
    ∷ reading (0 ∷ 129 ∷ 0 ∷ 0 ∷ 0 ∷ 0 ∷ 0 ∷ []) 0 16 0
    ∷ reading (1 ∷ 129 ∷ 0 ∷ 0 ∷ 0 ∷ 0 ∷ []) 0 1 0
    ∷ reading (1 ∷ 0 ∷ 0 ∷ 0 ∷ 9 ∷ 0 ∷ []) 0 17 0
    ∷ reading (0 ∷ 0 ∷ 0 ∷ 0 ∷ 9 ∷ 0 ∷ []) 0 18 0
    ∷ reading (0 ∷ 2 ∷ 0 ∷ 0 ∷ 1 ∷ 0 ∷ 4 ∷ 0 ∷ 0 ∷ 0 ∷ 2 ∷ 0 ∷ 24 ∷ 0 ∷ 1 ∷ 0 ∷ 1 ∷ 0 ∷ []) 0 19 1
    ∷ reading (one 4 0 0 0 1) 0 19 1
    ∷ reading (one 38 0 1 0 0) 0 4 1
    ∷ reading (one 38 0 1 1 0) 0 17 1
    ∷ reading (one 23 200 1 0 0) 0 17 1
    ∷ reading (one 4 2 0 0 9) 0 5 1
    ∷ reading (one 24 2 2 0 9) 0 5 1
    ∷ reading (one 24 0 2 0 9) 0 5 1
    ∷ reading (one 24 1 1 0 9) 0 6 1
    ∷ reading (one 24 1 0 0 9) 0 18 1
    ∷ reading (one 24 1 0 0 0) 0 7 0
    -- a record off the chain
    ∷ reading (0 ∷ 0 ∷ 0 ∷ 0 ∷ 0 ∷ 0 ∷ 255 ∷ 255 ∷ 255 ∷ 255 ∷ 255 ∷ 255 ∷ []) 1 0 0
    ∷ []

abbrev told : Reading → Reply
told r = reply_of no_value (run_answer r.list r.room)

abbrev test : Reading → Bool
test r = eqb (told r).number r.number && eqb (told r).value r.detail

abbrev Reads : Reading → Type 0
Reads r = told r ≡ reply r.number r.detail

reads : (r : Reading) → T (test r) → Reads r
reads r t =
    let parts = both (eqb (told r).number r.number) (eqb (told r).value r.detail) t in
    ap₂ reply (eqb→eq (told r).number r.number parts.0) (eqb→eq (told r).value r.detail parts.1)

pub readings_hold : All Reads readings
unfolding reply_of refusal_reply refusal_number refusal_detail ask ◌and_then◌ room_question row_length record_length width_question qubits record_count byte_of list_width next_of size_question head_question link_question zeros_question step_gate_question step_qubit_question step_second_questions record_questions is_met chain_questions list_questions run_answer letter_place
readings_hold = all_of test reads readings tt

-- the gates of the example
pub example_gates : gates_of example ≡ record { gate = 4; first = 0; second = 0 } ∷ record { gate = 24; first = 0; second = 1 } ∷ []
unfolding gates_of plays_of play_of chain_of chain_from record_count byte_of next_of
example_gates = refl

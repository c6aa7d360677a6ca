-- What a gate list is (scope document, "Gate list", and the paragraph "List" of "Questions on entry"), and where its chain comes back.
-- Nothing is asked of records off the chain: they "aren't examined".
use Rattle.std.specs.Prelude.{ℕ, ◌%◌, ◌<◌, ◌≤◌, ◌≡◌, true, false, List, [], ◌∷◌, length}
use Rattle.clifford_gates.specs.Gates.{All}
use Rattle.gate_list.specs.Lists.{record_count, byte_of, list_width, next_of, play_of}
use Rattle.gate_list.specs.ListQuestions.{is_met}
use Rattle.gate_list.specs.OrderedLists.{PlayFits, Chain}

-- "a multiple of 6, from 6 to 24,576 bytes"; "Width at most 128"; "Record 0 is the head: 0, width, 0, 0, next", and "next below the
-- record count"
pub record RightHead (l : List ℕ) : Type 0 where
  pub whole : length l % 6 ≡ 0
  pub some : 6 ≤ length l
  pub few : length l ≤ 24576
  pub narrow : list_width l ≤ 128
  pub gate : byte_of l 0 0 ≡ 0
  pub second : byte_of l 0 2 ≡ 0
  pub fixed : byte_of l 0 3 ≡ 0
  pub link : next_of l 0 < record_count l

-- "fixed zeros right"; the gate at most 37, its qubits below the width, two of them different for the gates above 23, the second 0 for
-- the others (PlayFits); "next below the record count"
pub record RightRecord (l : List ℕ) (i : ℕ) : Type 0 where
  pub fixed : byte_of l i 3 ≡ 0
  pub play : PlayFits (list_width l) (play_of l i)
  pub link : next_of l i < record_count l

-- the links from the head on meet the records of the chain, all of them right, and come to 0: "Next 0 ends the chain"
pub record GateList (l chain : List ℕ) : Type 0 where
  pub head : RightHead l
  pub ended : Chain l (next_of l 0) chain
  pub right : All (RightRecord l) chain

-- A walk along the links from the head on: the records met, the last one first, all of them right and no two the same; record i is
-- linked to next.
pub data Walk (l : List ℕ) : (met : List ℕ) (i : ℕ) → Type 0 where
  starts : Walk l [] (next_of l 0)
  meets : {met : List ℕ} {i : ℕ} → Walk l met i → (i ≡ 0 → ⊥) → is_met met i ≡ false → RightRecord l i → Walk l (i ∷ met) (next_of l i)

-- "If a record is met again, 19, that record"
pub record ComesBack (l : List ℕ) (i : ℕ) : Type 0 where
  pub head : RightHead l
  pub met : List ℕ
  pub walk : Walk l met i
  pub again : is_met met i ≡ true

-- the numbers of the questions put to a list, "which admit no other refusals"
abbrev pub list_numbers : List ℕ
list_numbers = 1 ∷ 4 ∷ 5 ∷ 6 ∷ 16 ∷ 17 ∷ 18 ∷ 19 ∷ []

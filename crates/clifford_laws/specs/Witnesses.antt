-- Closed lists of calls and their way back, in bytes.
use Rattle.std.specs.Prelude.{ℕ, ◌+◌, ◌-◌, ◌≡◌, List, [], ◌∷◌, ◌++◌, length, replicate, set}
use Rattle.clifford.specs.Layout.{weight_place, letter_place, row_offset, record_length}
use Rattle.clifford.specs.Tableaux.{compose_record}
use Rattle.clifford.specs.GateAnswers.{gate_record}
use Rattle.clifford_laws.specs.WayBack.{Call, product_of, WayBack, steps, record_then, record_now}

-- the steps of the list, the records after the earlier ones and after all, the product of the later ones; and the way back
pub record Witness (n w : ℕ) (calls : List Call) (earlier later : List (List ℕ)) (product then now : List ℕ) : Type 0 where
  pub all_steps : steps n calls ≡ earlier ++ later
  pub after_earlier : record_then n calls (length earlier) ≡ then
  pub after_all : record_now n calls ≡ now
  pub of_later : product_of w later ≡ product
  pub way : WayBack earlier product then now

-- H and SZ on qubit 0, CX from 0 to 1
abbrev pub h_record : List ℕ
h_record = gate_record 4 0 0

abbrev pub sz_record : List ℕ
sz_record = gate_record 14 0 0

abbrev pub cx_record : List ℕ
cx_record = gate_record 24 0 1

-- SZ after H, and H after SZ
abbrev pub fdg_record : List ℕ
fdg_record = gate_record 17 0 0

abbrev pub f4dg_record : List ℕ
f4dg_record = gate_record 23 0 0

-- H after CX, and SZ after both
abbrev pub after_two : List ℕ
after_two = compose_record h_record cx_record

abbrev pub after_three : List ℕ
after_three = compose_record sz_record after_two

-- a call with so many bytes of room; one that is refused with 3 at its first letter, one with 24 at its first weight, and one with 7
abbrev pub call : List ℕ → ℕ → Call
call a room = record { a = a; destination = replicate room 0 }

abbrev pub first_letter : ℕ → ℕ
first_letter w = row_offset w 0 + letter_place 0

abbrev pub first_weight : ℕ → ℕ
first_weight w = row_offset w 0 + weight_place

abbrev pub bad_call : Call
bad_call = call (set h_record (first_letter 1) 4) (record_length 2)

abbrev pub false_call : Call
false_call = call (set h_record (first_weight 1) 2) (record_length 2)

abbrev pub short_call : Call
short_call = call h_record (record_length 1 - 1)

-- a step and three refused calls
abbrev pub one_step : List Call
one_step = call h_record (record_length 1 + 1) ∷ bad_call ∷ false_call ∷ short_call ∷ []

-- three steps, the last two narrower than the record, with refused calls between
abbrev pub three_steps : List Call
three_steps = call cx_record (record_length 2) ∷ short_call ∷ call h_record (record_length 2) ∷ bad_call ∷ false_call ∷ call sz_record (record_length 2 + 1) ∷ []

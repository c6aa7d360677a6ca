-- Gate lists (scope document, "Gate list"): "Records of six bytes: gate, qubit, second qubit (0 for a one-qubit gate), 0, next index
-- low byte, high byte. Record 0 is the head: 0, width, 0, 0, next. Next 0 ends the chain."
use Rattle.std.specs.Prelude.{ℕ, zero, suc, ◌+◌, ◌*◌, ◌-◌, ◌/◌, cond, List, [], ◌∷◌, eqb, length, get_or}

abbrev pub record_size : ℕ
record_size = 6

-- in records, and in bytes
abbrev pub most_records : ℕ
most_records = 4096

abbrev pub longest_list : ℕ
longest_list = record_size * most_records

-- the number of records, and byte k of record i
unfoldable pub record_count : List ℕ → ℕ
record_count l = length l / record_size

unfoldable pub byte_of : List ℕ → ℕ → ℕ → ℕ
byte_of l i k = get_or l (record_size * i + k) 0

unfoldable pub list_width : List ℕ → ℕ
list_width l = byte_of l 0 1

unfoldable pub next_of : List ℕ → ℕ → ℕ
next_of l i = byte_of l i 4 + 256 * byte_of l i 5

-- what a record says is to be played
pub record Play : Type 0 where
  pub gate : ℕ
  pub first : ℕ
  pub second : ℕ

unfoldable pub play_of : List ℕ → ℕ → Play
play_of l i = record { gate = byte_of l i 0; first = byte_of l i 1; second = byte_of l i 2 }

-- ---- the chain

-- the records met from record i on, where at most n are left to meet
unfoldable pub chain_from : List ℕ → ℕ → ℕ → List ℕ
chain_from l zero i = []
chain_from l (suc n) i = cond (eqb i 0) [] (i ∷ chain_from l n (next_of l i))

-- the records on the chain: all but the head can be met
unfoldable pub chain_of : List ℕ → List ℕ
chain_of l = chain_from l (record_count l - 1) (next_of l 0)

unfoldable pub plays_of : List ℕ → List ℕ → List Play
plays_of l [] = []
plays_of l (i ∷ rest) = play_of l i ∷ plays_of l rest

-- the gates that the list holds, in the order of the chain
unfoldable pub gates_of : List ℕ → List Play
gates_of l = plays_of l (chain_of l)

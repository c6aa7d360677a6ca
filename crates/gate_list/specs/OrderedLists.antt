-- What a record of an admitted list says, and lists whose records stand in the order of their chain.
use Rattle.std.specs.Prelude.{ℕ, suc, ◌/◌, ◌%◌, ◌≤◌, ◌<◌, ◌≡◌, List, [], ◌∷◌, ◌++◌}
use Rattle.gate_list.specs.Lists.{Play, record_count, next_of}

-- a gate and its qubits, as the questions put to a record of a list of width w admit them
pub record PlayFits (w : ℕ) (p : Play) : Type 0 where
  pub gate : p.gate < 38
  pub first : p.first < w
  pub second : 24 ≤ p.gate → p.second < w
  pub different : 24 ≤ p.gate → p.first ≡ p.second → ⊥
  pub unused : p.gate < 24 → p.second ≡ 0

pub data PlaysFit (w : ℕ) : List Play → Type 0 where
  none : PlaysFit w []
  more : {p : Play} {rest : List Play} → PlayFits w p → PlaysFit w rest → PlaysFit w (p ∷ rest)

-- the chain from record i on holds these records and then ends
pub data Chain (l : List ℕ) : ℕ → List ℕ → Type 0 where
  ends : Chain l 0 []
  links : {i : ℕ} {rest : List ℕ} → (i ≡ 0 → ⊥) → i < record_count l → Chain l (next_of l i) rest → Chain l i (i ∷ rest)

-- ---- encoding

unfoldable pub record_bytes : Play → ℕ → List ℕ
record_bytes p next = p.gate ∷ p.first ∷ p.second ∷ 0 ∷ next % 256 ∷ next / 256 ∷ []

-- the link to the first of some records, which stand from record i on
unfoldable pub link_to : ℕ → List Play → ℕ
link_to i [] = 0
link_to i (p ∷ rest) = i

unfoldable pub records_from : ℕ → List Play → List ℕ
records_from i [] = []
records_from i (p ∷ rest) = record_bytes p (link_to (suc i) rest) ++ records_from (suc i) rest

-- "Record 0 is the head: 0, width, 0, 0, next"
unfoldable pub head_play : ℕ → Play
head_play w = record { gate = 0; first = w; second = 0 }

unfoldable pub ordered_list : ℕ → List Play → List ℕ
ordered_list w ps = records_from 0 (head_play w ∷ ps)

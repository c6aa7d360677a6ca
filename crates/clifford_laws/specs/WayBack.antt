-- Steps and the way back (scope document, section of that name): lists of calls `compose(a, record)`, refused ones included.
use Rattle.std.specs.Prelude.{ℕ, zero, suc, max, ◌≤◌, ◌≡◌, Bool, true, false, cond, List, [], ◌∷◌, length, take, drop, Ok, Err}
use Rattle.pauli.specs.Answers.{written, Outcome}
use Rattle.pauli.specs.Layout.{string_length}
use Rattle.pauli.specs.Questions.{string_questions}
use Rattle.clifford.specs.Layout.{record_length, width_of}
use Rattle.clifford.specs.Questions.{tableau_questions, apply_answer, compose_answer, inverse_answer}
use Rattle.clifford.specs.Tableaux.{record_valid, identity_record, apply_record, compose_record, inverse_record}

-- "a and the destination are whatever the caller brings"
pub record Call : Type 0 where
  pub a : List ℕ
  pub destination : List ℕ

-- "A call is accepted when its questions on entry all let it by": the answer that `compose` promises, where b is the record r
unfoldable pub is_done : Outcome → Bool
is_done (Ok tt) = true
is_done (Err x) = false

unfoldable pub call_answer : List ℕ → Call → Outcome
call_answer r c = compose_answer c.a r (length c.destination)

unfoldable pub accepts : List ℕ → Call → Bool
accepts r c = is_done (call_answer r c)

-- what `compose` promises the destination to hold then
unfoldable pub destination_after : List ℕ → Call → List ℕ
destination_after r c = written (call_answer r c) (compose_record c.a r) c.destination

-- "then what the last accepted call wrote", the record's own bytes of its destination; "A refused call changes no record"
unfoldable pub next_record : List ℕ → Call → List ℕ
next_record r c = cond (accepts r c) (take (record_length (max (width_of c.a) (width_of r))) (destination_after r c)) r

-- the record after a list of calls, from the record r on
unfoldable pub record_after : List ℕ → List Call → List ℕ
record_after r [] = r
record_after r (c ∷ cs) = record_after (next_record r c) cs

-- "step j is the j-th accepted one": the tableaux that the accepted calls brought, in their order
unfoldable pub steps_of : List ℕ → List Call → List (List ℕ)
steps_of r [] = []
steps_of r (c ∷ cs) = cond (accepts r c) (c.a ∷ steps_of (next_record r c) cs) (steps_of (next_record r c) cs)

-- "That its a is valid by the rule of `is_valid`, and no wider than n, is a premise on the list"
pub record Step (n : ℕ) (a : List ℕ) : Type 0 where
  pub valid : record_valid a ≡ true
  pub narrow : width_of a ≤ n

pub data Steps (n : ℕ) : List (List ℕ) → Type 0 where
  none : Steps n []
  step : {a : List ℕ} {rest : List (List ℕ)} → Step n a → Steps n rest → Steps n (a ∷ rest)

-- "composes their tableaux in that order, each on the left", from the record p on
unfoldable pub product_from : List ℕ → List (List ℕ) → List ℕ
product_from p [] = p
product_from p (a ∷ rest) = product_from (compose_record a p) rest

-- "from the identity of any one width up to n"
unfoldable pub product_of : ℕ → List (List ℕ) → List ℕ
product_of w steps = product_from (identity_record w) steps

-- "what the steps give it is by that rule over their own tableaux, each fed the answer of the one before"
unfoldable pub sent_by : List (List ℕ) → List ℕ → List ℕ
sent_by [] s = s
sent_by (a ∷ rest) s = sent_by rest (apply_record a s)

-- each `apply` on that way is accepted
pub data EachApplied (room : ℕ) : List (List ℕ) → List ℕ → Type 0 where
  none_left : {s : List ℕ} → EachApplied room [] s
  applied : {a s : List ℕ} {rest : List (List ℕ)} → apply_answer a s room ≡ Ok tt → EachApplied room rest (apply_record a s) → EachApplied room (a ∷ rest) s

-- The way back from the record now to the record then, which the steps earlier made. product is that of the steps since.
module _ (earlier : List (List ℕ)) (product then now : List ℕ) where
  abbrev pub back : List ℕ
  back = inverse_record product

  pub record WayBack : Type 0 where
    -- each call is accepted wherever the room suffices
    pub inverts : (room : ℕ) → length product ≤ room → inverse_answer product room ≡ Ok tt
    pub composes : (room : ℕ) → length now ≤ room → compose_answer back now room ≡ Ok tt
    pub applies : (s : List ℕ) → string_questions s ≡ Ok tt → (room : ℕ) → string_length ≤ room → apply_answer (compose_record back now) s room ≡ Ok tt
    -- byte for byte, the record then
    pub bytes : compose_record back now ≡ then
    -- as one call more of the list, into any destination that is long enough
    pub accepted : (d : List ℕ) → length now ≤ length d → accepts now (record { a = back; destination = d }) ≡ true
    pub returns : (d : List ℕ) → length now ≤ length d → next_record now (record { a = back; destination = d }) ≡ then
    -- strings of all letters and phases go as by the earlier steps
    pub sends : (s : List ℕ) → string_questions s ≡ Ok tt → (room : ℕ) → string_length ≤ room → EachApplied room earlier s
    pub strings : (s : List ℕ) → string_questions s ≡ Ok tt → apply_record (compose_record back now) s ≡ sent_by earlier s
    -- the inverse is a record, valid, of the product's width, and two-sided
    pub formed : tableau_questions back ≡ Ok tt
    pub valid : record_valid back ≡ true
    pub width : width_of back ≡ width_of product
    pub left : compose_record back product ≡ identity_record (width_of product)
    pub right : compose_record product back ≡ identity_record (width_of product)

-- the calls up to step k: the list up to its k-th accepted call
unfoldable pub calls_to : List ℕ → List Call → ℕ → List Call
calls_to r [] k = []
calls_to r (c ∷ cs) zero = []
calls_to r (c ∷ cs) (suc k) = c ∷ calls_to (next_record r c) cs (cond (accepts r c) k (suc k))

module _ (n : ℕ) (calls : List Call) where
  -- steps 1 to m
  abbrev pub steps : List (List ℕ)
  steps = steps_of (identity_record n) calls

  -- the record after all calls, and the record after step k
  abbrev pub record_now : List ℕ
  record_now = record_after (identity_record n) calls

  abbrev pub record_then : ℕ → List ℕ
  record_then k = record_after (identity_record n) (calls_to (identity_record n) calls k)

-- For every list of calls whose steps are valid and no wider than n, every k from 0 to m, and every width w up to n: the way back
-- to the record after step k, by the product of steps k+1 to m from the identity of width w.
abbrev pub WayBackTheorem : Type 0
WayBackTheorem =
    (n : ℕ) → n ≤ 128 → (calls : List Call) → Steps n (steps n calls) → (k : ℕ) → k ≤ length (steps n calls) → (w : ℕ) → w ≤ n
    → WayBack (take k (steps n calls)) (product_of w (drop k (steps n calls))) (record_then n calls k) (record_now n calls)

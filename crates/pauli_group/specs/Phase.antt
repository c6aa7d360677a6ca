-- Phases: +1, -1, +i and -i, the factors that a product of Pauli matrices picks up (Gottesman, section 2).
use Rattle.std.specs.Prelude.{ℕ, zero, suc, Bool, true, false}

pub data Phase : Type 0 where
  PlusOne MinusOne PlusI MinusI : Phase

-- a phase times -1
unfoldable pub negate : Phase → Phase
negate PlusOne = MinusOne
negate MinusOne = PlusOne
negate PlusI = MinusI
negate MinusI = PlusI

-- a phase times i
unfoldable pub turn : Phase → Phase
turn PlusOne = PlusI
turn PlusI = MinusOne
turn MinusOne = MinusI
turn MinusI = PlusOne

-- the product of two phases
infixl 70 ◌·◌
unfoldable pub ◌·◌ : Phase → Phase → Phase
unfolding negate turn
PlusOne · q = q
MinusOne · q = negate q
PlusI · q = turn q
MinusI · q = negate (turn q)

-- the complex conjugate: it exchanges +i and -i
unfoldable pub conjugate : Phase → Phase
conjugate PlusOne = PlusOne
conjugate MinusOne = MinusOne
conjugate PlusI = MinusI
conjugate MinusI = PlusI

-- a real phase is +1 or -1
unfoldable pub is_real : Phase → Bool
is_real PlusOne = true
is_real MinusOne = true
is_real PlusI = false
is_real MinusI = false

-- -1 for true, +1 for false
unfoldable pub sign : Bool → Phase
sign true = MinusOne
sign false = PlusOne

-- -1 to the power n
unfoldable pub minus_one_to : ℕ → Phase
minus_one_to zero = PlusOne
minus_one_to (suc n) = negate (minus_one_to n)

-- The images of the 38 gates, by number (scope document, "Gate number"): `IMAGES_1Q` of clifford.rs and the constructors of
-- clifford_rep.rs.
use Rattle.std.specs.Prelude.{◌≡◌, Bool, true, false, cond, not, List, [], ◌∷◌}
use Rattle.pauli_group.specs.Phase.{Phase, PlusOne, MinusOne, is_real}
use Rattle.pauli_group.specs.Letter.{Letter, I, X, Z, Y, anticommute}

-- a letter with its sign
pub record Image : Type 0 where
  pub phase : Phase
  pub letter : Letter

abbrev pub plus : Letter → Image
plus l = record { phase = PlusOne; letter = l }

abbrev pub minus : Letter → Image
minus l = record { phase = MinusOne; letter = l }

-- what a one-qubit gate makes of X and of Z
pub record OneQubit : Type 0 where
  pub x : Image
  pub z : Image

abbrev pub one_qubit : Image → Image → OneQubit
one_qubit x z = record { x = x; z = z }

-- gates 0 to 23
unfoldable pub one_qubit_gates : List OneQubit
one_qubit_gates =
    one_qubit (plus X) (plus Z) ∷  -- 0: I
    one_qubit (plus X) (minus Z) ∷  -- 1: X
    one_qubit (minus X) (minus Z) ∷  -- 2: Y
    one_qubit (minus X) (plus Z) ∷  -- 3: Z
    one_qubit (plus Z) (plus X) ∷  -- 4: H
    one_qubit (minus Z) (minus X) ∷  -- 5: H2
    one_qubit (plus Y) (minus Z) ∷  -- 6: H3
    one_qubit (minus Y) (minus Z) ∷  -- 7: H4
    one_qubit (minus X) (plus Y) ∷  -- 8: H5
    one_qubit (minus X) (minus Y) ∷  -- 9: H6
    one_qubit (plus X) (minus Y) ∷  -- 10: SX
    one_qubit (plus X) (plus Y) ∷  -- 11: SXdg
    one_qubit (minus Z) (plus X) ∷  -- 12: SY
    one_qubit (plus Z) (minus X) ∷  -- 13: SYdg
    one_qubit (plus Y) (plus Z) ∷  -- 14: SZ
    one_qubit (minus Y) (plus Z) ∷  -- 15: SZdg
    one_qubit (plus Y) (plus X) ∷  -- 16: F
    one_qubit (plus Z) (plus Y) ∷  -- 17: Fdg
    one_qubit (minus Z) (plus Y) ∷  -- 18: F2
    one_qubit (minus Y) (minus X) ∷  -- 19: F2dg
    one_qubit (plus Y) (minus X) ∷  -- 20: F3
    one_qubit (minus Z) (minus Y) ∷  -- 21: F3dg
    one_qubit (plus Z) (minus Y) ∷  -- 22: F4
    one_qubit (minus Y) (plus X) ∷  -- 23: F4dg
    []

-- a valid entry: its phases are real and its letters anticommute
pub record ValidImages (g : OneQubit) : Type 0 where
  pub x_real : is_real g.x.phase ≡ true
  pub z_real : is_real g.z.phase ≡ true
  pub anticommuting : anticommute g.x.letter g.z.letter ≡ true

-- P holds of every entry
pub data All {A : Type 0} (P : A → Type 0) : List A → Type 0 where
  none : All P []
  more : {a : A} {rest : List A} → P a → All P rest → All P (a ∷ rest)

-- no entry comes twice: each differs from all that follow it
pub data Different {A : Type 0} : List A → Type 0 where
  none : Different []
  more : {a : A} {rest : List A} → All (λ b. a ≡ b → ⊥) rest → Different rest → Different (a ∷ rest)

-- a letter on each of two qubits, with their sign
pub record PairImage : Type 0 where
  pub phase : Phase
  pub first : Letter
  pub second : Letter

abbrev pub pair_plus : Letter → Letter → PairImage
pair_plus a b = record { phase = PlusOne; first = a; second = b }

abbrev pub pair_minus : Letter → Letter → PairImage
pair_minus a b = record { phase = MinusOne; first = a; second = b }

-- what a two-qubit gate makes of X and of Z on its first and on its second qubit
pub record TwoQubit : Type 0 where
  pub x0 : PairImage
  pub x1 : PairImage
  pub z0 : PairImage
  pub z1 : PairImage

abbrev pub two_qubit : PairImage → PairImage → PairImage → PairImage → TwoQubit
two_qubit x0 x1 z0 z1 = record { x0 = x0; x1 = x1; z0 = z0; z1 = z1 }

-- gates 24 to 37
unfoldable pub two_qubit_gates : List TwoQubit
two_qubit_gates =
    two_qubit (pair_plus X X) (pair_plus I X) (pair_plus Z I) (pair_plus Z Z) ∷  -- 24: CX
    two_qubit (pair_plus X Y) (pair_plus Z X) (pair_plus Z I) (pair_plus Z Z) ∷  -- 25: CY
    two_qubit (pair_plus X Z) (pair_plus Z X) (pair_plus Z I) (pair_plus I Z) ∷  -- 26: CZ
    two_qubit (pair_plus I X) (pair_plus X I) (pair_plus I Z) (pair_plus Z I) ∷  -- 27: SWAP
    two_qubit (pair_plus X I) (pair_plus I X) (pair_minus Y X) (pair_minus X Y) ∷  -- 28: SXX
    two_qubit (pair_plus X I) (pair_plus I X) (pair_plus Y X) (pair_plus X Y) ∷  -- 29: SXXdg
    two_qubit (pair_minus Z Y) (pair_minus Y Z) (pair_plus X Y) (pair_plus Y X) ∷  -- 30: SYY
    two_qubit (pair_plus Z Y) (pair_plus Y Z) (pair_minus X Y) (pair_minus Y X) ∷  -- 31: SYYdg
    two_qubit (pair_plus Y Z) (pair_plus Z Y) (pair_plus Z I) (pair_plus I Z) ∷  -- 32: SZZ
    two_qubit (pair_minus Y Z) (pair_minus Z Y) (pair_plus Z I) (pair_plus I Z) ∷  -- 33: SZZdg
    two_qubit (pair_plus Z Y) (pair_plus Y Z) (pair_plus I Z) (pair_plus Z I) ∷  -- 34: ISWAP
    two_qubit (pair_minus Z Y) (pair_minus Y Z) (pair_plus I Z) (pair_plus Z I) ∷  -- 35: ISWAPdg
    two_qubit (pair_plus I X) (pair_plus X I) (pair_plus X Z) (pair_plus Z X) ∷  -- 36: G
    two_qubit (pair_plus I X) (pair_plus X I) (pair_plus X Z) (pair_plus Z X) ∷  -- 37: Gdg
    []

-- two such images commute where both letters anticommute, or neither
unfoldable pub pairs_commute : PairImage → PairImage → Bool
pairs_commute i j =
    cond (anticommute i.first j.first) (anticommute i.second j.second) (not (anticommute i.second j.second))

-- a valid entry: its phases are real, X and Z images of one qubit anticommute, every other pair commutes
pub record ValidPairImages (g : TwoQubit) : Type 0 where
  pub x0_real : is_real g.x0.phase ≡ true
  pub x1_real : is_real g.x1.phase ≡ true
  pub z0_real : is_real g.z0.phase ≡ true
  pub z1_real : is_real g.z1.phase ≡ true
  pub first : pairs_commute g.x0 g.z0 ≡ false
  pub second : pairs_commute g.x1 g.z1 ≡ false
  pub xx : pairs_commute g.x0 g.x1 ≡ true
  pub xz : pairs_commute g.x0 g.z1 ≡ true
  pub zx : pairs_commute g.z0 g.x1 ≡ true
  pub zz : pairs_commute g.z0 g.z1 ≡ true

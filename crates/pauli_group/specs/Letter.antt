-- Letters: the four Pauli matrices, and their sixteen products (Gottesman, section 2).
use Rattle.std.specs.Prelude.{Bool, true, false}
use Rattle.pauli_group.specs.Phase.{Phase, PlusOne, PlusI, MinusI}

pub data Letter : Type 0 where
  I X Z Y : Letter

-- I is neutral; equal letters give I; XY = iZ, YZ = iX, ZX = iY; the reverse orders give -i.
unfoldable pub letter_product : Letter → Letter → Phase × Letter
letter_product I b = (PlusOne, b)
letter_product X I = (PlusOne, X)
letter_product X X = (PlusOne, I)
letter_product X Y = (PlusI, Z)
letter_product X Z = (MinusI, Y)
letter_product Y I = (PlusOne, Y)
letter_product Y X = (MinusI, Z)
letter_product Y Y = (PlusOne, I)
letter_product Y Z = (PlusI, X)
letter_product Z I = (PlusOne, Z)
letter_product Z X = (PlusI, Y)
letter_product Z Y = (MinusI, X)
letter_product Z Z = (PlusOne, I)

-- the phase of a product of two letters, and its letter
unfoldable pub letter_phase : Letter → Letter → Phase
unfolding letter_product
letter_phase a b = (letter_product a b).0

unfoldable pub letter_mul : Letter → Letter → Letter
unfolding letter_product
letter_mul a b = (letter_product a b).1

-- a letter other than I
unfoldable pub not_i : Letter → Bool
not_i I = false
not_i X = true
not_i Z = true
not_i Y = true

-- two letters anticommute when they differ and neither is I
unfoldable pub anticommute : Letter → Letter → Bool
anticommute I b = false
anticommute X I = false
anticommute X X = false
anticommute X Y = true
anticommute X Z = true
anticommute Y I = false
anticommute Y X = true
anticommute Y Y = false
anticommute Y Z = true
anticommute Z I = false
anticommute Z X = true
anticommute Z Y = true
anticommute Z Z = false

-- The support of a tableau, by the rule of the Rust: "the count is the result; one byte for each qubit is written, rising".
use Rattle.std.specs.Prelude.{ℕ, zero, suc, Bool, true, false, cond, not, ◌&&◌, ◌||◌, List, [], ◌∷◌, ◌++◌, ◌==◌}
use Rattle.pauli_group.specs.Phase.{Phase, PlusOne, MinusOne, PlusI, MinusI}
use Rattle.pauli_group.specs.Letter.{Letter, X, Z}
use Rattle.pauli_group.specs.PauliString.{PauliString, has_letter, single}
use Rattle.clifford_group.specs.Tableau.{Tableau, all_to}
use Rattle.pauli.specs.Layout.{letter_byte}

unfoldable pub is_plus_one : Phase → Bool
is_plus_one PlusOne = true
is_plus_one MinusOne = false
is_plus_one PlusI = false
is_plus_one MinusI = false

-- two strings have the same letter on qubit c
unfoldable pub alike_at : PauliString → PauliString → ℕ → Bool
alike_at s t c = letter_byte (s.letters c) == letter_byte (t.letters c)

-- the string is +l on qubit q, with I on all others below w
unfoldable pub is_single : ℕ → Letter → ℕ → PauliString → Bool
is_single w l q s = is_plus_one s.phase && all_to w (alike_at s (single l q))

-- the X row of q is not +X of q, or its Z row is not +Z of q
unfoldable pub changed_qubit : Tableau → ℕ → Bool
changed_qubit t q = not (is_single t.width X q (t.x_image q) && is_single t.width Z q (t.z_image q))

-- k is q, or has a letter in the X row or in the Z row of q
unfoldable pub touches_qubit : Tableau → ℕ → ℕ → Bool
touches_qubit t k q = q == k || (has_letter (t.x_image q) k || has_letter (t.z_image q) k)

unfoldable pub supports_qubit : Tableau → ℕ → ℕ → Bool
supports_qubit t k q = touches_qubit t k q && changed_qubit t q

-- f holds for some of 0 to n - 1
unfoldable pub some_to : ℕ → (ℕ → Bool) → Bool
some_to zero f = false
some_to (suc n) f = some_to n f || f n

-- the places 0 to n - 1 that have f, rising
unfoldable pub places_with : ℕ → (ℕ → Bool) → List ℕ
places_with zero f = []
places_with (suc n) f = places_with n f ++ cond (f n) (n ∷ []) []

unfoldable pub in_support : Tableau → ℕ → Bool
in_support t k = some_to t.width (supports_qubit t k)

unfoldable pub support_qubits : Tableau → List ℕ
support_qubits t = places_with t.width (in_support t)

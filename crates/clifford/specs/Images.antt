-- A tableau with one image set, and the tableau of a Pauli string.
use Rattle.std.specs.Prelude.{ℕ, max, cond, ◌==◌}
use Rattle.pauli_group.specs.Letter.{X, Z}
use Rattle.pauli_group.specs.PauliString.{PauliString, qubits, last_to, has_letter, scale, single, commutation_sign}
use Rattle.clifford_group.specs.Tableau.{Tableau}

-- one image replaced
unfoldable pub with_x_image : Tableau → ℕ → PauliString → Tableau
with_x_image t q s = record { width = t.width; x_image = λ r. cond (r == q) s (t.x_image r); z_image = t.z_image }

unfoldable pub with_z_image : Tableau → ℕ → PauliString → Tableau
with_z_image t q s = record { width = t.width; x_image = t.x_image; z_image = λ r. cond (r == q) s (t.z_image r) }

-- 1 + the highest qubit that has a letter, and 1 where none has ("width 1 for no letters")
unfoldable pub pauli_width : PauliString → ℕ
pauli_width s = max 1 (last_to qubits (has_letter s))

-- A Pauli string as a tableau: conjugation by it keeps X and Z on a qubit up to the sign by which they and the string change
-- places. So its phase is dropped.
unfoldable pub pauli_tableau : PauliString → Tableau
pauli_tableau s = record {
  width = pauli_width s;
  x_image = λ q. scale (commutation_sign s (single X q)) (single X q);
  z_image = λ q. scale (commutation_sign s (single Z q)) (single Z q);
}

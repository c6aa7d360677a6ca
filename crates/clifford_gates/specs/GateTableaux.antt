-- The tableaux of gates (scope document, "Gate number").
use Rattle.std.specs.Prelude.{ℕ, suc, max, cond, eqb}
use Rattle.pauli_group.specs.Letter.{Letter, X, Z}
use Rattle.pauli_group.specs.PauliString.{PauliString, mul, scale, single}
use Rattle.clifford_group.specs.Tableau.{Tableau}
use Rattle.clifford_gates.specs.Gates.{Image, plus, OneQubit, one_qubit, PairImage, TwoQubit}

-- an image, on qubit q
unfoldable pub image_string : Image → ℕ → PauliString
image_string i q = scale i.phase (single i.letter q)

-- one gate on each qubit below the width
unfoldable pub gate_on_each : ℕ → (ℕ → OneQubit) → Tableau
gate_on_each w f = record { width = w; x_image = λ q. image_string (f q).x q; z_image = λ q. image_string (f q).z q }

-- the gate I
abbrev pub unchanged : OneQubit
unchanged = one_qubit (plus X) (plus Z)

-- "A one-qubit gate on q has width q+1": the gate on q, and I below it
unfoldable pub on_qubit : OneQubit → ℕ → Tableau
on_qubit g q = gate_on_each (suc q) (λ k. cond (eqb k q) g unchanged)

-- an image on two qubits
unfoldable pub pair_string : PairImage → ℕ → ℕ → PauliString
pair_string i q r = scale i.phase (mul (single i.first q) (single i.second r))

-- a row of a two-qubit gate: the images on q and r, and the letter itself on any other qubit
unfoldable pub pair_row : ℕ → ℕ → PairImage → PairImage → Letter → ℕ → PauliString
pair_row q r i j l k = cond (eqb k q) (pair_string i q r) (cond (eqb k r) (pair_string j q r) (single l k))

-- "a two-qubit gate the larger qubit plus 1"
unfoldable pub on_qubits : TwoQubit → ℕ → ℕ → Tableau
on_qubits g q r = record {
  width = suc (max q r);
  x_image = pair_row q r g.x0 g.x1 X;
  z_image = pair_row q r g.z0 g.z1 Z;
}

-- Rows of generators: what two same tableaux and a proper one say of them, and which rows there are.
use mathlib.Core.Path.{◌≡◌, refl}
use Prim.Native.Nat.{ℕ, ◌≤◌, ◌<◌}
use Rattle.pauli_group.specs.PauliString.{qubits, single, Within}
use Rattle.clifford_group.specs.Tableau.{Tableau, identity_tableau, row_image, image_of, widen, Proper, Same}
use Rattle.clifford_group.specs.Conjugation.{Generator, of_x, of_z, generator, row}

-- ---- the same tableaux, and proper ones
pub same_row : (t u : Tableau) → Same t u → (g : Generator) (q : ℕ) → q < t.width → row t g q ≡ row u g q
same_row t u e of_x = e.x_image
same_row t u e of_z = e.z_image

pub rows_same : (t u : Tableau) → t.width ≡ u.width → ((g : Generator) (q : ℕ) → q < t.width → row t g q ≡ row u g q) → Same t u
rows_same t u w e = record { width = w; x_image = e of_x; z_image = e of_z }

pub proper-row : (t : Tableau) → Proper t → (g : Generator) (q : ℕ) → q < t.width → Within t.width (row t g q)
proper-row t p of_x = p.x_within
proper-row t p of_z = p.z_within

pub rows-proper : (t : Tableau) → t.width ≤ qubits → ((g : Generator) (q : ℕ) → q < t.width → Within t.width (row t g q))
    → Proper t
rows-proper t n w = record { narrow = n; x_within = w of_x; z_within = w of_z }

-- ---- which rows there are
pub row_image_lem : (t : Tableau) (g : Generator) (q : ℕ) → row_image t q (generator g) ≡ row t g q
unfolding row_image
row_image_lem t of_x q = refl
row_image_lem t of_z q = refl

pub row-identity : (w : ℕ) (g : Generator) (q : ℕ) → row (identity_tableau w) g q ≡ single (generator g) q
unfolding identity_tableau
row-identity w of_x q = refl
row-identity w of_z q = refl

pub row-widen : (n : ℕ) (t : Tableau) (g : Generator) (q : ℕ) → row (widen n t) g q ≡ image_of t q (generator g)
unfolding widen
row-widen n t of_x q = refl
row-widen n t of_z q = refl

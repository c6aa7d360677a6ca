-- Clifford tableaux: the images of X and Z on each qubit (Gottesman; Aaronson and Gottesman, section III). The rules are those of
-- the scope document, section "Tableau record".
use Rattle.std.specs.Prelude.{◌≡◌, Bool, true, false, cond, not, ◌&&◌, ℕ, zero, suc, ◌≤◌, ◌<◌, max, ltb}
use Rattle.pauli_group.specs.Phase.{PlusOne, PlusI, conjugate, is_real}
use Rattle.pauli_group.specs.Letter.{Letter, I, X, Z, Y}
use Rattle.pauli_group.specs.PauliString.{PauliString, qubits, mul, identity_string, scale, single, commute, Within}

-- X rows and Z rows 0 to width - 1. Rows at the width and above have no meaning.
pub record Tableau : Type 0 where
  pub width : ℕ
  pub x_image : ℕ → PauliString
  pub z_image : ℕ → PauliString

-- the identity of width w: X row q is +X on q, Z row q is +Z on q, all other letters I
unfoldable pub identity_tableau : ℕ → Tableau
identity_tableau w = record { width = w; x_image = single X; z_image = single Z }

-- ---- apply

-- by rows: the X image for X, the Z image for Z, and i times X image times Z image for Y
unfoldable pub row_image : Tableau → ℕ → Letter → PauliString
row_image t q I = identity_string
row_image t q X = t.x_image q
row_image t q Z = t.z_image q
row_image t q Y = scale PlusI (mul (t.x_image q) (t.z_image q))

-- the image of a letter on qubit q: below the width by rows; letters at the width or above pass through
unfoldable pub image_of : Tableau → ℕ → Letter → PauliString
image_of t q l = cond (ltb q t.width) (row_image t q l) (single l q)

-- Start with the string's phase and identity letters. By rising qubit multiply on the right by the image of the qubit's
-- letter; here, for the qubits 0 to k - 1.
unfoldable pub apply_to : ℕ → Tableau → PauliString → PauliString
apply_to zero t s = record { phase = s.phase; letters = λ q. I }
apply_to (suc k) t s = mul (apply_to k t s) (image_of t k (s.letters k))

-- over all qubits. Of an invalid tableau nothing beyond this rule is claimed.
unfoldable pub apply : Tableau → PauliString → PauliString
apply t s = apply_to qubits t s

-- ---- compose

-- widened to width n: identity rows follow the tableau's own; a smaller n gives a copy
unfoldable pub widen : ℕ → Tableau → Tableau
widen n t = record { width = max t.width n; x_image = λ q. image_of t q X; z_image = λ q. image_of t q Z }

-- Widen both to the larger width; row r is a applied to b's row r. So b acts first.
unfoldable pub compose : Tableau → Tableau → Tableau
compose a b =
    let n : ℕ = max a.width b.width in
    record {
      width = n;
      x_image = λ r. apply (widen n a) ((widen n b).x_image r);
      z_image = λ r. apply (widen n a) ((widen n b).z_image r);
    }

-- ---- validity

-- f holds for 0 to n - 1
unfoldable pub all_to : ℕ → (ℕ → Bool) → Bool
all_to zero f = true
all_to (suc n) f = all_to n f && f n

-- the rows of one qubit: their phases are real, and X and Z images anticommute
unfoldable pub valid_qubit : Tableau → ℕ → Bool
valid_qubit t q =
    (is_real (t.x_image q).phase && is_real (t.z_image q).phase) && not (commute (t.x_image q) (t.z_image q))

-- the rows of two qubits: they commute
unfoldable pub valid_pair : Tableau → ℕ → ℕ → Bool
valid_pair t q r =
    (commute (t.x_image q) (t.x_image r) && commute (t.x_image q) (t.z_image r))
    && (commute (t.z_image q) (t.x_image r) && commute (t.z_image q) (t.z_image r))

-- phases real, X and Z images of one qubit anticommute, every other pair commutes; so width 0 is valid
unfoldable pub is_valid : Tableau → Bool
is_valid t = all_to t.width (λ q. valid_qubit t q && all_to q (valid_pair t q))

-- ---- inverse

-- a letter's two bits, x z = 00 I, 10 X, 01 Z, 11 Y (Aaronson and Gottesman, section III), and the letter of two bits
unfoldable pub has_x : Letter → Bool
has_x I = false
has_x X = true
has_x Z = false
has_x Y = true

unfoldable pub has_z : Letter → Bool
has_z I = false
has_z X = false
has_z Z = true
has_z Y = true

unfoldable pub letter_of_bits : Bool → Bool → Letter
letter_of_bits false false = I
letter_of_bits true false = X
letter_of_bits false true = Z
letter_of_bits true true = Y

-- Letters by the symplectic transpose, as in the Rust: at c the x bit comes from Z row c and the z bit from X row c, both read
-- in column q. The bit read there is the z bit for the inverse's X row q and the x bit for its Z row q.
unfoldable pub transposed : Tableau → (Letter → Bool) → ℕ → PauliString
transposed t bit q = record {
  phase = PlusOne;
  letters = λ c. cond (ltb c t.width) (letter_of_bits (bit ((t.z_image c).letters q)) (bit ((t.x_image c).letters q))) I;
}

-- that body, with the conjugate of the phase met when the body is sent forward
unfoldable pub inverse_row : Tableau → (Letter → Bool) → ℕ → PauliString
inverse_row t bit q = record { phase = conjugate (apply t (transposed t bit q)).phase; letters = (transposed t bit q).letters }

-- The width is kept. Defined for invalid tableaux too.
unfoldable pub inverse : Tableau → Tableau
inverse t = record { width = t.width; x_image = inverse_row t has_z; z_image = inverse_row t has_x }

-- ---- which tableaux are meant, and when two are the same

-- what a record holds: a width up to `qubits`, and rows with no letter at the width or above
pub record Proper (t : Tableau) : Type 0 where
  pub narrow : t.width ≤ qubits
  pub x_within : (q : ℕ) → q < t.width → Within t.width (t.x_image q)
  pub z_within : (q : ℕ) → q < t.width → Within t.width (t.z_image q)

-- such a tableau that is valid
pub record Clifford (t : Tableau) : Type 0 where
  pub proper : Proper t
  pub valid : is_valid t ≡ true

-- one width, and the same rows
pub record Same (t u : Tableau) : Type 0 where
  pub width : t.width ≡ u.width
  pub x_image : (q : ℕ) → q < t.width → t.x_image q ≡ u.x_image q
  pub z_image : (q : ℕ) → q < t.width → t.z_image q ≡ u.z_image q

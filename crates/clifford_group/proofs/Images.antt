-- Images of letters: by the tableau's own rows below its width, the letters themselves from there on. Tableaux of whatever widths
-- with the same images below `qubits` are alike, as a tableau and its widenings are.
use mathlib.Core.Path.{◌≡◌, refl, sym, ap, ap₂, ◌∙◌, subst}
use mathlib.Core.Bool.{cond}
use Prim.Native.Nat.{ℕ, zero, ◌≤◌, ◌<◌, max, zero-le}
use native.Mathlib.Nat.{le_trans}
use native.Mathlib.Omega.{arith}
use native.Mathlib.Decide.{dec_lt}
use borrow.Author.Tests.{lt-ltb, le-ltb}
use Rattle.pauli_group.specs.Phase.{PlusI, MinusI, ◌·◌, negate, turn}
use Rattle.pauli_group.specs.Letter.{Letter, I, X, Z, Y, letter_product, letter_phase, letter_mul}
use Rattle.pauli_group.specs.PauliString.{PauliString, qubits, mul, identity_string, scale, single, Within}
use Rattle.pauli_group.proofs.Strings.{scale-scale, scale_one, within-identity, within-mul, within-scale, within-single}
use Rattle.clifford_group.specs.Tableau.{Tableau, identity_tableau, row_image, image_of, widen, Proper, Same}
use Rattle.clifford_group.specs.Conjugation.{Generator, of_x, of_z, generator, row}
use Rattle.clifford_group.proofs.Singles.{single-I, mul_singles}
use Rattle.clifford_group.proofs.Rows.{same_row, rows_same, proper-row, rows-proper}
use Rattle.clifford_group.proofs.Rows.{row_image_lem, row-identity, row-widen}

pub image_own : (t : Tableau) (q : ℕ) (l : Letter) → q < t.width → image_of t q l ≡ row_image t q l
unfolding image_of
image_own t q l h = ap (λ b. cond b (row_image t q l) (single l q)) (lt-ltb q t.width h)

pub image_above : (t : Tableau) (q : ℕ) (l : Letter) → t.width ≤ q → image_of t q l ≡ single l q
unfolding image_of
image_above t q l h = ap (λ b. cond b (row_image t q l) (single l q)) (le-ltb q t.width h)

pub image_row : (t : Tableau) (g : Generator) (q : ℕ) → q < t.width → image_of t q (generator g) ≡ row t g q
image_row t g q h = image_own t q (generator g) h ∙ row_image_lem t g q

-- ---- I and Y, at the width and above too
pub image_I : (t : Tableau) (q : ℕ) → image_of t q I ≡ identity_string
unfolding row_image
image_I t q = elim (dec_lt q t.width) [ yes h ↦ image_own t q I h | no h ↦ image_above t q I (omega arith) ∙ single-I q ]

-- i times X times Z
abbrev times_y : PauliString → PauliString → PauliString
times_y x z = scale PlusI (mul x z)

pub single-Y : (q : ℕ) → q < qubits → single Y q ≡ times_y (single X q) (single Z q)
unfolding letter_product letter_phase letter_mul ◌·◌ negate turn
single-Y q h = sym (ap (scale PlusI) (mul_singles X Z q h) ∙ scale-scale PlusI MinusI (single Y q) ∙ scale_one (single Y q))

pub image_Y : (t : Tableau) (q : ℕ) → q < qubits → image_of t q Y ≡ scale PlusI (mul (image_of t q X) (image_of t q Z))
unfolding row_image
image_Y t q k = elim (dec_lt q t.width) [
  | yes h ↦ image_own t q Y h ∙ ap₂ times_y (sym (image_own t q X h)) (sym (image_own t q Z h))
  | no h ↦ image_above t q Y (omega arith) ∙ single-Y q k
      ∙ ap₂ times_y (sym (image_above t q X (omega arith))) (sym (image_above t q Z (omega arith)))
]

-- the images of X and Z decide those of every letter
pub image_generators : (t u : Tableau) (q : ℕ) → q < qubits
    → ((g : Generator) → image_of t q (generator g) ≡ image_of u q (generator g)) → (l : Letter) → image_of t q l ≡ image_of u q l
image_generators t u q h e I = image_I t q ∙ sym (image_I u q)
image_generators t u q h e X = e of_x
image_generators t u q h e Z = e of_z
image_generators t u q h e Y = image_Y t q h ∙ ap₂ times_y (e of_x) (e of_z) ∙ sym (image_Y u q h)

-- ---- the same rows, and the same images
pub image_same : (t u : Tableau) → Same t u → (q : ℕ) (l : Letter) → image_of t q l ≡ image_of u q l
unfolding row_image
image_same t u e q l = elim (dec_lt q t.width) [
  | yes h ↦ image_own t q l h ∙ rows h l ∙ sym (image_own u q l (subst (λ w. q < w) e.width h))
  | no h ↦ image_above t q l (omega arith) ∙ sym (image_above u q l (omega (arith, e.width)))
]
  where
    rows : q < t.width → (l : Letter) → row_image t q l ≡ row_image u q l
    rows h I = refl
    rows h X = same_row t u e of_x q h
    rows h Z = same_row t u e of_z q h
    rows h Y = ap₂ times_y (same_row t u e of_x q h) (same_row t u e of_z q h)

pub same-images : (t u : Tableau) → t.width ≡ u.width
    → ((g : Generator) (q : ℕ) → q < t.width → image_of t q (generator g) ≡ image_of u q (generator g)) → Same t u
same-images t u w e =
    rows_same t u w (λ g q h. sym (image_row t g q h) ∙ e g q h ∙ image_row u g q (subst (λ v. q < v) w h))

abbrev pub Alike : Tableau → Tableau → Type 0
Alike t u = (q : ℕ) (l : Letter) → q < qubits → image_of t q l ≡ image_of u q l

pub alike_same : (t u : Tableau) → Same t u → Alike t u
alike_same t u e q l h = image_same t u e q l

pub same_alike : (t u : Tableau) → t.width ≡ u.width → t.width ≤ qubits → Alike t u → Same t u
same_alike t u w n e = same-images t u w (λ g q h. e q (generator g) (le_trans h n))

-- ---- widening
image_widen : (n : ℕ) (t : Tableau) (g : Generator) (q : ℕ) → image_of (widen n t) q (generator g) ≡ image_of t q (generator g)
unfolding widen
image_widen n t g q = elim (dec_lt q (max t.width n)) [
  | yes h ↦ image_row (widen n t) g q h ∙ row-widen n t g q
  | no h ↦ image_above (widen n t) q (generator g) (omega arith) ∙ sym (image_above t q (generator g) (omega arith))
]

pub alike-widen : (n : ℕ) (t : Tableau) → Alike (widen n t) t
alike-widen n t q l h = image_generators (widen n t) t q h (λ g. image_widen n t g q) l

-- ---- an identity's images are the letters themselves
pub image_identity : (w q : ℕ) (l : Letter) → q < qubits → image_of (identity_tableau w) q l ≡ single l q
unfolding identity_tableau
image_identity w q l h = image_generators (identity_tableau w) none q h each l ∙ through l
  where
    none : Tableau
    none = identity_tableau zero

    through : (l : Letter) → image_of none q l ≡ single l q
    through l = image_above none q l zero-le

    each : (g : Generator) → image_of (identity_tableau w) q (generator g) ≡ image_of none q (generator g)
    each g = elim (dec_lt q w) [
      | yes k ↦ image_row (identity_tableau w) g q k ∙ row-identity w g q
      | no k ↦ image_above (identity_tableau w) q (generator g) (omega arith)
    ] ∙ sym (through (generator g))

-- ---- a proper tableau's image of a letter on a qubit below n has no letter at n or above
pub within_image : (t : Tableau) → Proper t → (n : ℕ) → t.width ≤ n → (q : ℕ) (l : Letter) → q < n → Within n (image_of t q l)
unfolding row_image
within_image t p n w q l k = elim (dec_lt q t.width) [
  | yes h ↦ subst (Within n) (sym (image_own t q l h)) (rows h l)
  | no h ↦ subst (Within n) (sym (image_above t q l (omega arith))) (within-single n l q k)
]
  where
    own : q < t.width → (g : Generator) → Within n (row t g q)
    own h g c m = proper-row t p g q h c (le_trans w m)

    rows : q < t.width → (l : Letter) → Within n (row_image t q l)
    rows h I = within-identity n
    rows h X = own h of_x
    rows h Z = own h of_z
    rows h Y = within-scale n PlusI _ (within-mul n (t.x_image q) (t.z_image q) (own h of_x) (own h of_z))

pub proper-widen : (n : ℕ) → n ≤ qubits → (t : Tableau) → Proper t → Proper (widen n t)
unfolding widen
proper-widen n h t p =
    rows-proper (widen n t) (omega (arith, p.narrow))
    (λ g q l. subst (Within (max t.width n)) (sym (row-widen n t g q))
    (within_image t p (max t.width n) (omega arith) q (generator g) l))

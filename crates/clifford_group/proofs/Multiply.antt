-- Where a tableau is valid the images of its qubits multiply as their letters do; of a proper one then all images below `qubits` do.
use mathlib.Core.Path.{◌≡◌, sym, ap, ap₂, ◌∙◌, subst}
use mathlib.Core.Logic.{◌≢◌}
use Prim.Native.Nat.{ℕ, ◌≤◌, ◌<◌}
use native.Mathlib.Nat.{le_refl}
use native.Mathlib.Omega.{arith}
use native.Mathlib.Decide.{dec_lt}
use Rattle.pauli_group.specs.Phase.{MinusOne, PlusI, negate, turn, ◌·◌}
use Rattle.pauli_group.specs.Letter.{Letter, I, X, Z, Y, letter_product, letter_phase, letter_mul}
use Rattle.pauli_group.specs.PauliString.{PauliString, qubits, mul, identity_string, scale, single}
use Rattle.pauli_group.proofs.Strings.{scale-scale, scale_one, scale-mul, mul-scale, mul_assoc, identity-mul, mul-identity}
use Rattle.pauli_group.proofs.Strings.{real_squares, commute-mul, anticommute-mul}
use Rattle.clifford_group.specs.Tableau.{Tableau, row_image, image_of, Clifford}
use Rattle.clifford_group.specs.Conjugation.{Generator, of_x, of_z, row, Valid}
use Rattle.clifford_group.proofs.Singles.{mul_singles}
use Rattle.clifford_group.proofs.Commuting.{Commuting, commuting_free, commuting_singles, commuting-identity, commuting-scale, commuting-mul}
use Rattle.clifford_group.proofs.Images.{image_own, image_above, within_image}
use Rattle.clifford_group.proofs.Valid.{test_valid}

-- the images of the first n qubits: on one qubit they multiply by the letter products, and on two they commute
pub record ImagesMultiply (n : ℕ) (t : Tableau) : Type 0 where
  pub together : (q : ℕ) (a b : Letter) → q < n
      → mul (image_of t q a) (image_of t q b) ≡ scale (letter_phase a b) (image_of t q (letter_mul a b))
  pub apart : (q r : ℕ) (a b : Letter) → q < n → r < n → q ≢ r → Commuting (image_of t q a) (image_of t r b)

-- ---- one qubit: from x x = z z = 1 and z x = - x z
module _ (x z : PauliString) (xx : mul x x ≡ identity_string) (zz : mul z z ≡ identity_string) (zx : mul z x ≡ scale MinusOne (mul x z)) where
  x-x : (s : PauliString) → mul x (mul x s) ≡ s
  x-x s = sym (mul_assoc x x s) ∙ ap (λ v. mul v s) xx ∙ identity-mul s

  z-x : (s : PauliString) → mul z (mul x s) ≡ scale MinusOne (mul x (mul z s))
  z-x s = sym (mul_assoc z x s) ∙ ap (λ v. mul v s) zx ∙ scale-mul MinusOne (mul x z) s ∙ ap (scale MinusOne) (mul_assoc x z s)

rows_together : (t : Tableau) → Valid t → (q : ℕ) → q < t.width → (a b : Letter)
    → mul (row_image t q a) (row_image t q b) ≡ scale (letter_phase a b) (row_image t q (letter_mul a b))
unfolding row_image letter_product letter_phase letter_mul ◌·◌ negate turn
rows_together t v q h = go
  where
    x : PauliString
    x = t.x_image q

    z : PauliString
    z = t.z_image q

    xx : mul x x ≡ identity_string
    xx = real_squares x (v.real of_x q h)

    zz : mul z z ≡ identity_string
    zz = real_squares z (v.real of_z q h)

    zx : mul z x ≡ scale MinusOne (mul x z)
    zx =
        sym (ap (scale MinusOne) (anticommute-mul x z (v.anticommuting q h))
        ∙ scale-scale MinusOne MinusOne (mul z x) ∙ scale_one (mul z x))

    x_x' : (s : PauliString) → mul x (mul x s) ≡ s
    x_x' = x-x x z xx zz zx

    z_x' : (s : PauliString) → mul z (mul x s) ≡ scale MinusOne (mul x (mul z s))
    z_x' = z-x x z xx zz zx

    go : (a b : Letter) → mul (row_image t q a) (row_image t q b) ≡ scale (letter_phase a b) (row_image t q (letter_mul a b))
    go I b = identity-mul (row_image t q b) ∙ sym (scale_one (row_image t q b))
    go X I = mul-identity x ∙ sym (scale_one x)
    go X X = xx ∙ sym (scale_one identity_string)
    go X Z = simp (scale-scale, scale_one)
    go X Y = simp (mul-scale, x_x')
    go Z I = mul-identity z ∙ sym (scale_one z)
    go Z X = simp (zx, scale-scale)
    go Z Z = zz ∙ sym (scale_one identity_string)
    go Z Y = simp (mul-scale, scale-scale, mul-identity, zz, z_x')
    go Y I = mul-identity _ ∙ sym (scale_one _)
    go Y X = simp (mul-scale, scale-mul, scale-scale, mul_assoc, zx, x_x')
    go Y Z = simp (scale-mul, mul_assoc, mul-identity, zz)
    go Y Y = simp (mul-scale, scale-mul, scale-scale, scale_one, mul_assoc, mul-identity, zz, xx, z_x')

-- ---- two qubits: what commutes with the X and the Z image of a qubit commutes with the image of each letter
row_commutes : (s : PauliString) (t : Tableau) (q : ℕ) → ((g : Generator) → Commuting s (row t g q)) → (a : Letter)
    → Commuting s (row_image t q a)
unfolding row_image
row_commutes s t q e I = commuting-identity s
row_commutes s t q e X = e of_x
row_commutes s t q e Z = e of_z
row_commutes s t q e Y = commuting-scale PlusI s _ (commuting-mul s _ _ (e of_x) (e of_z))

rows_apart : (t : Tableau) → Valid t → (q r : ℕ) → q < t.width → r < t.width → q ≢ r → (a b : Letter)
    → Commuting (row_image t q a) (row_image t r b)
rows_apart t v q r h k d a b =
    row_commutes (row_image t q a) t r
    (λ g. sym (row_commutes (row t g r) t q (λ j. sym (commute-mul (row t j q) (row t g r) (v.commuting j g q r h k d))) a)) b

-- ---- the own images
valid_multiply : (t : Tableau) → Valid t → ImagesMultiply t.width t
valid_multiply t v = record {
  together = λ q a b h.
      ap₂ mul (image_own t q a h) (image_own t q b h) ∙ rows_together t v q h a b
      ∙ ap (scale (letter_phase a b)) (sym (image_own t q (letter_mul a b) h));
  apart = λ q r a b h k d.
      ap₂ mul (image_own t q a h) (image_own t r b k) ∙ rows_apart t v q r h k d a b
      ∙ ap₂ mul (sym (image_own t r b k)) (sym (image_own t q a h));
}

-- ---- all images below `qubits`
pub multiply_everywhere : (t : Tableau) → Clifford t → ImagesMultiply qubits t
multiply_everywhere t c = record {
  together = λ q a b h. elim (dec_lt q t.width) [
    | yes l ↦ m.together q a b l
    | no l ↦ ap₂ mul (above q a (omega arith)) (above q b (omega arith)) ∙ mul_singles a b q h
        ∙ ap (scale (letter_phase a b)) (sym (above q (letter_mul a b) (omega arith)))
  ];
  apart = λ q r a b h k d. rows q r a b h k d (dec_lt q t.width) (dec_lt r t.width);
}
  where
    m : ImagesMultiply t.width t
    m = valid_multiply t (test_valid t c.valid)

    above : (q : ℕ) (l : Letter) → t.width ≤ q → image_of t q l ≡ single l q
    above q l = image_above t q l

    -- an own row and a letter beside it
    beside : (q r : ℕ) (a b : Letter) → r < qubits → q < t.width → t.width ≤ r → Commuting (image_of t q a) (image_of t r b)
    beside q r a b k i j =
        subst (Commuting (image_of t q a)) (sym (above r b j))
        (commuting_free (image_of t q a) b r k (within_image t c.proper t.width (le_refl t.width) q a i r j))

    rows : (q r : ℕ) (a b : Letter) → q < qubits → r < qubits → q ≢ r → Dec (q < t.width) → Dec (r < t.width)
        → Commuting (image_of t q a) (image_of t r b)
    rows q r a b h k d (yes i) (yes j) = m.apart q r a b i j d
    rows q r a b h k d (yes i) (no j) = beside q r a b k i (omega arith)
    rows q r a b h k d (no i) (yes j) = sym (beside r q b a h j (omega arith))
    rows q r a b h k d (no i) (no j) =
        ap₂ mul (above q a (omega arith)) (above r b (omega arith)) ∙ commuting_singles a b q r k d
        ∙ ap₂ mul (sym (above r b (omega arith))) (sym (above q a (omega arith)))

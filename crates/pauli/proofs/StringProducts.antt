-- Rows with their phases: the kernel's product is the product of strings.
use Rattle.std.proofs.Common.{◌≡◌, ℕ, suc, ◌+◌, ◌-◌, ◌<◌, ◌≤◌, List, [], ◌∷◌, ◌++◌, length, get_or, drop, set, sym, refl, ap, ◌∙◌, ap₂, append-nil, arith, length-append, length-drop, drop_of_length-le, get_or-drop, get_or-append-add, rules}
use native.Mathlib.Decide.{dec_lt}
use lib.ListN.{get_or-append}
use borrow.Rule.Slice.PartMut.{put_mid}
use Rattle.pauli_group.specs.Phase.{Phase, ◌·◌}
use Rattle.pauli_group.specs.Letter.{letter_phase, letter_mul}
use Rattle.pauli_group.specs.PauliString.{PauliString, qubits, phase_of_letters, mul}
use Rattle.pauli_group.proofs.Laws.{letter_phase-I, letter_mul-I}
use Rattle.pauli_group.proofs.Products.{product_to_ext, product_to-cut}
use Rattle.pauli.specs.Places.{listed}
use Rattle.pauli.specs.Layout.{phase_byte, phase_of, letter_byte, letter_of, encode_string, decode_string, WellFormed}
use Rattle.pauli.specs.Rows.{phase_bytes_product, letter_at, product_letters, product_phase, shorter, RowTimes, row_product}
use Rattle.pauli.proofs.Places.{from, from_is, listed-is, get_d_listed, length-listed}
use Rattle.pauli.proofs.Records.{phase-back, letter_there, decode_letter, decode_within}

-- ---- the kernel's row with its phase
-- what comes back of `&mut d[1..]`, and a store at 0
put_first : (x : ℕ) (d ys : List ℕ) (y : ℕ) → set (put_mid 1 (length (x ∷ d) - 1) (x ∷ d) ys) 0 y ≡ y ∷ ys
put_first x d ys y = rw (drop_of_length-le d {i = length (x ∷ d) - 1} (omega arith), append-nil)

pub row-product : (d t : List ℕ) {p r : ℕ} {ys : List ℕ} → (length d ≡ 0 → ⊥) → (length t ≡ 0 → ⊥) → p ≡ phase_bytes_product (get_or d 0 0) (get_or t 0 0)
    → RowTimes (from 1 d) (from 1 t) p ys r → set (put_mid 1 (length d - 1) d ys) 0 r ≡ row_product d t
unfolding row_product phase_bytes_product
row-product [] t h k e m = absurd (h refl)
row-product (x ∷ a) [] h k e m = absurd (k refl)
row-product (x ∷ a) (y ∷ b) {p} {r} {ys} h k e m =
    put_first x a ys r
    ∙ ap₂ (λ (z : ℕ) (l : List ℕ). z ∷ l)
    (m.total ∙ ap₂ (λ (f : List ℕ) (g : List ℕ). phase_byte (phase_of p · product_phase (shorter f g) f g)) (from_is 1 (x ∷ a)) (from_is 1 (y ∷ b))
    ∙ ap (λ (z : Phase). phase_byte (z · product_phase (shorter a b) a b)) (ap phase_of e ∙ phase-back (phase_of x · phase_of y)))
    (m.letters ∙ ap₂ (λ (f : List ℕ) (g : List ℕ). product_letters (shorter f g) f g ++ drop (shorter f g) f) (from_is 1 (x ∷ a)) (from_is 1 (y ∷ b)))

pub row-none : (d t : List ℕ) → length d ≡ 0 → d ≡ row_product d t
unfolding row_product
row-none [] t h = refl
row-none (x ∷ a) t h = absurd (omega arith)

pub row_by_none : (d t : List ℕ) → length t ≡ 0 → d ≡ row_product d t
unfolding row_product
row_by_none [] t h = refl
row_by_none (x ∷ a) [] h = refl
row_by_none (x ∷ a) (y ∷ b) h = absurd (omega arith)

pub ruleset row_products = (row-product, row-none, row_by_none, rules)

-- ---- the product of strings of w and n letters
module _ (w n x y : ℕ) (a b : List ℕ) (n≤w : n ≤ w) (w≤ : w ≤ qubits) (fd : WellFormed w (x ∷ a)) (ft : WellFormed n (y ∷ b)) where
  abbrev first : PauliString
  first = decode_string w (x ∷ a)

  abbrev second : PauliString
  second = decode_string n (y ∷ b)

  long : length a ≡ w
  long = omega (arith, fd.long)

  short : shorter a b ≡ n
  short = omega (arith, fd.long, ft.long)

  -- places at n and above have I in the second string and do not count
  phases : phase_of_letters first.letters second.letters ≡ product_phase n a b
  unfolding phase_of_letters product_phase letter_at
  phases =
      product_to-cut n qubits (λ q. letter_phase (first.letters q) (second.letters q)) (omega arith)
      (λ q h. ap (letter_phase (first.letters q)) (decode_within n (y ∷ b) q h) ∙ letter_phase-I (first.letters q))
      ∙ product_to_ext n _ _ (λ q l. ap₂ letter_phase (decode_letter w (x ∷ a) q (omega arith)) (decode_letter n (y ∷ b) q l))

  phase-is : phase_byte (phase_of x · phase_of y · product_phase (shorter a b) a b) ≡ phase_byte (mul first second).phase
  unfolding mul decode_string
  phase-is = ap (λ (j : ℕ). phase_byte (phase_of x · phase_of y · product_phase j a b)) short ∙ ap (λ p. phase_byte (phase_of x · phase_of y · p)) (sym phases)

  length_made : (j : ℕ) → length (product_letters j a b) ≡ j
  unfolding product_letters
  length_made j = length-listed j _

  made : (q : ℕ) → q < n → get_or (product_letters n a b) q 0 ≡ letter_byte (letter_mul (letter_of (get_or a q 0)) (letter_of (get_or b q 0)))
  unfolding product_letters letter_at
  made q h = get_d_listed n _ q 0 h

  -- a letter where both have one, and a letter that is kept
  letter_both : (q : ℕ) → q < n → letter_mul (letter_of (get_or a q 0)) (letter_of (get_or b q 0)) ≡ (mul first second).letters q
  unfolding mul
  letter_both q h = sym (ap₂ letter_mul (decode_letter w (x ∷ a) q (omega arith)) (decode_letter n (y ∷ b) q h))

  letter_kept : (q : ℕ) → n ≤ q → q < w → get_or a q 0 ≡ letter_byte ((mul first second).letters q)
  unfolding mul
  letter_kept q h l = sym (
      ap letter_byte (ap₂ letter_mul (decode_letter w (x ∷ a) q l) (decode_within n (y ∷ b) q h) ∙ letter_mul-I (letter_of (get_or a q 0)))
      ∙ letter_there (get_or a q 0) (fd.small (suc q) (omega (arith, fd.long))))

  letter-is : (q : ℕ) → q < w → get_or (product_letters n a b ++ drop n a) q 0 ≡ letter_byte ((mul first second).letters q)
  letter-is q l = elim (dec_lt q n) [
    | yes h ↦ get_or-append (product_letters n a b) (drop n a) 0 q (omega (arith, length_made n)) ∙ made q h ∙ ap letter_byte (letter_both q h)
    | no h ↦ let split : q ≡ length (product_letters n a b) + (q - n) = omega (arith, length_made n) in
        let whole : n + (q - n) ≡ q = omega arith in
        ap (λ (j : ℕ). get_or (product_letters n a b ++ drop n a) j 0) split ∙ get_or-append-add (product_letters n a b) (drop n a) (q - n) 0
        ∙ get_or-drop n a (q - n) 0 ∙ ap (λ (j : ℕ). get_or a j 0) whole ∙ letter_kept q (omega arith) l
  ]

  letters_are : product_letters (shorter a b) a b ++ drop (shorter a b) a ≡ listed w (λ q. letter_byte ((mul first second).letters q))
  letters_are =
      ap (λ (j : ℕ). product_letters j a b ++ drop j a) short
      ∙ listed-is (product_letters n a b ++ drop n a) w _ (length-append (product_letters n a b) (drop n a) ∙ omega (arith, length_made n, length-drop n a, long)) letter-is

  pub product_is : row_product (x ∷ a) (y ∷ b) ≡ encode_string w (mul first second)
  unfolding row_product encode_string
  product_is = ap₂ (λ (z : ℕ) (l : List ℕ). z ∷ l) phase-is letters_are

-- the same without looking into the rows
pub row_product-is : {w n : ℕ} {d t : List ℕ} → n ≤ w → w ≤ qubits → WellFormed w d → WellFormed n t
    → row_product d t ≡ encode_string w (mul (decode_string w d) (decode_string n t))
row_product-is {w} {n} {d} {t} h k fd ft = go d t fd ft
  where
    go : (d t : List ℕ) → WellFormed w d → WellFormed n t → row_product d t ≡ encode_string w (mul (decode_string w d) (decode_string n t))
    go [] t fd ft = absurd (empty fd.long)
      where
        empty : 0 ≡ suc w → ⊥
        empty e = omega arith
    go (x ∷ a) [] fd ft = absurd (empty ft.long)
      where
        empty : 0 ≡ suc n → ⊥
        empty e = omega arith
    go (x ∷ a) (y ∷ b) fd ft = product_is w n x y a b h k fd ft

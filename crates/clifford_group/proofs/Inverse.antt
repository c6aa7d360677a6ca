-- The inverse of a valid tableau is valid, of the same width, and an inverse from both sides.
use mathlib.Core.Path.{◌≡◌, refl, sym, ap, ap₂, ◌∙◌, subst}
use mathlib.Core.Bool.{Bool, false, cond}
use Prim.Native.Nat.{ℕ, ◌≤◌, ◌<◌}
use native.Mathlib.Nat.{le_trans}
use native.Mathlib.Omega.{arith}
use native.Mathlib.Decide.{dec_lt}
use borrow.Author.Tests.{lt-ltb, le-ltb}
use Rattle.pauli_group.specs.Phase.{Phase, PlusOne, conjugate}
use Rattle.pauli_group.specs.Letter.{Letter, I, X, Z, anticommute}
use Rattle.pauli_group.specs.PauliString.{PauliString, qubits, mul, scale, single, Within}
use Rattle.pauli_group.proofs.Laws.{·-one, conjugate-·, sign_injective}
use Rattle.pauli_group.proofs.Strings.{string_ext, sign_sym, sign-single, sign_local, within-mul, within-single}
use Rattle.clifford_group.specs.Tableau.{Tableau, identity_tableau, row_image, image_of, apply, compose, has_x, has_z, letter_of_bits}
use Rattle.clifford_group.specs.Tableau.{transposed, inverse_row, inverse, Proper, Clifford, Same}
use Rattle.clifford_group.specs.Conjugation.{Generator, of_x, of_z, generator, row}
use Rattle.clifford_group.proofs.Singles.{single_off, letter_bits, has_x-anticommute, has_z-anticommute}
use Rattle.clifford_group.proofs.Rows.{rows-proper}
use Rattle.clifford_group.proofs.Images.{image_own, image_above, image_row, image_generators, same-images, Alike}
use Rattle.clifford_group.proofs.Images.{image_identity}
use Rattle.clifford_group.proofs.Apply.{apply-alike, apply-letters, apply-scale, apply_single, apply-within}
use Rattle.clifford_group.proofs.Conjugation.{apply-mul, sign_image, letters_injective, apply_injective}
use Rattle.clifford_group.proofs.Homomorphism.{multiplicative_valid}
use Rattle.clifford_group.proofs.Identity.{width-identity, apply-identity_tableau}
use Rattle.clifford_group.proofs.Compose.{width-compose, compose-generator, apply-compose}
use Rattle.clifford_group.proofs.Pigeonhole.{reached}

-- the bit that the inverse's row reads: it is 1 where the letter anticommutes with the row's generator
abbrev pub column_bit : Generator → Letter → Bool
column_bit of_x = has_z
column_bit of_z = has_x

bit_anticommute : (g : Generator) (a : Letter) → anticommute a (generator g) ≡ column_bit g a
bit_anticommute of_x = has_z-anticommute
bit_anticommute of_z = has_x-anticommute

pub width-inverse : (t : Tableau) → (inverse t).width ≡ t.width
unfolding inverse
width-inverse t = refl

pub row-inverse : (t : Tableau) (g : Generator) (q : ℕ) → row (inverse t) g q ≡ inverse_row t (column_bit g) q
unfolding inverse
row-inverse t of_x q = refl
row-inverse t of_z q = refl

-- ---- of any tableau: proper
pub within-transposed : (t : Tableau) (bit : Letter → Bool) (q : ℕ) → Within t.width (transposed t bit q)
unfolding transposed
within-transposed t bit q c h = rw (le-ltb c t.width h)

pub proper-inverse : (t : Tableau) → t.width ≤ qubits → Proper (inverse t)
unfolding inverse inverse_row
proper-inverse t n = rows-proper (inverse t) n
    (λ g q h. subst (Within t.width) (sym (row-inverse t g q)) (within-transposed t (column_bit g) q))

-- ---- the letters that the transpose gives
-- by the images of X and Z, at the width and above too
column_letter : Tableau → Letter → ℕ → ℕ → Letter
column_letter t l q c = letter_of_bits (anticommute ((image_of t c Z).letters q) l) (anticommute ((image_of t c X).letters q) l)

transposed-letters : (t : Tableau) (g : Generator) (q c : ℕ) → q < t.width
    → (transposed t (column_bit g) q).letters c ≡ column_letter t (generator g) q c
unfolding transposed column_letter row_image anticommute letter_of_bits
transposed-letters t g q c h = go (dec_lt c t.width)
  where
    bit : PauliString → Bool
    bit s = anticommute (s.letters q) (generator g)

    own : c < t.width → (l : Letter) → column_bit g ((row_image t c l).letters q) ≡ anticommute ((image_of t c l).letters q) (generator g)
    own k l = sym (ap bit (image_own t c l k) ∙ bit_anticommute g ((row_image t c l).letters q))

    above : t.width ≤ c → (l : Letter) → false ≡ anticommute ((image_of t c l).letters q) (generator g)
    above k l = sym (ap bit (image_above t c l k) ∙ ap (λ a. anticommute a (generator g)) (single_off l c q (omega arith)))

    go : Dec (c < t.width) → (transposed t (column_bit g) q).letters c ≡ column_letter t (generator g) q c
    go (yes k) =
        ap (λ b. cond b (letter_of_bits (column_bit g ((t.z_image c).letters q)) (column_bit g ((t.x_image c).letters q))) I) (lt-ltb c t.width k)
        ∙ ap₂ letter_of_bits (own k Z) (own k X)
    go (no k) = within-transposed t (column_bit g) q c (omega arith) ∙ ap₂ letter_of_bits (above (omega arith) Z) (above (omega arith) X)

-- letters with phase +1
plain : (ℕ → Letter) → PauliString
plain a = record { phase = PlusOne; letters = a }

module _ (t : Tableau) (c : Clifford t) where
  -- letters that are sent to those of a single letter are the column's
  column_only : (l : Letter) (q : ℕ) → q < qubits → (a : ℕ → Letter)
      → ((d : ℕ) → d < qubits → (single l q).letters d ≡ (apply t (plain a)).letters d)
      → (d : ℕ) → d < qubits → a d ≡ column_letter t l q d
  unfolding plain column_letter
  column_only l q h a e d k = letter_bits (a d) ∙ ap₂ letter_of_bits (bit Z) (bit X)
    where
      bit : (m : Letter) → anticommute (a d) m ≡ anticommute ((image_of t d m).letters q) l
      bit m = sign_injective _ _
          (sign_image t c (plain a) m d k ∙ sign_local (apply t (plain a)) (single l q) (image_of t d m) (λ j i. sym (e j i))
          ∙ sign_sym (single l q) (image_of t d m) ∙ sign-single (image_of t d m) l q h)

  -- and there are such letters, so the column's are sent there
  column_sent : (l : Letter) (q : ℕ) → q < qubits → (s : PauliString) → s.phase ≡ PlusOne
      → ((d : ℕ) → d < qubits → s.letters d ≡ column_letter t l q d)
      → (d : ℕ) → (apply t s).letters d ≡ (single l q).letters d
  unfolding plain
  column_sent l q h s p e d = elim (dec_lt d qubits) [
    | yes k ↦ ap (λ (u : PauliString). u.letters d) same ∙ sym (found.1 d k)
    | no k ↦ apply-within t c.proper s d (omega arith) ∙ sym (within-single qubits l q h d (omega arith))
  ]
    where
      found : (a : ℕ → Letter) × ((d : ℕ) → d < qubits → (single l q).letters d ≡ (apply t (plain a)).letters d)
      found = reached qubits (λ a. (apply t (plain a)).letters) (λ a b. letters_injective t c (plain a) (plain b)) (single l q).letters

      same : apply t s ≡ apply t (plain found.0)
      same = apply-letters t s (plain found.0) p (λ i j. e i j ∙ sym (column_only l q h found.0 found.1 i j))

  -- so the inverse's row is sent to the generator that it stands for
  row-sent : (g : Generator) (q : ℕ) → q < t.width → apply t (inverse_row t (column_bit g) q) ≡ single (generator g) q
  unfolding transposed inverse_row single scale
  row-sent g q h =
      ap (apply t) row ∙ apply-scale t p body
      ∙ string_ext (scale p (apply t body)) (single (generator g) q) (conjugate-· (apply t body).phase)
      (column_sent (generator g) q (le_trans h c.proper.narrow) body refl (λ d k. transposed-letters t g q d h))
    where
      body : PauliString
      body = transposed t (column_bit g) q

      p : Phase
      p = conjugate (apply t body).phase

      row : inverse_row t (column_bit g) q ≡ scale p body
      row = string_ext (inverse_row t (column_bit g) q) (scale p body) (sym (·-one p)) (λ d. refl)

  -- ---- the inverse first, then t
  generator-back : (g : Generator) (q : ℕ) → q < qubits
      → image_of (compose t (inverse t)) q (generator g) ≡ image_of (identity_tableau t.width) q (generator g)
  generator-back g q h = compose-generator t (inverse t) g q h ∙ sent ∙ sym (image_identity t.width q (generator g) h)
    where
      sent : apply t (image_of (inverse t) q (generator g)) ≡ single (generator g) q
      sent = elim (dec_lt q (inverse t).width) [
        | yes k ↦ ap (apply t) (image_row (inverse t) g q k ∙ row-inverse t g q) ∙ row-sent g q (omega (arith, width-inverse t))
        | no k ↦ ap (apply t) (image_above (inverse t) q (generator g) (omega arith))
            ∙ apply_single t (generator g) q h ∙ image_above t q (generator g) (omega (arith, width-inverse t))
      ]

  pub compose-inverse : Same (compose t (inverse t)) (identity_tableau t.width)
  compose-inverse =
      same-images (compose t (inverse t)) (identity_tableau t.width)
      (omega (arith, width-compose t (inverse t), width-inverse t, width-identity t.width))
      (λ g q h. generator-back g q (omega (arith, c.proper.narrow, width-compose t (inverse t), width-inverse t)))

  pub apply-inverse : (s : PauliString) → Within qubits s → apply t (apply (inverse t) s) ≡ s
  apply-inverse s h =
      sym (apply-compose t (inverse t) c s) ∙ apply-alike (compose t (inverse t)) (identity_tableau t.width) alike s
      ∙ apply-identity_tableau t.width s h
    where
      alike : Alike (compose t (inverse t)) (identity_tableau t.width)
      alike q l h = image_generators (compose t (inverse t)) (identity_tableau t.width) q h (λ g. generator-back g q h) l

  -- ---- the inverse is valid: what t sends to equal strings is equal
  inverse-within : (s : PauliString) → Within qubits (apply (inverse t) s)
  inverse-within = apply-within (inverse t) (proper-inverse t c.proper.narrow)

  pub clifford_inverse : Clifford (inverse t)
  clifford_inverse = record {
    proper = proper-inverse t c.proper.narrow;
    valid = multiplicative_valid (inverse t) (proper-inverse t c.proper.narrow).narrow
        (λ s u hs hu. apply_injective t c (apply (inverse t) (mul s u)) (mul (apply (inverse t) s) (apply (inverse t) u))
        (inverse-within (mul s u)) (within-mul qubits (apply (inverse t) s) (apply (inverse t) u) (inverse-within s) (inverse-within u))
        (apply-inverse (mul s u) (within-mul qubits s u hs hu)
        ∙ sym (apply-mul t c (apply (inverse t) s) (apply (inverse t) u) ∙ ap₂ mul (apply-inverse s hs) (apply-inverse u hu))));
  }

  -- ---- t first, then the inverse
  pub inverse-apply : (s : PauliString) → Within qubits s → apply (inverse t) (apply t s) ≡ s
  inverse-apply s h =
      apply_injective t c (apply (inverse t) (apply t s)) s (inverse-within (apply t s)) h
      (apply-inverse (apply t s) (apply-within t c.proper s))

  pub inverse-compose : Same (compose (inverse t) t) (identity_tableau t.width)
  inverse-compose =
      same-images (compose (inverse t) t) (identity_tableau t.width)
      (omega (arith, width-compose (inverse t) t, width-inverse t, width-identity t.width))
      (λ g q h. let k : q < qubits = omega (arith, c.proper.narrow, width-compose (inverse t) t, width-inverse t) in
      compose-generator (inverse t) t g q k ∙ ap (apply (inverse t)) (sym (apply_single t (generator g) q k))
      ∙ inverse-apply (single (generator g) q) (within-single qubits (generator g) q k)
      ∙ sym (image_identity t.width q (generator g) k))

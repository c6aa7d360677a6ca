-- Rows of letter bytes, as far as both rows reach; a byte above 3 is read as 3. What the kernels promise.
use Rattle.std.specs.Prelude.{◌≡◌, ℕ, zero, suc, ◌%◌, min, max, List, [], ◌∷◌, ◌++◌, length, take, drop, slice_index}
use Rattle.pauli_group.specs.Phase.{Phase, ◌·◌, conjugate}
use Rattle.pauli_group.specs.Letter.{Letter, letter_phase, letter_mul, anticommute, not_i}
use Rattle.pauli_group.specs.PauliString.{product_to, count_to}
use Rattle.pauli.specs.Places.{listed}
use Rattle.pauli.specs.Layout.{phase_byte, phase_of, letter_byte, letter_of}
use Rattle.pauli.specs.declared.algebra.PhasedLetter.{PhasedLetter}
use Rattle.pauli.specs.declared.rows.LetterScan.{LetterScan}

-- two letter bytes multiplied: the phase byte, the letter byte, and both
unfoldable pub product_phase_byte : ℕ → ℕ → ℕ
product_phase_byte a b = phase_byte (letter_phase (letter_of a) (letter_of b))

unfoldable pub product_letter_byte : ℕ → ℕ → ℕ
product_letter_byte a b = letter_byte (letter_mul (letter_of a) (letter_of b))

unfoldable pub letter_bytes_product : ℕ → ℕ → PhasedLetter
letter_bytes_product a b = (product_phase_byte a b, product_letter_byte a b)

-- two phase bytes multiplied
unfoldable pub phase_bytes_product : ℕ → ℕ → ℕ
phase_bytes_product a b = phase_byte (phase_of a · phase_of b)

-- the conjugate of a phase byte
unfoldable pub conjugate_byte : ℕ → ℕ
conjugate_byte p = phase_byte (conjugate (phase_of p))

-- the letter at a place of a row
unfoldable pub letter_at : List ℕ → ℕ → Letter
letter_at a q = letter_of (slice_index a q)

-- the letter bytes of the first n places of a product, and the phase that these places give
unfoldable pub product_letters : ℕ → List ℕ → List ℕ → List ℕ
product_letters n a b = listed n (λ q. letter_byte (letter_mul (letter_at a q) (letter_at b q)))

unfoldable pub product_phase : ℕ → List ℕ → List ℕ → Phase
product_phase n a b = product_to n (λ q. letter_phase (letter_at a q) (letter_at b q))

-- at how many of the first n places the letters anticommute
unfoldable pub places_of : ℕ → List ℕ → List ℕ → ℕ
places_of n a b = count_to n (λ q. anticommute (letter_at a q) (letter_at b q))

-- how many letters of a row are other than I
unfoldable pub letter_count : List ℕ → ℕ
letter_count a = count_to (length a) (λ q. not_i (letter_at a q))

-- the largest of the first n bytes, 0 where there is none
unfoldable pub largest_to : ℕ → List ℕ → ℕ
largest_to zero s = 0
largest_to (suc n) s = max (largest_to n s) (slice_index s n)

-- both, as one pass sees them; the count modulo 256
pub record Scanned (s : List ℕ) (r : LetterScan) : Type 0 where
  pub largest : r.largest ≡ largest_to (length s) s
  pub letters : r.letters ≡ letter_count s % 256

abbrev pub shorter : List ℕ → List ℕ → ℕ
shorter a b = min (length a) (length b)

-- the row a multiplied by b on the right, in place: it then holds e, and r is phase p times the places' phases
pub record RowTimes (a b : List ℕ) (p : ℕ) (e : List ℕ) (r : ℕ) : Type 0 where
  pub letters : e ≡ product_letters (shorter a b) a b ++ drop (shorter a b) a
  pub total : r ≡ phase_byte (phase_of p · product_phase (shorter a b) a b)

-- a row with its phase (p and the letters a) multiplied on the right by another (q and the letters b); an empty row changes nothing
unfoldable pub row_product : List ℕ → List ℕ → List ℕ
row_product [] t = []
row_product (p ∷ a) [] = p ∷ a
row_product (p ∷ a) (q ∷ b) =
    phase_byte (phase_of p · phase_of q · product_phase (shorter a b) a b) ∷ product_letters (shorter a b) a b ++ drop (shorter a b) a

-- a copied to the front of d, as far as both reach
unfoldable pub copied : List ℕ → List ℕ → List ℕ
copied a d = take (shorter a d) a ++ drop (shorter a d) d

-- The images of gates as bytes.
use Rattle.std.specs.Prelude.{◌≡◌, ℕ, List, [], ◌∷◌, slice_index}
use Rattle.clifford_gates.specs.Gates.{Image, OneQubit}
use Rattle.pauli.specs.Layout.{phase_byte, letter_byte}
use Rattle.pauli.specs.Rows.{phase_bytes_product, product_phase_byte, product_letter_byte}
use Rattle.pauli.specs.declared.algebra.PhasedLetter.{PhasedLetter}

-- an entry of `IMAGES_1Q`: the sign and the letter of the image of X, and of Z
unfoldable pub image_bytes : OneQubit → List ℕ
image_bytes g = phase_byte g.x.phase ∷ letter_byte g.x.letter ∷ phase_byte g.z.phase ∷ letter_byte g.z.letter ∷ []

-- the image of Y by such an entry
unfoldable pub y_bytes : List ℕ → PhasedLetter
y_bytes e = (
  phase_bytes_product 2 (phase_bytes_product (phase_bytes_product (slice_index e 0) (slice_index e 2)) (product_phase_byte (slice_index e 1) (slice_index e 3))),
  product_letter_byte (slice_index e 1) (slice_index e 3),
)

-- an image as a phase byte and a letter byte
pub record ImageOf (i : Image) (r : PhasedLetter) : Type 0 where
  pub phase : r.0 ≡ phase_byte i.phase
  pub letter : r.1 ≡ letter_byte i.letter

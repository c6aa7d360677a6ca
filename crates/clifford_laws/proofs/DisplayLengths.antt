-- The length of a display text, line by line, and the most that it can be.
use mathlib.Core.Path.{◌≡◌, refl, sym, ap, ◌∙◌}
use mathlib.Core.Bool.{Bool, true, false, cond}
use mathlib.Core.List.{List, [], ◌∷◌, ◌++◌}
use Prim.Native.Nat.{ℕ, zero, suc, ◌+◌, ◌*◌, ◌-◌, ◌/◌, ◌%◌, ◌≤◌, ◌<◌}
use native.Mathlib.Decide.{ℕ_discrete, dec_lt}
use native.Mathlib.Omega.{arith}
use lib.Dec.{ltb}
use lib.ListN.{length, length-append}
use borrow.Author.Tests.{lt-ltb, le-ltb}
use Rattle.pauli_group.specs.Phase.{Phase, PlusOne, MinusOne, PlusI, MinusI, is_real}
use Rattle.pauli_group.specs.Letter.{Letter, I, Y}
use Rattle.pauli_group.specs.PauliString.{PauliString, qubits, Within}
use Rattle.clifford_group.specs.Tableau.{Tableau, is_valid, Proper}
use Rattle.clifford_group.specs.Conjugation.{of_x, of_z}
use Rattle.clifford_group.proofs.Valid.{test_valid}
use Rattle.pauli.specs.SparseText.{decimal, digits_to, prefix_text, entry_word, words_at, entry_words, spaced, body_text, sparse_text_to, sparse_text}
use Rattle.pauli.proofs.SparseTexts.{text-length}
use Rattle.clifford.specs.Display.{name_text, qubits_text, arrow_text, newline, header_text, generator_text, label_text, line_text, display_row, lines_text, display_text, text_of_tableau}
use Rattle.clifford.specs.Layout.{row_of, tableau_of, tableau_record, width_of, row_qubit, row_letter}
use Rattle.clifford.specs.Layout as layout
use Rattle.clifford.specs.Questions.{tableau_questions}
use Rattle.clifford.specs.Tableaux.{record_valid}
use Rattle.clifford.proofs.Display.{decimal-short, order_even, order_odd, order_below}
use Rattle.clifford.proofs.Asking.{tableau-formed, tableaux_admitted}
use Rattle.clifford.proofs.Rows.{row-x, row-z, rows_same, width_of_lem}
use Rattle.clifford.proofs.Records.{record-back}
use Rattle.std.specs.Prelude.{Ok}

-- ---- a line: nine bytes, the digits of its qubit, and the image
qubit_of : (w i : ℕ) → i < 2 * w → row_qubit w (display_row w i) ≡ i / 2
unfolding row_qubit
qubit_of w i h = elim (ℕ_discrete (i % 2) 0) [
  | yes e ↦ ap (λ (r : ℕ). row_qubit w r) (sym (order_even w i e)) ∙ ap (λ b. cond b (i / 2) (i / 2 - w)) (lt-ltb (i / 2) w (omega arith))
  | no e ↦
      let same : w + i / 2 - w ≡ i / 2 = omega arith in
      ap (λ (r : ℕ). row_qubit w r) (sym (order_odd w i e)) ∙ ap (λ b. cond b (w + i / 2) (w + i / 2 - w)) (le-ltb (w + i / 2) w (omega arith)) ∙ same
]

label_length : (l : Letter) (q : ℕ) → length (label_text l q) ≡ 8 + length (decimal q)
unfolding label_text generator_text
label_length l q = omega (arith, length-append (decimal q) arrow_text)

module _ (t : Tableau) where
  -- the bytes of the image in the i-th line
  abbrev image_length : ℕ → ℕ
  image_length i = length (sparse_text (row_of t (display_row t.width i)))

  line-length : (i : ℕ) → i < 2 * t.width → length (line_text t (display_row t.width i)) ≡ 9 + length (decimal (i / 2)) + image_length i
  unfolding line_text
  line-length i h =
      let r = display_row t.width i in
      let label = label_text (row_letter t.width r) (row_qubit t.width r) in
      omega (
        arith,
        length-append label (sparse_text (row_of t r) ++ (newline ∷ [])),
        length-append (sparse_text (row_of t r)) (newline ∷ []),
        label_length (row_letter t.width r) (row_qubit t.width r),
        ap (λ (q : ℕ). length (decimal q)) (qubit_of t.width i h),
      )

-- ---- k lines, whose images take f 0, f 1, .. bytes
unfoldable lines_length : (ℕ → ℕ) → ℕ → ℕ
lines_length f zero = 0
lines_length f (suc k) = lines_length f k + (9 + length (decimal (k / 2)) + f k)

lines_grow : (f g : ℕ → ℕ) (k n : ℕ) → k ≤ n → ((i : ℕ) → i < k → f i ≤ g i) → lines_length f k ≤ lines_length g n
unfolding lines_length
lines_grow f g k zero h l = let e : k ≡ 0 = omega arith in omega (arith, ap (lines_length f) e)
lines_grow f g k (suc n) h l = elim (ℕ_discrete k (suc n)) [
  | yes e ↦ omega (arith, ap (lines_length f) e, lines_grow f g n n (omega arith) (λ i s. l i (omega arith)), l n (omega arith))
  | no e ↦ omega (arith, lines_grow f g k n (omega arith) l)
]

module _ (t : Tableau) where
  lines_length_lem : (k : ℕ) → k ≤ 2 * t.width → length (lines_text t k) ≡ lines_length (image_length t) k
  unfolding lines_text layout.joined lines_length
  lines_length_lem zero h = refl
  lines_length_lem (suc k) h =
      let line : ℕ → List ℕ = λ i. line_text t (display_row t.width i) in
      omega (arith, length-append (layout.joined k line) (line k), lines_length_lem k (omega arith), line-length t k (omega arith))

  -- the header's 21 bytes and its digits, a newline, and the lines
  display_length : length (display_text t) ≡ 22 + length (decimal t.width) + lines_length (image_length t) (2 * t.width)
  unfolding display_text header_text
  display_length =
      let w = t.width in
      omega (
        arith,
        length-append (header_text w) (newline ∷ lines_text t (2 * w)),
        length-append name_text (decimal w ++ qubits_text),
        length-append (decimal w) qubits_text,
        lines_length_lem (2 * w) (omega arith),
      )

  -- where no image takes more than m bytes
  display_within : (m : ℕ) → t.width ≤ 128 → ((r : ℕ) → r < 2 * t.width → length (sparse_text (row_of t r)) ≤ m)
      → length (display_text t) ≤ 25 + lines_length (λ i. m) 256
  display_within m h l =
      let w = t.width in
      omega (
        arith,
        display_length,
        decimal-short w h,
        lines_grow (image_length t) (λ i. m) (2 * w) 256 (omega arith) (λ i s. l (display_row w i) (order_below w i s)),
      )

-- 256 lines of nine bytes, 548 digits, and the images
lines_any : lines_length (λ i. 531) 256 ≡ 138788
unfolding lines_length decimal digits_to
lines_any = refl

lines_real : lines_length (λ i. 530) 256 ≡ 138532
unfolding lines_length decimal digits_to
lines_real = refl

-- ---- "Written sparse text is at most 531 bytes": 530 where the phase is real
text_parts : (p : Phase) (f : ℕ → Letter)
    → length (sparse_text (record { phase = p; letters = f })) ≡ length (prefix_text p) + length (body_text (entry_words qubits f))
unfolding sparse_text sparse_text_to
text_parts p f = length-append (prefix_text p) (body_text (entry_words qubits f))

real-prefix : (p : Phase) → is_real p ≡ true → length (prefix_text p) ≡ 1
unfolding prefix_text is_real
real-prefix PlusOne e = refl
real-prefix MinusOne e = refl
real-prefix PlusI e = cc
real-prefix MinusI e = cc

pub text-real : (s : PauliString) → is_real s.phase ≡ true → length (sparse_text s) ≤ 530
unfolding prefix_text
text-real s e =
    omega (
      arith,
      text_parts s.phase s.letters,
      text_parts MinusI s.letters,
      real-prefix s.phase e,
      text-length (record { phase = MinusI; letters = s.letters }),
    )

-- ---- the most that a display text can be
narrow_of : (t : List ℕ) → tableau_questions t ≡ Ok tt → (tableau_of t).width ≤ 128
narrow_of t e = omega (arith, width_of_lem t, (tableau-formed t e).narrow)

pub display_most : (t : List ℕ) → tableau_questions t ≡ Ok tt → length (text_of_tableau t) ≤ 138813
unfolding text_of_tableau
display_most t e = omega (arith, lines_any, display_within (tableau_of t) 531 (narrow_of t e) (λ r h. text-length (row_of (tableau_of t) r)))

-- of a valid tableau, whose phases are real
rows-real : (t : Tableau) → is_valid t ≡ true → (r : ℕ) → r < 2 * t.width → is_real (row_of t r).phase ≡ true
rows-real t v r h = elim (dec_lt r t.width) [
  | yes l ↦ ap (λ s. is_real s.phase) (row-x t r l) ∙ (test_valid t v).real of_x r l
  | no l ↦
      let q = r - t.width in
      let e : r ≡ t.width + q = omega arith in
      ap (λ (k : ℕ). is_real (row_of t k).phase) e ∙ ap (λ s. is_real s.phase) (row-z t q) ∙ (test_valid t v).real of_z q (omega arith)
]

pub valid_display_most : (t : List ℕ) → tableau_questions t ≡ Ok tt → record_valid t ≡ true → length (text_of_tableau t) ≤ 138557
unfolding text_of_tableau record_valid
valid_display_most t e v =
    omega (
      arith,
      lines_real,
      display_within (tableau_of t) 530 (narrow_of t e) (λ r h. text-real (row_of (tableau_of t) r) (rows-real (tableau_of t) v r h)),
    )

-- ---- reached where each row is -i times Y on every qubit
abbrev pub every_y : PauliString
every_y = record { phase = MinusI; letters = λ q. cond (ltb q 128) Y I }

every_y_length : length (sparse_text every_y) ≡ 531
unfolding sparse_text sparse_text_to qubits prefix_text entry_words words_at entry_word decimal digits_to body_text spaced
every_y_length = refl

abbrev pub longest : Tableau
longest = record { width = 128; x_image = λ q. every_y; z_image = λ q. every_y }

longest-proper : Proper longest
unfolding qubits
longest-proper = record { narrow = omega arith; x_within = λ q h. within; z_within = λ q h. within }
  where
    within : Within 128 every_y
    within q h = ap (λ b. cond b Y I) (le-ltb q 128 h)

longest-row : (r : ℕ) → row_of longest r ≡ every_y
unfolding row_of
longest-row r = either (ltb r 128)
  where
    either : (b : Bool) → cond b every_y every_y ≡ every_y
    either true = refl
    either false = refl

longest-width : width_of (tableau_record longest) ≡ 128
unfolding tableau_record
longest-width = refl

three : length (decimal 128) ≡ 3
unfolding decimal digits_to
three = refl

pub display_longest : (tableau_questions (tableau_record longest) ≡ Ok tt) × (length (text_of_tableau (tableau_record longest)) ≡ 138813)
unfolding text_of_tableau
display_longest = (
  tableaux_admitted longest longest-proper,
  omega (
    arith,
    lines_any,
    display_length shown,
    ap (λ (n : ℕ). length (decimal n)) wide ∙ three,
    lines_grow (image_length shown) (λ i. 531) (2 * shown.width) 256 (omega (arith, wide)) (λ i h. omega (arith, image i h)),
    lines_grow (λ i. 531) (image_length shown) 256 (2 * shown.width) (omega (arith, wide)) (λ i h. omega (arith, image i (omega (arith, wide)))),
  ),
)
  where
    shown : Tableau
    shown = tableau_of (tableau_record longest)

    wide : shown.width ≡ 128
    wide = width_of_lem (tableau_record longest) ∙ longest-width

    image : (i : ℕ) → i < 2 * shown.width → image_length shown i ≡ 531
    image i h =
        let r = display_row shown.width i in
        ap (λ s. length (sparse_text s)) (rows_same shown longest (record-back longest longest-proper) r (order_below shown.width i h) ∙ longest-row r) ∙ every_y_length

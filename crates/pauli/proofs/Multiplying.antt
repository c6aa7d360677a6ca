-- The product of two strings: its letters, 32 places at a step as far as the last that has one, and how it is written.
use Rattle.pauli.specs.Answers.{written, Outcome}
use Rattle.std.proofs.Common.{◌≡◌, ℕ, suc, ◌+◌, ◌-◌, ◌*◌, ◌%◌, ◌<◌, ◌≤◌, List, ◌∷◌, ◌++◌, length, get_or, take, drop, set, replicate, sym, refl, ap, ◌∙◌, subst, ap₂, append-nil, zero-le, add-one, arith, length-drop, take-append-drop, drop_of_length-le, length-take, get_or-drop, get_or-take, take_all, ext_get_or, rules, Ok}
use lib.ListN.{length-replicate, get_or-replicate}
use lib.Bits.{bit_xor}
use borrow.Rule.Slice.PartMut.{put_mid}
use Rattle.pauli_group.specs.Phase.{◌·◌}
use Rattle.pauli_group.specs.Letter.{letter_phase, letter_mul}
use Rattle.pauli_group.specs.PauliString.{qubits, product_to, phase_of_letters, mul, Within}
use Rattle.pauli_group.specs.Papers.{power}
use Rattle.pauli_group.proofs.Laws.{·_assoc, ·-one}
use Rattle.pauli_group.proofs.Strings.{within-mul}
use Rattle.pauli_group.proofs.PlacesTaken.{taken_le, taken-within, phase-taken}
use Rattle.pauli.specs.Layout.{phase_byte, phase_of, letter_byte, letter_of, encode_string, decode_string, string_of, string_record}
use Rattle.pauli.specs.Questions.{string_questions, strings_questions, room_question}
use Rattle.pauli.specs.Strings.{places_taken_of_records, product_record}
use Rattle.pauli.specs.Inside.Turns.{LetterBytes}
use Rattle.pauli.specs.Inside.Products.{Looked, Operands, product_row, phase_to, blank_row, Beginning, RowTo, Stepping, RowMultiplied}
use Rattle.pauli.specs.declared.algebra.Sight.{Sight}
use Rattle.pauli.proofs.Asking.{done_first, done_second, string-formed, room-is, record-bytes}
use Rattle.pauli.proofs.Places.{length-listed, get_d_listed, fill, fill_more, length_fill}
use Rattle.pauli.proofs.Records.{letter_of_lem, string-within}
use Rattle.pauli.proofs.Turns.{power_sum, letter_sum}
use Rattle.pauli.proofs.EntryStrings.{put_record}

length-blank : length blank_row ≡ 128
unfolding blank_row
length-blank = length-replicate {A = ℕ} 128 0

blank-at : (q : ℕ) → q < 128 → get_or blank_row q 0 ≡ 0
unfolding blank_row
blank-at q h = get_or-replicate 128 q 0 0 h

length-row : (s t : List ℕ) → length (product_row s t) ≡ 128
unfolding product_row
length-row s t = length-listed 128 _

row_at : (s t : List ℕ) (q : ℕ) → q < 128 → get_or (product_row s t) q 0 ≡ letter_byte ((mul (string_of s) (string_of t)).letters q)
unfolding product_row
row_at s t q h = get_d_listed 128 _ q 0 h

length_row_to : {s t : List ℕ} {i : ℕ} {row : List ℕ} → RowTo s t i row → length row ≡ 128
length_row_to {s} {t} {i} m =
    ap length m.out ∙ length_fill (product_row s t) blank_row i (omega (arith, m.within, length-row s t)) (omega (arith, m.within, length-blank))
    ∙ length-blank

phase-more : (s t : List ℕ) (q : ℕ) → phase_to (q + 1) s t ≡ phase_to q s t · letter_phase ((string_of s).letters q) ((string_of t).letters q)
unfolding phase_to product_to
phase-more s t q = rw (add-one q)

-- ---- one step, after the first k of its places
-- the letters of u that it takes
abbrev pub step_part : ℕ → List ℕ → List ℕ
step_part i u = take (i + 33 - (i + 1)) (drop (i + 1) u)

pub length_part : (i : ℕ) (u : List ℕ) → length (step_part i u) ≤ 32
length_part i u = omega (arith, length-take (i + 33 - (i + 1)) (drop (i + 1) u))

pub record StepTo (s t : List ℕ) (i : ℕ) (row₀ : List ℕ) (k : ℕ) (row : List ℕ) (turns : ℕ) : Type 0 where
  pub begun : Stepping s t i row₀
  pub within : k ≤ 32
  pub out : RowTo s t (i + k) row
  pub turned : phase_to i s t · power turns ≡ phase_to (i + k) s t

pub step_none : {s t : List ℕ} {i : ℕ} {row : List ℕ} → Stepping s t i row → StepTo s t i row 0 row 0
unfolding power
step_none {s} {t} {i} {row} m =
    let none : i ≡ i + 0 = omega arith in
    record { begun = m; within = omega arith; out = subst (λ j. RowTo s t j row) none m.before; turned = ·-one (phase_to i s t) ∙ ap (λ (j : ℕ). phase_to j s t) none }

pub step_place : {s t : List ℕ} {i k : ℕ} {row₀ row : List ℕ} {turns : ℕ} → StepTo s t i row₀ k row turns → k < 32 → i + k < length row
step_place m h = omega (arith, m.begun.room, length_row_to m.out)

module _ {s t : List ℕ} {i k x y : ℕ} {row₀ row : List ℕ} {turns : ℕ} (m : StepTo s t i row₀ k row turns) (h : k < 32)
    (ex : x ≡ get_or (step_part i s) k 0) (ey : y ≡ get_or (step_part i t) k 0) where
  abbrev q : ℕ
  q = i + k

  below : q < 128
  below = omega (arith, m.begun.room)

  part_at : (u : List ℕ) → get_or (step_part i u) k 0 ≡ get_or u (suc q) 0
  part_at u =
      let is : i + 1 + k ≡ suc q = omega arith in
      get_or-take (i + 33 - (i + 1)) (drop (i + 1) u) k 0 (omega arith) ∙ get_or-drop (i + 1) u k 0 ∙ ap (λ (j : ℕ). get_or u j 0) is

  pub step_letters : LetterBytes x y
  step_letters = record {
    first = omega (arith, ex, part_at s, m.begun.first.small (suc q) (omega (arith, below, m.begun.first.long)));
    second = omega (arith, ey, part_at t, m.begun.second.small (suc q) (omega (arith, below, m.begun.second.long)));
  }

  letter_is : (u : List ℕ) {z : ℕ} → z ≡ get_or (step_part i u) k 0 → letter_of z ≡ (string_of u).letters q
  letter_is u e = ap letter_of (e ∙ part_at u) ∙ sym (letter_of_lem u q below)

  product-is : bit_xor x y ≡ get_or (product_row s t) q 0
  unfolding mul
  product-is = letter_sum step_letters ∙ ap letter_byte (ap₂ letter_mul (letter_is s ex) (letter_is t ey)) ∙ sym (row_at s t q below)

  pub step_more : {j u : ℕ} → j ≡ k → power u ≡ power turns · letter_phase (letter_of x) (letter_of y) → StepTo s t i row₀ (k + 1) (set row (i + j) (bit_xor x y)) u
  step_more ej e =
      let next : q + 1 ≡ i + (k + 1) = omega arith in
      record {
        begun = m.begun;
        within = omega arith;
        out = record {
          within = omega (arith, below);
          out = ap₂ (λ (l : List ℕ) (n : ℕ). set l (i + n) (bit_xor x y)) m.out.out ej
              ∙ fill_more (product_row s t) blank_row q _ (omega (arith, below, length-row s t)) (omega (arith, below, length-blank)) product-is
              ∙ ap (fill (product_row s t) blank_row) next;
        };
        turned = ap (λ p. phase_to i s t · p) e ∙ sym (·_assoc (phase_to i s t) (power turns) _)
            ∙ ap₂ ◌·◌ m.turned (ap₂ letter_phase (letter_is s ex) (letter_is t ey)) ∙ sym (phase-more s t q) ∙ ap (λ (j : ℕ). phase_to j s t) next;
      }

-- ---- the first k steps
pub record PlacesTo (s t : List ℕ) (places : ℕ) (row₀ : List ℕ) (k : ℕ) (row : List ℕ) (turns : ℕ) : Type 0 where
  pub begun : Beginning s t places row₀
  pub out : RowTo s t (32 * k) row
  pub turned : power turns ≡ phase_to (32 * k) s t

pub no_phase : (s t : List ℕ) → phase_to 0 s t ≡ power 0
unfolding phase_to product_to power
no_phase s t = refl

module _ (s t : List ℕ) where
  pub taken_most : places_taken_of_records s t ≤ 128
  unfolding places_taken_of_records qubits
  taken_most = taken_le (string_of s) (string_of t)

  -- the product has only I from the last place on that it takes
  module _ (i : ℕ) (h : places_taken_of_records s t ≤ i) where
    both_within : Within i (string_of s) × Within i (string_of t)
    unfolding places_taken_of_records
    both_within =
        let both = taken-within (string_of s) (string_of t) (string-within s) (string-within t) in
        ((λ q l. both.0 q (omega arith)), (λ q l. both.1 q (omega arith)))

    row-behind : (q : ℕ) → i ≤ q → q < 128 → get_or (product_row s t) q 0 ≡ 0
    unfolding letter_byte
    row-behind q l b = row_at s t q b ∙ ap letter_byte (within-mul i (string_of s) (string_of t) both_within.0 both_within.1 q l)

    rest : drop i blank_row ≡ drop i (product_row s t)
    rest = ext_get_or 0 _ _ (omega (arith, length-drop i blank_row, length-drop i (product_row s t), length-blank, length-row s t)) at
      where
        at : (k : ℕ) → k < length (drop i blank_row) → get_or (drop i blank_row) k 0 ≡ get_or (drop i (product_row s t)) k 0
        at k l =
            let b : i + k < 128 = omega (arith, l, length-drop i blank_row, length-blank) in
            get_or-drop i blank_row k 0 ∙ blank-at (i + k) b ∙ sym (row-behind (i + k) (omega arith) b) ∙ sym (get_or-drop i (product_row s t) k 0)

    pub row_whole : take i (product_row s t) ++ drop i blank_row ≡ product_row s t
    row_whole = ap (λ (l : List ℕ). take i (product_row s t) ++ l) rest ∙ take-append-drop i (product_row s t)

    pub phase_whole : i ≤ 128 → phase_to i s t ≡ phase_of_letters (string_of s).letters (string_of t).letters
    unfolding qubits phase_to
    phase_whole b = sym (phase-taken (string_of s) (string_of t) i b both_within.0)

pub ruleset taking = (no_phase, taken_most, row_whole, phase_whole, power_sum)

-- ---- the product's bytes
phase_of_lem : (s t : List ℕ) → (mul (string_of s) (string_of t)).phase
    ≡ phase_of (get_or s 0 0) · phase_of (get_or t 0 0) · phase_of_letters (string_of s).letters (string_of t).letters
unfolding mul string_of decode_string
phase_of_lem s t = refl

record_is : (s t : List ℕ) → product_record s t ≡ phase_byte (mul (string_of s) (string_of t)).phase ∷ product_row s t
unfolding product_record string_record encode_string qubits product_row
record_is s t = refl

-- a fresh array of zeros
pub begins : {s t d : List ℕ} {places : ℕ} → Operands s t places d → Beginning s t places (replicate 128 0)
unfolding blank_row
begins f = record { factors = f.factors; blank = refl }

pub product_written : {s t d row ys : List ℕ} {places turns p n : ℕ} → Operands s t places d → RowMultiplied s t row turns
    → p ≡ phase_byte (phase_of (get_or s 0 0) · phase_of (get_or t 0 0) · power turns) → ys ≡ row → n ≡ 128
    → set (put_mid 1 n d ys) 0 p ≡ product_record s t ++ drop 129 d
product_written {s} {t} {d} {row} {ys} {turns = turns} {p = p} {n = n} f m ep ey whole =
    ap (λ (k : ℕ). set (put_mid 1 k d ys) 0 p) whole ∙ put_record d ys p f.room
    ∙ ap₂ (λ (x : ℕ) (l : List ℕ). x ∷ l ++ drop 129 d) (ep ∙ phase-is) (ey ∙ m.letters)
    ∙ ap (λ (l : List ℕ). l ++ drop 129 d) (sym (record_is s t))
  where
    phase-is : phase_byte (phase_of (get_or s 0 0) · phase_of (get_or t 0 0) · power turns) ≡ phase_byte (mul (string_of s) (string_of t)).phase
    phase-is = ap (λ x. phase_byte (phase_of (get_or s 0 0) · phase_of (get_or t 0 0) · x)) m.turns ∙ ap phase_byte (sym (phase_of_lem s t))

pub ruleset written_products = (product_written, begins, rules)

-- ---- what the questions of the product let by, and what is answered then
module _ (s t d : List ℕ) {sight : Sight} (l : Looked s t sight) (p : Ok tt ≡ strings_questions s t) (h : Ok tt ≡ room_question 129 (length d)) where
  pub operands : Operands s t sight.places d
  unfolding strings_questions
  operands = record {
    factors = record {
      first = string-formed s (done_first _ _ (sym p));
      second = string-formed t (done_second (string_questions s) _ (sym p));
      taken = l.taken (sym p);
    };
    room = room-is 129 (length d) (sym h);
  }

pub product_bytes : (s t d : List ℕ) {q : Outcome} → q ≡ Ok tt → written q (product_record s t) d ≡ product_record s t ++ drop 129 d
unfolding product_record
product_bytes s t d e = ap (λ x. written x (product_record s t) d) e ∙ sym (record-bytes (mul (string_of s) (string_of t)) d)

pub ruleset string_products = (operands, product_bytes)

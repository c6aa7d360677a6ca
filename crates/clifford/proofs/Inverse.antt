-- The rows of an inverse: the bits and letters of its bodies, and the phases that turn these back.
use Rattle.std.proofs.Common.{◌≡◌, ℕ, suc, ◌+◌, ◌-◌, ◌*◌, ◌/◌, ◌%◌, ◌<◌, ◌≤◌, Bool, true, false, cond, ltb, List, [], ◌∷◌, ◌++◌, length, get_or, drop_of_length-le, take_all, append-nil, set, sym, refl, ap, ◌∙◌, ap₂, not-suc-le-zero, arith, length-set, get_or-set_other, get_or-set_same, w8, Fits, rules, le-ltb, lt-ltb}
use Rattle.pauli_group.specs.Phase.{Phase, conjugate}
use Rattle.pauli_group.specs.Letter.{Letter, I, X, Z, Y}
use Rattle.pauli_group.specs.PauliString.{PauliString, Within}
use Rattle.clifford_group.specs.Tableau.{Tableau, apply, has_x, has_z, letter_of_bits, transposed, inverse_row, inverse}
use Rattle.clifford_group.proofs.Inverse.{within-transposed}
use Rattle.pauli.specs.Layout.{phase_byte, letter_byte, encode_string}
use Rattle.pauli.specs.Rows.{conjugate_byte}
use borrow.Rule.Slice.PartMut.{put_mid}
use Rattle.pauli.specs.Places.{listed}
use Rattle.pauli.proofs.Places.{from, length_from, length-listed, get_d_listed, Filled, filled_none, filled_step, filled_length, filled_room, filled_all}
use Rattle.pauli.proofs.Records.{phase-back, length_encode, encode_phase, encode_letter}
use Rattle.clifford.specs.Layout.{row_of, tableau_of, width_of, row_qubit, FormedTableau}
use Rattle.clifford.specs.Inside.Rows.{letters_in, string_in, AppliesString}
use Rattle.clifford.specs.Inside.InverseRows.{row_bit, bit_read, bit_byte, body_of, body_bytes, RowBack}
use Rattle.clifford.proofs.Rows.{row-x, row-z, own-some, width_of_lem}
use Rattle.clifford.proofs.RowAccess.{own-inside}
use Rattle.clifford.proofs.WorkRows.{row_is}
use Rattle.clifford.proofs.RowWriting.{qubit-below, encoded_row, encoded_formed}

-- ---- the bit that a row of the inverse reads: the byte of a letter is its x bit and twice its z bit
z_bit_lem : (a : Letter) → letter_byte a / 2 ≡ bit_byte (has_z a)
unfolding letter_byte bit_byte has_z
z_bit_lem I = refl
z_bit_lem X = refl
z_bit_lem Z = refl
z_bit_lem Y = refl

x_bit_lem : (a : Letter) → letter_byte a % 2 ≡ bit_byte (has_x a)
unfolding letter_byte bit_byte has_x
x_bit_lem I = refl
x_bit_lem X = refl
x_bit_lem Z = refl
x_bit_lem Y = refl

of_bits : (x z : Bool) → bit_byte x + 2 * bit_byte z ≡ letter_byte (letter_of_bits x z)
unfolding letter_byte bit_byte letter_of_bits
of_bits false false = refl
of_bits true false = refl
of_bits false true = refl
of_bits true true = refl

bit_small : (b : Bool) → bit_byte b ≤ 1
unfolding bit_byte
bit_small false = omega arith
bit_small true = omega arith

pub bit_row : {b : List ℕ} {w r s : ℕ} → RowBack b w r → s < 2 * w → s < 2 * width_of b
bit_row o h = omega (arith, o.wide)

pub bit_qubit : {b : List ℕ} {w r q : ℕ} → RowBack b w r → q ≡ row_qubit w r → q < width_of b
bit_qubit {b} {w} {r} o e = omega (arith, o.wide, qubit-below w r e (omega (arith, o.own, o.wide)))

module _ {b : List ℕ} {w r : ℕ} (o : RowBack b w r) where
  abbrev T : Tableau
  T = tableau_of b

  same_width : w ≡ T.width
  same_width = o.wide ∙ sym (width_of_lem b)

  module _ (s : ℕ) {q l : ℕ} (eq : q ≡ row_qubit w r) (el : l ≡ letter_byte ((row_of (tableau_of b) s).letters q)) where
    read_here : l ≡ letter_byte ((row_of T s).letters (row_qubit T.width r))
    read_here = el ∙ ap (λ (j : ℕ). letter_byte ((row_of T s).letters j)) (eq ∙ ap (λ (j : ℕ). row_qubit j r) same_width)

    pub bit_for_x : r < w → l / 2 ≡ bit_byte (bit_read T r s)
    unfolding bit_read row_bit
    bit_for_x h =
        let a : Letter = (row_of T s).letters (row_qubit T.width r) in
        ap (λ (j : ℕ). j / 2) read_here ∙ z_bit_lem a
        ∙ sym (ap (λ (c : Bool). bit_byte (cond c has_z has_x a)) (lt-ltb r T.width (omega (arith, same_width))))

    pub bit_for_z : w ≤ r → l % 2 ≡ bit_byte (bit_read T r s)
    unfolding bit_read row_bit
    bit_for_z h =
        let a : Letter = (row_of T s).letters (row_qubit T.width r) in
        ap (λ (j : ℕ). j % 2) read_here ∙ x_bit_lem a
        ∙ sym (ap (λ (c : Bool). bit_byte (cond c has_z has_x a)) (le-ltb r T.width (omega (arith, same_width))))

pub ruleset bit_reads = (bit_row, bit_qubit, bit_for_x, bit_for_z, rules)

-- ---- one letter of a body
pub twice-fits : (t : Tableau) (r s : ℕ) {z : ℕ} → z ≡ bit_byte (bit_read t r s) → Fits w8 (2 * z)
twice-fits t r s e = record { fits = omega (arith, bit_small (bit_read t r s)) }

pub sum_fits : (t : Tableau) (r s p : ℕ) {x z : ℕ} → x ≡ bit_byte (bit_read t r s) → z ≡ bit_byte (bit_read t r p) → Fits w8 (x + 2 * z)
sum_fits t r s p e k = record { fits = omega (arith, bit_small (bit_read t r s), bit_small (bit_read t r p)) }

pub letter_made : {b : List ℕ} {w r c x z : ℕ} → RowBack b w r → c < w → x ≡ bit_byte (bit_read (tableau_of b) r (w + c)) → z ≡ bit_byte (bit_read (tableau_of b) r c)
    → x + 2 * z ≡ letter_byte ((body_of (tableau_of b) r).letters c)
unfolding body_of transposed bit_read
letter_made {b} {w} {r} {c} {x} {z} o h ex ez =
    let t : Tableau = tableau_of b in
    let same : w ≡ t.width = o.wide ∙ sym (width_of_lem b) in
    let bit : PauliString → Bool = λ s. row_bit t.width r (s.letters (row_qubit t.width r)) in
    ap₂ (λ (i : ℕ) (j : ℕ). i + 2 * j) (ex ∙ ap (λ s. bit_byte (bit s)) (ap (λ (j : ℕ). row_of t (j + c)) same ∙ row-z t c))
    (ez ∙ ap (λ s. bit_byte (bit s)) (row-x t c (omega arith)))
    ∙ of_bits (bit (t.z_image c)) (bit (t.x_image c))
    ∙ ap (λ (d : Bool). letter_byte (cond d (letter_of_bits (bit (t.z_image c)) (bit (t.x_image c))) I)) (sym (lt-ltb c t.width (omega arith)))

pub ruleset body_letters = (twice-fits, sum_fits, letter_made, rules)

-- ---- the letters of a body written
length-body : (t : Tableau) (w r : ℕ) → length (body_bytes t w r) ≡ w
unfolding body_bytes
length-body t w r = length-listed w _

pub body_at : (t : Tableau) (w r c : ℕ) {l : ℕ} → l ≡ letter_byte ((body_of t r).letters c) → c < w → l ≡ get_or (body_bytes t w r) c 0
unfolding body_bytes
body_at t w r c e h = e ∙ sym (get_d_listed w _ c 0 h)

module _ (t : Tableau) (r : ℕ) {w : ℕ} {d : List ℕ} (long : length d ≡ w) where
  pub body_none : Filled (body_bytes t w r) d (length d) 0 d
  body_none = filled_none (omega (arith, long, length-body t w r)) (omega arith)

  pub body_place : {c : ℕ} {e : List ℕ} → Filled (body_bytes t w r) d (length d) c e → c < length e → c < w
  body_place m h = omega (arith, long, filled_length m)

  pub body_all : {c : ℕ} {e : List ℕ} → Filled (body_bytes t w r) d (length d) c e → length d ≤ c → e ≡ body_bytes t w r
  body_all m h =
      filled_all w long m h
      ∙ ap₂ ◌++◌ (take_all w (body_bytes t w r) (omega (arith, length-body t w r))) (drop_of_length-le d {i = w} (omega arith))
      ∙ append-nil (body_bytes t w r)

pub ruleset body_fills = (body_at, body_none, body_place, body_all, filled_step, filled_length, filled_room, rules)

-- ---- a body as a work row
pub body_some : (w : ℕ) (d : List ℕ) → length d ≡ w + 1 → 0 < length d
body_some w d h = omega arith

pub body_start : (w : ℕ) (d : List ℕ) → length d ≡ w + 1 → 1 ≤ length (set d 0 0)
body_start w d h = omega (arith, length-set d 0 0)

pub body_room : {w : ℕ} (d : List ℕ) → length d ≡ w + 1 → length (from 1 (set d 0 0)) ≡ w
body_room {w} d h = omega (arith, length_from 1 (set d 0 0), length-set d 0 0)

pub body_written : (t : Tableau) (w r : ℕ) (d : List ℕ) {ys : List ℕ} → length d ≡ w + 1 → ys ≡ body_bytes t w r
    → put_mid 1 (length (set d 0 0) - 1) (set d 0 0) ys ≡ encode_string w (body_of t r)
unfolding body_bytes encode_string
body_written t w r [] h e = absurd (not-suc-le-zero (body_some w [] h))
body_written t w r (x ∷ d) {ys} h e =
    ap₂ (λ (l : List ℕ) (m : List ℕ). 0 ∷ (l ++ m)) e (drop_of_length-le d {i = length (0 ∷ d) - 1} (omega arith))
    ∙ ap₂ (λ (p : ℕ) (l : List ℕ). p ∷ l) plain (append-nil (listed w (λ c. letter_byte ((body_of t r).letters c))))
  where
    plain : 0 ≡ phase_byte (body_of t r).phase
    plain = unfold body_of transposed phase_byte in refl

pub ruleset bodies = (body_some, body_start, body_room, body_written, length-set, rules)

-- ---- a row of the inverse
by_kind : (t : Tableau) (c : Bool) (m n : ℕ) → cond c (inverse_row t has_z m) (inverse_row t has_x n) ≡ inverse_row t (cond c has_z has_x) (cond c m n)
by_kind t true m n = refl
by_kind t false m n = refl

pub inverse-row : (t : Tableau) (r : ℕ) → row_of (inverse t) r ≡ inverse_row t (row_bit t.width r) (row_qubit t.width r)
unfolding inverse row_of row_bit row_qubit
inverse-row t r = by_kind t (ltb r t.width) r (r - t.width)

inverse-phase : (t : Tableau) (r : ℕ) → (row_of (inverse t) r).phase ≡ conjugate (apply t (body_of t r)).phase
unfolding inverse_row body_of
inverse-phase t r = ap (λ (s : PauliString). s.phase) (inverse-row t r)

inverse-letter : (t : Tableau) (r c : ℕ) → (row_of (inverse t) r).letters c ≡ (body_of t r).letters c
unfolding inverse_row body_of
inverse-letter t r c = ap (λ (s : PauliString). s.letters c) (inverse-row t r)

within-body : (t : Tableau) (r : ℕ) → Within t.width (body_of t r)
unfolding body_of
within-body t r = within-transposed t (row_bit t.width r) (row_qubit t.width r)

conjugate-is : (x : Phase) {p : ℕ} → p ≡ conjugate_byte (phase_byte x) → p ≡ phase_byte (conjugate x)
unfolding conjugate_byte
conjugate-is x e = e ∙ ap (λ y. phase_byte (conjugate y)) (phase-back x)

body_in : {b : List ℕ} {w r : ℕ} → RowBack b w r → Within w (body_of (tableau_of b) r)
body_in {b} {w} {r} o c h = within-body (tableau_of b) r c (omega (arith, o.wide, width_of_lem b))

module _ {b : List ℕ} {w r : ℕ} (o : RowBack b w r) where
  abbrev body : PauliString
  body = body_of (tableau_of b) r

  abbrev made : PauliString
  made = row_of (inverse (tableau_of b)) r

  module _ (s k : List ℕ) (hs : length s ≡ w + 1) (hk : length k ≡ w + 1) where
    module _ {k' : List ℕ} (f : FormedTableau b) (ek : k' ≡ encode_string w body) where
      long : length k' ≡ suc w
      long = ap length ek ∙ length_encode w body

      pub invert_applies : AppliesString b k' s
      invert_applies = record {
        string = encoded_formed w body ek;
        wide = omega (arith, hs, o.wide);
        reach = omega (arith, hs, long);
        narrow = omega (arith, hs, o.wide, f.narrow);
      }

      pub invert_some : 0 < length k'
      invert_some = omega (arith, long)

      pub invert_length : (p : ℕ) → length (set k' 0 p) ≡ length k
      invert_length p = length-set k' 0 p ∙ long ∙ omega (arith, hk)

      module _ {s' : List ℕ} (es : s' ≡ encode_string (letters_in s) (apply (tableau_of b) (string_in k'))) where
        pub source-some : 0 < length s'
        source-some = omega (arith, ap length es ∙ length_encode (letters_in s) _)

        phase-is : {p : ℕ} → p ≡ conjugate_byte (get_or s' 0 0) → p ≡ phase_byte made.phase
        phase-is ep =
            conjugate-is (apply (tableau_of b) body).phase
            (ep
            ∙ ap conjugate_byte
            (ap (λ (l : List ℕ). get_or l 0 0) es ∙ encode_phase (letters_in s) (apply (tableau_of b) (string_in k'))
            ∙ ap (λ u. phase_byte (apply (tableau_of b) u).phase) (encoded_row w body long ek (body_in o))))
            ∙ ap phase_byte (sym (inverse-phase (tableau_of b) r))

        pub invert_made : {p : ℕ} → p ≡ conjugate_byte (get_or s' 0 0) → set k' 0 p ≡ encode_string w made
        invert_made {p} ep =
            row_is w (set k' 0 p) made (length-set k' 0 p ∙ long) (get_or-set_same k' 0 p 0 invert_some ∙ phase-is ep)
            (λ c l. get_or-set_other k' 0 (suc c) p 0 (omega arith) ∙ ap (λ (j : List ℕ). get_or j (suc c) 0) ek
            ∙ encode_letter w body c l ∙ ap letter_byte (sym (inverse-letter (tableau_of b) r c)))

pub ruleset inverting = (invert_applies, invert_some, invert_length, source-some, invert_made, own-some, own-inside, rules)

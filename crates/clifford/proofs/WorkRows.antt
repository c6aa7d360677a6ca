-- Work rows: multiplied by rows and by letters, and written into a record.
use Rattle.std.proofs.Common.{◌≡◌, ℕ, zero, suc, ◌+◌, ◌-◌, ◌<◌, ◌≤◌, cond, List, length, get_or, set, sym, refl, ap, ◌∙◌, subst, ap₂, not-suc-le-zero, add-one, arith, length-set, get_or-set_other, get_or-set_same, ext_get_or, rules, eq-eqb, ne_eqb}
use native.Mathlib.Decide.{ℕ_discrete}
use Rattle.pauli_group.specs.Phase.{Phase, PlusOne, PlusI, ◌·◌}
use Rattle.pauli_group.specs.Letter.{Letter, I, Y, letter_mul, letter_phase}
use Rattle.pauli_group.specs.PauliString.{PauliString, qubits, mul, scale, identity_string, single, phase_of_letters, Within}
use Rattle.pauli_group.proofs.Laws.{·_comm, ·-one, letter_mul-I, letter_phase-I}
use Rattle.pauli_group.proofs.Products.{product_to-at}
use Rattle.pauli_group.proofs.Strings.{mul-identity, scale-mul, mul-scale, mul_assoc, within-mul, within-scale}
use Rattle.clifford_group.specs.Tableau.{image_of, row_image}
use Rattle.clifford_group.proofs.Images.{image_own, image_above, image_I}
use Rattle.pauli.specs.Layout.{phase_byte, phase_of, letter_byte, letter_of, encode_string, decode_string, WellFormed}
use Rattle.pauli.specs.declared.algebra.PhasedLetter.{PhasedLetter}
use Rattle.pauli.specs.Rows.{phase_bytes_product, letter_bytes_product, product_phase_byte, product_letter_byte}
use Rattle.pauli.proofs.Records.{phase-back, phase_there, letter_there, length_encode, encode_phase, encode_letter, encode_formed, decode_encode, encode_decode, decode_within, decode_letter, decode_phase}
use Rattle.clifford.specs.Layout.{width_of, tableau_of}
use Rattle.clifford.specs.Inside.Rows.{WorkRow, WorkOnQubit, OwnQubit, WorkPlace, ClearRow, cleared_row, row_times, letters_in, string_in}
use Rattle.clifford.proofs.Rows.{width_of_lem}
use Rattle.clifford.proofs.Records.{proper_of}

-- ---- a work row multiplied
pub length-times : {d : List ℕ} (e : List ℕ) (s : PauliString) → WellFormed (letters_in d) d → e ≡ row_times d s → length e ≡ length d
unfolding row_times
length-times {d} e s f h = ap length h ∙ length_encode (letters_in d) _ ∙ sym f.long

pub times-formed : {d e : List ℕ} (s : PauliString) → WellFormed (letters_in d) d → e ≡ row_times d s → WellFormed (letters_in e) e
unfolding row_times
times-formed {d} {e} s f h =
    let same : letters_in d ≡ letters_in e = ap (λ (j : ℕ). j - 1) (sym (length-times e s f h)) in
    subst (λ (w : ℕ). WellFormed w e) same (subst (WellFormed (letters_in d)) (sym h) (encode_formed (letters_in d) _))

pub times-work : {b d e : List ℕ} (s : PauliString) → WorkRow b d → e ≡ row_times d s → WorkRow b e
times-work {b} {d} {e} s o h =
    let l : length e ≡ length d = length-times e s o.row h in
    record { row = times-formed s o.row h; wide = omega (arith, o.wide); narrow = omega (arith, o.narrow) }

-- ---- a work row cleared
-- a list of w + 1 bytes is the string whose phase and letters it shows
pub row_is : (w : ℕ) (d : List ℕ) (s : PauliString) → length d ≡ suc w → get_or d 0 0 ≡ phase_byte s.phase
    → ((q : ℕ) → q < w → get_or d (suc q) 0 ≡ letter_byte (s.letters q)) → d ≡ encode_string w s
row_is w d s long first rest = ext_get_or 0 d (encode_string w s) (long ∙ sym (length_encode w s)) bytes
  where
    bytes : (i : ℕ) → i < length d → get_or d i 0 ≡ get_or (encode_string w s) i 0
    bytes zero h = first ∙ sym (encode_phase w s)
    bytes (suc q) h = rest q (omega arith) ∙ sym (encode_letter w s q (omega arith))

pub cleared_all : {d : List ℕ} {p : ℕ} (e : List ℕ) → ClearRow d p → length e ≡ length d → ((k : ℕ) → k < length d → get_or e k 0 ≡ 0) → set e 0 p ≡ cleared_row (length d) p
unfolding cleared_row scale identity_string letter_byte
cleared_all {d} {p} e c long zeros =
    row_is (length d - 1) (set e 0 p) (scale (phase_of p) identity_string) (length-set e 0 p ∙ omega (arith, c.some))
    (get_or-set_same e 0 p 0 (omega (arith, c.some)) ∙ sym (phase_there p c.phase) ∙ ap phase_byte (sym (·-one (phase_of p))))
    (λ q l. get_or-set_other e 0 (suc q) p 0 (omega arith) ∙ zeros (suc q) (omega arith))

-- ---- a work row multiplied by one letter
module _ (d : List ℕ) (q l : ℕ) (o : WorkPlace d q) where
  abbrev w : ℕ
  w = letters_in d

  long : length d ≡ suc w
  long = o.row.long

  abbrev here : Letter
  here = letter_of (get_or d (suc q) 0)

  abbrev place : ℕ → Phase
  place c = letter_phase ((string_in d).letters c) ((single (letter_of l) q).letters c)

  place_other : (c : ℕ) → (c ≡ q → ⊥) → place c ≡ PlusOne
  unfolding single
  place_other c n = ap (λ b. letter_phase ((string_in d).letters c) (cond b (letter_of l) I)) (ne_eqb c q n) ∙ letter_phase-I ((string_in d).letters c)

  place_here : place q ≡ letter_phase here (letter_of l)
  unfolding single
  place_here =
      ap (λ b. letter_phase ((string_in d).letters q) (cond b (letter_of l) I)) (eq-eqb q q refl)
      ∙ ap (λ a. letter_phase a (letter_of l)) (decode_letter w d q (omega (arith, o.place)))

  phases : phase_of_letters (string_in d).letters (single (letter_of l) q).letters ≡ letter_phase here (letter_of l)
  unfolding phase_of_letters qubits
  phases = product_to-at 128 q place (omega (arith, o.place, o.narrow)) place_other ∙ place_here

  phase-is : {p r : ℕ} → p ≡ product_phase_byte (get_or d (q + 1) 0) l → r ≡ phase_bytes_product (get_or d 0 0) p
      → r ≡ phase_byte (mul (string_in d) (single (letter_of l) q)).phase
  unfolding mul single phase_bytes_product product_phase_byte
  phase-is {p} {r} ep er =
      er
      ∙ ap (λ x. phase_byte (phase_of (get_or d 0 0) · x))
      (ap phase_of ep ∙ phase-back _ ∙ ap (λ (j : ℕ). letter_phase (letter_of (get_or d j 0)) (letter_of l)) (add-one q) ∙ sym phases)
      ∙ ap (λ (x : Phase). phase_byte (x · phase_of_letters (string_in d).letters (single (letter_of l) q).letters))
      (sym (·-one (phase_of (get_or d 0 0))) ∙ ap (λ x. x · PlusOne) (sym (decode_phase w d)))

  letters_are : {v : ℕ} → v ≡ product_letter_byte (get_or d (q + 1) 0) l → (c : ℕ) → c < w
      → get_or (set d (q + 1) v) (suc c) 0 ≡ letter_byte ((mul (string_in d) (single (letter_of l) q)).letters c)
  unfolding mul single product_letter_byte
  letters_are {v} ev c h = elim (ℕ_discrete c q) [
    | yes z ↦ (let j : suc c ≡ q + 1 = omega arith in ap (λ (i : ℕ). get_or (set d (q + 1) v) i 0) j)
        ∙ get_or-set_same d (q + 1) v 0 o.place ∙ ev
        ∙ ap (λ (i : ℕ). letter_byte (letter_mul (letter_of (get_or d i 0)) (letter_of l))) (let j : q + 1 ≡ suc c = omega arith in j)
        ∙ ap₂ (λ a b. letter_byte (letter_mul a (cond b (letter_of l) I))) (sym (decode_letter w d c h)) (sym (eq-eqb c q z))
    | no z ↦ get_or-set_other d (q + 1) (suc c) v 0 (omega arith) ∙ sym (letter_there (get_or d (suc c) 0) (o.row.small (suc c) (omega (arith, long))))
        ∙ ap letter_byte (sym (decode_letter w d c h) ∙ sym (letter_mul-I ((string_in d).letters c)))
        ∙ ap (λ b. letter_byte (letter_mul ((string_in d).letters c) (cond b (letter_of l) I))) (sym (ne_eqb c q z))
  ]

  pub times-letter : {x : PhasedLetter} {p v r : ℕ} → x ≡ letter_bytes_product (get_or d (q + 1) 0) l → p ≡ x.0 → v ≡ x.1 → r ≡ phase_bytes_product (get_or d 0 0) p
      → set (set d (q + 1) v) 0 r ≡ row_times d (single (letter_of l) q)
  unfolding row_times letter_bytes_product
  times-letter {x} {p} {v} {r} ex ep ev er =
      row_is w (set (set d (q + 1) v) 0 r) (mul (string_in d) (single (letter_of l) q)) (length-set (set d (q + 1) v) 0 r ∙ length-set d (q + 1) v ∙ long)
      (get_or-set_same (set d (q + 1) v) 0 r 0 (omega (arith, length-set d (q + 1) v, long)) ∙ phase-is (ep ∙ ap (λ (y : PhasedLetter). y.0) ex) er)
      (λ c h. get_or-set_other (set d (q + 1) v) 0 (suc c) r 0 (omega arith) ∙ letters_are (ev ∙ ap (λ (y : PhasedLetter). y.1) ex) c h)

-- ---- a work row multiplied by the image of a letter
-- the phase byte times a phase
times-phase : {d : List ℕ} {p : ℕ} (k : ℕ) → WellFormed (letters_in d) d → p ≡ phase_bytes_product (get_or d 0 0) k
    → set d 0 p ≡ encode_string (letters_in d) (scale (phase_of k) (string_in d))
unfolding scale phase_bytes_product
times-phase {d} {p} k f e =
    let w = letters_in d in
    row_is w (set d 0 p) (scale (phase_of k) (string_in d)) (length-set d 0 p ∙ f.long)
    (get_or-set_same d 0 p 0 (omega (arith, f.long)) ∙ e ∙ ap phase_byte (·_comm _ (phase_of k) ∙ ap (λ x. phase_of k · x) (sym (decode_phase w d))))
    (λ c l. get_or-set_other d 0 (suc c) p 0 (omega arith) ∙ sym (letter_there (get_or d (suc c) 0) (f.small (suc c) (omega (arith, f.long)))) ∙ ap letter_byte (sym (decode_letter w d c l)))

times_i_lem : {d : List ℕ} {p : ℕ} → WellFormed (letters_in d) d → p ≡ phase_bytes_product (get_or d 0 0) 2
    → set d 0 p ≡ encode_string (letters_in d) (scale PlusI (string_in d))
unfolding phase_of
times_i_lem f e = times-phase 2 f e

turned-formed : {d : List ℕ} {p : ℕ} (k : ℕ) → WellFormed (letters_in d) d → p ≡ phase_bytes_product (get_or d 0 0) k → WellFormed (letters_in d) (set d 0 p)
turned-formed {d} {p} k f e = subst (WellFormed (letters_in d)) (sym (times-phase k f e)) (encode_formed (letters_in d) _)

pub work_as : {a b d : List ℕ} → a ≡ b → WorkRow b d → WorkRow a d
work_as {d = d} e o = subst (λ (l : List ℕ). WorkRow l d) (sym e) o

pub turned-work : {b d : List ℕ} {p : ℕ} (k : ℕ) → WorkRow b d → p ≡ phase_bytes_product (get_or d 0 0) k → WorkRow b (set d 0 p)
turned-work {b} {d} {p} k o e =
    let l : length (set d 0 p) ≡ length d = length-set d 0 p in
    let same : letters_in d ≡ letters_in (set d 0 p) = ap (λ (j : ℕ). j - 1) (sym l) in
    record {
      row = subst (λ (w : ℕ). WellFormed w (set d 0 p)) same (turned-formed k o.row e);
      wide = omega (arith, o.wide);
      narrow = omega (arith, o.narrow);
    }

-- by the rows of a qubit
pub own_x : (b d : List ℕ) (q : ℕ) {s : PauliString} {e : List ℕ} {l : ℕ} → s ≡ (tableau_of b).x_image q → l ≡ 1 → e ≡ row_times d s
    → e ≡ row_times d (row_image (tableau_of b) q (letter_of l))
unfolding row_image letter_of
own_x b d q es h k = k ∙ ap (row_times d) es ∙ ap (λ (j : ℕ). row_times d (row_image (tableau_of b) q (letter_of j))) (sym h)

pub own-z : (b d : List ℕ) (q : ℕ) {s : PauliString} {e : List ℕ} {l : ℕ} → s ≡ (tableau_of b).z_image q → l ≡ 2 → e ≡ row_times d s
    → e ≡ row_times d (row_image (tableau_of b) q (letter_of l))
unfolding row_image letter_of
own-z b d q es h k = k ∙ ap (row_times d) es ∙ ap (λ (j : ℕ). row_times d (row_image (tableau_of b) q (letter_of j))) (sym h)

letter-Y : (l : ℕ) → (l ≡ 0 → ⊥) → (l ≡ 1 → ⊥) → (l ≡ 2 → ⊥) → letter_of l ≡ Y
unfolding letter_of
letter-Y zero h k m = absurd (h refl)
letter-Y (suc zero) h k m = absurd (k refl)
letter-Y (suc (suc zero)) h k m = absurd (m refl)
letter-Y (suc (suc (suc l))) h k m = refl

pub own_y : (b d : List ℕ) (q : ℕ) {e : List ℕ} {l : ℕ} → (l ≡ 0 → ⊥) → (l ≡ 1 → ⊥) → (l ≡ 2 → ⊥) → e ≡ row_times d (row_image (tableau_of b) q Y)
    → e ≡ row_times d (row_image (tableau_of b) q (letter_of l))
own_y b d q {e} {l} o h k m = m ∙ ap (λ a. row_times d (row_image (tableau_of b) q a)) (sym (letter-Y l o h k))

pub decoded_times : (d : List ℕ) (s : PauliString) → Within (letters_in d) s → decode_string (letters_in d) (row_times d s) ≡ mul (string_in d) s
unfolding row_times
decoded_times d s h = decode_encode (letters_in d) (mul (string_in d) s) (within-mul (letters_in d) (string_in d) s (decode_within (letters_in d) d) h)

-- i, then the X image, then the Z image
pub times_both : (b d : List ℕ) {e₁ e₂ : List ℕ} {q p : ℕ} {u v : PauliString} → WorkRow b d → OwnQubit b q → u ≡ (tableau_of b).x_image q → v ≡ (tableau_of b).z_image q
    → p ≡ phase_bytes_product (get_or d 0 0) 2 → e₁ ≡ row_times (set d 0 p) u → e₂ ≡ row_times e₁ v → e₂ ≡ row_times d (row_image (tableau_of b) q Y)
unfolding row_times row_image
times_both b d {e₁} {e₂} {q} {p} {u} {v} o c eu ev ep k₁ k₂ =
    let w = letters_in d in
    let t = tableau_of b in
    let x : PauliString = t.x_image q in
    let z : PauliString = t.z_image q in
    let long₁ : letters_in (set d 0 p) ≡ w = ap (λ (j : ℕ). j - 1) (length-set d 0 p) in
    let long₂ : letters_in e₁ ≡ w = ap (λ (j : ℕ). j - 1) (ap length k₁ ∙ length_encode (letters_in (set d 0 p)) _) ∙ (let y : suc (letters_in (set d 0 p)) - 1 ≡ w = omega arith in y) in
    let first : string_in (set d 0 p) ≡ scale PlusI (string_in d) =
    ap (λ (j : ℕ). decode_string j (set d 0 p)) long₁ ∙ ap (decode_string w) (times_i_lem o.row ep)
    ∙ decode_encode w (scale PlusI (string_in d)) (within-scale w PlusI (string_in d) (decode_within w d)) in
    let inside : Within w x = (λ k h. (proper_of c.tableau).x_within q (omega (arith, c.own, width_of_lem b)) k (omega (arith, o.wide, o.row.long, width_of_lem b))) in
    let second : e₁ ≡ encode_string w (mul (scale PlusI (string_in d)) x) =
    k₁ ∙ ap (λ (j : ℕ). encode_string j (mul (string_in (set d 0 p)) u)) long₁ ∙ ap₂ (λ s u. encode_string w (mul s u)) first eu in
    let made : string_in e₁ ≡ mul (scale PlusI (string_in d)) x =
    ap (λ (j : ℕ). decode_string j e₁) long₂ ∙ ap (decode_string w) second
    ∙ decode_encode w (mul (scale PlusI (string_in d)) x) (within-mul w (scale PlusI (string_in d)) x (within-scale w PlusI (string_in d) (decode_within w d)) inside) in
    k₂ ∙ ap (λ (j : ℕ). encode_string j (mul (string_in e₁) v)) long₂
    ∙ ap₂ (λ s u. encode_string w (mul s u)) made ev
    ∙ ap (encode_string w) (simp (scale-mul, mul-scale, mul_assoc))

pub image_none : (b d : List ℕ) {q l : ℕ} → WorkOnQubit b d q → l ≡ 0 → d ≡ row_times d (image_of (tableau_of b) q (letter_of l))
unfolding row_times letter_of
image_none b d {q} {l} o h =
    sym (encode_decode o.work.row) ∙ ap (encode_string (letters_in d)) (sym (mul-identity (string_in d)))
    ∙ ap (λ s. encode_string (letters_in d) (mul (string_in d) s)) (sym (ap (λ (j : ℕ). image_of (tableau_of b) q (letter_of j)) h ∙ image_I (tableau_of b) q))

pub own_below : (b : List ℕ) {q n : ℕ} → n ≡ width_of b → q < n → q < width_of b
own_below b e h = omega arith

pub own_row : {a b d : List ℕ} {q : ℕ} → a ≡ b → WorkOnQubit b d q → WorkRow a d
own_row e o = work_as e o.work

pub image_place : {b d : List ℕ} {q : ℕ} → WorkOnQubit b d q → WorkPlace d q
image_place o = record { row = o.work.row; place = o.place; narrow = o.work.narrow }

pub image_below : (b d : List ℕ) {a e : List ℕ} {p q n : ℕ} (l : ℕ) → n ≡ width_of b → q < n → a ≡ b → p ≡ q
    → e ≡ row_times d (row_image (tableau_of a) p (letter_of l)) → e ≡ row_times d (image_of (tableau_of b) q (letter_of l))
image_below b d {q = q} l en h ea ep k =
    k ∙ ap (row_times d) (ap₂ (λ (x : List ℕ) (j : ℕ). row_image (tableau_of x) j (letter_of l)) ea ep ∙ sym (image_own (tableau_of b) q (letter_of l) (omega (arith, width_of_lem b))))

pub image_over : (b d : List ℕ) {e : List ℕ} {q n : ℕ} (l : ℕ) → n ≡ width_of b → n ≤ q → e ≡ row_times d (single (letter_of l) q)
    → e ≡ row_times d (image_of (tableau_of b) q (letter_of l))
image_over b d {e} {q} l en h k = k ∙ ap (row_times d) (sym (image_above (tableau_of b) q (letter_of l) (omega (arith, width_of_lem b))))

pub ruleset clearing = (cleared_all, rules)

pub ruleset letter_products = (times-letter, rules)

pub ruleset images = (work_as, own_x, own-z, own_y, rules)

pub ruleset image_products = (image_none, own_below, own_row, image_place, image_below, image_over, rules)

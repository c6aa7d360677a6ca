-- Validity, read off the rows of a record.
use Rattle.std.proofs.Common.{◌≡◌, ℕ, zero, suc, ◌+◌, ◌*◌, ◌%◌, ◌<◌, ◌≤◌, Bool, true, false, not, ◌&&◌, eqb, ltb, List, length, sym, refl, ap, ◌∙◌, ap₂, not-suc-le-zero, add-one, arith, rules, le-ltb, lt-ltb, Ok}
use native.Mathlib.Decide.{dec_lt}
use Rattle.pauli_group.specs.Phase.{is_real}
use Rattle.pauli_group.specs.PauliString.{PauliString, qubits, anticommuting_places, commute}
use Rattle.pauli_group.proofs.Laws.{anticommute_sym}
use Rattle.pauli_group.proofs.Products.{count_to_ext}
use Rattle.clifford_group.specs.Tableau.{Tableau, all_to, valid_qubit, valid_pair, is_valid}
use Rattle.pauli.specs.Layout.{phase_byte, phase_of, letter_of}
use Rattle.pauli.specs.Rows.{letter_at, places_of, shorter}
use Rattle.pauli.proofs.Answers.{answers}
use Rattle.pauli.proofs.Asking.{in_order}
use Rattle.pauli.proofs.Records.{phase-back, letter-back}
use Rattle.pauli.proofs.RowProducts.{places_of-rows}
use Rattle.clifford.specs.Layout.{row_of, width_of, tableau_of}
use Rattle.clifford.specs.Inside.Rows.{OwnRow, letter_bytes}
use Rattle.clifford.specs.Tableaux.{record_valid}
use Rattle.clifford.proofs.Rows.{row_inside, width_of_lem}
use Rattle.clifford.proofs.SupportQubits.{letters-long, letter-byte}
use Rattle.clifford.proofs.RowAccess.{own-inside}
use Rattle.clifford.proofs.Asking.{checked}

-- ---- the phase of a row
real-is : (s : PauliString) (p : ℕ) → p ≡ phase_byte s.phase → ltb p 2 ≡ is_real s.phase
real-is s p e = by p ∙ ap is_real (ap phase_of e ∙ phase-back s.phase)
  where
    by : (p : ℕ) → ltb p 2 ≡ is_real (phase_of p)
    by zero = unfold phase_of is_real in refl
    by (suc zero) = unfold phase_of is_real in refl
    by (suc (suc zero)) = unfold phase_of is_real in refl
    by (suc (suc (suc p))) = unfold phase_of is_real in le-ltb (suc (suc (suc p))) 2 (omega arith)

-- ---- commutation of two rows
places_sym : (n : ℕ) (x y : List ℕ) → places_of n x y ≡ places_of n y x
unfolding places_of
places_sym n x y = count_to_ext n _ _ (λ q l. anticommute_sym (letter_at x q) (letter_at y q))

anticommuting_sym : (s u : PauliString) → anticommuting_places s u ≡ anticommuting_places u s
unfolding anticommuting_places
anticommuting_sym s u = count_to_ext qubits _ _ (λ q l. anticommute_sym (s.letters q) (u.letters q))

module _ {a b : List ℕ} {r p : ℕ} (o : OwnRow a r) (m : OwnRow b p) {x y : List ℕ} (ex : x ≡ letter_bytes (tableau_of a) r) (ey : y ≡ letter_bytes (tableau_of b) p) where
  abbrev S : PauliString
  S = row_of (tableau_of a) r

  abbrev U : PauliString
  U = row_of (tableau_of b) p

  long_x : length x ≡ width_of a
  long_x = letters-long a r ex

  long_y : length y ≡ width_of b
  long_y = letters-long b p ey

  letters_x : (q : ℕ) → letter_at x q ≡ S.letters q
  unfolding letter_at
  letters_x q = ap letter_of (letter-byte a r ex q) ∙ letter-back (S.letters q)

  letters_y : (q : ℕ) → letter_at y q ≡ U.letters q
  unfolding letter_at
  letters_y q = ap letter_of (letter-byte b p ey q) ∙ letter-back (U.letters q)

  -- the letters of the shorter row end at its width
  places_are : places_of (shorter x y) x y % 256 ≡ anticommuting_places S U
  unfolding qubits
  places_are = elim (dec_lt (width_of a) (width_of b)) [
    | yes h ↦
        (let short : shorter x y ≡ width_of a = omega (arith, long_x, long_y) in ap (λ (j : ℕ). places_of j x y % 256) short)
        ∙ ap (λ (j : ℕ). j % 256) (places_sym (width_of a) x y)
        ∙ places_of-rows U S (width_of a) y x o.tableau.narrow (λ q l. letters_y q) (λ q l. letters_x q) (row_inside a r) ∙ anticommuting_sym U S
    | no h ↦
        (let short : shorter x y ≡ width_of b = omega (arith, long_x, long_y) in ap (λ (j : ℕ). places_of j x y % 256) short)
        ∙ places_of-rows S U (width_of b) x y m.tableau.narrow (λ q l. letters_x q) (λ q l. letters_y q) (row_inside b p)
  ]

  pub commute-is : {n : ℕ} → n ≡ places_of (shorter x y) x y % 256 → eqb (n % 2) 0 ≡ commute S U
  unfolding commute
  commute-is e = ap (λ (n : ℕ). eqb (n % 2) 0) (e ∙ places_are)

pub ruleset row_commutation = (commute-is, own-inside, rules)

-- ---- the rows of one qubit
module _ (t : Tableau) (q : ℕ) {x z : PauliString} (ex : x ≡ t.x_image q) (ez : z ≡ t.z_image q) where
  pub qubit_is : {p r : ℕ} {c : Bool} → p ≡ phase_byte x.phase → r ≡ phase_byte z.phase → c ≡ commute x z
      → (ltb p 2 && ltb r 2) && not c ≡ valid_qubit t q
  unfolding valid_qubit
  qubit_is {p} {r} ep er ec =
      ap₂ (λ i j. i && j)
      (ap₂ (λ i j. i && j) (real-is x p ep ∙ ap (λ s. is_real s.phase) ex) (real-is z r er ∙ ap (λ s. is_real s.phase) ez))
      (ap not (ec ∙ ap₂ commute ex ez))

-- ---- all rows
unfoldable pub valid_row : Tableau → ℕ → Bool
valid_row t q = valid_qubit t q && all_to q (valid_pair t q)

pub rows-valid : (t : List ℕ) {n : ℕ} → n ≡ width_of t → all_to n (valid_row (tableau_of t)) ≡ is_valid (tableau_of t)
unfolding is_valid valid_row
rows-valid t e = ap (λ (j : ℕ). all_to j (valid_row (tableau_of t))) (e ∙ sym (width_of_lem t))

-- ---- the answer
pub valid-told : (t : List ℕ) {b : Bool} → b ≡ is_valid (tableau_of t) → b ≡ record_valid t
unfolding record_valid
valid-told t e = e

pub ruleset validity = (checked, valid-told, answers, in_order, rules)

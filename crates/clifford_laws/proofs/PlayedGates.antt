-- A gate played on a record is the gate's tableau composed with it, byte for byte.
use mathlib.Core.Path.{◌≡◌, refl, sym, ap, ap₂, ◌∙◌, subst}
use mathlib.Core.Bool.{Bool, true, false, cond}
use mathlib.Core.Logic.{◌≢◌}
use mathlib.Core.List.{List, ◌∷◌}
use Prim.Native.Nat.{ℕ, suc, max, ◌*◌, ◌≤◌, ◌<◌}
use native.Mathlib.Omega.{arith}
use native.Mathlib.Decide.{dec_lt}
use lib.ListN.{length}
use borrow.Author.Tests.{lt-ltb, le-ltb}
use Rattle.pauli_group.specs.Letter.{Letter}
use Rattle.pauli_group.specs.PauliString.{PauliString, qubits, Within}
use Rattle.clifford_group.specs.Tableau.{Tableau, row_image, image_of, apply, compose, Clifford, Same}
use Rattle.clifford_group.specs.Conjugation.{of_x, of_z}
use Rattle.clifford_group.proofs.Images.{image_own}
use Rattle.clifford_group.proofs.Compose.{row-compose, width-compose, proper-compose}
use Rattle.clifford_group.proofs.Same.{same_refl, compose-same}
use Rattle.clifford_gates.specs.Gates.{Image, PairImage}
use Rattle.clifford_gates.specs.GateNumbers.{one_qubit_gate, two_qubit_gate, gate_tableau}
use Rattle.clifford_gates.specs.Updates.{letter_image, pair_image}
use Rattle.clifford_gates.proofs.GateTableaux.{clifford_on_qubit}
use Rattle.clifford_gates.proofs.OneQubitUpdates.{image_not_i, apply-on_qubit}
use Rattle.clifford_gates.proofs.TwoQubitUpdates.{apply-on_qubits}
use Rattle.clifford_gates.proofs.GateNames.{gate-valid, pair_gate_valid, gate-one, gate-two, gate_clifford}
use Rattle.clifford.specs.Layout.{row_length, encode_row, decode_row, row_of, joined, tableau_record, width_of, row_part, tableau_of, with_image, with_pair, each_row, record_length, FormedRow, FormedTableau, row_qubit, row_letter}
use Rattle.clifford.specs.Tableaux.{compose_record}
use Rattle.clifford.specs.GateQuestions.{gate_width}
use Rattle.clifford.specs.GateAnswers.{gate_record}
use Rattle.clifford.specs.Playing.{gate_on_row, playable, played, GatePlayed}
use Rattle.clifford.proofs.Joining.{joined_ext, length-below}
use Rattle.clifford.proofs.Rows.{length_with, length-with_pair, image_bytes_lem, pair_bytes_lem, row-letter_at, row_within, row_part_lem, length_part, width_of_lem}
use Rattle.clifford.proofs.Records.{record-back, proper_of, record-formed, same-record}
use Rattle.clifford.proofs.RowWriting.{row_made, qubit-below}
use Rattle.clifford.proofs.RecordLaws.{compose-formed}
use Rattle.clifford.proofs.GateWriting.{gate-width}
use Rattle.clifford.proofs.Play.{playable-is, playable_yes, gate_on_letter, gate_on_pair}

-- ---- the gate's tableau is one
pub clifford_gate : (g q r : ℕ) → g < 38 → q < qubits → (24 ≤ g → r < qubits) → (24 ≤ g → q ≢ r) → Clifford (gate_tableau g q r)
clifford_gate g q r hg hq hr d = elim (dec_lt g 24) [
  | yes l ↦ subst Clifford (sym (gate-one g q r l)) (clifford_on_qubit (one_qubit_gate g) (gate-valid g l) q hq)
  | no l ↦ let m : 24 ≤ g = omega arith in gate_clifford g q r hg hq (hr m) d
]

-- ---- a row of a composition is a, applied to b's row
row-composed : (a : Tableau) {t : List ℕ} → FormedTableau t → a.width ≤ width_of t → (i : ℕ) → i < 2 * width_of t
    → row_of (compose a (tableau_of t)) i ≡ apply a (row_of (tableau_of t) i)
unfolding row_image
row-composed a {t} f h i l =
    let T = tableau_of t in
    let w = width_of t in
    row_made (compose a T) (λ k m. apply a (image_of T k m)) (row-compose a T of_x) (row-compose a T of_z) w i (omega (arith, width-compose a T, width_of_lem t)) l
    ∙ ap (apply a)
    (image_own T (row_qubit w i) (row_letter w i) (omega (arith, qubit-below w i refl l, width_of_lem t))
    ∙ sym (row_made T (λ k m. row_image T k m) (λ k. refl) (λ k. refl) w i (width_of_lem t) l))

-- ---- all rows
module _ (g q r : ℕ) (t : List ℕ) (f : FormedTableau t) (hg : g < 38) (hq : q < width_of t) (hr : 24 ≤ g → r < width_of t) (d : 24 ≤ g → q ≢ r) where
  abbrev w : ℕ
  w = width_of t

  abbrev T : Tableau
  T = tableau_of t

  abbrev G : Tableau
  G = gate_tableau g q r

  narrow : w ≤ qubits
  narrow = unfold qubits in f.narrow

  first-qubit : q < qubits
  first-qubit = omega (arith, narrow)

  second-qubit : 24 ≤ g → r < qubits
  second-qubit m = omega (arith, narrow, hr m)

  clifford : Clifford G
  clifford = clifford_gate g q r hg first-qubit second-qubit d

  inside : G.width ≤ w
  inside = omega (arith, gate-width g q r, wide)
    where
      wide : gate_width g q r ≤ w
      wide = unfold gate_width in elim (dec_lt g 24) [
        | yes l ↦ omega (arith, ap (λ b. cond b (suc q) (suc (max q r))) (lt-ltb g 24 l))
        | no l ↦ let m : 24 ≤ g = omega arith in omega (arith, hr m, ap (λ b. cond b (suc q) (suc (max q r))) (le-ltb g 24 m))
      ]

  -- one row, by the kind of the gate
  module _ {b : List ℕ} (o : FormedRow w b) where
    abbrev u : PauliString
    u = decode_row w b

    within : Within qubits u
    within k h = row_within w b k (omega (arith, narrow))

    letter-played : g < 24 → gate_on_row g q r b ≡ encode_row w (apply G u)
    letter-played l =
        let i : Letter → Image = letter_image (one_qubit_gate g) in
        gate_on_letter g q r b l ∙ ap (λ x. with_image q (i x) b) (sym (row-letter_at w b q hq))
        ∙ sym (image_bytes_lem (i (u.letters q)) o hq (image_not_i (one_qubit_gate g) (gate-valid g l) (u.letters q)))
        ∙ ap (encode_row w) (sym (ap (λ t. apply t u) (gate-one g q r l) ∙ apply-on_qubit (one_qubit_gate g) (gate-valid g l) q first-qubit u within))

    pair_played : 24 ≤ g → gate_on_row g q r b ≡ encode_row w (apply G u)
    pair_played m =
        let i : Letter → Letter → PairImage = pair_image (two_qubit_gate g) in
        gate_on_pair g q r b m ∙ ap₂ (λ x y. with_pair q r (i x y) b) (sym (row-letter_at w b q hq)) (sym (row-letter_at w b r (hr m)))
        ∙ sym (pair_bytes_lem (i (u.letters q) (u.letters r)) o (omega (arith, f.narrow)) hq (hr m) (d m))
        ∙ ap (encode_row w)
        (sym (ap (λ t. apply t u) (gate-two g q r m) ∙ apply-on_qubits (two_qubit_gate g) (pair_gate_valid g m hg) q r first-qubit (second-qubit m) (d m) u within))

  row-played : (i : ℕ) → i < 2 * w → gate_on_row g q r (row_part t i) ≡ encode_row w (row_of (compose G T) i)
  row-played i l =
      elim (dec_lt g 24) [
        | yes k ↦ letter-played (f.rows i l) k
        | no k ↦ let m : 24 ≤ g = omega arith in pair_played (f.rows i l) m
      ]
      ∙ ap (λ s. encode_row w (apply G s)) (sym (row_part_lem t i l)) ∙ ap (encode_row w) (sym (row-composed G f inside i l))

  rows-played : each_row (gate_on_row g q r) t ≡ tableau_record (compose G T)
  unfolding each_row tableau_record
  rows-played =
      let wide : w ≡ (compose G T).width = omega (arith, width-compose G T, width_of_lem t, inside) in
      ap (λ (l : List ℕ). w ∷ l) (joined_ext (2 * w) _ _ row-played) ∙ ap (λ (v : ℕ). v ∷ joined (2 * v) (λ i. encode_row v (row_of (compose G T) i))) wide

  played-record : played g q r t ≡ tableau_record (compose G T)
  unfolding played
  played-record = ap (λ b. cond b (each_row (gate_on_row g q r) t) t) (playable_yes g q r t hg hq hr d f.narrow f.long) ∙ rows-played

  -- as tableaux, and byte for byte
  pub played-tableau : Same (tableau_of (played g q r t)) (compose G T)
  played-tableau = subst (λ b. Same (tableau_of b) (compose G T)) (sym played-record) (record-back (compose G T) (proper-compose G T clifford.proper (proper_of f)))

  pub played-is : played g q r t ≡ compose_record (gate_record g q r) t
  unfolding compose_record gate_record
  played-is =
      played-record
      ∙ sym (same-record (compose (tableau_of (tableau_record G)) T) (compose G T) (compose-same _ _ T T (record-back G clifford.proper) (same_refl T)))

  pub played-formed : FormedTableau (played g q r t)
  unfolding gate_record
  played-formed = subst FormedTableau (sym played-is) (compose-formed (record-formed G clifford.proper.narrow) f)

-- ---- whatever the bytes: the length and the width stay
length_each : (h : List ℕ → List ℕ) → ((b : List ℕ) → length (h b) ≡ length b) → (t : List ℕ) → length t ≡ record_length (width_of t)
    → length (each_row h t) ≡ length t
unfolding each_row
length_each h same t long =
    ap suc (length-below (row_length (width_of t)) (λ i. h (row_part t i)) (2 * width_of t) (λ i l. same (row_part t i) ∙ length_part t (width_of t) i refl long l))
    ∙ (let e : suc (2 * width_of t * row_length (width_of t)) ≡ record_length (width_of t) = (unfold record_length in omega arith) in e) ∙ sym long

pub length-played : (g q r : ℕ) (t : List ℕ) → length (played g q r t) ≡ length t
unfolding played
length-played g q r t = by (playable g q r t) refl
  where
    same : (b : List ℕ) → length (gate_on_row g q r b) ≡ length b
    same b = unfold with_image with_pair in elim (dec_lt g 24) [
      | yes l ↦ ap length (gate_on_letter g q r b l) ∙ length_with q _ _ b
      | no l ↦ let m : 24 ≤ g = omega arith in ap length (gate_on_pair g q r b m) ∙ length-with_pair q r _ _ _ _ b
    ]

    by : (b : Bool) → playable g q r t ≡ b → length (cond b (each_row (gate_on_row g q r) t) t) ≡ length t
    by true e = length_each (gate_on_row g q r) same t (playable-is g q r t e).laid.long
    by false e = refl

pub played-same : {g q r : ℕ} {t e : List ℕ} {b : Bool} → GatePlayed g q r t e b → length e ≡ length t
played-same {g} {q} {r} {t} p = ap length p.bytes ∙ length-played g q r t

pub width-played : (g q r : ℕ) (t : List ℕ) → width_of (played g q r t) ≡ width_of t
unfolding played each_row
width-played g q r t = by (playable g q r t)
  where
    by : (b : Bool) → width_of (cond b (each_row (gate_on_row g q r) t) t) ≡ width_of t
    by true = refl
    by false = refl

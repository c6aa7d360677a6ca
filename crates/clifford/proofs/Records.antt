-- Laws of the layout of tableaux: both round trips, rows and their parts, and sizes.
use Rattle.std.proofs.Common.{◌≡◌, ℕ, suc, ◌+◌, ◌*◌, ◌<◌, ◌≤◌, List, [], ◌∷◌, length, take, drop, sym, refl, ap, ◌∙◌, subst, ap₂, not-suc-le-zero, mul-le-mul_right, arith, take_all}
use Rattle.pauli_group.specs.PauliString.{qubits}
use Rattle.clifford_group.specs.Tableau.{Tableau, Proper, Same}
use Rattle.clifford_group.proofs.Same.{same_sym, same_trans}
use Rattle.clifford.specs.Layout.{letter_place, row_length, encode_row, decode_row, FormedRow, row_offset, record_length, longest_record, row_of, joined, tableau_record, width_of, row_part, tableau_of, FormedTableau}
use Rattle.clifford.proofs.Joining.{joined_ext, length-joined, joined_part, parts_joined}
use Rattle.clifford.proofs.Rows.{length-row, row_back, row_there, row_within, encoded_row_formed, same_rows, rows_same, rows-within, width_of_lem, row_part_lem}

-- ---- sizes
pub length-record : (t : Tableau) → length (tableau_record t) ≡ record_length t.width
unfolding tableau_record record_length
length-record t =
    ap suc (length-joined (row_length t.width) (λ r. encode_row t.width (row_of t r)) (λ r. length-row t.width (row_of t r)) (2 * t.width))
    ∙ (let e : suc (2 * t.width * row_length t.width) ≡ 1 + 2 * t.width * row_length t.width = omega arith in e)

pub record-small : (w : ℕ) → w ≤ 128 → record_length w ≤ longest_record
unfolding record_length row_length letter_place
record-small w h =
    let a : 2 * w * suc (suc w) ≤ 256 * suc (suc w) = mul-le-mul_right (suc (suc w)) (omega arith) in
    omega arith

pub longest-is : record_length 128 ≡ longest_record
unfolding record_length row_length letter_place
longest-is = refl

-- ---- rows of a record
pub part_record : (t : Tableau) (r : ℕ) → r < 2 * t.width → row_part (tableau_record t) r ≡ encode_row t.width (row_of t r)
unfolding tableau_record row_part row_offset
part_record t r h =
    let w = t.width in
    let f : ℕ → List ℕ = λ r. encode_row w (row_of t r) in
    let at : 1 + r * row_length w ≡ suc (r * row_length w) = omega arith in
    ap (λ (j : ℕ). take (row_length w) (drop j (w ∷ joined (2 * w) f))) at
    ∙ joined_part (row_length w) f (λ r. length-row w (row_of t r)) (2 * w) r h

-- ---- both round trips
pub width-record : (t : Tableau) → width_of (tableau_record t) ≡ t.width
unfolding tableau_record
width-record t = refl

pub record-back : (t : Tableau) → Proper t → Same (tableau_of (tableau_record t)) t
record-back t p = same_rows (tableau_of (tableau_record t)) t (width_of_lem (tableau_record t) ∙ width-record t) each
  where
    each : (r : ℕ) → r < 2 * (tableau_of (tableau_record t)).width → row_of (tableau_of (tableau_record t)) r ≡ row_of t r
    each r l =
        let w : width_of (tableau_record t) ≡ t.width = width-record t in
        row_part_lem (tableau_record t) r (omega (arith, width_of_lem (tableau_record t)))
        ∙ ap₂ decode_row w (part_record t r (omega (arith, width_of_lem (tableau_record t))))
        ∙ row_back t.width (row_of t r) (rows-within t p r (omega (arith, width_of_lem (tableau_record t))))

whole : (w : ℕ) → record_length w ≡ suc (2 * w * row_length w)
unfolding record_length
whole w = omega arith

part_of_rest : (w : ℕ) (l : List ℕ) (r : ℕ) → row_part (w ∷ l) r ≡ take (row_length w) (drop (r * row_length w) l)
unfolding row_part row_offset
part_of_rest w l r = let at : 1 + r * row_length w ≡ suc (r * row_length w) = omega arith in ap (λ (j : ℕ). take (row_length w) (drop j (w ∷ l))) at

pub record_there : {b : List ℕ} → FormedTableau b → tableau_record (tableau_of b) ≡ b
unfolding tableau_record
record_there {b} f = by b f
  where
    each : (w : ℕ) (l : List ℕ) → FormedTableau (w ∷ l) → (r : ℕ) → r < 2 * w
        → encode_row w (row_of (tableau_of (w ∷ l)) r) ≡ take (row_length w) (drop (r * row_length w) l)
    each w l f r h = ap (encode_row w) (row_part_lem (w ∷ l) r h) ∙ row_there (f.rows r h) ∙ part_of_rest w l r

    by : (b : List ℕ) → FormedTableau b → tableau_record (tableau_of b) ≡ b
    by [] f = absurd (not-suc-le-zero f.some)
    by (w ∷ l) f =
        ap₂ (λ (v : ℕ) (m : List ℕ). v ∷ m) (width_of_lem (w ∷ l))
        (ap (λ (v : ℕ). joined (2 * v) (λ r. encode_row v (row_of (tableau_of (w ∷ l)) r))) (width_of_lem (w ∷ l))
        ∙ joined_ext (2 * w) _ (λ r. take (row_length w) (drop (r * row_length w) l)) (each w l f)
        ∙ parts_joined (2 * w) (row_length w) l ∙ take_all (2 * w * row_length w) l (omega (arith, f.long, whole w)))

-- ---- which tableaux and which bytes
pub proper_of : {b : List ℕ} → FormedTableau b → Proper (tableau_of b)
unfolding tableau_of qubits
proper_of {b} f = record {
  narrow = f.narrow;
  x_within = λ q l. row_within (width_of b) (row_part b q);
  z_within = λ q l. row_within (width_of b) (row_part b (width_of b + q));
}

pub record-formed : (t : Tableau) → t.width ≤ qubits → FormedTableau (tableau_record t)
unfolding tableau_record qubits
record-formed t n = record {
  some = omega arith;
  narrow = n;
  long = length-record t;
  rows = λ r l. subst (FormedRow t.width) (sym (part_record t r l)) (encoded_row_formed t.width (row_of t r));
}

-- equal records are those of the same tableaux
pub same-record : (t u : Tableau) → Same t u → tableau_record t ≡ tableau_record u
unfolding tableau_record
same-record t u e =
    ap₂ (λ (w : ℕ) (l : List ℕ). w ∷ l) e.width
    (joined_ext (2 * t.width) _ _ (λ r l. ap₂ encode_row e.width (rows_same t u e r l))
    ∙ ap (λ (w : ℕ). joined (2 * w) (λ r. encode_row u.width (row_of u r))) e.width)

pub record_same : (t u : Tableau) → Proper t → Proper u → tableau_record t ≡ tableau_record u → Same t u
record_same t u p q e =
    same_trans t (tableau_of (tableau_record t)) u (same_sym (tableau_of (tableau_record t)) t (record-back t p))
    (subst (λ b. Same (tableau_of b) u) (sym e) (record-back u q))

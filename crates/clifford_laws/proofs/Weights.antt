-- A tableau's questions let by exactly the encodings of tableaux, weights included; without its weights a record is the scope
-- document's, and the weights follow from that.
use mathlib.Core.Path.{◌≡◌, refl, sym, ap, ap₂, ◌∙◌}
use mathlib.Core.Logic.{◌↔◌}
use mathlib.Core.List.{List, ◌∷◌}
use Prim.Native.Nat.{ℕ, suc, ◌+◌, ◌*◌, ◌<◌}
use native.Mathlib.Omega.{arith}
use lib.ListN.{length, get_or, take, drop}
use Rattle.pauli_group.specs.PauliString.{PauliString, weight_to}
use Rattle.clifford_group.specs.Tableau.{Tableau, Proper, Same}
use Rattle.pauli.specs.Layout.{encode_string, decode_string}
use Rattle.pauli.proofs.Records.{length_encode, decode_encode}
use Rattle.clifford.specs.Layout.{weight_place, letter_place, row_length, encode_row, letters_of, row_offset, row_of, joined, width_of, row_part, tableau_of, tableau_record, each_row}
use Rattle.clifford.specs.Questions.{tableau_questions}
use Rattle.clifford.proofs.Joining.{joined_ext, length-joined, joined_part}
use Rattle.clifford.proofs.Rows.{row-some, same_rows, rows-within, row_part_lem, get_d_part}
use Rattle.clifford.proofs.Records.{part_record, width-record, same-record}
use Rattle.clifford.proofs.Asking.{tableau-formed, tableaux_admitted, admitted_tableaux, admitted_proper}
use Rattle.clifford_laws.specs.Weights.{Encodes, without_weight, without_weights, plain_record}
use Rattle.std.specs.Prelude.{Ok}

-- ---- what is let by
pub admitted_exactly : (b : List ℕ) → (tableau_questions b ≡ Ok tt) ↔ Encodes b
admitted_exactly b = (
  (λ e. record { tableau = tableau_of b; proper = admitted_proper b e; is = admitted_tableaux b e }),
  (λ e. ap tableau_questions e.is ∙ tableaux_admitted e.tableau e.proper),
)

-- the byte behind a row's phase is the number of its letters other than I
pub weights_true : (b : List ℕ) → tableau_questions b ≡ Ok tt → (r : ℕ) → r < 2 * width_of b
    → get_or b (2 + r * (width_of b + 2)) 0 ≡ weight_to (width_of b) (row_of (tableau_of b) r)
weights_true b e r h =
    let w : ℕ = width_of b in
    let place : 2 + r * (w + 2) ≡ row_offset w r + weight_place = (unfold row_offset row_length letter_place in omega arith) in
    ap (λ (k : ℕ). get_or b k 0) place ∙ sym (get_d_part b r weight_place (row-some w)) ∙ ((tableau-formed b e).rows r h).weight
    ∙ ap (weight_to w) (sym (row_part_lem b r h))

-- ---- without the weights
pub row_dropped : (w : ℕ) (s : PauliString) → without_weight (encode_row w s) ≡ encode_string w s
unfolding without_weight letters_of letter_place encode_row encode_string
row_dropped w s = refl

pub weights_dropped : (t : Tableau) → without_weights (tableau_record t) ≡ plain_record t
unfolding without_weights each_row plain_record
weights_dropped t =
    ap (λ (w : ℕ). w ∷ joined (2 * w) (λ r. without_weight (row_part (tableau_record t) r))) (width-record t)
    ∙ ap (λ (l : List ℕ). t.width ∷ l)
    (joined_ext (2 * t.width) _ _ (λ r h. ap without_weight (part_record t r h) ∙ row_dropped t.width (row_of t r)))

pub plain_length : (t : Tableau) → length (plain_record t) ≡ 1 + 2 * t.width * (t.width + 1)
unfolding plain_record
plain_length t =
    ap suc (length-joined (suc t.width) (λ r. encode_string t.width (row_of t r)) (λ r. length_encode t.width (row_of t r)) (2 * t.width)) ∙ omega arith

-- equal ones are those of the same tableau
plain_same : (t u : Tableau) → Proper t → Proper u → plain_record t ≡ plain_record u → Same t u
plain_same t u p q e = same_rows t u wide each
  where
    wide : t.width ≡ u.width
    wide = unfold plain_record in ap (λ (l : List ℕ). get_or l 0 0) e

    part : (t : Tableau) (r : ℕ) → r < 2 * t.width → take (suc t.width) (drop (suc (r * suc t.width)) (plain_record t)) ≡ encode_string t.width (row_of t r)
    part t r h = unfold plain_record in
        joined_part (suc t.width) (λ r. encode_string t.width (row_of t r)) (λ r. length_encode t.width (row_of t r)) (2 * t.width) r h

    each : (r : ℕ) → r < 2 * t.width → row_of t r ≡ row_of u r
    each r h =
        sym (decode_encode t.width (row_of t r) (rows-within t p r h))
        ∙ ap (decode_string t.width) (sym (part t r h))
        ∙ ap₂ (λ (w : ℕ) (l : List ℕ). decode_string w (take (suc w) (drop (suc (r * suc w)) l))) wide e
        ∙ ap (decode_string u.width) (part u r (omega (arith, wide)))
        ∙ decode_encode u.width (row_of u r) (rows-within u q r (omega (arith, wide)))

pub weights_follow : (a b : List ℕ) → tableau_questions a ≡ Ok tt → tableau_questions b ≡ Ok tt → without_weights a ≡ without_weights b → a ≡ b
weights_follow a b ea eb e =
    let plain : (l : List ℕ) → tableau_questions l ≡ Ok tt → without_weights l ≡ plain_record (tableau_of l) =
    λ l h. ap without_weights (admitted_tableaux l h) ∙ weights_dropped (tableau_of l) in
    admitted_tableaux a ea
    ∙ same-record (tableau_of a) (tableau_of b) (plain_same (tableau_of a) (tableau_of b) (admitted_proper a ea) (admitted_proper b eb) (sym (plain a ea) ∙ e ∙ plain b eb))
    ∙ sym (admitted_tableaux b eb)

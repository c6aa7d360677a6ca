-- Records written row by row, whatever the bytes of the rows: what a loop over the rows has written before row r.
use Rattle.std.proofs.Common.{◌≡◌, ℕ, suc, ◌+◌, ◌-◌, ◌*◌, ◌<◌, ◌≤◌, List, [], ◌∷◌, ◌++◌, length, take, drop, sym, refl, ap, ◌∙◌, ap₂, append_assoc, append-nil, not-suc-le-zero, add-one, arith, length-append, length-drop, take-append-drop, drop_of_length-le, drop-drop, take_at, drop_at}
use borrow.Rule.Slice.PartMut.{put_mid}
use Rattle.pauli.proofs.Places.{from, from_is, length_from}
use Rattle.clifford.specs.Layout.{row_length, row_offset, record_length, joined, width_of}
use Rattle.clifford.specs.Inside.Rows.{Sized, RowIndex}
use Rattle.clifford.proofs.Joining.{length-below, joined-more}
use Rattle.clifford.proofs.Rows.{some_bytes, first-offset, next-offset, all_rows, row_room}

-- ---- the rows before r stand in d, and then what stood in d₀
abbrev bytes_before : ℕ → (ℕ → List ℕ) → ℕ → List ℕ
bytes_before w f r = w ∷ joined r f

pub record BytesTo (w : ℕ) (f : ℕ → List ℕ) (d₀ : List ℕ) (r : ℕ) (d : List ℕ) : Type 0 where
  pub narrow : w ≤ 128
  pub room : record_length w ≤ length d₀
  pub each : (i : ℕ) → i < 2 * w → length (f i) ≡ row_length w
  pub within : r ≤ 2 * w
  pub long : length d ≡ length d₀
  pub bytes : d ≡ bytes_before w f r ++ drop (row_offset w r) d₀

length_before : (w : ℕ) (f : ℕ → List ℕ) → ((i : ℕ) → i < 2 * w → length (f i) ≡ row_length w) → (r : ℕ) → r ≤ 2 * w → length (bytes_before w f r) ≡ row_offset w r
unfolding row_offset
length_before w f each r h =
    ap suc (length-below (row_length w) f r (λ i l. each i (omega arith)))
    ∙ (let e : suc (r * row_length w) ≡ 1 + r * row_length w = omega arith in e)

-- d with the width w, none of its rows looked at yet
pub bytes-none : (w : ℕ) (f : ℕ → List ℕ) (d : List ℕ) → w ≤ 128 → record_length w ≤ length d → width_of d ≡ w
    → ((i : ℕ) → i < 2 * w → length (f i) ≡ row_length w) → BytesTo w f d 0 d
bytes-none w f d n h e each = record {
  narrow = n;
  room = h;
  each = each;
  within = omega arith;
  long = refl;
  bytes = first d (omega (arith, some_bytes w)) ∙ ap₂ (λ (v : ℕ) (j : ℕ). bytes_before v f 0 ++ drop j d) e (sym (first-offset w));
}
  where
    first : (d : List ℕ) → 0 < length d → d ≡ bytes_before (width_of d) f 0 ++ drop 1 d
    first [] h = absurd (not-suc-le-zero h)
    first (x ∷ d) h = unfold joined in refl

module _ {w : ℕ} {f : ℕ → List ℕ} {d₀ : List ℕ} {r : ℕ} {d : List ℕ} (m : BytesTo w f d₀ r d) where
  module _ (h : r < 2 * w) where
    pub bytes_index : RowIndex w r
    bytes_index = record { narrow = m.narrow; own = h }

    -- `&mut d[at..]`, lent
    module _ {at : ℕ} (s : Sized (row_offset w r) at) where
      pub bytes-room : row_length w ≤ length (from at d)
      bytes-room = omega (arith, length_from at d, m.long, m.room, s.is, row_room w r h)

      pub bytes_start : at ≤ length d
      bytes_start = omega (arith, m.long, m.room, s.is, row_room w r h)

      whole : d ≡ bytes_before w f r ++ drop at d₀
      whole = m.bytes ∙ ap (λ (j : ℕ). bytes_before w f r ++ drop j d₀) (sym s.is)

      start : length (bytes_before w f r) ≡ at
      start = length_before w f m.each r m.within ∙ sym s.is

      pub bytes_rest : from at d ≡ drop at d₀
      bytes_rest = from_is at d ∙ ap (drop at) whole ∙ drop_at (bytes_before w f r) (drop at d₀) at start

      -- it came back with row r at its front
      pub bytes-more : {ys : List ℕ} → ys ≡ f r ++ drop (row_length w) (from at d) → BytesTo w f d₀ (r + 1) (put_mid at (length d - at) d ys)
      bytes-more {ys} k =
          let head : List ℕ = bytes_before w f r in
          let off : at ≡ row_offset w r = s.is in
          let front : take at d ≡ head = ap (take at) whole ∙ take_at head (drop at d₀) at start in
          let rest : drop (length d - at) (drop at d) ≡ [] = drop_of_length-le (drop at d) {i = length d - at} (omega (arith, length-drop at d)) in
          let after : drop (row_length w) (from at d) ≡ drop (row_offset w (r + 1)) d₀ =
          ap (drop (row_length w)) bytes_rest ∙ drop-drop (row_length w) at d₀
          ∙ ap (λ (j : ℕ). drop j d₀) (ap (λ (j : ℕ). j + row_length w) off ∙ next-offset w r ∙ ap (row_offset w) (sym (add-one r))) in
          let made : put_mid at (length d - at) d ys ≡ bytes_before w f (r + 1) ++ drop (row_offset w (r + 1)) d₀ =
          ap₂ (λ (a : List ℕ) (b : List ℕ). a ++ (ys ++ b)) front rest
          ∙ ap (λ (y : List ℕ). head ++ y) (append-nil ys ∙ k ∙ ap (λ (l : List ℕ). f r ++ l) after)
          ∙ sym (append_assoc head (f r) (drop (row_offset w (r + 1)) d₀))
          ∙ ap (λ (l : List ℕ). (w ∷ l) ++ drop (row_offset w (r + 1)) d₀) (sym (joined-more r f) ∙ ap (λ (j : ℕ). joined j f) (sym (add-one r))) in
          record {
            narrow = m.narrow;
            room = m.room;
            each = m.each;
            within = omega arith;
            long = ap length made ∙ length-append (bytes_before w f (r + 1)) (drop (row_offset w (r + 1)) d₀)
                ∙ omega (arith, length_before w f m.each (r + 1) (omega arith), length-drop (row_offset w (r + 1)) d₀, m.room, row_room w r h, next-offset w r, ap (row_offset w) (add-one r));
            bytes = made;
          }

    -- d₀ holds row r already
    pub bytes_kept : take (row_length w) (drop (row_offset w r) d₀) ≡ f r → BytesTo w f d₀ (suc r) d
    bytes_kept k =
        let off = row_offset w r in
        let tail : drop off d₀ ≡ f r ++ drop (row_offset w (suc r)) d₀ =
        sym (take-append-drop (row_length w) (drop off d₀)) ∙ ap₂ ◌++◌ k (drop-drop (row_length w) off d₀ ∙ ap (λ (j : ℕ). drop j d₀) (next-offset w r)) in
        record {
          narrow = m.narrow;
          room = m.room;
          each = m.each;
          within = omega arith;
          long = m.long;
          bytes = m.bytes ∙ ap (λ (l : List ℕ). bytes_before w f r ++ l) tail ∙ sym (append_assoc (bytes_before w f r) (f r) (drop (row_offset w (suc r)) d₀))
              ∙ ap (λ (l : List ℕ). (w ∷ l) ++ drop (row_offset w (suc r)) d₀) (sym (joined-more r f));
        }

  -- all rows
  pub bytes_all : 2 * w ≤ r → d ≡ (w ∷ joined (2 * w) f) ++ drop (record_length w) d₀
  bytes_all h =
      let end : r ≡ 2 * w = omega (arith, m.within) in
      m.bytes ∙ ap (λ (j : ℕ). bytes_before w f j ++ drop (row_offset w j) d₀) end ∙ ap (λ (j : ℕ). bytes_before w f (2 * w) ++ drop j d₀) (all_rows w)

  pub bytes_end : 2 * w ≤ r → length d₀ ≡ record_length w → d ≡ w ∷ joined (2 * w) f
  bytes_end h long =
      bytes_all h ∙ ap (λ (l : List ℕ). bytes_before w f (2 * w) ++ l) (drop_of_length-le d₀ {i = record_length w} (omega arith)) ∙ append-nil (bytes_before w f (2 * w))

-- Text written from a place on, as far as the destination reaches.
use Rattle.std.proofs.Common.{◌≡◌, ℕ, zero, suc, ◌+◌, ◌-◌, ◌^◌, ◌<◌, ◌≤◌, min, List, [], ◌∷◌, ◌++◌, length, take, drop, set, sym, refl, ap, ◌∙◌, append-nil, le_of_suc-le-suc, not-suc-le-zero, arith, length-append, length-drop, length-set, drop_of_length-le, w64, Fits}
use native.Mathlib.Nat.{zero-min, min-zero, suc-min-suc}
use native.Mathlib.Decide.{dec_lt}
use lib.Seq.{set_out}
use borrow.Rule.Slice.PartMut.{put_mid}
use Rattle.pauli.specs.Layout.{letter_of}
use Rattle.pauli.specs.Rows.{copied}
use Rattle.pauli.specs.SparseText.{entry_word, words_at}
use Rattle.pauli.specs.TextWriting.{last_place, place_after, stored, Stored}
use Rattle.pauli.specs.Inside.TextWriting.{TextWritten}
use Rattle.pauli.proofs.Places.{from, from_is}

-- ---- places: those from the last on are one
stored-from : (j k : ℕ) (w d : List ℕ) → min j last_place ≡ min k last_place → stored j w d ≡ stored k w d
unfolding stored
stored-from j k [] d h = refl
stored-from j k (c ∷ w) d h = ap (λ (i : ℕ). stored (suc j) w (set d i c)) h ∙ stored-from (suc j) (suc k) w (set d (min k last_place) c) (omega arith)

stored_append : (k : ℕ) (v w d : List ℕ) → stored k (v ++ w) d ≡ stored (k + length v) w (stored k v d)
unfolding stored
stored_append k [] w d = let e : k ≡ k + 0 = omega arith in ap (λ (j : ℕ). stored j w d) e
stored_append k (c ∷ v) w d =
    let e : suc k + length v ≡ k + suc (length v) = omega arith in
    let f = set d (min k last_place) c in
    stored_append (suc k) v w f ∙ ap (λ (j : ℕ). stored j w (stored (suc k) v f)) e

-- ---- no text, two texts one after another, and the same text
pub stored-none : {d : List ℕ} {k : ℕ} → Fits w64 k → Stored k [] d d k
unfolding stored
stored-none h = record { bytes = refl; place = omega (arith, h.fits) }

pub stored_join : {d e f v w : List ℕ} {k m r : ℕ} → Stored k v d e m → Stored m w e f r → Stored k (v ++ w) d f r
stored_join {d} {e} {f} {v} {w} {k} {m} {r} a b = record {
  bytes = b.bytes ∙ (λ i. stored (a.place i) w (a.bytes i)) ∙ stored-from (place_after k (length v)) (k + length v) w (stored k v d) (omega arith) ∙ sym (stored_append k v w d);
  place = omega (arith, b.place, a.place, length-append v w);
}

pub stored_as : {d e v w : List ℕ} {k r : ℕ} → v ≡ w → Stored k v d e r → Stored k w d e r
stored_as {d} {e} {v} {w} {k} {r} p a = record {
  bytes = a.bytes ∙ ap (λ (x : List ℕ). stored k x d) p;
  place = a.place ∙ ap (λ (x : List ℕ). place_after k (length x)) p;
}

-- the places may be read as the last, where they are above it
pub stored-capped : {d e w : List ℕ} {k r : ℕ} → Stored k w d e r → Stored (min k last_place) w d e (min r last_place)
stored-capped {d} {e} {w} {k} a = record { bytes = a.bytes ∙ stored-from k (min k last_place) w d (omega arith); place = omega (arith, a.place) }

-- ---- the same with every place its own, which it is in a destination of the machine, and for a text that ends before the last place
unfoldable placed : ℕ → List ℕ → List ℕ → List ℕ
placed k [] d = d
placed k (c ∷ w) d = placed (suc k) w (set d k c)

set_capped : (d : List ℕ) (k c : ℕ) → length d ≤ last_place → set d (min k last_place) c ≡ set d k c
set_capped d k c h = elim (dec_lt last_place k) [
  | yes l ↦ set_out d (min k last_place) c (omega arith) ∙ sym (set_out d k c (omega arith))
  | no l ↦ let e : min k last_place ≡ k = omega arith in ap (λ (j : ℕ). set d j c) e
]

placed_into : (k : ℕ) (w d : List ℕ) → length d ≤ last_place → stored k w d ≡ placed k w d
unfolding stored placed
placed_into k [] d h = refl
placed_into k (c ∷ w) d h = ap (stored (suc k) w) (set_capped d k c h) ∙ placed_into (suc k) w (set d k c) (omega (arith, length-set d k c))

placed_short : (k : ℕ) (w d : List ℕ) → k + length w ≤ last_place → stored k w d ≡ placed k w d
unfolding stored placed
placed_short k [] d h = refl
placed_short k (c ∷ w) d h =
    let e : min k last_place ≡ k = omega arith in
    ap (λ (j : ℕ). stored (suc k) w (set d j c)) e ∙ placed_short (suc k) w (set d k c) (omega arith)

placed_under : (x k : ℕ) (w d : List ℕ) → placed (suc k) w (x ∷ d) ≡ x ∷ placed k w d
unfolding placed
placed_under x k [] d = refl
placed_under x k (c ∷ w) d = placed_under x (suc k) w (set d k c)

placed_out : (k : ℕ) (w d : List ℕ) → length d ≤ k → placed k w d ≡ d
unfolding placed
placed_out k [] d h = refl
placed_out k (c ∷ w) d h = ap (placed (suc k) w) (set_out d k c h) ∙ placed_out (suc k) w d (omega arith)

placed_copied : (w d : List ℕ) → placed 0 w d ≡ copied w d
unfolding placed copied
placed_copied [] d = sym (ap (λ (j : ℕ). take j [] ++ drop j d) (zero-min (length d)))
placed_copied (c ∷ w) [] = placed_out 1 w [] (omega arith) ∙ sym (ap (λ (j : ℕ). take j (c ∷ w) ++ drop j []) (min-zero (suc (length w))))
placed_copied (c ∷ w) (x ∷ d) =
    placed_under c 0 w d ∙ ap (λ (l : List ℕ). c ∷ l) (placed_copied w d)
    ∙ sym (ap (λ (j : ℕ). take j (c ∷ w) ++ drop j (x ∷ d)) (suc-min-suc (length w) (length d)))

placed_at : (k : ℕ) (w d : List ℕ) → k ≤ length d → placed k w d ≡ take k d ++ copied w (drop k d)
placed_at zero w d h = placed_copied w d
placed_at (suc k) w [] h = absurd (not-suc-le-zero h)
placed_at (suc k) w (x ∷ d) h = placed_under x k w d ∙ ap (λ (l : List ℕ). x ∷ l) (placed_at k w d (le_of_suc-le-suc h))

placed_reached : (k s : ℕ) (w d : List ℕ) → s ≡ min k (length d) → placed k w d ≡ placed s w d
placed_reached k s w d e = elim (dec_lt (length d) k) [
  | yes l ↦ placed_out k w d (omega arith) ∙ sym (placed_out s w d (omega arith))
  | no l ↦ let z : k ≡ s = omega arith in ap (λ (j : ℕ). placed j w d) z
]

-- a whole text, from the front on
pub whole-text : {d e w : List ℕ} {r : ℕ} → length w ≤ last_place → Stored 0 w d e r → TextWritten w d e r
whole-text {d} {e} {w} h a = record {
  bytes = a.bytes ∙ placed_short 0 w d (omega arith) ∙ placed_copied w d;
  count = omega (arith, a.place);
}

-- ---- one byte; and a text written through `&mut d[s..]`, where s is k or the end of d
pub put_in : {d e : List ℕ} {k c r : ℕ} → length d < 2 ^ 64 → k < length d → e ≡ set d k c → r ≡ place_after k 1 → Stored k (c ∷ []) d e r
unfolding stored
put_in {d} {e} {k} {c} l h w p = record { bytes = w ∙ sym (set_capped d k c (omega arith)); place = p }

pub put_out : {d e : List ℕ} {k r : ℕ} (c : ℕ) → length d < 2 ^ 64 → length d ≤ k → e ≡ d → r ≡ place_after k 1 → Stored k (c ∷ []) d e r
unfolding stored
put_out {d} {e} {k} c l h w p = record { bytes = w ∙ sym (set_out d (min k last_place) c (omega arith)); place = p }

module _ (k : ℕ) {s : ℕ} (d : List ℕ) (l : length d < 2 ^ 64) (e : s ≡ min k (length d)) where
  part_start : s ≤ length d
  part_start = omega arith

  pub part_put : {w ys : List ℕ} {r : ℕ} → ys ≡ copied w (from s d) → r ≡ place_after k (length w) → Stored k w d (put_mid s (length d - s) d ys) r
  part_put {w} {ys} h p =
      let rest : drop (length d - s) (drop s d) ≡ [] = drop_of_length-le (drop s d) {i = length d - s} (omega (arith, length-drop s d)) in
      let made : put_mid s (length d - s) d ys ≡ take s d ++ copied w (drop s d) =
      ap (λ (b : List ℕ). take s d ++ (ys ++ b)) rest ∙ ap (λ (y : List ℕ). take s d ++ y) (append-nil ys ∙ h ∙ ap (copied w) (from_is s d)) in
      record { bytes = made ∙ sym (placed_at s w d part_start) ∙ sym (placed_reached k s w d e) ∙ sym (placed_into k w d (omega arith)); place = p }

-- ---- the words of a letter
pub words-none : (l q : ℕ) → l ≡ 0 → words_at (letter_of l) q ≡ []
unfolding words_at letter_of
words-none l q h = ap (λ (x : ℕ). words_at (letter_of x) q) h

pub words-some : (l q : ℕ) → (l ≡ 0 → ⊥) → words_at (letter_of l) q ≡ entry_word (letter_of l) q ∷ []
unfolding words_at letter_of
words-some zero q h = absurd (h refl)
words-some (suc zero) q h = refl
words-some (suc (suc zero)) q h = refl
words-some (suc (suc (suc l))) q h = refl

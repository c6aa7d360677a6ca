-- Lists of one length, one after another.
use Rattle.std.proofs.Common.{◌≡◌, ℕ, zero, suc, ◌+◌, ◌*◌, ◌<◌, ◌≤◌, List, ◌++◌, length, take, drop, sym, refl, ap, ◌∙◌, ap₂, le_refl, not-suc-le-zero, mul-le-mul_right, suc-mul, zero-mul, arith, length-append, length-drop, take_all, take-add, drop_at}
use native.Mathlib.Decide.{ℕ_discrete}
use lib.Seq.{take-append-le, drop-append-le}
use Rattle.clifford.specs.Layout.{joined}

pub joined_ext : (k : ℕ) (f g : ℕ → List ℕ) → ((r : ℕ) → r < k → f r ≡ g r) → joined k f ≡ joined k g
unfolding joined
joined_ext zero f g h = refl
joined_ext (suc k) f g h = ap₂ ◌++◌ (joined_ext k f g (λ r l. h r (omega arith))) (h k (le_refl (suc k)))

pub joined-more : (k : ℕ) (f : ℕ → List ℕ) → joined (suc k) f ≡ joined k f ++ f k
unfolding joined
joined-more k f = refl

pub length-below : (m : ℕ) (f : ℕ → List ℕ) (k : ℕ) → ((r : ℕ) → r < k → length (f r) ≡ m) → length (joined k f) ≡ k * m
unfolding joined
length-below m f zero each = sym (zero-mul m)
length-below m f (suc k) each =
    length-append (joined k f) (f k) ∙ ap₂ ◌+◌ (length-below m f k (λ r l. each r (omega arith))) (each k (le_refl (suc k))) ∙ sym (suc-mul k m)

module _ (m : ℕ) (f : ℕ → List ℕ) (each : (r : ℕ) → length (f r) ≡ m) where
  pub length-joined : (k : ℕ) → length (joined k f) ≡ k * m
  length-joined k = length-below m f k (λ r l. each r)

  -- the part of each
  pub joined_part : (k r : ℕ) → r < k → take m (drop (r * m) (joined k f)) ≡ f r
  unfolding joined
  joined_part zero r l = absurd (not-suc-le-zero l)
  joined_part (suc k) r l = elim (ℕ_discrete r k) [
    | yes e ↦ ap (take m) (drop_at (joined k f) (f k) (r * m) (length-joined k ∙ ap (λ j. j * m) (sym e)))
        ∙ take_all m (f k) (omega (arith, each k)) ∙ ap f (sym e)
    | no e ↦ let room : suc r * m ≤ k * m = mul-le-mul_right m (omega arith) in
        ap (take m) (drop-append-le (r * m) (joined k f) (f k) (omega (arith, length-joined k)))
        ∙ take-append-le m (drop (r * m) (joined k f)) (f k) (omega (arith, length-joined k, length-drop (r * m) (joined k f)))
        ∙ joined_part k r (omega arith)
  ]

-- a list is made of its parts
pub parts_joined : (k m : ℕ) (l : List ℕ) → joined k (λ r. take m (drop (r * m) l)) ≡ take (k * m) l
unfolding joined
parts_joined zero m l = ap (λ j. take j l) (sym (zero-mul m))
parts_joined (suc k) m l =
    ap (λ a. a ++ take m (drop (k * m) l)) (parts_joined k m l) ∙ sym (take-add (k * m) m l) ∙ ap (λ j. take j l) (sym (suc-mul k m))

-- Text between white space: where it begins and ends.
use mathlib.Core.Path.{◌≡◌, refl, sym, ap, ap₂, ◌∙◌}
use mathlib.Core.Bool.{Bool, true, false, not}
use mathlib.Core.List.{List, [], ◌∷◌, ◌++◌}
use Prim.Native.Nat.{ℕ, zero, suc, ◌+◌, ◌-◌, ◌<◌, ◌≤◌}
use native.Mathlib.Nat.{not-suc-le-zero}
use native.Mathlib.Omega.{arith}
use lib.ListN.{length, get_or, take, drop, length-append, length-drop, get_or-append}
use lib.Seq.{get_or-append-add, drop-append-add, drop-append-le, take-append_seam}
use Rattle.pauli.specs.Places.{first_place}
use Rattle.pauli.specs.Text.{is_space, leading_spaces, text_end, body_start, dense_body}
use Rattle.pauli.proofs.Places.{first-is}
use Rattle.pauli_laws.specs.DenseTexts.{White}
use Rattle.pauli_laws.proofs.EntryAsking.{all_before}

white_at : {w : List ℕ} → White w → (k : ℕ) → k < length w → is_space (get_or w k 0) ≡ true
white_at White.none k h = absurd (not-suc-le-zero h)
white_at (White.space s w) zero h = s
white_at (White.space s w) (suc k) h = white_at w k (omega arith)

pub white_append : {a b : List ℕ} → White a → White b → White (a ++ b)
white_append White.none w = w
white_append (White.space h v) w = White.space h (white_append v w)

-- a text whose last byte is no white space
pub data Ends : List ℕ → Type 0 where
  last : {c : ℕ} → is_space c ≡ false → Ends (c ∷ [])
  before : {c : ℕ} {m : List ℕ} → Ends m → Ends (c ∷ m)

ends_some : {m : List ℕ} → Ends m → 0 < length m
ends_some (Ends.last h) = omega arith
ends_some (Ends.before e) = omega arith

ends_at : {m : List ℕ} → Ends m → is_space (get_or m (length m - 1) 0) ≡ false
ends_at (Ends.last h) = h
ends_at (Ends.before {c} {m} e) =
    let at : suc (length m) - 1 ≡ suc (length m - 1) = omega (arith, ends_some e) in ap (λ (k : ℕ). is_space (get_or (c ∷ m) k 0)) at ∙ ends_at e

-- ---- white space alone
module _ {t : List ℕ} (w : White t) where
  pub blank_start : length t ≡ leading_spaces t
  unfolding leading_spaces
  blank_start = all_before (λ k h. ap not (white_at w k h))

  blank_end : text_end t ≡ 0
  unfolding text_end
  blank_end =
      let all : length t ≡ first_place (length t) (λ k. not (is_space (get_or t (length t - (k + 1)) 0))) =
      all_before (λ k h. ap not (white_at w (length t - (k + 1)) (omega arith))) in
      omega arith

  pub blank-body : dense_body t ≡ []
  unfolding dense_body
  blank-body = let none : text_end t - body_start t ≡ 0 = omega (arith, blank_end) in ap (λ (n : ℕ). take n (drop (body_start t) t)) none

-- ---- the text c between white space
pub record Between (a c z : List ℕ) : Type 0 where
  pub before : White a
  pub begins : is_space (get_or c 0 0) ≡ false
  pub ends : Ends c
  pub after : White z

module _ {a c z : List ℕ} (b : Between a c z) where
  abbrev whole : List ℕ
  whole = a ++ (c ++ z)

  long : length whole ≡ length a + (length c + length z)
  long = length-append a (c ++ z) ∙ ap (λ (n : ℕ). length a + n) (length-append c z)

  some : 0 < length c
  some = ends_some b.ends

  pub starts-within : length a < length whole
  starts-within = omega (arith, long, some)

  pub starts-at : (k : ℕ) → get_or whole (length a + k) 0 ≡ get_or (c ++ z) k 0
  starts-at k = get_or-append-add a (c ++ z) k 0

  pub starts : get_or whole (length a) 0 ≡ get_or (c ++ z) 0 0
  starts = let e : length a ≡ length a + 0 = omega arith in ap (λ (k : ℕ). get_or whole k 0) e ∙ starts-at 0

  pub start_is : length a ≡ leading_spaces whole
  unfolding leading_spaces
  start_is = first-is (length whole) _ (length a) (omega (arith, long))
      (λ k h. ap (λ (x : ℕ). not (is_space x)) (get_or-append a (c ++ z) 0 k h) ∙ ap not (white_at b.before k h))
      (λ h. ap (λ (x : ℕ). not (is_space x)) (starts ∙ get_or-append c z 0 0 some) ∙ ap not b.begins)

  -- the byte k places before the end
  from_end : (k : ℕ) → k < length z → get_or whole (length whole - (k + 1)) 0 ≡ get_or z (length z - (k + 1)) 0
  from_end k h =
      let e : length whole - (k + 1) ≡ length a + (length c + (length z - (k + 1))) = omega (arith, long) in
      ap (λ (j : ℕ). get_or whole j 0) e ∙ starts-at (length c + (length z - (k + 1))) ∙ get_or-append-add c z (length z - (k + 1)) 0

  at_end : get_or whole (length whole - (length z + 1)) 0 ≡ get_or c (length c - 1) 0
  at_end =
      let e : length whole - (length z + 1) ≡ length a + (length c - 1) = omega (arith, long, some) in
      ap (λ (j : ℕ). get_or whole j 0) e ∙ starts-at (length c - 1) ∙ get_or-append c z 0 (length c - 1) (omega (arith, some))

  end_is : text_end whole ≡ length a + length c
  unfolding text_end
  end_is =
      let back : length z ≡ first_place (length whole) (λ k. not (is_space (get_or whole (length whole - (k + 1)) 0))) =
      first-is (length whole) _ (length z) (omega (arith, long))
      (λ k h. ap (λ (x : ℕ). not (is_space x)) (from_end k h) ∙ ap not (white_at b.after (length z - (k + 1)) (omega arith)))
      (λ h. ap (λ (x : ℕ). not (is_space x)) at_end ∙ ap not (ends_at b.ends)) in
      omega (arith, long)

  pub body_is : (n : ℕ) → body_start whole ≡ length a + n → n ≤ length c → dense_body whole ≡ drop n c
  unfolding dense_body
  body_is n e h =
      let count : text_end whole - body_start whole ≡ length (drop n c) = omega (arith, end_is, length-drop n c) in
      ap₂ (λ (m k : ℕ). take m (drop k whole)) count e ∙ ap (take (length (drop n c))) (drop-append-add a (c ++ z) n ∙ drop-append-le n c z h)
      ∙ take-append_seam (drop n c) z

-- ---- every text is one or the other
pub data Trimmed : List ℕ → Type 0 where
  blank : {t : List ℕ} → White t → Trimmed t
  text : {t : List ℕ} (a c z : List ℕ) → t ≡ a ++ (c ++ z) → Between a c z → Trimmed t

-- the end of a text
data Ended (t : List ℕ) : Type 0 where
  all_white : White t → Ended t
  up_to : (m z : List ℕ) → t ≡ m ++ z → Ends m → White z → Ended t

ended : (t : List ℕ) → Ended t
ended [] = Ended.all_white White.none
ended (c ∷ t) = go (is_space c) refl (ended t)
  where
    go : (b : Bool) → is_space c ≡ b → Ended t → Ended (c ∷ t)
    go b e (Ended.up_to m z is n w) = Ended.up_to (c ∷ m) z (ap (λ (l : List ℕ). c ∷ l) is) (Ends.before n) w
    go true e (Ended.all_white w) = Ended.all_white (White.space e w)
    go false e (Ended.all_white w) = Ended.up_to (c ∷ []) t refl (Ends.last e) w

pub trimmed : (t : List ℕ) → Trimmed t
trimmed [] = Trimmed.blank White.none
trimmed (c ∷ t) = go (is_space c) refl (trimmed t) (ended (c ∷ t))
  where
    go : (b : Bool) → is_space c ≡ b → Trimmed t → Ended (c ∷ t) → Trimmed (c ∷ t)
    go true e (Trimmed.blank w) _ = Trimmed.blank (White.space e w)
    go true e (Trimmed.text a m z is b) _ =
        Trimmed.text (c ∷ a) m z (ap (λ (l : List ℕ). c ∷ l) is)
        (record { before = White.space e b.before; begins = b.begins; ends = b.ends; after = b.after })
    go false e _ (Ended.all_white w) = Trimmed.blank w
    go false e _ (Ended.up_to m z is n w) =
        let first : get_or m 0 0 ≡ c = sym (get_or-append m z 0 0 (ends_some n)) ∙ sym (ap (λ (l : List ℕ). get_or l 0 0) is) in
        Trimmed.text [] m z is (record { before = White.none; begins = ap is_space first ∙ e; ends = n; after = w })

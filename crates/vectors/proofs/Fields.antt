-- The first fields of a line that is cut at its spaces.
use denote.Ref.{Bor}
use denote.Param.Members.{Mut}
use Rattle.std.proofs.Common.{◌≡◌, ℕ, List, [], ◌∷◌, Bool, false, eqb, sym, ap}
use Rattle.std.specs.Prelude.{Option, Some}
use Rattle.std.specs.Fn.{CalledAt}
use Rattle.std.specs.List.{slice_split}
use Rattle.std.specs.Slice.Iter.{split_rest, split_done, split_callee, split_steps}
use Rattle.std.proofs.lemmas.Iterator.{YieldsList}
use Rattle.std.proofs.lemmas.Iterator.Splits.{YieldsList-from_slice_split}

-- x comes first in ys, and t gives the rest
abbrev First : {S A B : Type 0} → (S → Option A → S → Type 0) → (A → B) → S → List B → B → Type 0
First {B = B} steps v t ys x = (zs : List B) × (ys ≡ x ∷ zs) × YieldsList steps v t zs

-- what comes next of a list that an iterator gives
next_part : {S A B : Type 0} {steps : S → Option A → S → Type 0} {v : A → B} (s t : S) (x : A) (ys : List B) → YieldsList steps v s ys → steps s (Some x) t → First steps v t ys (v x)
next_part s t x [] h k = absurd (h.runs x t k)
next_part s t x (y ∷ ys) h k = let m = h.runs.1 x t k in (ys, ap (λ z. z ∷ ys) (sym m.0), record { runs = m.1 })

-- each rest begins with the next element
joined : {B : Type 0} (l a b c d e f : List B) (x0 x1 x2 x3 x4 x5 : B) → l ≡ x0 ∷ a → a ≡ x1 ∷ b → b ≡ x2 ∷ c → c ≡ x3 ∷ d → d ≡ x4 ∷ e → e ≡ x5 ∷ f → l ≡ x0 ∷ x1 ∷ x2 ∷ x3 ∷ x4 ∷ x5 ∷ f
joined l a b c d e f x0 x1 x2 x3 x4 x5 h0 h1 h2 h3 h4 h5 = cc

-- what six calls of `next` gave
pub six_fields : {F : Type 0} (g : Mut F (Bor ℕ × Unit {0}) Bool) {f : F} (line : List ℕ) (s : _) (s1 : _) (s2 : _) (s3 : _) (s4 : _) (s5 : _) (s6 : _) (x0 x1 x2 x3 x4 x5 : Bor (List ℕ))
    → split_rest s ≡ line → split_done s ≡ false → split_callee s ≡ f → ((x : ℕ) (b : Bool) (q : F) → CalledAt g f x b q → (q ≡ f) × (b ≡ eqb x 32))
    → split_steps g s (Some x0) s1 → split_steps g s1 (Some x1) s2 → split_steps g s2 (Some x2) s3 → split_steps g s3 (Some x3) s4 → split_steps g s4 (Some x4) s5 → split_steps g s5 (Some x5) s6
    → (zs : List (List ℕ)) × (slice_split (λ b. eqb b 32) line ≡ x0.now ∷ x1.now ∷ x2.now ∷ x3.now ∷ x4.now ∷ x5.now ∷ zs)
six_fields g line s s1 s2 s3 s4 s5 s6 x0 x1 x2 x3 x4 x5 rest done closure tests k0 k1 k2 k3 k4 k5 =
    let cut = YieldsList-from_slice_split {s = s} g (λ b. eqb b 32) line rest done closure tests in
    let a = next_part {steps = split_steps g} {v = λ x. x.now} s s1 x0 _ cut k0 in
    let b = next_part {steps = split_steps g} {v = λ x. x.now} s1 s2 x1 a.0 a.2 k1 in
    let c = next_part {steps = split_steps g} {v = λ x. x.now} s2 s3 x2 b.0 b.2 k2 in
    let d = next_part {steps = split_steps g} {v = λ x. x.now} s3 s4 x3 c.0 c.2 k3 in
    let e = next_part {steps = split_steps g} {v = λ x. x.now} s4 s5 x4 d.0 d.2 k4 in
    let f = next_part {steps = split_steps g} {v = λ x. x.now} s5 s6 x5 e.0 e.2 k5 in
    (f.0, joined _ a.0 b.0 c.0 d.0 e.0 f.0 x0.now x1.now x2.now x3.now x4.now x5.now a.1 b.1 c.1 d.1 e.1 f.1)

-- `from_str`: its rule is the same as any digit in the text.
use Rattle.std.proofs.Common.{◌≡◌, ℕ, ◌<◌, Bool, true, false, cond, ◌&&◌, ◌||◌, eqb, leb, ◌⊎◌, List, [], ◌∷◌, drop, sym, refl, ap, ◌∙◌, inl, inr, arith, eqb-true, leb-true}
use lib.Seq.{drop-nil}
use Rattle.std.specs.List.{list_any}
use Rattle.std.specs.Char.{is_ascii_digit}
use Rattle.pauli.specs.Text.{is_space, is_digit, is_sign, is_small_i, leading_spaces, text_start, without_signs, without_i, any_digit, is_sparse}
use Rattle.pauli.proofs.TextBytes.{digit_low, digit_high}
use Rattle.pauli.proofs.Tokens.{spaces_here, spaces_none}

-- ---- a byte that is dropped is no digit
or_cases : (a b : Bool) → (a || b) ≡ true → (a ≡ true) ⊎ (b ≡ true)
or_cases true b e = inl refl
or_cases false b e = inr e

and_second : (a b : Bool) → (a && b) ≡ true → b ≡ true
and_second true b e = e
and_second false b e = absurd (no e)
  where
    no : false ≡ true → ⊥
    no e = let z : ◌≡◌ {A = ℕ} 0 1 = ap (λ b. cond b 1 0) e in omega arith

space-low : (c : ℕ) → is_space c ≡ true → c < 48
unfolding is_space
space-low c e = elim (or_cases (leb 9 c && leb c 13) (eqb c 32) e) [
  | inl h ↦ omega (arith, leb-true c 13 (and_second (leb 9 c) (leb c 13) h))
  | inr h ↦ omega (arith, eqb-true c 32 h)
]

sign_low : (c : ℕ) → is_sign c ≡ true → c < 48
unfolding is_sign
sign_low c e = elim (or_cases (eqb c 43) (eqb c 45) e) [
  | inl h ↦ omega (arith, eqb-true c 43 h)
  | inr h ↦ omega (arith, eqb-true c 45 h)
]

i_high : (c : ℕ) → is_small_i c ≡ true → is_digit c ≡ false
unfolding is_small_i
i_high c e = sym (digit_high (omega (arith, eqb-true c 105 e)) (omega (arith, eqb-true c 105 e)))

-- ---- no digit is dropped
digit_here : (c : ℕ) (cs : List ℕ) → is_digit c ≡ false → any_digit (c ∷ cs) ≡ any_digit cs
unfolding any_digit
digit_here c cs e = ap (λ b. b || any_digit cs) e

no_signs : any_digit (without_signs []) ≡ any_digit []
unfolding without_signs
no_signs = refl

no_i : any_digit (without_i []) ≡ any_digit []
unfolding without_i
no_i = refl

sign_dropped : (c : ℕ) (cs : List ℕ) → is_sign c ≡ true → without_signs (c ∷ cs) ≡ without_signs cs
unfolding without_signs
sign_dropped c cs e = ap (λ b. cond b (without_signs cs) (c ∷ cs)) e

sign_stays : (c : ℕ) (cs : List ℕ) → is_sign c ≡ false → without_signs (c ∷ cs) ≡ c ∷ cs
unfolding without_signs
sign_stays c cs e = ap (λ b. cond b (without_signs cs) (c ∷ cs)) e

i_dropped : (c : ℕ) (cs : List ℕ) → is_small_i c ≡ true → without_i (c ∷ cs) ≡ cs
unfolding without_i
i_dropped c cs e = ap (λ b. cond b cs (c ∷ cs)) e

i_stays : (c : ℕ) (cs : List ℕ) → is_small_i c ≡ false → without_i (c ∷ cs) ≡ c ∷ cs
unfolding without_i
i_stays c cs e = ap (λ b. cond b cs (c ∷ cs)) e

signs_kept : (s : List ℕ) → any_digit (without_signs s) ≡ any_digit s
signs_kept [] = no_signs
signs_kept (c ∷ cs) = step (is_sign c) refl (signs_kept cs)
  where
    step : (b : Bool) → is_sign c ≡ b → any_digit (without_signs cs) ≡ any_digit cs → any_digit (without_signs (c ∷ cs)) ≡ any_digit (c ∷ cs)
    step true e rest = ap any_digit (sign_dropped c cs e) ∙ rest ∙ sym (digit_here c cs (sym (digit_low (sign_low c e))))
    step false e rest = ap any_digit (sign_stays c cs e)

i_kept : (s : List ℕ) → any_digit (without_i s) ≡ any_digit s
i_kept [] = no_i
i_kept (c ∷ cs) = step (is_small_i c) refl
  where
    step : (b : Bool) → is_small_i c ≡ b → any_digit (without_i (c ∷ cs)) ≡ any_digit (c ∷ cs)
    step true e = ap any_digit (i_dropped c cs e) ∙ sym (digit_here c cs (i_high c e))
    step false e = ap any_digit (i_stays c cs e)

spaces_kept : (s : List ℕ) → any_digit (drop (leading_spaces s) s) ≡ any_digit s
spaces_kept [] = ap any_digit (drop-nil (leading_spaces []))
spaces_kept (c ∷ cs) = step (is_space c) refl (spaces_kept cs)
  where
    step : (b : Bool) → is_space c ≡ b → any_digit (drop (leading_spaces cs) cs) ≡ any_digit cs
        → any_digit (drop (leading_spaces (c ∷ cs)) (c ∷ cs)) ≡ any_digit (c ∷ cs)
    step true e rest = ap (λ (n : ℕ). any_digit (drop n (c ∷ cs))) (spaces_here c cs e) ∙ rest ∙ sym (digit_here c cs (sym (digit_low (space-low c e))))
    step false e rest = ap (λ (n : ℕ). any_digit (drop n (c ∷ cs))) (spaces_none c cs e)

-- the rule of `from_str` is: any digit in the text
pub sparse_digit : (t : List ℕ) → is_sparse t ≡ any_digit t
unfolding is_sparse text_start
sparse_digit t = i_kept (without_signs (drop (leading_spaces t) t)) ∙ signs_kept (drop (leading_spaces t) t) ∙ spaces_kept t

-- ---- std's `any`
any-list : (t : List ℕ) → list_any is_ascii_digit t ≡ any_digit t
unfolding any_digit is_digit
any-list [] = refl
any-list (c ∷ cs) = ap (λ b. is_ascii_digit c || b) (any-list cs)

pub sparse-any : (t : List ℕ) {b : Bool} → b ≡ list_any is_ascii_digit t → b ≡ is_sparse t
sparse-any t e = e ∙ any-list t ∙ sym (sparse_digit t)

-- Text made of words that are parted by single spaces: its tokens.
use Rattle.std.proofs.Common.{◌≡◌, ℕ, zero, suc, ◌+◌, ◌<◌, true, false, cond, not, List, [], ◌∷◌, ◌++◌, length, get_or, sym, refl, ap, ◌∙◌, ap₂, append-nil, not-suc-le-zero, arith}
use Rattle.pauli.specs.SparseText.{spaced}
use Rattle.pauli.specs.Text.{is_space, Token, token, starts_word, longer, tokens}

-- ---- lists of which each element has a property
pub data Each {A : Type 0} (P : A → Type 0) : List A → Type 0 where
  none : Each P []
  more : {a : A} {l : List A} → P a → Each P l → Each P (a ∷ l)

module _ {A : Type 0} {P : A → Type 0} where
  pub each_append : {a b : List A} → Each P a → Each P b → Each P (a ++ b)
  each_append none q = q
  each_append (more p r) q = more p (each_append r q)

  pub each_at : (d : A) {l : List A} → Each P l → (k : ℕ) → k < length l → P (get_or l k d)
  each_at d none k h = absurd (not-suc-le-zero h)
  each_at d (more p r) zero h = p
  each_at d (more p r) (suc k) h = each_at d r k (omega arith)

pub each_map : {A : Type 0} {P Q : A → Type 0} → ((a : A) → P a → Q a) → {l : List A} → Each P l → Each Q l
each_map f none = none
each_map f (more {a} p r) = more (f a p) (each_map f r)

-- ---- tokens
-- a word has no white space
abbrev pub Spaceless : List ℕ → Type 0
Spaceless w = Each (λ c. is_space c ≡ false) w

pub tokens-space : (k c : ℕ) (t : List ℕ) → is_space c ≡ true → tokens k (c ∷ t) ≡ tokens (suc k) t
unfolding tokens
tokens-space k c t h =
    ap (λ b. cond b (tokens (suc k) t) (cond (starts_word t) (longer k c (tokens (suc k) t)) (token k (c ∷ []) ∷ tokens (suc k) t))) h

-- a token that ends, and one that goes on
token-ends : (k c : ℕ) (t : List ℕ) → is_space c ≡ false → starts_word t ≡ false → tokens k (c ∷ t) ≡ token k (c ∷ []) ∷ tokens (suc k) t
unfolding tokens
token-ends k c t h e =
    ap₂ (λ a b. cond a (tokens (suc k) t) (cond b (longer k c (tokens (suc k) t)) (token k (c ∷ []) ∷ tokens (suc k) t))) h e

token_goes : (k c : ℕ) (t : List ℕ) → is_space c ≡ false → starts_word t ≡ true → tokens k (c ∷ t) ≡ longer k c (tokens (suc k) t)
unfolding tokens
token_goes k c t h e =
    ap₂ (λ a b. cond a (tokens (suc k) t) (cond b (longer k c (tokens (suc k) t)) (token k (c ∷ []) ∷ tokens (suc k) t))) h e

-- a word has some bytes, none of them white space
pub record Word (w : List ℕ) : Type 0 where
  pub some : 0 < length w
  pub plain : Spaceless w

-- a word, and then the end or white space
spaceless_token : (k c : ℕ) (w t : List ℕ) → Spaceless (c ∷ w) → starts_word t ≡ false
    → tokens k ((c ∷ w) ++ t) ≡ token k (c ∷ w) ∷ tokens (k + length (c ∷ w)) t
unfolding starts_word longer
spaceless_token k c [] t (more p r) e = let next : suc k ≡ k + 1 = omega arith in token-ends k c t p e ∙ ap (λ (j : ℕ). token k (c ∷ []) ∷ tokens j t) next
spaceless_token k c (x ∷ w) t (more p (more q r)) e =
    let next : suc k + suc (length w) ≡ k + suc (suc (length w)) = omega arith in
    token_goes k c (x ∷ w ++ t) p (ap not q) ∙ ap (longer k c) (spaceless_token (suc k) x w t (more q r) e)
    ∙ ap (λ (j : ℕ). token k (c ∷ x ∷ w) ∷ tokens j t) next

pub tokens-word : (k : ℕ) (w t : List ℕ) → Word w → starts_word t ≡ false → tokens k (w ++ t) ≡ token k w ∷ tokens (k + length w) t
tokens-word k [] t p e = absurd (not-suc-le-zero p.some)
tokens-word k (c ∷ w) t p e = spaceless_token k c w t p.plain e

pub tokens_last : (k : ℕ) (w : List ℕ) → Word w → tokens k w ≡ token k w ∷ []
unfolding starts_word tokens
tokens_last k w p = ap (tokens k) (sym (append-nil w)) ∙ tokens-word k w [] p refl

-- a word, white space and a rest
pub tokens_parted : (k c : ℕ) (w t : List ℕ) → Word w → is_space c ≡ true → tokens k (w ++ c ∷ t) ≡ token k w ∷ tokens (suc (k + length w)) t
unfolding starts_word
tokens_parted k c w t p h = tokens-word k w (c ∷ t) p (ap not h) ∙ ap (λ ts. token k w ∷ ts) (tokens-space (k + length w) c t h)

-- words that are spaced, each with its offset
abbrev pub word_tokens : ℕ → List ℕ → List (List ℕ) → List Token
word_tokens k w [] = token k w ∷ []
word_tokens k w (x ∷ ws) = token k w ∷ word_tokens (suc (k + length w)) x ws

pub tokens-joined : (k : ℕ) (w : List ℕ) (ws : List (List ℕ)) → Word w → Each Word ws → tokens k (spaced w ws) ≡ word_tokens k w ws
unfolding spaced is_space
tokens-joined k w [] p none = tokens_last k w p
tokens-joined k w (x ∷ ws) p (more q r) =
    tokens_parted k 32 w (spaced x ws) p refl ∙ ap (λ ts. token k w ∷ ts) (tokens-joined (suc (k + length w)) x ws q r)

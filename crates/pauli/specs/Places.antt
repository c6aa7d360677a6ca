-- Lists by place, and the first place that has a property.
use Rattle.std.specs.Prelude.{ℕ, zero, suc, Bool, cond, List, [], ◌∷◌, ◌++◌}

-- f 0 to f (n - 1)
unfoldable pub listed : {A : Type 0} → ℕ → (ℕ → A) → List A
listed zero f = []
listed (suc n) f = listed n f ++ (f n ∷ [])

-- the first place below n that has f, or n where none has
unfoldable pub first_place : ℕ → (ℕ → Bool) → ℕ
first_place zero f = zero
first_place (suc n) f = cond (f zero) zero (suc (first_place n (λ k. f (suc k))))

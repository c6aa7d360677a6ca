-- Functions that go by cases: on an enum, and on one or two numbers.
use Rattle.std.proofs.Common.{◌≡◌, ℕ, suc, ◌-◌, arith}

-- what the default arm of a match with the arms 0, 1 and 2 finds
pub three_up : {n : ℕ} → ((Unit {0} × (n ≡ 0 → ⊥)) × (n ≡ 1 → ⊥)) × (n ≡ 2 → ⊥) → n ≡ suc (suc (suc (n - 3)))
three_up {n} h = omega arith

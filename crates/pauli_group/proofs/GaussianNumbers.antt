-- Phases multiply the Gaussian integers, by quarter turns: so vectors over these are among those of `act`.
use mathlib.Core.Path.{◌≡◌, refl, sym, ap, ap₂, ◌∙◌}
use lib.IntN.{ℤ, pos, negsuc, neg_ℤ, ◌+ℤ◌, ◌-ℤ◌, ◌*ℤ◌, one, *ℤ-one, zero-*ℤ, *ℤ-negsuc, *ℤ_comm, +ℤ_idl, +ℤ_idr, neg_ℤ-neg_ℤ}
use Rattle.pauli_group.specs.Phase.{Phase, PlusOne, MinusOne, PlusI, MinusI, negate, turn, ◌·◌}
use Rattle.pauli_group.specs.Papers.{Gaussian, gaussian, mul_g, phase_number}
use Rattle.pauli_group.specs.Operators.{Numbers}
use Rattle.pauli_group.proofs.Finite.{phases, law1}

one-times : (k : ℤ) → pos 1 *ℤ k ≡ k
unfolding one
one-times k = *ℤ_comm (pos 1) k ∙ *ℤ-one k

minus-times : (k : ℤ) → negsuc 0 *ℤ k ≡ neg_ℤ k
unfolding one
minus-times k = *ℤ_comm (negsuc 0) k ∙ *ℤ-negsuc k 0 ∙ ap neg_ℤ (*ℤ-one k)

-- times i
quarter : Gaussian → Gaussian
quarter z = gaussian (neg_ℤ z.im) z.re

quarters : Phase → Gaussian → Gaussian
quarters PlusOne z = z
quarters PlusI z = quarter z
quarters MinusOne z = quarter (quarter z)
quarters MinusI z = quarter (quarter (quarter z))

-- a real and an imaginary factor
real-times : (r : ℤ) (z : Gaussian) → mul_g (gaussian r (pos 0)) z ≡ gaussian (r *ℤ z.re) (r *ℤ z.im)
unfolding mul_g
real-times r z =
    ap₂ gaussian (ap (λ k. r *ℤ z.re -ℤ k) (zero-*ℤ z.im) ∙ +ℤ_idr _) (ap (λ k. r *ℤ z.im +ℤ k) (zero-*ℤ z.re) ∙ +ℤ_idr _)

imaginary_times : (r : ℤ) (z : Gaussian) → mul_g (gaussian (pos 0) r) z ≡ gaussian (neg_ℤ (r *ℤ z.im)) (r *ℤ z.re)
unfolding mul_g
imaginary_times r z =
    ap₂ gaussian (ap (λ k. k -ℤ r *ℤ z.im) (zero-*ℤ z.re) ∙ +ℤ_idl _) (ap (λ k. k +ℤ r *ℤ z.re) (zero-*ℤ z.im) ∙ +ℤ_idl _)

times-is : (p : Phase) (z : Gaussian) → mul_g (phase_number p) z ≡ quarters p z
unfolding phase_number quarter quarters
times-is PlusOne z = real-times (pos 1) z ∙ ap₂ gaussian (one-times z.re) (one-times z.im)
times-is PlusI z = imaginary_times (pos 1) z ∙ ap₂ gaussian (ap neg_ℤ (one-times z.im)) (one-times z.re)
times-is MinusOne z = real-times (negsuc 0) z ∙ ap₂ gaussian (minus-times z.re) (minus-times z.im)
times-is MinusI z = imaginary_times (negsuc 0) z ∙ ap₂ gaussian (ap neg_ℤ (minus-times z.im)) (minus-times z.re)

turn-times : (q : Phase) (z : Gaussian) → quarters (turn q) z ≡ quarter (quarters q z)
unfolding turn quarter quarters
turn-times PlusOne z = refl
turn-times PlusI z = refl
turn-times MinusOne z = refl
turn-times MinusI z = ap₂ gaussian (sym (neg_ℤ-neg_ℤ z.re)) (sym (neg_ℤ-neg_ℤ z.im))

negate-is : (q : Phase) → negate q ≡ turn (turn q)
unfolding negate turn
negate-is = law1 phases phases negate (λ q. turn (turn q)) tt

negate-times : (q : Phase) (z : Gaussian) → quarters (negate q) z ≡ quarter (quarter (quarters q z))
negate-times q z = ap (λ r. quarters r z) (negate-is q) ∙ turn-times (turn q) z ∙ ap quarter (turn-times q z)

quarters_twice : (p q : Phase) (z : Gaussian) → quarters (p · q) z ≡ quarters p (quarters q z)
unfolding ◌·◌ quarters
quarters_twice PlusOne q z = refl
quarters_twice PlusI q z = turn-times q z
quarters_twice MinusOne q z = negate-times q z
quarters_twice MinusI q z = negate-times (turn q) z ∙ ap (λ w. quarter (quarter w)) (turn-times q z)

pub gaussian-one : (z : Gaussian) → mul_g (phase_number PlusOne) z ≡ z
unfolding quarters
gaussian-one z = times-is PlusOne z

pub gaussian-twice : (p q : Phase) (z : Gaussian) → mul_g (phase_number (p · q)) z ≡ mul_g (phase_number p) (mul_g (phase_number q) z)
gaussian-twice p q z = times-is (p · q) z ∙ quarters_twice p q z ∙ sym (times-is p _ ∙ ap (quarters p) (times-is q z))

abbrev pub gaussians : Numbers
gaussians = record { Number = Gaussian; times = λ p z. mul_g (phase_number p) z; one = gaussian-one; twice = gaussian-twice }

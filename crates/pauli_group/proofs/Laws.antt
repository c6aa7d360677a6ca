-- Laws of phases and letters, each by one computed test.
use mathlib.Core.Path.{◌≡◌, refl, sym, ap, ◌∙◌}
use mathlib.Core.Bool.{Bool, true, false, true≢false}
use Rattle.pauli_group.specs.Phase.{Phase, PlusOne, MinusOne, PlusI, MinusI, negate, turn, ◌·◌, conjugate, is_real, sign}
use Rattle.pauli_group.specs.Letter.{Letter, I, letter_product, letter_phase, letter_mul, anticommute}
use Rattle.pauli_group.proofs.Finite.{letters, phases, bools, law1, law2, law3}

-- ---- phases are a commutative group
pub ·_assoc : (p q r : Phase) → (p · q) · r ≡ p · (q · r)
unfolding ◌·◌ negate turn
·_assoc = law3 phases phases phases phases (λ p q r. (p · q) · r) (λ p q r. p · (q · r)) tt

pub ·_comm : (p q : Phase) → p · q ≡ q · p
unfolding ◌·◌ negate turn
·_comm = law2 phases phases phases (λ p q. p · q) (λ p q. q · p) tt

pub ·-left : (p q r : Phase) → p · (q · r) ≡ q · (p · r)
unfolding ◌·◌ negate turn
·-left = law3 phases phases phases phases (λ p q r. p · (q · r)) (λ p q r. q · (p · r)) tt

pub one-· : (p : Phase) → PlusOne · p ≡ p
unfolding ◌·◌
one-· p = refl

pub ·-one : (p : Phase) → p · PlusOne ≡ p
unfolding ◌·◌ negate turn
·-one = law1 phases phases (λ p. p · PlusOne) (λ p. p) tt

pub conjugate-· : (p : Phase) → conjugate p · p ≡ PlusOne
unfolding ◌·◌ negate turn conjugate
conjugate-· = law1 phases phases (λ p. conjugate p · p) (λ p. PlusOne) tt

pub ·_cancel : (p q r : Phase) → p · r ≡ q · r → p ≡ q
·_cancel p q r e = back p ∙ ap (λ x. x · conjugate r) e ∙ sym (back q)
  where
    back : (x : Phase) → x ≡ (x · r) · conjugate r
    back x = sym (·_assoc x r (conjugate r) ∙ ap (λ y. x · y) (·_comm r (conjugate r) ∙ conjugate-· r) ∙ ·-one x)

-- a phase is real exactly when its square is 1
pub real_square : (p : Phase) → is_real p ≡ true → p · p ≡ PlusOne
unfolding ◌·◌ negate turn is_real
real_square PlusOne e = refl
real_square MinusOne e = refl
real_square PlusI e = absurd (true≢false (sym e))
real_square MinusI e = absurd (true≢false (sym e))

is_one : Phase → Bool
is_one PlusOne = true
is_one MinusOne = false
is_one PlusI = false
is_one MinusI = false

pub square_real : (p : Phase) → p · p ≡ PlusOne → is_real p ≡ true
unfolding ◌·◌ negate turn is_real is_one
square_real PlusOne e = refl
square_real MinusOne e = refl
square_real PlusI e = ap is_one e
square_real MinusI e = ap is_one e

pub sign_injective : (b c : Bool) → sign b ≡ sign c → b ≡ c
unfolding sign
sign_injective true true e = refl
sign_injective true false e = cc
sign_injective false true e = cc
sign_injective false false e = refl

-- ---- letters
pub letter_mul_assoc : (a b c : Letter) → letter_mul (letter_mul a b) c ≡ letter_mul a (letter_mul b c)
unfolding letter_mul letter_product
letter_mul_assoc = law3 letters letters letters letters (λ a b c. letter_mul (letter_mul a b) c) (λ a b c. letter_mul a (letter_mul b c)) tt

pub letter_mul_comm : (a b : Letter) → letter_mul a b ≡ letter_mul b a
unfolding letter_mul letter_product
letter_mul_comm = law2 letters letters letters (λ a b. letter_mul a b) (λ a b. letter_mul b a) tt

pub letter_mul_self : (a : Letter) → letter_mul a a ≡ I
unfolding letter_mul letter_product
letter_mul_self = law1 letters letters (λ a. letter_mul a a) (λ a. I) tt

pub letter_mul-I : (a : Letter) → letter_mul a I ≡ a
unfolding letter_mul letter_product
letter_mul-I = law1 letters letters (λ a. letter_mul a I) (λ a. a) tt

pub I-letter_mul : (a : Letter) → letter_mul I a ≡ a
unfolding letter_mul letter_product
I-letter_mul a = refl

pub letter_phase_self : (a : Letter) → letter_phase a a ≡ PlusOne
unfolding letter_phase letter_product
letter_phase_self = law1 letters phases (λ a. letter_phase a a) (λ a. PlusOne) tt

pub letter_phase-I : (a : Letter) → letter_phase a I ≡ PlusOne
unfolding letter_phase letter_product
letter_phase-I = law1 letters phases (λ a. letter_phase a I) (λ a. PlusOne) tt

pub I-letter_phase : (a : Letter) → letter_phase I a ≡ PlusOne
unfolding letter_phase letter_product
I-letter_phase a = refl

-- the phases of three letters, in either grouping
pub cocycle : (a b c : Letter) → letter_phase a b · letter_phase (letter_mul a b) c ≡ letter_phase b c · letter_phase a (letter_mul b c)
unfolding ◌·◌ negate turn letter_mul letter_phase letter_product
cocycle =
    law3 letters letters letters phases (λ a b c. letter_phase a b · letter_phase (letter_mul a b) c)
    (λ a b c. letter_phase b c · letter_phase a (letter_mul b c)) tt

-- two letters in either order: the sign is -1 exactly if they anticommute
pub swap : (a b : Letter) → letter_phase a b ≡ sign (anticommute a b) · letter_phase b a
unfolding ◌·◌ negate turn letter_phase letter_product anticommute sign
swap = law2 letters letters phases (λ a b. letter_phase a b) (λ a b. sign (anticommute a b) · letter_phase b a) tt

pub anticommute_sym : (a b : Letter) → anticommute a b ≡ anticommute b a
unfolding anticommute
anticommute_sym = law2 letters letters bools (λ a b. anticommute a b) (λ a b. anticommute b a) tt

pub anticommute_self : (a : Letter) → anticommute a a ≡ false
unfolding anticommute
anticommute_self = law1 letters bools (λ a. anticommute a a) (λ a. false) tt

pub anticommute-I : (a : Letter) → anticommute a I ≡ false
unfolding anticommute
anticommute-I = law1 letters bools (λ a. anticommute a I) (λ a. false) tt

pub sign-mul : (a b c : Letter) → sign (anticommute (letter_mul a b) c) ≡ sign (anticommute a c) · sign (anticommute b c)
unfolding ◌·◌ negate turn letter_mul letter_product anticommute sign
sign-mul =
    law3 letters letters letters phases (λ a b c. sign (anticommute (letter_mul a b) c))
    (λ a b c. sign (anticommute a c) · sign (anticommute b c)) tt

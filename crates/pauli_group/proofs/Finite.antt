-- Laws over finitely many cases, by one test that is computed over all of them.
use mathlib.Core.Path.{◌≡◌, refl, sym, ◌∙◌}
use mathlib.Core.Bool.{Bool, true, false, not, ◌&&◌}
use lib.Dec.{T}
use Rattle.pauli_group.specs.Phase.{Phase, PlusOne, MinusOne, PlusI, MinusI}
use Rattle.pauli_group.specs.Letter.{Letter, I, X, Z, Y}

-- a type whose values are few: a test of all of them, and equality as a test
pub record Finite (A : Type 0) : Type 1 where
  pub all : (A → Bool) → Bool
  pub each : (f : A → Bool) → T (all f) → (a : A) → T (f a)
  pub same : A → A → Bool
  pub equal : (a b : A) → T (same a b) → a ≡ b

pub and_both : (a b : Bool) → (a && b) ≡ true → (a ≡ true) × (b ≡ true)
and_both true b e = (refl, e)
and_both false b e = (e, cc)

&&-left : (a b : Bool) → T (a && b) → T a
&&-left true b t = tt
&&-left false b t = t

&&-right : (a b : Bool) → T (a && b) → T b
&&-right true b t = t
&&-right false b t = absurd t

abbrev four : {A : Type 0} → A → A → A → A → (A → Bool) → Bool
four a b c d f = (f a && f b) && (f c && f d)

module _ {A : Type 0} (a b c d : A) (f : A → Bool) (t : T (four a b c d f)) where
  four_1 : T (f a)
  four_1 = &&-left (f a) (f b) (&&-left (f a && f b) (f c && f d) t)

  four_2 : T (f b)
  four_2 = &&-right (f a) (f b) (&&-left (f a && f b) (f c && f d) t)

  four_3 : T (f c)
  four_3 = &&-left (f c) (f d) (&&-right (f a && f b) (f c && f d) t)

  four_4 : T (f d)
  four_4 = &&-right (f c) (f d) (&&-right (f a && f b) (f c && f d) t)

pub each_letter : (f : Letter → Bool) → T (four I X Z Y f) → (a : Letter) → T (f a)
each_letter f t I = four_1 I X Z Y f t
each_letter f t X = four_2 I X Z Y f t
each_letter f t Z = four_3 I X Z Y f t
each_letter f t Y = four_4 I X Z Y f t

pub each_phase : (f : Phase → Bool) → T (four PlusOne MinusOne PlusI MinusI f) → (a : Phase) → T (f a)
each_phase f t PlusOne = four_1 PlusOne MinusOne PlusI MinusI f t
each_phase f t MinusOne = four_2 PlusOne MinusOne PlusI MinusI f t
each_phase f t PlusI = four_3 PlusOne MinusOne PlusI MinusI f t
each_phase f t MinusI = four_4 PlusOne MinusOne PlusI MinusI f t

pub each_bool : (f : Bool → Bool) → T (f true && f false) → (a : Bool) → T (f a)
each_bool f t true = &&-left (f true) (f false) t
each_bool f t false = &&-right (f true) (f false) t

abbrev same_bool : Bool → Bool → Bool
same_bool true b = b
same_bool false b = not b

pub equal_bool : (a b : Bool) → T (same_bool a b) → a ≡ b
equal_bool true true t = refl
equal_bool true false t = absurd t
equal_bool false true t = absurd t
equal_bool false false t = refl

-- two bits tell four values apart: equality of letters and of phases is equality of their bits
abbrev letter_bit_1 : Letter → Bool
letter_bit_1 I = false
letter_bit_1 X = true
letter_bit_1 Z = false
letter_bit_1 Y = true

abbrev letter_bit_2 : Letter → Bool
letter_bit_2 I = false
letter_bit_2 X = false
letter_bit_2 Z = true
letter_bit_2 Y = true

abbrev pub letter_of_bits_lem : Bool → Bool → Letter
letter_of_bits_lem false false = I
letter_of_bits_lem true false = X
letter_of_bits_lem false true = Z
letter_of_bits_lem true true = Y

pub letter-back : (a : Letter) → letter_of_bits_lem (letter_bit_1 a) (letter_bit_2 a) ≡ a
letter-back I = refl
letter-back X = refl
letter-back Z = refl
letter-back Y = refl

abbrev phase_bit_1 : Phase → Bool
phase_bit_1 PlusOne = false
phase_bit_1 MinusOne = true
phase_bit_1 PlusI = false
phase_bit_1 MinusI = true

abbrev phase_bit_2 : Phase → Bool
phase_bit_2 PlusOne = false
phase_bit_2 MinusOne = false
phase_bit_2 PlusI = true
phase_bit_2 MinusI = true

abbrev phase_of_bits : Bool → Bool → Phase
phase_of_bits false false = PlusOne
phase_of_bits true false = MinusOne
phase_of_bits false true = PlusI
phase_of_bits true true = MinusI

pub phase-back : (a : Phase) → phase_of_bits (phase_bit_1 a) (phase_bit_2 a) ≡ a
phase-back PlusOne = refl
phase-back MinusOne = refl
phase-back PlusI = refl
phase-back MinusI = refl

-- equality by two bits, for any type that two bits tell
module _ {A : Type 0} (bit-1 bit-2 : A → Bool) (of_bits : Bool → Bool → A) (back : (a : A) → of_bits (bit-1 a) (bit-2 a) ≡ a) where
  abbrev same_bits : A → A → Bool
  same_bits a b = same_bool (bit-1 a) (bit-1 b) && same_bool (bit-2 a) (bit-2 b)

  pub equal_bits : (a b : A) → T (same_bits a b) → a ≡ b
  equal_bits a b t =
      let first : bit-1 a ≡ bit-1 b = equal_bool (bit-1 a) (bit-1 b) (&&-left (same_bool (bit-1 a) (bit-1 b)) (same_bool (bit-2 a) (bit-2 b)) t) in
      let second : bit-2 a ≡ bit-2 b = equal_bool (bit-2 a) (bit-2 b) (&&-right (same_bool (bit-1 a) (bit-1 b)) (same_bool (bit-2 a) (bit-2 b)) t) in
      sym (back a) ∙ (λ i. of_bits (first i) (second i)) ∙ back b

abbrev pub letters : Finite Letter
letters = record {
  all = four I X Z Y;
  each = each_letter;
  same = same_bits letter_bit_1 letter_bit_2 letter_of_bits_lem letter-back;
  equal = equal_bits letter_bit_1 letter_bit_2 letter_of_bits_lem letter-back;
}

abbrev pub phases : Finite Phase
phases = record {
  all = four PlusOne MinusOne PlusI MinusI;
  each = each_phase;
  same = same_bits phase_bit_1 phase_bit_2 phase_of_bits phase-back;
  equal = equal_bits phase_bit_1 phase_bit_2 phase_of_bits phase-back;
}

abbrev pub bools : Finite Bool
bools = record { all = λ f. f true && f false; each = each_bool; same = same_bool; equal = equal_bool }

-- a test of two such arguments that passes everywhere
module _ {A B : Type 0} (a : Finite A) (b : Finite B) where
  pub each2 : (f : A → B → Bool) → T (a.all (λ x. b.all (f x))) → (x : A) (y : B) → T (f x y)
  each2 f t x = b.each (f x) (a.each (λ x. b.all (f x)) t x)

-- two functions of one, two or three such arguments are equal if they pass the test everywhere
module _ {A R : Type 0} (a : Finite A) (r : Finite R) where
  pub law1 : (f g : A → R) → T (a.all (λ x. r.same (f x) (g x))) → (x : A) → f x ≡ g x
  law1 f g t x = r.equal (f x) (g x) (a.each (λ x. r.same (f x) (g x)) t x)

module _ {A B R : Type 0} (a : Finite A) (b : Finite B) (r : Finite R) where
  pub law2 : (f g : A → B → R) → T (a.all (λ x. b.all (λ y. r.same (f x y) (g x y)))) → (x : A) (y : B) → f x y ≡ g x y
  law2 f g t x = law1 b r (f x) (g x) (a.each (λ x. b.all (λ y. r.same (f x y) (g x y))) t x)

module _ {A B C R : Type 0} (a : Finite A) (b : Finite B) (c : Finite C) (r : Finite R) where
  pub law3 : (f g : A → B → C → R) → T (a.all (λ x. b.all (λ y. c.all (λ z. r.same (f x y z) (g x y z))))) → (x : A) (y : B) (z : C) → f x y z ≡ g x y z
  law3 f g t x = law2 b c r (f x) (g x) (a.each (λ x. b.all (λ y. c.all (λ z. r.same (f x y z) (g x y z)))) t x)

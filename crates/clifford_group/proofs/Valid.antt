-- The rule of validity over a tableau's own rows, and the test `is_valid`, which passes exactly where the rule holds.
use mathlib.Core.Path.{◌≡◌, refl, sym, ap, ap₂, ◌∙◌}
use mathlib.Core.Bool.{Bool, true, false, not, ◌&&◌, and-false}
use Prim.Native.Nat.{ℕ, zero, suc, ◌<◌}
use native.Mathlib.Nat.{not-suc-le-zero}
use native.Mathlib.Omega.{arith}
use native.Mathlib.Decide.{ℕ_discrete, dec_lt}
use Rattle.pauli_group.specs.Phase.{is_real}
use Rattle.pauli_group.specs.PauliString.{commute}
use Rattle.clifford_group.specs.Tableau.{Tableau, all_to, valid_qubit, valid_pair, is_valid}
use Rattle.clifford_group.specs.Conjugation.{Generator, of_x, of_z, row, Valid}
use Rattle.clifford_group.proofs.Commuting.{commute_sym}
pub use Rattle.pauli_group.proofs.Finite.{and_both}

-- ---- tests over several
both_and : (a b : Bool) → a ≡ true → b ≡ true → (a && b) ≡ true
both_and a b e f = ap₂ ◌&&◌ e f

pub all_each : (n : ℕ) (f : ℕ → Bool) → all_to n f ≡ true → (q : ℕ) → q < n → f q ≡ true
unfolding all_to
all_each zero f e q h = absurd (not-suc-le-zero h)
all_each (suc n) f e q h =
    let parts = and_both (all_to n f) (f n) e in
    elim (ℕ_discrete q n) [ yes d ↦ ap f d ∙ parts.1 | no d ↦ all_each n f parts.0 q (omega arith) ]

pub each_all : (n : ℕ) (f : ℕ → Bool) → ((q : ℕ) → q < n → f q ≡ true) → all_to n f ≡ true
unfolding all_to
each_all zero f h = refl
each_all (suc n) f h = both_and (all_to n f) (f n) (each_all n f (λ q l. h q (omega arith))) (h n (omega arith))

-- ---- a test that is no where one of its parts is no: where it is yes, the part is yes
part_yes : (test part : Bool) → (part ≡ false → test ≡ false) → test ≡ true → part ≡ true
part_yes test true f e = refl
part_yes test false f e = sym (f refl) ∙ e

-- ---- the rows of one qubit, and of two
module _ (t : Tableau) (q : ℕ) (v : valid_qubit t q ≡ true) where
  qubit-real : (g : Generator) → is_real (row t g q).phase ≡ true
  unfolding valid_qubit
  qubit-real of_x = part_yes (valid_qubit t q) (is_real (t.x_image q).phase) (λ e. simp (e)) v
  qubit-real of_z = part_yes (valid_qubit t q) (is_real (t.z_image q).phase) (λ e. simp (e, and-false)) v

  qubit-anticommuting : commute (t.x_image q) (t.z_image q) ≡ false
  unfolding valid_qubit
  qubit-anticommuting =
      turned (commute (t.x_image q) (t.z_image q))
      (part_yes (valid_qubit t q) (not (commute (t.x_image q) (t.z_image q))) (λ e. simp (e, and-false)) v)
    where
      turned : (b : Bool) → not b ≡ true → b ≡ false
      turned true e = sym e
      turned false e = refl

pair_commuting : (t : Tableau) (q r : ℕ) → valid_pair t q r ≡ true → (g k : Generator) → commute (row t g q) (row t k r) ≡ true
unfolding valid_pair
pair_commuting t q r v of_x of_x = part_yes (valid_pair t q r) (commute (t.x_image q) (t.x_image r)) (λ e. simp (e)) v
pair_commuting t q r v of_x of_z = part_yes (valid_pair t q r) (commute (t.x_image q) (t.z_image r)) (λ e. simp (e, and-false)) v
pair_commuting t q r v of_z of_x = part_yes (valid_pair t q r) (commute (t.z_image q) (t.x_image r)) (λ e. simp (e, and-false)) v
pair_commuting t q r v of_z of_z = part_yes (valid_pair t q r) (commute (t.z_image q) (t.z_image r)) (λ e. simp (e, and-false)) v

-- ---- the test and the rule
pub test_valid : (t : Tableau) → is_valid t ≡ true → Valid t
unfolding is_valid
test_valid t v = record {
  real = λ g q h. qubit-real t q (own q h) g;
  anticommuting = λ q h. qubit-anticommuting t q (own q h);
  commuting = λ g k q r h l d. elim (dec_lt r q) [
    | yes m ↦ lower g k q r h m
    | no m ↦ commute_sym (row t g q) (row t k r) ∙ lower k g r q l (omega arith)
  ];
}
  where
    own : (q : ℕ) → q < t.width → valid_qubit t q ≡ true
    own q h = part_yes _ (valid_qubit t q) (λ e. simp (e)) (all_each t.width _ v q h)

    others : (q : ℕ) → q < t.width → all_to q (valid_pair t q) ≡ true
    others q h = part_yes _ (all_to q (valid_pair t q)) (λ e. simp (e, and-false)) (all_each t.width _ v q h)

    lower : (g k : Generator) (q r : ℕ) → q < t.width → r < q → commute (row t g q) (row t k r) ≡ true
    lower g k q r h l = pair_commuting t q r (all_each q (valid_pair t q) (others q h) r l) g k

pub valid_test : (t : Tableau) → Valid t → is_valid t ≡ true
unfolding is_valid valid_qubit valid_pair
valid_test t v = each_all t.width _ (λ q h. simp (v.real of_x q h, v.real of_z q h, v.anticommuting q h, pairs q h))
  where
    pairs : (q : ℕ) → q < t.width → all_to q (valid_pair t q) ≡ true
    pairs q h = each_all q _ (λ r l. simp (each r l of_x of_x, each r l of_x of_z, each r l of_z of_x, each r l of_z of_z))
      where
        each : (r : ℕ) → r < q → (g k : Generator) → commute (row t g q) (row t k r) ≡ true
        each r l g k = v.commuting g k q r h (omega arith) (omega arith)

pub test_equal : (t u : Tableau) → (is_valid t ≡ true → is_valid u ≡ true) → (is_valid u ≡ true → is_valid t ≡ true)
    → is_valid t ≡ is_valid u
test_equal t u = equal (is_valid t) (is_valid u)
  where
    equal : (a b : Bool) → (a ≡ true → b ≡ true) → (b ≡ true → a ≡ true) → a ≡ b
    equal true b f g = sym (f refl)
    equal false true f g = g refl
    equal false false f g = refl

-- Strings of one letter and their products. And a letter is known by what it anticommutes with.
use mathlib.Core.Path.{◌≡◌, refl, ap, ◌∙◌}
use mathlib.Core.Bool.{Bool, true, false, cond}
use mathlib.Core.Logic.{◌≢◌}
use Prim.Native.Nat.{ℕ, ◌<◌}
use lib.Dec.{eqb}
use borrow.Author.Tests.{eq-eqb, ne_eqb}
use Rattle.pauli_group.specs.Phase.{Phase, PlusOne, ◌·◌}
use Rattle.pauli_group.specs.Letter.{Letter, I, X, Z, letter_product, letter_phase, letter_mul, anticommute}
use Rattle.pauli_group.specs.PauliString.{qubits, product_to, phase_of_letters, mul, identity_string, scale, single}
use Rattle.pauli_group.proofs.Finite.{letters, bools, law1}
use Rattle.pauli_group.proofs.Laws.{·_comm, one-·}
use Rattle.pauli_group.proofs.Products.{product_to-at}
use Rattle.pauli_group.proofs.Strings.{string_ext}
use Rattle.clifford_group.specs.Tableau.{has_x, has_z, letter_of_bits}

pub single-I : (q : ℕ) → single I q ≡ identity_string
unfolding single identity_string
single-I q = string_ext (single I q) identity_string refl (λ c. either (eqb c q))
  where
    either : (b : Bool) → cond b I I ≡ I
    either true = refl
    either false = refl

-- the letters of a single letter, at its qubit and elsewhere
pub single-at : (l : Letter) (q : ℕ) → (single l q).letters q ≡ l
unfolding single
single-at l q = ap (λ b. cond b l I) (eq-eqb q q refl)

pub single_off : (l : Letter) (q c : ℕ) → c ≢ q → (single l q).letters c ≡ I
unfolding single
single_off l q c d = ap (λ b. cond b l I) (ne_eqb c q d)

-- two letters on one qubit multiply as letters do
pub mul_singles : (l m : Letter) (q : ℕ) → q < qubits
    → mul (single l q) (single m q) ≡ scale (letter_phase l m) (single (letter_mul l m) q)
unfolding mul scale single phase_of_letters letter_mul letter_phase letter_product
mul_singles l m q h =
    string_ext (mul (single l q) (single m q)) (scale (letter_phase l m) (single (letter_mul l m) q)) phases (λ c. place (eqb c q))
  where
    factor : (b : Bool) → Phase
    factor b = letter_phase (cond b l I) (cond b m I)

    phases : PlusOne · PlusOne · product_to qubits (λ c. factor (eqb c q)) ≡ letter_phase l m · PlusOne
    phases =
        ap (λ p. PlusOne · PlusOne · p)
        (product_to-at qubits q (λ c. factor (eqb c q)) h (λ c d. ap factor (ne_eqb c q d)) ∙ ap factor (eq-eqb q q refl))
        ∙ ap (λ p. p · letter_phase l m) (one-· PlusOne) ∙ ·_comm PlusOne (letter_phase l m)

    place : (b : Bool) → letter_mul (cond b l I) (cond b m I) ≡ cond b (letter_mul l m) I
    place true = refl
    place false = refl

-- ---- a letter and its bits
pub letter_bits : (a : Letter) → a ≡ letter_of_bits (anticommute a Z) (anticommute a X)
unfolding anticommute letter_of_bits
letter_bits = law1 letters letters (λ a. a) (λ a. letter_of_bits (anticommute a Z) (anticommute a X)) tt

pub has_z-anticommute : (a : Letter) → anticommute a X ≡ has_z a
unfolding anticommute has_z
has_z-anticommute = law1 letters bools (λ a. anticommute a X) (λ a. has_z a) tt

pub has_x-anticommute : (a : Letter) → anticommute a Z ≡ has_x a
unfolding anticommute has_x
has_x-anticommute = law1 letters bools (λ a. anticommute a Z) (λ a. has_x a) tt

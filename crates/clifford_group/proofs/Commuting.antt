-- Strings that commute: which do, what keeps it, and the test `commute`.
use mathlib.Core.Path.{◌≡◌, refl, sym, ap, ◌∙◌}
use mathlib.Core.Bool.{Bool, true, false, not}
use mathlib.Core.Logic.{◌≢◌}
use Prim.Native.Nat.{ℕ, ◌<◌}
use Rattle.pauli_group.specs.Phase.{Phase, PlusOne, ◌·◌, sign}
use Rattle.pauli_group.specs.Letter.{Letter, I, anticommute}
use Rattle.pauli_group.specs.PauliString.{PauliString, qubits, mul, identity_string, scale, single, commute, commutation_sign}
use Rattle.pauli_group.proofs.Laws.{sign_injective}
use Rattle.pauli_group.proofs.Strings.{scale-scale, scale_one, scale-mul, mul-scale, mul_assoc, identity-mul, mul-identity, mul_swap}
use Rattle.pauli_group.proofs.Strings.{sign-only, sign_sym, commute-sign}
use Rattle.pauli_group.proofs.Strings.{sign-single}
use Rattle.clifford_group.proofs.Singles.{single_off}

abbrev pub Commuting : PauliString → PauliString → Type 0
Commuting s t = mul s t ≡ mul t s

pub commuting-sign : (s t : PauliString) → commutation_sign s t ≡ PlusOne → Commuting s t
commuting-sign s t e = mul_swap s t ∙ ap (λ p. scale p (mul t s)) e ∙ scale_one (mul t s)

pub commuting-identity : (s : PauliString) → Commuting s identity_string
commuting-identity s = mul-identity s ∙ sym (identity-mul s)

pub commuting-scale : (p : Phase) (s t : PauliString) → Commuting s t → Commuting s (scale p t)
commuting-scale p s t e = mul-scale p s t ∙ ap (scale p) e ∙ sym (scale-mul p t s)

pub commuting-mul : (s t u : PauliString) → Commuting s t → Commuting s u → Commuting s (mul t u)
commuting-mul s t u e f =
    sym (mul_assoc s t u) ∙ ap (λ v. mul v u) e ∙ mul_assoc t s u ∙ ap (mul t) f ∙ sym (mul_assoc t u s)

-- a string and a letter on a qubit where the string has none
pub commuting_free : (s : PauliString) (l : Letter) (q : ℕ) → q < qubits → s.letters q ≡ I → Commuting s (single l q)
unfolding sign anticommute
commuting_free s l q h e = commuting-sign s (single l q) (sign-single s l q h ∙ ap (λ a. sign (anticommute a l)) e)

pub commuting_singles : (a b : Letter) (q r : ℕ) → r < qubits → q ≢ r → Commuting (single a q) (single b r)
commuting_singles a b q r h d = commuting_free (single a q) b r h (single_off a q r (λ e. d (sym e)))

-- (a b) (c d) = (a c) (b d) where b and c commute
pub exchange : (a b c d : PauliString) → Commuting b c → mul (mul a b) (mul c d) ≡ mul (mul a c) (mul b d)
exchange a b c d e =
    mul_assoc a b (mul c d) ∙ ap (mul a) (sym (mul_assoc b c d) ∙ ap (λ v. mul v d) e ∙ mul_assoc c b d)
    ∙ sym (mul_assoc a c (mul b d))

pub scale_both : (p q : Phase) (s t : PauliString) → mul (scale p s) (scale q t) ≡ scale (p · q) (mul s t)
scale_both p q s t = scale-mul p s (scale q t) ∙ ap (scale p) (mul-scale q s t) ∙ scale-scale p q (mul s t)

-- ---- the test answers what the products say
tested : (b c : Bool) → sign (not b) ≡ sign (not c) → b ≡ c
tested b c e = not_injective b c (sign_injective (not b) (not c) e)
  where
    not_injective : (b c : Bool) → not b ≡ not c → b ≡ c
    not_injective true true e = refl
    not_injective true false e = sym e
    not_injective false true e = sym e
    not_injective false false e = refl

pub mul-commute : (s t : PauliString) (b : Bool) → mul s t ≡ scale (sign (not b)) (mul t s) → commute s t ≡ b
mul-commute s t b e = tested (commute s t) b (sym (commute-sign s t) ∙ sym (sign-only (sign (not b)) s t e))

-- and it sees the sign alone
pub commute_by_sign : (s t u v : PauliString) → commutation_sign s t ≡ commutation_sign u v → commute s t ≡ commute u v
commute_by_sign s t u v e = tested (commute s t) (commute u v) (sym (commute-sign s t) ∙ e ∙ commute-sign u v)

pub commute_sym : (s t : PauliString) → commute s t ≡ commute t s
commute_sym s t = commute_by_sign s t t s (sign_sym s t)

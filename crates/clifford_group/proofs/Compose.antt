-- Composition: strings are sent by b and then a; associative, with identities neutral; it keeps valid tableaux valid.
use mathlib.Core.Path.{◌≡◌, refl, sym, ap, ap₂, ◌∙◌, subst}
use Prim.Native.Nat.{ℕ, zero, suc, ◌≤◌, ◌<◌, max}
use native.Mathlib.Nat.{le_refl}
use native.Mathlib.Omega.{arith}
use native.Mathlib.Decide.{dec_lt}
use Rattle.pauli_group.specs.Phase.{PlusI}
use Rattle.pauli_group.specs.Letter.{Letter, I, X, Z, Y}
use Rattle.pauli_group.specs.PauliString.{PauliString, qubits, mul, identity_string, scale, Within}
use Rattle.clifford_group.specs.Tableau.{Tableau, identity_tableau, image_of, apply_to, apply, compose, Proper, Clifford, Same}
use Rattle.clifford_group.specs.Tableau.{widen}
use Rattle.clifford_group.specs.Conjugation.{Generator, of_x, of_z, generator, row}
use Rattle.clifford_group.proofs.Rows.{rows-proper}
use Rattle.clifford_group.proofs.Images.{image_above, image_row, image_I, image_Y, same-images, image_identity, within_image}
use Rattle.clifford_group.proofs.Apply.{apply_to_start, apply-widen, apply-scale, apply-identity, apply_single, within-apply}
use Rattle.clifford_group.proofs.Conjugation.{apply-mul}
use Rattle.clifford_group.proofs.Homomorphism.{multiplicative_valid}
use Rattle.clifford_group.proofs.Identity.{width-identity, apply-identity_tableau}

pub width-compose : (a b : Tableau) → (compose a b).width ≡ max a.width b.width
unfolding compose
width-compose a b = refl

-- a row is a, applied to the image of the row's generator by b
pub row-compose : (a b : Tableau) (g : Generator) (q : ℕ) → row (compose a b) g q ≡ apply a (image_of b q (generator g))
unfolding compose widen
row-compose a b of_x q = apply-widen (max a.width b.width) a (image_of b q X)
row-compose a b of_z q = apply-widen (max a.width b.width) a (image_of b q Z)

-- ---- the images of a composition: of X and Z for any two tableaux, of every letter where a is valid
pub compose-generator : (a b : Tableau) (g : Generator) (q : ℕ) → q < qubits
    → image_of (compose a b) q (generator g) ≡ apply a (image_of b q (generator g))
compose-generator a b g q h = elim (dec_lt q (compose a b).width) [
  | yes k ↦ image_row (compose a b) g q k ∙ row-compose a b g q
  | no k ↦ image_above (compose a b) q (generator g) (omega arith)
      ∙ sym (ap (apply a) (image_above b q (generator g) (omega (arith, width-compose a b))) ∙ apply_single a (generator g) q h
      ∙ image_above a q (generator g) (omega (arith, width-compose a b)))
]

image_compose : (a b : Tableau) → Clifford a → (q : ℕ) (l : Letter) → q < qubits → image_of (compose a b) q l ≡ apply a (image_of b q l)
image_compose a b c q I h = image_I (compose a b) q ∙ sym (ap (apply a) (image_I b q) ∙ apply-identity a)
image_compose a b c q X h = compose-generator a b of_x q h
image_compose a b c q Z h = compose-generator a b of_z q h
image_compose a b c q Y h =
    image_Y (compose a b) q h ∙ ap₂ (λ x z. scale PlusI (mul x z)) (compose-generator a b of_x q h) (compose-generator a b of_z q h)
    ∙ sym (ap (apply a) (image_Y b q h) ∙ apply-scale a PlusI (mul (image_of b q X) (image_of b q Z))
    ∙ ap (scale PlusI) (apply-mul a c (image_of b q X) (image_of b q Z)))

-- ---- strings are sent by b, then a
apply_to-compose : (k : ℕ) → k ≤ qubits → (a b : Tableau) → Clifford a → (s : PauliString)
    → apply_to k (compose a b) s ≡ apply a (apply_to k b s)
unfolding apply_to
apply_to-compose zero h a b c s =
    apply_to_start (compose a b) s ∙ ap (scale s.phase) (sym (apply-identity a)) ∙ sym (apply-scale a s.phase identity_string)
    ∙ ap (apply a) (sym (apply_to_start b s))
apply_to-compose (suc k) h a b c s =
    ap₂ mul (apply_to-compose k (omega arith) a b c s) (image_compose a b c k (s.letters k) h)
    ∙ sym (apply-mul a c (apply_to k b s) (image_of b k (s.letters k)))

pub apply-compose : (a b : Tableau) → Clifford a → (s : PauliString) → apply (compose a b) s ≡ apply a (apply b s)
unfolding apply
apply-compose = apply_to-compose qubits (le_refl qubits)

-- ---- the laws of a group
pub compose_assoc : (a b c : Tableau) → Clifford a → b.width ≤ qubits → c.width ≤ qubits
    → Same (compose (compose a b) c) (compose a (compose b c))
compose_assoc a b c v hb hc = same-images (compose (compose a b) c) (compose a (compose b c)) wide
    (λ g q h. let k : q < qubits = omega (arith, v.proper.narrow, width-compose a b, width-compose (compose a b) c) in
    compose-generator (compose a b) c g q k ∙ apply-compose a b v (image_of c q (generator g))
    ∙ ap (apply a) (sym (compose-generator b c g q k)) ∙ sym (compose-generator a (compose b c) g q k))
  where
    wide : (compose (compose a b) c).width ≡ (compose a (compose b c)).width
    wide = omega (arith, width-compose a b, width-compose b c, width-compose (compose a b) c, width-compose a (compose b c))

pub identity-compose : (w : ℕ) (t : Tableau) → Proper t → w ≤ t.width → Same (compose (identity_tableau w) t) t
identity-compose w t p l = same-images (compose (identity_tableau w) t) t wide
    (λ g q h. let k : q < qubits = omega (arith, p.narrow, wide) in
    compose-generator (identity_tableau w) t g q k
    ∙ apply-identity_tableau w (image_of t q (generator g)) (within_image t p qubits p.narrow q (generator g) k))
  where
    wide : (compose (identity_tableau w) t).width ≡ t.width
    wide = omega (arith, width-compose (identity_tableau w) t, width-identity w)

pub compose-identity : (w : ℕ) (t : Tableau) → t.width ≤ qubits → w ≤ t.width → Same (compose t (identity_tableau w)) t
compose-identity w t n l = same-images (compose t (identity_tableau w)) t wide
    (λ g q h. let k : q < qubits = omega (arith, wide) in
    compose-generator t (identity_tableau w) g q k ∙ ap (apply t) (image_identity w q (generator g) k)
    ∙ apply_single t (generator g) q k)
  where
    wide : (compose t (identity_tableau w)).width ≡ t.width
    wide = omega (arith, width-compose t (identity_tableau w), width-identity w)

-- ---- what composition keeps
pub proper-compose : (a b : Tableau) → Proper a → Proper b → Proper (compose a b)
unfolding compose
proper-compose a b p r = rows-proper (compose a b) (omega (arith, p.narrow, r.narrow))
    (λ g q h. subst (Within n) (sym (row-compose a b g q))
    (within-apply a p n (omega arith) (image_of b q (generator g)) (λ c m k. within_image b r n (omega arith) q (generator g) h c m)))
  where
    n : ℕ
    n = max a.width b.width

pub clifford_compose : (a b : Tableau) → Clifford a → Clifford b → Clifford (compose a b)
clifford_compose a b c d = record { proper = proper; valid = multiplicative_valid (compose a b) proper.narrow multiplies }
  where
    proper : Proper (compose a b)
    proper = proper-compose a b c.proper d.proper

    sent : (s : PauliString) → apply (compose a b) s ≡ apply a (apply b s)
    sent = apply-compose a b c

    multiplies : (s u : PauliString) → Within qubits s → Within qubits u
        → apply (compose a b) (mul s u) ≡ mul (apply (compose a b) s) (apply (compose a b) u)
    multiplies s u hs hu =
        sent (mul s u) ∙ ap (apply a) (apply-mul b d s u) ∙ apply-mul a c (apply b s) (apply b u) ∙ sym (ap₂ mul (sent s) (sent u))

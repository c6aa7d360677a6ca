-- Gates found by their images, and the answers that name a gate.
use Rattle.std.proofs.Common.{◌≡◌, ℕ, zero, suc, ◌+◌, ◌-◌, ◌<◌, ◌≤◌, max, Bool, true, false, cond, ◌&&◌, eqb, ltb, List, [], ◌∷◌, length, get_or, sym, refl, ap, ◌∙◌, ap₂, le_of_suc-le-suc, not-suc-le-zero, arith, rules, eq-eqb, ne_eqb, ltb-true, lt-ltb, le-ltb, Option, Some, None, IsSome, is_some}
use mathlib.Core.Path.{fun_ext}
use mathlib.Core.Bool.{and-true, and_assoc}
use native.Mathlib.Decide.{ℕ_discrete}
use Rattle.pauli_group.specs.Phase.{Phase, ◌·◌}
use Rattle.pauli_group.specs.Letter.{Letter}
use Rattle.pauli_group.specs.PauliString.{PauliString, qubits}
use Rattle.pauli_group.proofs.Finite.{letters, phases, bools, law2}
use Rattle.clifford_group.specs.Tableau.{Tableau, Clifford, compose}
use Rattle.clifford_group.proofs.Compose.{width-compose, clifford_compose}
use Rattle.clifford_gates.specs.Gates.{Image, OneQubit, one_qubit, one_qubit_gates}
use Rattle.clifford_gates.specs.GateTableaux.{unchanged, on_qubit}
use Rattle.clifford_gates.specs.GateNumbers.{one_qubit_gate, first_with, name_of, compose_gate}
use Rattle.clifford_gates.specs.Updates.{letter_image, scaled, sent_image, compose_images}
use Rattle.clifford_gates.proofs.GateTables.{same_image, same-entry}
use Rattle.clifford_gates.proofs.GateNames.{images_of, number_of, name_one, name_none, gate-valid, named-valid, compose_name}
use Rattle.clifford_gates.proofs.GateTableaux.{clifford_on_qubit}
use Rattle.clifford_gates.proofs.OneQubitUpdates.{width-on_qubit}
use Rattle.pauli.specs.declared.algebra.PhasedLetter.{PhasedLetter}
use Rattle.pauli.specs.Layout.{phase_byte, phase_of, letter_byte, letter_of}
use Rattle.pauli.specs.Rows.{phase_bytes_product}
use Rattle.pauli.proofs.Records.{phase-back, letter-back}
use Rattle.clifford.specs.Layout.{width_of, tableau_of, row_of, read_row, FormedTableau}
use Rattle.clifford.specs.GateAnswers.{named, record_name}
use Rattle.clifford.specs.GateRows.{image_bytes, ImageOf}
use Rattle.clifford.specs.Inside.GateRows.{image_held, same_entry, first_entry}
use Rattle.clifford.proofs.Rows.{read_own, width_of_lem}

-- ---- the first gate with an entry
pub record NoneBefore (e : List ℕ) (g : ℕ) : Type 0 where
  pub within : g ≤ 24
  pub none : (k : ℕ) → k < g → same_entry (image_bytes (one_qubit_gate k)) e ≡ false

first-at : {A : Type 0} (f : A → Bool) (l : List A) (d : A) (g : ℕ) → g < length l → ((k : ℕ) → k < g → f (get_or l k d) ≡ false)
    → f (get_or l g d) ≡ true → g ≡ first_with f l
unfolding first_with
first-at f [] d g h n t = absurd (not-suc-le-zero h)
first-at f (a ∷ l) d zero h n t = sym (ap (λ b. cond b 0 (suc (first_with f l))) t)
first-at f (a ∷ l) d (suc g) h n t =
    ap suc (first-at f l d g (le_of_suc-le-suc h) (λ k m. n (suc k) (omega (arith, m))) t) ∙ sym (ap (λ b. cond b 0 (suc (first_with f l))) (n 0 (omega arith)))

first-none : {A : Type 0} (f : A → Bool) (l : List A) (d : A) → ((k : ℕ) → k < length l → f (get_or l k d) ≡ false) → length l ≡ first_with f l
unfolding first_with
first-none f [] d n = refl
first-none f (a ∷ l) d n = ap suc (first-none f l d (λ k m. n (suc k) (omega (arith, m)))) ∙ sym (ap (λ b. cond b 0 (suc (first_with f l))) (n 0 (omega arith)))

gates_count : length one_qubit_gates ≡ 24
unfolding one_qubit_gates
gates_count = refl

named_some : {n : ℕ} → n < 24 → Some n ≡ named n
unfolding named
named_some {n} h = sym (ap (λ b. cond b (Some n) None) (lt-ltb n 24 h))

named_none : {n : ℕ} → 24 ≤ n → None ≡ named n
unfolding named
named_none {n} h = sym (ap (λ b. cond b (Some n) None) (le-ltb n 24 h))

pub none_before : (e : List ℕ) → NoneBefore e 0
none_before e = record { within = omega arith; none = λ k h. absurd (not-suc-le-zero h) }

module _ {e : List ℕ} {g : ℕ} (m : NoneBefore e g) where
  pub one_more : {a : List ℕ} {n : ℕ} {r : Bool} → g < 24 → n ≡ g → a ≡ image_bytes (one_qubit_gate n) → r ≡ same_entry a e → r ≡ false → NoneBefore e (g + 1)
  one_more {a} {n} {r} h en ea er f = record { within = omega arith; none = none }
    where
      none : (k : ℕ) → k < g + 1 → same_entry (image_bytes (one_qubit_gate k)) e ≡ false
      none k l = elim (ℕ_discrete k g) [
        | yes q ↦ ap (λ (j : ℕ). same_entry (image_bytes (one_qubit_gate j)) e) (q ∙ sym en) ∙ sym (ap (λ x. same_entry x e) ea) ∙ sym er ∙ f
        | no d ↦ m.none k (omega arith)
      ]

  pub gate_found : {a : List ℕ} {n : ℕ} {r : Bool} → g < 24 → n ≡ g → a ≡ image_bytes (one_qubit_gate n) → r ≡ same_entry a e → r ≡ true → Some g ≡ named (first_entry e)
  unfolding first_entry one_qubit_gate
  gate_found {a} {n} {r} h en ea er t =
      named_some h
      ∙ ap named (first-at (λ k. same_entry (image_bytes k) e) one_qubit_gates unchanged g (omega (arith, gates_count)) m.none
      (ap (λ (j : ℕ). same_entry (image_bytes (one_qubit_gate j)) e) (sym en) ∙ sym (ap (λ x. same_entry x e) ea) ∙ sym er ∙ t))

  pub none_found : 24 ≤ g → None ≡ named (first_entry e)
  unfolding first_entry one_qubit_gate
  none_found h =
      let last : g ≡ length one_qubit_gates = omega (arith, m.within, gates_count) in
      named_none h
      ∙ ap named (last ∙ first-none (λ k. same_entry (image_bytes k) e) one_qubit_gates unchanged (λ k l. m.none k (omega (arith, last))))

pub ruleset gate_searches = (none_before, one_more, gate_found, none_found, rules)

-- ---- entries against images
image_test : (i j : Image) → eqb (phase_byte i.phase) (phase_byte j.phase) && eqb (letter_byte i.letter) (letter_byte j.letter) ≡ same_image i j
unfolding phase_byte letter_byte
image_test i j =
    ap₂ ◌&&◌ (law2 phases phases bools (λ p q. eqb (phase_byte p) (phase_byte q)) phases.same tt i.phase j.phase)
    (law2 letters letters bools (λ a b. eqb (letter_byte a) (letter_byte b)) letters.same tt i.letter j.letter)

-- the first gate with the entry of these images
first-named : (k : OneQubit) → first_entry (image_bytes k) ≡ number_of k
unfolding first_entry
first-named k = ap (λ f. first_with f one_qubit_gates) (fun_ext each)
  where
    each : (g : OneQubit) → same_entry (image_bytes g) (image_bytes k) ≡ same-entry g k
    each g = unfold image_bytes in
        ap (λ b. ◌&&◌ (eqb (phase_byte g.x.phase) (phase_byte k.x.phase)) (◌&&◌ (eqb (letter_byte g.x.letter) (letter_byte k.x.letter)) (◌&&◌ (eqb (phase_byte g.z.phase) (phase_byte k.z.phase)) b)))
        (and-true (eqb (letter_byte g.z.letter) (letter_byte k.z.letter)))
        ∙ sym (and_assoc (eqb (phase_byte g.x.phase) (phase_byte k.x.phase)) _ _)
        ∙ ap₂ ◌&&◌ (image_test g.x k.x) (image_test g.z k.z)

-- ---- the name of a record
pub no_name : (t : List ℕ) {w : ℕ} → w ≡ width_of t → (w ≡ 1 → ⊥) → None ≡ named (record_name t)
unfolding record_name
no_name t e h = named_none (omega arith) ∙ ap named (sym (name_none (tableau_of t) (λ q. h (e ∙ sym (width_of_lem t) ∙ q))))

module _ {t : List ℕ} (f : FormedTableau t) {w : ℕ} (e : w ≡ width_of t) (one : w ≡ 1) where
  wide : (tableau_of t).width ≡ 1
  wide = width_of_lem t ∙ sym e ∙ one

  x_read : read_row t 0 ≡ (tableau_of t).x_image 0
  x_read = read_own t 0 f.narrow (omega (arith, e, one))
      ∙ (unfold row_of in ap (λ (j : ℕ). cond (ltb 0 j) ((tableau_of t).x_image 0) ((tableau_of t).z_image (0 - j))) wide)

  z_read : read_row t 1 ≡ (tableau_of t).z_image 0
  z_read = read_own t 1 f.narrow (omega (arith, e, one))
      ∙ (unfold row_of in ap (λ (j : ℕ). cond (ltb 1 j) ((tableau_of t).x_image 1) ((tableau_of t).z_image (1 - j))) wide)

  pub name_found : {a b c d : ℕ} {r : Option ℕ} → a ≡ phase_byte (read_row t 0).phase → b ≡ letter_byte ((read_row t 0).letters 0)
      → c ≡ phase_byte (read_row t 1).phase → d ≡ letter_byte ((read_row t 1).letters 0) → r ≡ named (first_entry (a ∷ b ∷ c ∷ d ∷ [])) → r ≡ named (record_name t)
  unfolding record_name
  name_found {a} {b} {c} {d} ha hb hc hd n =
      n ∙ ap named (ap first_entry entry ∙ first-named (images_of (tableau_of t)) ∙ sym (name_one (tableau_of t) wide))
    where
      entry : (a ∷ b ∷ c ∷ d ∷ []) ≡ image_bytes (images_of (tableau_of t))
      entry = unfold image_bytes in
          (λ n. ha n ∷ hb n ∷ hc n ∷ hd n ∷ [])
          ∙ ap₂ (λ (x z : PauliString). phase_byte x.phase ∷ letter_byte (x.letters 0) ∷ phase_byte z.phase ∷ letter_byte (z.letters 0) ∷ []) x_read z_read

pub ruleset record_names = (no_name, name_found, rules)

-- ---- products by number
pub sent_made : (g : OneQubit) (i : PhasedLetter) {m : PhasedLetter} {p : ℕ} → ImageOf (letter_image g (letter_of i.1)) m → p ≡ phase_bytes_product i.0 m.0
    → ImageOf (sent_image g (image_held i)) (p, m.1)
unfolding sent_image scaled image_held phase_bytes_product
sent_made g i h e = record { phase = e ∙ ap (λ q. phase_byte (phase_of i.0 · q)) (ap phase_of h.phase ∙ phase-back _); letter = h.letter }

held_image : (i : Image) (r : PhasedLetter) → ImageOf i r → image_held r ≡ i
unfolding image_held
held_image i r h =
    ap₂ (λ (p : Phase) (l : Letter). record { phase = p; letter = l }) (ap phase_of h.phase ∙ phase-back i.phase)
    (ap letter_of h.letter ∙ letter-back i.letter)

module _ {g h : ℕ} (first : g < 24) (second : h < 24) where
  abbrev product : Tableau
  product = compose (on_qubit (one_qubit_gate g) 0) (on_qubit (one_qubit_gate h) 0)

  clifford : Clifford product
  unfolding qubits
  clifford =
      clifford_compose (on_qubit (one_qubit_gate g) 0) (on_qubit (one_qubit_gate h) 0)
      (clifford_on_qubit (one_qubit_gate g) (gate-valid g first) 0 (omega arith))
      (clifford_on_qubit (one_qubit_gate h) (gate-valid h second) 0 (omega arith))

  one : product.width ≡ 1
  one =
      width-compose (on_qubit (one_qubit_gate g) 0) (on_qubit (one_qubit_gate h) 0)
      ∙ ap₂ max (width-on_qubit (one_qubit_gate g) 0) (width-on_qubit (one_qubit_gate h) 0)

  compose_small : compose_gate g h < 24
  unfolding compose_gate
  compose_small = ltb-true (name_of product) 24 (named-valid product clifford.proper ∙ ap₂ ◌&&◌ (eq-eqb product.width 1 one) clifford.valid)

pub name_composed : {g h : ℕ} {r : Option ℕ} {i j x z : PhasedLetter} → g < 24 → h < 24
    → ImageOf (letter_image (one_qubit_gate h) (letter_of 1)) i → ImageOf (letter_image (one_qubit_gate h) (letter_of 2)) j
    → ImageOf (sent_image (one_qubit_gate g) (image_held i)) x → ImageOf (sent_image (one_qubit_gate g) (image_held j)) z
    → r ≡ named (first_entry (x.0 ∷ x.1 ∷ z.0 ∷ z.1 ∷ [])) → r ≡ Some (compose_gate g h)
unfolding letter_image letter_of
name_composed {g} {h} {r} {i} {j} {x} {z} first second hi hj hx hz n =
    n
    ∙ ap named (ap first_entry entry ∙ first-named (compose_images (one_qubit_gate g) (one_qubit_gate h)) ∙ sym (compose_name g h first second))
    ∙ sym (named_some (compose_small first second))
  where
    entry : (x.0 ∷ x.1 ∷ z.0 ∷ z.1 ∷ []) ≡ image_bytes (compose_images (one_qubit_gate g) (one_qubit_gate h))
    entry = unfold image_bytes compose_images in
        (λ n. hx.phase n ∷ hx.letter n ∷ hz.phase n ∷ hz.letter n ∷ [])
        ∙ ap₂ (λ (a c : Image). image_bytes (one_qubit (sent_image (one_qubit_gate g) a) (sent_image (one_qubit_gate g) c))) (held_image _ i hi) (held_image _ j hj)

-- one is found, and it is the gate
pub composed_found : {g h : ℕ} {r : Option ℕ} {i j x z : PhasedLetter} → g < 24 → h < 24
    → ImageOf (letter_image (one_qubit_gate h) (letter_of 1)) i → ImageOf (letter_image (one_qubit_gate h) (letter_of 2)) j
    → ImageOf (sent_image (one_qubit_gate g) (image_held i)) x → ImageOf (sent_image (one_qubit_gate g) (image_held j)) z
    → r ≡ named (first_entry (x.0 ∷ x.1 ∷ z.0 ∷ z.1 ∷ [])) → IsSome r
composed_found first second hi hj hx hz n = ap is_some (name_composed first second hi hj hx hz n)

pub composed_number : {g h k : ℕ} {r : Option ℕ} {i j x z : PhasedLetter} → g < 24 → h < 24
    → ImageOf (letter_image (one_qubit_gate h) (letter_of 1)) i → ImageOf (letter_image (one_qubit_gate h) (letter_of 2)) j
    → ImageOf (sent_image (one_qubit_gate g) (image_held i)) x → ImageOf (sent_image (one_qubit_gate g) (image_held j)) z
    → r ≡ named (first_entry (x.0 ∷ x.1 ∷ z.0 ∷ z.1 ∷ [])) → r ≡ Some k → k ≡ compose_gate g h
composed_number first second hi hj hx hz n e = let both = name_composed first second hi hj hx hz n in cc

pub ruleset composed_names = (composed_found, composed_number, rules)

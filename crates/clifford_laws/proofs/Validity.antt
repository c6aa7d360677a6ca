-- What validity amounts to, on bytes: a record is valid exactly where it sends products to products, and two records send strings alike
-- exactly where they are widened to the same bytes.
use mathlib.Core.Path.{◌≡◌, refl, sym, ap, ap₂, ◌∙◌, subst}
use mathlib.Core.Bool.{Bool, true}
use mathlib.Core.List.{List}
use mathlib.Core.Logic.{◌↔◌}
use Prim.Native.Nat.{ℕ, max, ◌≤◌, ◌<◌}
use native.Mathlib.Nat.{le_trans}
use native.Mathlib.Omega.{arith}
use Rattle.pauli_group.specs.PauliString.{PauliString, qubits, mul, single, Within}
use Rattle.pauli_group.proofs.Strings.{within-mul, within-single}
use Rattle.clifford_group.specs.Tableau.{Tableau, apply, widen, Proper, Same}
use Rattle.clifford_group.specs.Conjugation.{Generator, generator, SendsProduct, SendAlike, SameWidened}
use Rattle.clifford_group.proofs.Images.{alike-widen, same_alike, proper-widen}
use Rattle.clifford_group.proofs.Apply.{apply-widen, apply-within}
use Rattle.clifford_group.proofs.Homomorphism.{generators_valid, is_valid_iff_multiplicative, is_valid-widen, alike_iff_same}
use Rattle.clifford_group.proofs.Same.{apply-same, is_valid-same}
use Rattle.pauli.specs.Answers.{answer_to, Outcome}
use Rattle.pauli.specs.Layout.{string_record, string_of}
use Rattle.pauli.specs.Questions.{strings_questions, mul_questions}
use Rattle.pauli.specs.Strings.{product_record}
use Rattle.pauli.proofs.Records.{string-within, string-back}
use Rattle.pauli.proofs.Asking.{done_both, done_room, strings_admitted}
use Rattle.clifford.specs.Layout.{width_of, record_length, tableau_of}
use Rattle.clifford.specs.Questions.{tableau_questions, apply_questions, apply_answer, extend_questions, extend_answer}
use Rattle.clifford.specs.Tableaux.{record_valid, apply_record, extend_record}
use Rattle.clifford.proofs.Asking.{width_narrow, admitted_tableaux, admitted_proper}
use Rattle.clifford.proofs.Records.{record-back, same-record, record_same}
use Rattle.clifford_laws.specs.Validity.{ProductSent, RecordMultiplicative, generator_record, GeneratorsSent, RecordsSendAlike, larger_width, SameBytesWidened, ValiditySentence}
use Rattle.std.specs.Prelude.{Ok, Err}

-- two strings with one record are the same
string_equal : (s u : PauliString) → Within qubits s → Within qubits u → string_record s ≡ string_record u → s ≡ u
string_equal s u hs hu e = sym (string-back s hs) ∙ ap string_of e ∙ string-back u hu

-- ---- products
module _ (t : List ℕ) (asked : tableau_questions t ≡ Ok tt) where
  abbrev T : Tableau
  T = tableau_of t

  proper : Proper T
  proper = admitted_proper t asked

  -- of two records, and of the strings that they hold
  product-sent : (p q : List ℕ) → SendsProduct T (string_of p) (string_of q) ↔ ProductSent t p q
  unfolding apply_record product_record
  product-sent p q = ((λ e. left ∙ ap string_record e ∙ sym right), (λ e. string_equal _ _ (inside (mul P Q)) both (sym left ∙ e ∙ right)))
    where
      P : PauliString
      P = string_of p

      Q : PauliString
      Q = string_of q

      inside : (s : PauliString) → Within qubits (apply T s)
      inside = apply-within T proper

      both : Within qubits (mul (apply T P) (apply T Q))
      both = within-mul qubits (apply T P) (apply T Q) (inside P) (inside Q)

      left : apply_record t (product_record p q) ≡ string_record (apply T (mul P Q))
      left = ap (λ s. string_record (apply T s)) (string-back (mul P Q) (within-mul qubits P Q (string-within p) (string-within q)))

      right : product_record (apply_record t p) (apply_record t q) ≡ string_record (mul (apply T P) (apply T Q))
      right = ap₂ (λ a b. string_record (mul a b)) (string-back (apply T P) (inside P)) (string-back (apply T Q) (inside Q))

  valid_multiplicative : record_valid t ≡ true → RecordMultiplicative t
  unfolding record_valid
  valid_multiplicative v p q hp hq =
      (product-sent p q).0 ((is_valid_iff_multiplicative T proper).0 v (string_of p) (string_of q) (string-within p) (string-within q))

  -- the generators' products are enough
  sent-valid : GeneratorsSent t → record_valid t ≡ true
  unfolding record_valid tableau_of
  sent-valid m = generators_valid T proper.narrow
      (λ g k q r h l. subst (λ s. SendsProduct T s (single (generator k) r)) (back g q h)
      (subst (λ s. SendsProduct T (string_of (generator_record g q)) s) (back k r (omega arith)) ((product-sent _ _).1 (m g k q r h l))))
    where
      back : (g : Generator) (q : ℕ) → q < width_of t → string_of (generator_record g q) ≡ single (generator g) q
      back g q h = string-back (single (generator g) q) (within-single qubits (generator g) q (le_trans h proper.narrow))

  multiplicative_sent : RecordMultiplicative t → GeneratorsSent t
  multiplicative_sent m g k q r h l = m _ _ (strings_admitted (single (generator g) q)) (strings_admitted (single (generator k) r))

  pub valid_iff_multiplicative : (record_valid t ≡ true) ↔ RecordMultiplicative t
  valid_iff_multiplicative = (valid_multiplicative, (λ m. sent-valid (multiplicative_sent m)))

  pub valid_iff_generators : (record_valid t ≡ true) ↔ GeneratorsSent t
  valid_iff_generators = ((λ v. multiplicative_sent (valid_multiplicative v)), sent-valid)

-- ---- two records
module _ (t u : List ℕ) (asked_t : tableau_questions t ≡ Ok tt) (asked_u : tableau_questions u ≡ Ok tt) where
  abbrev n : ℕ
  n = larger_width t u

  narrow : n ≤ qubits
  unfolding tableau_of
  narrow = omega (arith, (admitted_proper t asked_t).narrow, (admitted_proper u asked_u).narrow)

  wide-proper : (b : List ℕ) → tableau_questions b ≡ Ok tt → Proper (widen n (tableau_of b))
  wide-proper b e = proper-widen n narrow (tableau_of b) (admitted_proper b e)

  pub alike_iff_same_bytes : RecordsSendAlike t u ↔ SameBytesWidened t u
  unfolding apply_record extend_record tableau_of
  alike_iff_same_bytes = (
    (λ e. same-record (widen n T) (widen n U) (objects.0 (strings e))),
    (λ e s h. ap string_record (objects.1 (same e) (string_of s) (string-within s))),
  )
    where
      T : Tableau
      T = tableau_of t

      U : Tableau
      U = tableau_of u

      objects : SendAlike T U ↔ SameWidened T U
      objects = alike_iff_same T U (admitted_proper t asked_t).narrow (admitted_proper u asked_u).narrow

      same : SameBytesWidened t u → SameWidened T U
      same = record_same (widen n T) (widen n U) (wide-proper t asked_t) (wide-proper u asked_u)

      strings : RecordsSendAlike t u → (s : PauliString) → Within qubits s → apply T s ≡ apply U s
      strings e s h = string_equal (apply T s) (apply U s) (apply-within T (admitted_proper t asked_t) s) (apply-within U (admitted_proper u asked_u) s)
          (subst (λ v. string_record (apply T v) ≡ string_record (apply U v)) (string-back s h) (e (string_record s) (strings_admitted s)))

-- ---- a record widened: what it sends and whether it is valid stay
module _ (t : List ℕ) (asked : tableau_questions t ≡ Ok tt) (n : ℕ) (h : n ≤ qubits) where
  widened : Same (tableau_of (extend_record t n)) (widen n (tableau_of t))
  unfolding extend_record
  widened = record-back (widen n (tableau_of t)) (proper-widen n h (tableau_of t) (admitted_proper t asked))

  pub extend_sends : (s : List ℕ) → apply_record (extend_record t n) s ≡ apply_record t s
  unfolding apply_record
  extend_sends s = ap string_record (apply-same _ _ widened (string_of s) ∙ apply-widen n (tableau_of t) (string_of s))

  pub extend_valid : record_valid (extend_record t n) ≡ record_valid t
  unfolding record_valid
  extend_valid = is_valid-same _ _ widened ∙ is_valid-widen n h (tableau_of t) (admitted_proper t asked)

-- "a smaller width gives a copy"
pub extend_copy : (t : List ℕ) → tableau_questions t ≡ Ok tt → (n : ℕ) → n ≤ width_of t → extend_record t n ≡ t
unfolding extend_record tableau_of
extend_copy t e n h =
    let T = tableau_of t in
    let same = same_alike (widen n T) T (unfold widen in omega arith) (unfold widen in omega (arith, (admitted_proper t e).narrow)) (alike-widen n T) in
    same-record (widen n T) T same
    ∙ sym (admitted_tableaux t e)

-- so records of one width that send every string alike are the same
pub alike_iff_equal : (t u : List ℕ) → tableau_questions t ≡ Ok tt → tableau_questions u ≡ Ok tt → width_of t ≡ width_of u → RecordsSendAlike t u ↔ (t ≡ u)
alike_iff_equal t u et eu w = (
  (λ e. sym copy_t ∙ (alike_iff_same_bytes t u et eu).0 e ∙ copy_u),
  (λ e s h. ap (λ b. apply_record b s) e),
)
  where
    copy_t : extend_record t (larger_width t u) ≡ t
    copy_t = extend_copy t et (larger_width t u) (omega (arith, w))

    copy_u : extend_record u (larger_width t u) ≡ u
    copy_u = extend_copy u eu (larger_width t u) (omega (arith, w))

-- ---- the request's sentences
small : (t u : List ℕ) → tableau_questions t ≡ Ok tt → tableau_questions u ≡ Ok tt → larger_width t u ≤ 128
unfolding qubits
small = narrow

widening : (b : List ℕ) (n room : ℕ) → tableau_questions b ≡ Ok tt → n ≤ 128 → n ≡ max (width_of b) n → record_length n ≤ room → extend_answer b n room ≡ Ok tt
unfolding extend_answer extend_questions
widening b n room e h w l = done_room _ _ room (done_both _ _ e (sym (width_narrow h))) (subst (λ (m : ℕ). record_length m ≤ room) w l)

yes_told : (q : Outcome) (b : Bool) → answer_to q b ≡ Ok true → (q ≡ Ok tt) × (b ≡ true)
unfolding answer_to
yes_told (Ok tt) b e = (refl, cc)
yes_told (Err x) b e = (cc, cc)

pub validity_sentence : ValiditySentence
unfolding answer_to apply_record product_record apply_answer apply_questions mul_questions strings_questions
validity_sentence = record {
  products = valid_iff_multiplicative;
  alike = λ t u et eu vt vu. alike_iff_same_bytes t u et eu;
  told = λ t r p. (
    (λ e. let yes = yes_told (tableau_questions t) (record_valid t) (sym p.answer ∙ e) in (yes.0, (valid_iff_multiplicative t yes.0).0 yes.1)),
    (λ m. p.answer ∙ ap₂ answer_to m.0 ((valid_iff_multiplicative t m.0).1 m.1)),
  );
  sent = λ t s. strings_admitted _;
  multiplied = λ p q. strings_admitted _;
  sends = λ t s et es room h. done_room _ _ room (done_both _ _ et es) h;
  multiplies = λ p q ep eq room h. done_room _ _ room (done_both _ _ ep eq) h;
  widens = λ t u et eu room h. let n : larger_width t u ≤ 128 = small t u et eu in
      (widening t (larger_width t u) room et n (omega arith) h, widening u (larger_width t u) room eu n (omega arith) h);
}

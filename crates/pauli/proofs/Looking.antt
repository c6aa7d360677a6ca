-- One pass over two strings: no byte above 3, and the places that their product takes.
use Rattle.std.proofs.Common.{◌≡◌, ℕ, suc, ◌+◌, ◌<◌, ◌≤◌, max, min, Bool, true, false, cond, ◌||◌, eqb, List, length, get_or, sym, refl, ap, ◌∙◌, ap₂, add-one, arith, rules, eq-eqb, ne_eqb, Ok}
use native.Mathlib.Decide.{ℕ_discrete}
use Rattle.pauli_group.specs.PauliString.{qubits, last_to, has_letter, places_taken}
use Rattle.pauli.specs.Layout.{string_of}
use Rattle.pauli.specs.Questions.{string_questions, strings_questions}
use Rattle.pauli.specs.Strings.{places_taken_of_records}
use Rattle.pauli.specs.Inside.Products.{seen_with, Looked}
use Rattle.pauli.specs.declared.algebra.Sight.{Sight}
use Rattle.pauli.proofs.Asking.{passed, done_first, done_second, string-length, formed-good}
use Rattle.pauli.proofs.Places.{from, from_at, length_from}
use Rattle.pauli.proofs.Records.{has_none, has_one}

abbrev either : List ℕ → List ℕ → ℕ → Bool
either s t q = has_letter (string_of s) q || has_letter (string_of t) q

or_true : (b : Bool) → (b || true) ≡ true
or_true true = refl
or_true false = refl

-- ---- what is seen before place q
pub record SeenTo (s t : List ℕ) (q : ℕ) (r : Sight) : Type 0 where
  pub first : length s ≡ 129
  pub second : length t ≡ 129
  pub within : q ≤ 128
  pub small : (k : ℕ) → k < q + 1 → (get_or s k 0 ≤ r.largest) × (get_or t k 0 ≤ r.largest)
  pub last : r.places ≡ last_to q (either s t)

pub seen_none : {s t : List ℕ} {m : ℕ} → length s ≡ 129 → length t ≡ 129 → m ≡ max (get_or s 0 0) (get_or t 0 0)
    → SeenTo s t 0 (record { largest = m; places = 0 })
unfolding last_to
seen_none {s} {t} {m} f g e = record {
  first = f;
  second = g;
  within = omega arith;
  small = λ k h. let z : k ≡ 0 = omega arith in (omega (arith, ap (λ (j : ℕ). get_or s j 0) z), omega (arith, ap (λ (j : ℕ). get_or t j 0) z));
  last = refl;
}

module _ {s t : List ℕ} {q : ℕ} {r : Sight} (i : SeenTo s t q r) (h : q < 128) where
  abbrev most : ℕ
  most = max (get_or s (q + 1) 0) (get_or t (q + 1) 0)

  smaller : (k : ℕ) → k < q + 1 + 1 → (get_or s k 0 ≤ max r.largest most) × (get_or t k 0 ≤ max r.largest most)
  smaller k l = elim (ℕ_discrete k (q + 1)) [
    | yes e ↦ (omega (arith, ap (λ (j : ℕ). get_or s j 0) e), omega (arith, ap (λ (j : ℕ). get_or t j 0) e))
    | no d ↦ let before = i.small k (omega arith) in (omega (arith, before.0), omega (arith, before.1))
  ]

  some-letter : (most ≡ 0 → ⊥) → either s t q ≡ true
  some-letter d = elim (ℕ_discrete (get_or s (q + 1) 0) 0) [
    | yes z ↦ ap (λ x. has_letter (string_of s) q || x) (has_one t q h (λ w. d (omega arith))) ∙ or_true (has_letter (string_of s) q)
    | no w ↦ ap (λ x. x || has_letter (string_of t) q) (has_one s q h w)
  ]

  no_letter : most ≡ 0 → either s t q ≡ false
  no_letter z = ap₂ ◌||◌ (has_none s q h (omega arith)) (has_none t q h (omega arith))

  last_more : cond (eqb most 0) r.places (q + 1) ≡ last_to (suc q) (either s t)
  unfolding last_to
  last_more = elim (ℕ_discrete most 0) [
    | yes z ↦ ap (λ x. cond x r.places (q + 1)) (eq-eqb most 0 z) ∙ i.last ∙ sym (ap (λ x. cond x (suc q) (last_to q (either s t))) (no_letter z))
    | no d ↦ ap (λ x. cond x r.places (q + 1)) (ne_eqb most 0 d) ∙ add-one q ∙ sym (ap (λ x. cond x (suc q) (last_to q (either s t))) (some-letter d))
  ]

  more : SeenTo s t (q + 1) (seen_with r (get_or s (q + 1) 0) (get_or t (q + 1) 0) q)
  unfolding seen_with
  more = record {
    first = i.first;
    second = i.second;
    within = omega arith;
    small = smaller;
    last = last_more ∙ ap (λ (j : ℕ). last_to j (either s t)) (sym (add-one q));
  }

  pub seen_more : {n : Sight} → n ≡ seen_with r (get_or s (q + 1) 0) (get_or t (q + 1) 0) q → SeenTo s t (q + 1) n
  seen_more e = rw e more

-- what is seen with the pair that a turn of the loop takes from the two strings
pub seen_pair : {s t : List ℕ} {q k x y : ℕ} {r n : Sight} → SeenTo s t q r → q < length (from 1 s) → k ≡ q → x ≡ get_or (from 1 s) q 0 → y ≡ get_or (from 1 t) q 0
    → n ≡ seen_with r x y k → SeenTo s t (q + 1) n
seen_pair {s} {t} {q} {r = r} i l ek ex ey e =
    seen_more i (omega (arith, l, length_from 1 s, i.first)) (e ∙ (λ j. seen_with r ((ex ∙ here s) j) ((ey ∙ here t) j) (ek j)))
  where
    here : (u : List ℕ) → get_or (from 1 u) q 0 ≡ get_or u (q + 1) 0
    here u = from_at u q ∙ ap (λ (j : ℕ). get_or u j 0) (sym (add-one q))

-- ---- what the pass has seen at its end, and what it says of what is not two strings
pub seen_all : {s t : List ℕ} {q : ℕ} {r : Sight} → SeenTo s t q r → q ≡ min (length (from 1 s)) (length (from 1 t)) → Looked s t r
unfolding strings_questions places_taken_of_records places_taken qubits
seen_all {s} {t} {q} i h =
    let whole : q ≡ 128 = omega (arith, h, length_from 1 s, length_from 1 t, i.first, i.second) in
    record {
      clean = λ l. sym (passed (sym (formed-good s (record { long = i.first; small = λ k b. omega (arith, (i.small k (omega (arith, i.first))).0) }))) refl
          (sym (formed-good t (record { long = i.second; small = λ k b. omega (arith, (i.small k (omega (arith, i.second))).1) }))));
      taken = λ d. i.last ∙ ap (λ (j : ℕ). last_to j (either s t)) whole;
    }

module _ {s t : List ℕ} where
  not-strings : (strings_questions s t ≡ Ok tt → ⊥) → Looked s t (record { largest = 255; places = 0 })
  not-strings h = record { clean = λ l. absurd (omega arith); taken = λ d. absurd (h d) }

  pub not_first : (length s ≡ 129 → ⊥) → Looked s t (record { largest = 255; places = 0 })
  unfolding strings_questions
  not_first h = not-strings (λ d. h (string-length s (done_first (string_questions s) (string_questions t) d)))

  pub not-second : (length t ≡ 129 → ⊥) → Looked s t (record { largest = 255; places = 0 })
  unfolding strings_questions
  not-second h = not-strings (λ d. h (string-length t (done_second (string_questions s) (string_questions t) d)))

pub ruleset looks = (seen_none, not_first, not-second, rules)

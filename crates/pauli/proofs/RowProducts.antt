-- Rows multiplied and compared place by place: what a loop has done before a place, and what a caller reads off the contracts.
use Rattle.std.proofs.Common.{◌≡◌, ℕ, zero, suc, ◌+◌, ◌%◌, ◌<◌, ◌≤◌, max, Bool, cond, List, ◌++◌, length, get_or, take, drop, set, sym, refl, ap, ◌∙◌, ap₂, append-nil, zero-le, add-one, arith, drop_of_length-le, length-take, rules}
use Rattle.std.proofs.lemmas.List.{get_or-take}
use lib.ListN.{get_or-append}
use Rattle.pauli_group.specs.Phase.{◌·◌}
use Rattle.pauli_group.specs.Letter.{letter_phase, letter_mul, anticommute, not_i}
use Rattle.pauli_group.specs.PauliString.{PauliString, qubits, product_to, count_to, anticommuting_places, has_letter, weight_to, Within}
use Rattle.pauli_group.specs.Papers.{power}
use Rattle.pauli_group.proofs.Laws.{·_assoc, ·-one, anticommute-I}
use Rattle.pauli_group.proofs.Products.{count_to_le, count_to_ext, count_to-cut}
use Rattle.pauli.specs.Layout.{phase_byte, phase_of, letter_byte, letter_of}
use Rattle.pauli.specs.Rows.{product_phase_byte, product_letter_byte, letter_bytes_product, letter_at, product_letters, product_phase, places_of, letter_count, shorter, RowTimes}
use Rattle.pauli.specs.Inside.Turns.{LetterTurns, PhaseTurns, anticommuting, lettered}
use Rattle.pauli.specs.declared.rows.LetterScan.{LetterScan}
use Rattle.pauli.proofs.Places.{length-listed, get_d_listed, LargestTo, fill, fill_more, fill_all, fill_at}
use Rattle.pauli.proofs.Records.{phase-back}
use Rattle.pauli.proofs.Turns.{power_sum}

length-letters : (n : ℕ) (a b : List ℕ) → length (product_letters n a b) ≡ n
unfolding product_letters
length-letters n a b = length-listed n _

letter_here_lem : (n : ℕ) (a b : List ℕ) (i : ℕ) → i < n → letter_byte (letter_mul (letter_at a i) (letter_at b i)) ≡ get_or (product_letters n a b) i 0
unfolding product_letters
letter_here_lem n a b i h = sym (get_d_listed n _ i 0 h)

phase-more : (a b : List ℕ) (i : ℕ) → product_phase (i + 1) a b ≡ product_phase i a b · letter_phase (letter_at a i) (letter_at b i)
unfolding product_phase product_to
phase-more a b i = rw (add-one i)

-- ---- the first n places of the row a, multiplied by b as far as place i, and the turns so far
pub record Before (a b : List ℕ) (p n i : ℕ) (e : List ℕ) (s : ℕ) : Type 0 where
  pub out : e ≡ fill (product_letters n a b) (take n a) i
  pub turns : power s ≡ phase_of p · product_phase i a b

pub before-none : {a b : List ℕ} {p n s : ℕ} → PhaseTurns p s → Before a b p n 0 (take n a) s
unfolding product_phase product_to
before-none {a} {b} {p} h = record { out = refl; turns = h.is ∙ sym (·-one (phase_of p)) }

pub before-step : {a b : List ℕ} {p n i : ℕ} {e : List ℕ} {s : ℕ} → n ≡ shorter a b → i < length (take n a) → Before a b p n i e s
    → {t u x : ℕ} → LetterTurns (get_or e i 0) (get_or b i 0) t → u ≡ (s + t) % 256
    → x ≡ letter_byte (letter_mul (letter_of (get_or e i 0)) (letter_of (get_or b i 0)))
    → Before a b p n (i + 1) (set e i x) u
unfolding letter_at
before-step {a} {b} {p} {n} {i} {e} {s} h k m {t} {u} {x} et eu ex =
    let row = product_letters n a b in
    let l : length row ≡ n = length-letters n a b in
    let below : i < n = omega (arith, length-take n a) in
    let here : get_or e i 0 ≡ get_or a i 0 =
    ap (λ (l : List ℕ). get_or l i 0) m.out ∙ fill_at i row (take n a) (omega arith) k ∙ get_or-take n a i 0 below in
    record {
      out = ap (λ (z : List ℕ). set z i x) m.out ∙ fill_more row (take n a) i x (omega arith) k (rw here at ex ∙ letter_here_lem n a b i below);
      turns = ap power eu ∙ power_sum s t ∙ ap₂ ◌·◌ m.turns (rw here at et.is)
          ∙ ·_assoc (phase_of p) (product_phase i a b) _ ∙ ap (λ y. phase_of p · y) (sym (phase-more a b i));
    }

pub before_all : {a b : List ℕ} {p n i : ℕ} {e : List ℕ} {s r : ℕ} → n ≡ shorter a b → length (take n a) ≤ i → i ≤ length (take n a) → Before a b p n i e s
    → r ≡ phase_byte (power s) → RowTimes a b p (e ++ drop n a) r
before_all {a} {b} {p} {n} {i} {e} {s} h k w m er =
    let row = product_letters n a b in
    let l : length row ≡ n = length-letters n a b in
    let i_n : i ≡ n = omega (arith, length-take n a) in
    let whole : e ≡ row =
    m.out ∙ ap (fill row (take n a)) (i_n ∙ sym l) ∙ fill_all row (take n a)
    ∙ ap (λ (d : List ℕ). row ++ d) (drop_of_length-le (take n a) (omega arith)) ∙ append-nil row in
    record {
      letters = ap (λ (d : List ℕ). d ++ drop n a) whole ∙ ap (λ (j : ℕ). product_letters j a b ++ drop j a) h;
      total = er ∙ ap phase_byte m.turns ∙ ap (λ (j : ℕ). phase_byte (phase_of p · product_phase j a b)) (i_n ∙ h);
    }

-- ---- what a caller reads off `RowTimes`, place by place
pub row_made : {a b : List ℕ} {p : ℕ} {e : List ℕ} {r : ℕ} → RowTimes a b p e r → (i : ℕ) → i < shorter a b
    → get_or e i 0 ≡ letter_byte (letter_mul (letter_at a i) (letter_at b i))
row_made {a} {b} m i h =
    let n = shorter a b in
    ap (λ (l : List ℕ). get_or l i 0) m.letters
    ∙ get_or-append (product_letters n a b) (drop n a) 0 i (omega (arith, length-letters n a b))
    ∙ sym (letter_here_lem n a b i h)

-- the kernel agrees with `multiply_paulis` at every place, for all bytes
pub letter_of-place : {a b : List ℕ} {p : ℕ} {e : List ℕ} {r : ℕ} → RowTimes a b p e r → (i : ℕ) → i < shorter a b
    → get_or e i 0 ≡ (letter_bytes_product (get_or a i 0) (get_or b i 0)).1
unfolding letter_bytes_product product_letter_byte letter_at
letter_of-place m i h = row_made m i h

pub phase_of-places : (n : ℕ) (a b : List ℕ)
    → product_phase n a b ≡ product_to n (λ q. phase_of (letter_bytes_product (get_or a q 0) (get_or b q 0)).0)
unfolding product_phase letter_bytes_product product_phase_byte letter_at product_to
phase_of-places zero a b = refl
phase_of-places (suc n) a b = ap₂ ◌·◌ (phase_of-places n a b) (sym (phase-back (letter_phase (letter_of (get_or a n 0)) (letter_of (get_or b n 0)))))

-- ---- a count in one byte: what it has come to before place i of n
pub record Counted (f : ℕ → Bool) (n i c : ℕ) : Type 0 where
  pub within : i ≤ n
  pub is : c ≡ count_to i f % 256

pub counted_none : {f : ℕ → Bool} {n : ℕ} → Counted f n 0 0
unfolding count_to
counted_none = record { within = zero-le; is = refl }

counted_step : {f : ℕ → Bool} {n i c : ℕ} → i < n → Counted f n i c → {t u : ℕ} → t ≡ cond (f i) 1 0 → u ≡ (c + t) % 256 → Counted f n (i + 1) u
unfolding count_to
counted_step {f} {n} {i} {c} h m {t} et eu = record {
  within = omega arith;
  is = eu ∙ rw (add-one i, ← et) (omega (arith, m.is));
}

counted_end : {f : ℕ → Bool} {n i c : ℕ} → n ≤ i → Counted f n i c → c ≡ count_to n f % 256
counted_end {f} {n} {i} k m = let e : i ≡ n = omega (arith, m.within) in m.is ∙ ap (λ (j : ℕ). count_to j f % 256) e

-- the places at which two rows anticommute
unfoldable pub crosses : List ℕ → List ℕ → ℕ → Bool
crosses a b q = anticommute (letter_at a q) (letter_at b q)

pub crosses_step : (a b : List ℕ) {n i c : ℕ} → i < n → Counted (crosses a b) n i c → {t u : ℕ} → t ≡ anticommuting (get_or a i 0) (get_or b i 0) → u ≡ (c + t) % 256
    → Counted (crosses a b) n (i + 1) u
unfolding crosses letter_at anticommuting
crosses_step a b h m et eu = counted_step h m et eu

pub crosses_all : (a b : List ℕ) {n i c : ℕ} → n ≡ shorter a b → n ≤ i → Counted (crosses a b) n i c → c ≡ places_of (shorter a b) a b % 256
unfolding crosses places_of
crosses_all a b h k m = counted_end k m ∙ ap (λ (j : ℕ). places_of j a b % 256) h

-- the letters other than I of a row
unfoldable pub letter_here : List ℕ → ℕ → Bool
letter_here a q = not_i (letter_at a q)

pub letters-step : (a : List ℕ) {n i c : ℕ} → i < n → Counted (letter_here a) n i c → {t u : ℕ} → t ≡ lettered (get_or a i 0) → u ≡ (c + t) % 256
    → Counted (letter_here a) n (i + 1) u
unfolding letter_here letter_at lettered
letters-step a h m et eu = counted_step h m et eu

pub letters_all : (a : List ℕ) {i c : ℕ} → length a ≤ i → Counted (letter_here a) (length a) i c → c ≡ letter_count a % 256
unfolding letter_here letter_count
letters_all a k m = counted_end k m

-- both in one pass, the largest byte too
pub record ScannedTo (s : List ℕ) (i : ℕ) (r : LetterScan) : Type 0 where
  pub largest : LargestTo s i r.largest
  pub letters : Counted (letter_here s) (length s) i r.letters

-- up to 255 places the count is exact
count_exact : (n : ℕ) (a b : List ℕ) → n ≤ 255 → places_of n a b % 256 ≡ places_of n a b
unfolding places_of
count_exact n a b h = omega (arith, count_to_le n (λ q. anticommute (letter_at a q) (letter_at b q)))

-- so it is that of two strings whose letters stand in the rows, one of them with no letter beyond
pub places_of-rows : (s t : PauliString) (n : ℕ) (a b : List ℕ) → n ≤ qubits → ((q : ℕ) → q < n → letter_at a q ≡ s.letters q)
    → ((q : ℕ) → q < n → letter_at b q ≡ t.letters q) → Within n t → places_of n a b % 256 ≡ anticommuting_places s t
unfolding places_of anticommuting_places qubits
places_of-rows s t n a b h ea eb none =
    count_exact n a b (omega (arith, h)) ∙ count_to_ext n _ together (λ q l. ap₂ anticommute (ea q l) (eb q l))
    ∙ sym (count_to-cut n 128 together h (λ q l. ap (anticommute (s.letters q)) (none q l) ∙ anticommute-I (s.letters q)))
  where
    together : ℕ → Bool
    together q = anticommute (s.letters q) (t.letters q)

-- and so it is the weight of a string whose letters stand in the row
pub weight_of_row : (s : PauliString) (n : ℕ) (a : List ℕ) → n ≤ 255 → length a ≡ n → ((q : ℕ) → q < n → letter_at a q ≡ s.letters q)
    → letter_count a % 256 ≡ weight_to n s
unfolding letter_count weight_to has_letter
weight_of_row s n a h long e =
    let all : count_to (length a) (λ q. not_i (letter_at a q)) ≡ count_to n (λ q. not_i (s.letters q)) =
    ap (λ (j : ℕ). count_to j (λ q. not_i (letter_at a q))) long ∙ count_to_ext n _ _ (λ q l. ap not_i (e q l)) in
    omega (arith, count_to_le n (λ q. not_i (s.letters q)), all)

pub ruleset counts = (counted_none, crosses_step, crosses_all, letters-step, letters_all, rules)

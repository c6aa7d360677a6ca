-- The support of a tableau, read off the rows of its record.
use Rattle.std.proofs.Common.{◌≡◌, ℕ, zero, suc, ◌+◌, ◌-◌, ◌<◌, ◌≤◌, Bool, true, false, cond, not, ◌&&◌, ◌||◌, eqb, List, [], ◌∷◌, ◌++◌, length, get_or, take, drop, set, sym, refl, ap, ◌∙◌, subst, ap₂, append-nil, not-suc-le-zero, add-one, arith, length-append, length-drop, length-set, length-take, take_all, drop-drop, rules, eq-eqb, ne_eqb, Ok, Err, IsErrAnd, Option, Some, None}
use native.Mathlib.Decide.{dec_lt}
use Rattle.pauli_group.specs.Letter.{Letter, I, X, Z, Y, not_i}
use Rattle.pauli_group.specs.PauliString.{PauliString, has_letter, single}
use Rattle.clifford_group.specs.Tableau.{all_to}
use Rattle.pauli.specs.declared.refusal.Refusal.{Refusal}
use Rattle.pauli.specs.Answers.{written, CountWritten, Answer, Outcome}
use Rattle.pauli.specs.Questions.{room_question}
use Rattle.pauli.proofs.Asking.{first_not, first_done, room-is}
use Rattle.pauli.proofs.Answers.{number-done, number-exit}
use Rattle.clifford.specs.Questions.{tableau_questions, support_answer}
use Rattle.clifford.specs.Tableaux.{support_bytes}
use Rattle.clifford.proofs.Asking.{tableau-formed, checked}
use Rattle.pauli.specs.Layout.{phase_byte, phase_of, letter_byte}
use Rattle.pauli.proofs.Records.{phase-back}
use Rattle.clifford.specs.Layout.{row_of, width_of, tableau_of}
use Rattle.clifford.specs.Inside.Rows.{letter_bytes}
use Rattle.clifford.specs.Support.{is_plus_one, alike_at, is_single, changed_qubit, supports_qubit, some_to, places_with, in_support, support_qubits}
use Rattle.clifford.proofs.Rows.{row_inside, width_of_lem}
use Rattle.std.specs.List.{list_all, enumerate_from}
use Rattle.std.proofs.lemmas.List.{take_more, get_or_push}
use Rattle.std.proofs.lemmas.List.FromFn.{length-enumerate_from, get_or-enumerate_from}
use Rattle.clifford.proofs.Ranges.{all-range, all-numbered}
use Rattle.pauli.proofs.Places.{length-listed, get_d_listed}
use lib.ListN.{get_or-eq_default, get_or-append}

-- ---- a letter by its byte
byte-not_i : (s : PauliString) (k x : ℕ) → x ≡ letter_byte (s.letters k) → has_letter s k ≡ not (eqb x 0)
unfolding has_letter
byte-not_i s k x e = by (s.letters k) ∙ ap (λ (j : ℕ). not (eqb j 0)) (sym e)
  where
    by : (l : Letter) → not_i l ≡ not (eqb (letter_byte l) 0)
    by I = unfold not_i letter_byte in refl
    by X = unfold not_i letter_byte in refl
    by Z = unfold not_i letter_byte in refl
    by Y = unfold not_i letter_byte in refl

-- ---- a row
plus-is : (p : ℕ) → eqb p 0 ≡ is_plus_one (phase_of p)
unfolding is_plus_one phase_of
plus-is zero = refl
plus-is (suc zero) = refl
plus-is (suc (suc zero)) = refl
plus-is (suc (suc (suc p))) = ne_eqb (suc (suc (suc p))) 0 (omega arith)

module _ (t : List ℕ) (r : ℕ) {l : List ℕ} (el : l ≡ letter_bytes (tableau_of t) r) where
  pub letters-long : length l ≡ width_of t
  unfolding letter_bytes
  letters-long = ap length el ∙ length-listed (tableau_of t).width _ ∙ width_of_lem t

  -- also at the width and above, where there is none
  pub letter-byte : (c : ℕ) → get_or l c 0 ≡ letter_byte ((row_of (tableau_of t) r).letters c)
  unfolding letter_bytes letter_byte
  letter-byte c = elim (dec_lt c (width_of t)) [
    | yes h ↦ ap (λ (x : List ℕ). get_or x c 0) el ∙ get_d_listed (tableau_of t).width _ c 0 (omega (arith, width_of_lem t))
    | no h ↦ get_or-eq_default l 0 {n = c} (omega (arith, letters-long)) ∙ ap letter_byte (sym (row_inside t r c (omega arith)))
  ]

  pub letter_seen : (k : ℕ) {x : ℕ} → x ≡ get_or l k 0 → not (eqb x 0) ≡ has_letter (row_of (tableau_of t) r) k
  letter_seen k {x} e = sym (byte-not_i (row_of (tableau_of t) r) k x (e ∙ letter-byte k))

  module _ (a : Letter) (q : ℕ) where
    abbrev pub same : ℕ → Bool
    same = alike_at (row_of (tableau_of t) r) (single a q)

    -- a letter with its number
    abbrev pub byte_same : ℕ × ℕ → Bool
    byte_same p = eqb p.1 (letter_byte ((single a q).letters p.0))

    same-is : (c : ℕ) → byte_same (0 + c, get_or l c 0) ≡ same (0 + c)
    unfolding alike_at
    same-is c =
        let none : 0 + c ≡ c = omega arith in
        ap (λ (j : ℕ). eqb j (letter_byte ((single a q).letters (0 + c)))) (letter-byte c ∙ ap (λ (j : ℕ). letter_byte ((row_of (tableau_of t) r).letters j)) (sym none))

    pub single-is : {p : ℕ} {b : Bool} → p ≡ phase_byte (row_of (tableau_of t) r).phase → b ≡ list_all byte_same (enumerate_from 0 l)
        → eqb p 0 && b ≡ is_single (width_of t) a q (row_of (tableau_of t) r)
    unfolding is_single
    single-is {p} ep eb =
        ap₂ (λ x y. x && y) (plus-is p ∙ ap is_plus_one (ap phase_of ep ∙ phase-back _)) (eb ∙ all-numbered l 0 byte_same same (λ c h. same-is c) ∙ all-range (length l) same ∙ ap (λ (j : ℕ). all_to j same) letters-long)

pub ruleset letters_seen = (letter_seen, rules)

-- ---- a qubit, by its rows
module _ (t : List ℕ) (q : ℕ) {s u : PauliString} (es : s ≡ (tableau_of t).x_image q) (eu : u ≡ (tableau_of t).z_image q) {a b : Bool} where
  pub changed_is : {x z : List ℕ} → x ≡ t → z ≡ t → a ≡ is_single (width_of x) X q s → b ≡ is_single (width_of z) Z q u → not (a && b) ≡ changed_qubit (tableau_of t) q
  unfolding changed_qubit
  changed_is dx dz ea eb =
      ap₂ (λ i j. not (i && j)) (ea ∙ ap₂ (λ (w : ℕ) (v : PauliString). is_single w X q v) (ap width_of dx ∙ sym (width_of_lem t)) es)
      (eb ∙ ap₂ (λ (w : ℕ) (v : PauliString). is_single w Z q v) (ap width_of dz ∙ sym (width_of_lem t)) eu)

pub support-is : (t : List ℕ) (k : ℕ) {n : ℕ} → n ≡ width_of t → some_to n (supports_qubit (tableau_of t) k) ≡ in_support (tableau_of t) k
unfolding in_support
support-is t k e = ap (λ (j : ℕ). some_to j (supports_qubit (tableau_of t) k)) (e ∙ sym (width_of_lem t))

-- ---- the places counted and written
places-below : (n : ℕ) (f : ℕ → Bool) (i d : ℕ) → i < length (places_with n f) → get_or (places_with n f) i d < n
unfolding places_with
places-below zero f i d h = absurd (not-suc-le-zero h)
places-below (suc n) f i d h = by (places_with n f) (places-below n f i d) (f n) h
  where
    by : (p : List ℕ) → (i < length p → get_or p i d < n) → (b : Bool) → i < length (p ++ cond b (n ∷ []) []) → get_or (p ++ cond b (n ∷ []) []) i d < suc n
    by p k false l =
        let e : p ++ [] ≡ p = append-nil p in
        omega (arith, k (omega (arith, ap length e)), ap (λ (x : List ℕ). get_or x i d) e)
    by p k true l = elim (dec_lt i (length p)) [
      | yes h ↦ omega (arith, k h, get_or-append p (n ∷ []) d i h)
      | no h ↦ omega (arith, get_or_push p n d i (omega (arith, length-append p (n ∷ []))))
    ]

pub places-all : (t : List ℕ) {n : ℕ} → n ≡ width_of t → places_with n (in_support (tableau_of t)) ≡ support_qubits (tableau_of t)
unfolding support_qubits
places-all t e = ap (λ (j : ℕ). places_with j (in_support (tableau_of t))) (e ∙ sym (width_of_lem t))

set_front : (p d : List ℕ) (v : ℕ) → 0 < length d → set (p ++ d) (length p) v ≡ (p ++ (v ∷ [])) ++ drop 1 d
set_front [] [] v h = absurd (not-suc-le-zero h)
set_front [] (x ∷ d) v h = refl
set_front (y ∷ p) d v h = ap (λ (l : List ℕ). y ∷ l) (set_front p d v h)

pub support-small : (t : List ℕ) (i d : ℕ) → width_of t ≤ 128 → i < length (support_qubits (tableau_of t)) → get_or (support_qubits (tableau_of t)) i d ≤ 127
unfolding support_qubits
support-small t i d h l = omega (arith, places-below (tableau_of t).width (in_support (tableau_of t)) i d l, width_of_lem t)

-- e is d with the first c numbers of s over its front
abbrev pub WroteTo : (s d : List ℕ) (c : ℕ) (e : List ℕ) → Type 0
WroteTo s d c e = e ≡ take c s ++ drop c d

-- after c of them k comes, under the number p
pub record Comes (s : List ℕ) (c p k : ℕ) : Type 0 where
  pub there : c < length s
  pub number : p ≡ c
  pub is : k ≡ get_or s c k

pub comes : {s u : List ℕ} {c p k : ℕ} → u ≡ s → (c < length (enumerate_from 0 u)) × ((p, k) ≡ get_or (enumerate_from 0 u) c (p, k)) → Comes s c p k
comes {s} {u} {c} {p} {k} e h =
    let there : c < length u = omega (arith, length-enumerate_from 0 u, h.0) in
    let pair = h.1 ∙ get_or-enumerate_from 0 u c (p, k) there in
    record {
      there = omega (arith, there, ap length e);
      number = omega (arith, ap (λ (x : ℕ × ℕ). x.0) pair);
      is = ap (λ (x : ℕ × ℕ). x.1) pair ∙ ap (λ (l : List ℕ). get_or l c k) e;
    }

module _ (s d : List ℕ) {c p k : ℕ} {e : List ℕ} (room : length s ≤ length d) (m : WroteTo s d c e) (h : Comes s c p k) where
  front : length (take c s) ≡ c
  front = omega (arith, length-take c s, h.there)

  pub wrote_place : p < length e
  wrote_place = omega (arith, h.number, h.there, ap length m, length-append (take c s) (drop c d), length-drop c d, front)

  pub wrote_more : WroteTo s d (c + 1) (set e p k)
  wrote_more =
      ap₂ (λ (l : List ℕ) (j : ℕ). set l j k) m (h.number ∙ sym front)
      ∙ set_front (take c s) (drop c d) k (omega (arith, length-drop c d, h.there))
      ∙ ap₂ ◌++◌ (ap (λ (j : ℕ). take c s ++ j ∷ []) h.is ∙ sym (take_more s c k h.there)) (drop-drop 1 c d)

pub wrote_all : (s d : List ℕ) {c : ℕ} {e : List ℕ} → c ≡ length s → WroteTo s d c e → e ≡ written (Ok tt) s d
unfolding written
wrote_all s d {c} h m = m ∙ ap₂ (λ (l : List ℕ) (j : ℕ). l ++ drop j d) (take_all c s (omega arith)) h

-- ---- the answer
module _ (t : List ℕ) (h : Ok tt ≡ tableau_questions t) {c : ℕ} (k : c ≡ length (support_qubits (tableau_of t))) where
  support_room : (room : ℕ) {q : Outcome} → q ≡ room_question c room → q ≡ support_answer t room
  unfolding support_answer
  support_room room e = first_done h (e ∙ ap (λ (j : ℕ). room_question j room) k)

  pub support_no_room : {r : Answer ℕ} {x : Refusal} (d : List ℕ) → Err x ≡ room_question c (length d) → IsErrAnd r (λ e. e ≡ x)
      → CountWritten (support_answer t (length d)) (support_bytes t) d d r
  support_no_room d e w = number-exit _ _ d (support_room (length d) e) w

  pub support_done : {d e : List ℕ} → Ok tt ≡ room_question c (length d) → e ≡ written (Ok tt) (support_qubits (tableau_of t)) d
      → CountWritten (support_answer t (length d)) (support_bytes t) d e (Ok c)
  unfolding support_bytes
  support_done {d} e w = number-done (support_room (length d) e) k w

pub support_refused : (t : List ℕ) {r : Answer ℕ} {x : Refusal} (d : List ℕ) → Err x ≡ tableau_questions t → IsErrAnd r (λ e. e ≡ x)
    → CountWritten (support_answer t (length d)) (support_bytes t) d d r
unfolding support_answer
support_refused t d h e = number-exit _ _ d (first_not _ h) e

pub support_fits : {n c : ℕ} (room : ℕ) → c ≡ n → Ok tt ≡ room_question c room → n ≤ room
support_fits {c = c} room k e = omega (arith, k, room-is c room (sym e))

pub ruleset support_answers = (checked, support_refused, support_no_room, support_fits, support_done, rules)

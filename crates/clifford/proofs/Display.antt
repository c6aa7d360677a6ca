-- The display text: its parts written one after another, its lines in their order, and the whole.
use Rattle.std.proofs.Common.{◌≡◌, ℕ, zero, suc, ◌+◌, ◌-◌, ◌*◌, ◌/◌, ◌%◌, ◌<◌, ◌≤◌, min, true, false, cond, ◌&&◌, eqb, List, [], ◌∷◌, ◌++◌, length, take, drop, sym, refl, ap, ◌∙◌, ap₂, append_assoc, add-one, arith, length-append, drop_of_length-le, drop-cons, w64, Fits, rules, le-ltb, lt-ltb, eq-eqb, ne_eqb, Ok, Err}
use native.Mathlib.Decide.{ℕ_discrete}
use Rattle.pauli_group.specs.Phase.{◌·◌, negate, turn}
use Rattle.pauli_group.specs.Letter.{Letter, X, Z, letter_phase, letter_mul, letter_product}
use Rattle.pauli_group.specs.PauliString.{PauliString, qubits, product_to, phase_of_letters, mul, identity_string, scale, single}
use Rattle.clifford_group.specs.Tableau.{Tableau, identity_tableau, row_image, image_of, apply_to, apply, widen, compose}
use Rattle.clifford_gates.specs.Gates.{one_qubit_gates, two_qubit_gates}
use Rattle.clifford_gates.specs.GateTableaux.{image_string, gate_on_each, on_qubit, pair_string, pair_row, on_qubits}
use Rattle.clifford_gates.specs.GateNumbers.{one_qubit_gate, two_qubit_gate, gate_tableau}
use Rattle.pauli.specs.QuotedText.{bytes_of}
use Rattle.pauli.specs.Places.{listed}
use Rattle.pauli.specs.declared.refusal.Refusal.{Refusal}
use Rattle.pauli.specs.Answers.{written, CountWritten, Outcome}
use Rattle.pauli.specs.Layout.{phase_byte, phase_of, letter_byte, letter_of}
use Rattle.pauli.specs.Questions.{room_question}
use Rattle.pauli.specs.Rows.{letter_at}
use Rattle.pauli.specs.SparseText.{digits_to, decimal, prefix_text, letter_text, entry_word, words_at, body_text, entry_words, sparse_text_to, sparse_text, row_string, row_text, spaced}
use Rattle.pauli.specs.declared.text_writer.TextWriter.{TextWriter}
use Rattle.pauli.specs.TextWriters.{Put}
use Rattle.pauli.specs.Inside.TextWriting.{TextWritten}
use Rattle.pauli.proofs.Answers.{number-done, number-exit}
use Rattle.pauli.proofs.Asking.{exit_not, first_not, first_done, done_first, done_second, room-is}
use Rattle.pauli.proofs.Decimals.{decimal-most}
use Rattle.pauli.proofs.SparseTexts.{text-length}
use Rattle.pauli.proofs.StringTexts.{words_ext, text-within, copied-whole, text_same}
use Rattle.pauli.proofs.TextWriters.{put_none, put_join, put_as, put_whole}
use Rattle.clifford.specs.Display.{name_text, qubits_text, arrow_text, header_text, generator_text, label_text, line_text, display_row, lines_text, display_text, text_of_tableau, display_answer, starts_with}
use Rattle.clifford.specs.Layout.{letter_place, letter_in, row_length, row_offset, encode_row, decode_row, tableau_record, row_of, row_part, joined, width_of, tableau_of, FormedTableau, row_qubit, row_letter}
use Rattle.clifford.specs.Questions.{tableau_questions}
use Rattle.clifford.specs.Tableaux.{identity_record, compose_record}
use Rattle.clifford.specs.GateAnswers.{gate_record}
use Rattle.clifford.specs.Inside.Rows.{OwnRow, RowIndex, letter_bytes}
use Rattle.clifford.proofs.Joining.{joined-more}
use Rattle.clifford.proofs.RowWriting.{qubit-below}
use Rattle.clifford.proofs.Rows.{row-x, row-z, row_inside, width_of_lem}
use Rattle.clifford.proofs.SupportQubits.{letters-long, letter-byte}
use Rattle.pauli.proofs.Records.{phase-back, letter-back}
use Rattle.clifford.proofs.Asking.{tableau-formed, checked}

-- ---- the sparse text of a row
module _ (t : List ℕ) (r : ℕ) (narrow : width_of t ≤ 128) (p : ℕ) {l : List ℕ} (ep : p ≡ phase_byte (row_of (tableau_of t) r).phase) (el : l ≡ letter_bytes (tableau_of t) r) where
  abbrev w : ℕ
  w = width_of t

  abbrev S : PauliString
  S = row_of (tableau_of t) r

  letter : (q : ℕ) → q < w → letter_at l q ≡ S.letters q
  unfolding letter_at
  letter q h = ap letter_of (letter-byte t r el q) ∙ letter-back (S.letters q)

  row_is : row_text p l ≡ sparse_text S
  unfolding row_text row_string sparse_text_to qubits
  row_is =
      let all : min (length l) 128 ≡ w = omega (arith, letters-long t r el, narrow) in
      ap (λ (j : ℕ). prefix_text (phase_of p) ++ body_text (entry_words j (letter_at l))) all
      ∙ ap₂ (λ x ws. prefix_text x ++ body_text ws) (ap phase_of ep ∙ phase-back S.phase) (words_ext w (letter_at l) S.letters letter) ∙ text-within w S narrow (row_inside t r)

-- ---- the header
pub header_put : (n : ℕ) {s t u v : TextWriter} → Put name_text s t → Put (decimal n) t u → Put qubits_text u v → Put (header_text n) s v
unfolding header_text
header_put n x y z = put_join x (put_join y z)

-- ---- a label
pub label_put : (w r : ℕ) {q : ℕ} {s t u v x : TextWriter} → q ≡ row_qubit w r → Put (32 ∷ 32 ∷ []) s t
    → Put (letter_text (row_letter w r) ∷ 95 ∷ []) t u → Put (decimal q) u v → Put arrow_text v x → Put (label_text (row_letter w r) (row_qubit w r)) s x
unfolding label_text generator_text
label_put w r e a b c d = put_join a (put_join (put_as (ap (λ (q : ℕ). letter_text (row_letter w r) ∷ 95 ∷ decimal q) e) (put_join b c)) d)

-- ---- a line
pub line_place : {b : List ℕ} {r n : ℕ} → OwnRow b r → n ≡ width_of b → RowIndex n r
line_place o e = record { narrow = omega (arith, o.tableau.narrow); own = omega (arith, o.own) }

pub ruleset line_places = (line_place, rules)

pub line_put : {t : List ℕ} {r n p : ℕ} {l : List ℕ} {s u v x : TextWriter} → OwnRow t r → n ≡ width_of t → p ≡ phase_byte (row_of (tableau_of t) r).phase
    → l ≡ letter_bytes (tableau_of t) r → Put (label_text (row_letter n r) (row_qubit n r)) s u → Put (row_text p l) u v → Put (10 ∷ []) v x
    → Put (line_text (tableau_of t) r) s x
unfolding line_text
line_put {t} {r} {n} {p} o en ep el a b c =
    put_as
    (ap (λ (j : ℕ). label_text (row_letter j r) (row_qubit j r) ++ (sparse_text (row_of (tableau_of t) r) ++ (10 ∷ []))) (en ∙ sym (width_of_lem t)))
    (put_join a (put_join (put_as (row_is t r o.tableau.narrow p ep el) b) c))

-- ---- the order of the lines
pub order_even : (w i : ℕ) → i % 2 ≡ 0 → i / 2 ≡ display_row w i
unfolding display_row
order_even w i h = sym (ap (λ b. cond b (i / 2) (w + i / 2)) (eq-eqb (i % 2) 0 h))

pub order_odd : (w i : ℕ) → (i % 2 ≡ 0 → ⊥) → w + i / 2 ≡ display_row w i
unfolding display_row
order_odd w i h = sym (ap (λ b. cond b (i / 2) (w + i / 2)) (ne_eqb (i % 2) 0 h))

pub order_below : (w i : ℕ) → i < 2 * w → display_row w i < 2 * w
order_below w i h = elim (ℕ_discrete (i % 2) 0) [
  | yes e ↦ omega (arith, order_even w i e)
  | no e ↦ omega (arith, order_odd w i e)
]

-- X of qubit q, then Z of qubit q
pub order_x : (w q : ℕ) → display_row w (2 * q) ≡ q
order_x w q =
    let even : 2 * q % 2 ≡ 0 = omega arith in
    let half : 2 * q / 2 ≡ q = omega arith in
    sym (order_even w (2 * q) even) ∙ half

pub order_z : (w q : ℕ) → display_row w (2 * q + 1) ≡ w + q
order_z w q =
    let one : (2 * q + 1) % 2 ≡ 1 = omega arith in
    let half : w + (2 * q + 1) / 2 ≡ w + q = omega arith in
    sym (order_odd w (2 * q + 1) (λ z. absurd (never one z))) ∙ half
  where
    never : (2 * q + 1) % 2 ≡ 1 → (2 * q + 1) % 2 ≡ 0 → ⊥
    never a b = omega arith

-- so the lines of qubit q are those of its images
abbrev pub image_line : Letter → ℕ → PauliString → List ℕ
image_line l q s = label_text l q ++ (sparse_text s ++ (10 ∷ []))

pub line_x : (t : Tableau) (q : ℕ) → q < t.width → line_text t (display_row t.width (2 * q)) ≡ image_line X q (t.x_image q)
unfolding line_text row_letter row_qubit
line_x t q h =
    let w = t.width in
    ap (line_text t) (order_x w q)
    ∙ ap₂ (λ b s. image_line (cond b X Z) (cond b q (q - w)) s) (lt-ltb q w h) (row-x t q h)

pub line-z : (t : Tableau) (q : ℕ) → line_text t (display_row t.width (2 * q + 1)) ≡ image_line Z q (t.z_image q)
unfolding line_text row_letter row_qubit
line-z t q =
    let w = t.width in
    let same : w + q - w ≡ q = omega arith in
    ap (line_text t) (order_z w q)
    ∙ ap₂ (λ b s. image_line (cond b X Z) (cond b (w + q) (w + q - w)) s) (le-ltb (w + q) w (omega arith)) (row-z t q)
    ∙ ap (λ (j : ℕ). image_line Z j (t.z_image q)) same

-- ---- lengths
pub decimal-short : (n : ℕ) → n ≤ 128 → length (decimal n) ≤ 3
decimal-short n h = decimal-most 2 n (omega arith)

header_short : (n : ℕ) → n ≤ 128 → length (header_text n) ≤ 24
unfolding header_text
header_short n h = omega (arith, length-append name_text (decimal n ++ qubits_text), length-append (decimal n) qubits_text, decimal-short n h)

label_short : {w r : ℕ} → w ≤ 128 → r < 2 * w → length (label_text (row_letter w r) (row_qubit w r)) ≤ 11
unfolding label_text generator_text
label_short {w} {r} h l = omega (arith, length-append (decimal (row_qubit w r)) arrow_text, decimal-short (row_qubit w r) (omega (arith, qubit-below w r refl l)))

line-short : (t : Tableau) (r : ℕ) → t.width ≤ 128 → r < 2 * t.width → length (line_text t r) ≤ 543
unfolding line_text
line-short t r h l =
    let label = label_text (row_letter t.width r) (row_qubit t.width r) in
    let image = sparse_text (row_of t r) in
    omega (arith, length-append label (image ++ (10 ∷ [])), length-append image (10 ∷ []), label_short h l, text-length (row_of t r))

lines_short : (t : Tableau) → t.width ≤ 128 → (i : ℕ) → i ≤ 2 * t.width → length (lines_text t i) ≤ i * 543
unfolding lines_text joined
lines_short t h zero l = omega arith
lines_short t h (suc i) l =
    let line : ℕ → List ℕ = λ j. line_text t (display_row t.width j) in
    omega (
      arith,
      length-append (joined i line) (line i),
      lines_short t h i (omega arith),
      line-short t (display_row t.width i) h (order_below t.width i (omega arith)),
    )

display_short : (t : Tableau) → t.width ≤ 128 → length (display_text t) ≤ 140000
unfolding display_text
display_short t h =
    let w = t.width in
    omega (arith, length-append (header_text w) (10 ∷ lines_text t (2 * w)), header_short w h, lines_short t h (2 * w) (omega arith))

-- ---- the loop that writes the lines of each qubit: those of q qubits so far
pub record Lines (t : List ℕ) (q : ℕ) (s u : TextWriter) : Type 0 where
  pub text : Put (lines_text (tableau_of t) (2 * q)) s u

pub lines_none : (t : List ℕ) {s : TextWriter} → Lines t 0 s s
unfolding lines_text joined
lines_none t = record { text = put_none }

module _ {t : List ℕ} {q : ℕ} {s u : TextWriter} (m : Lines t q s u) where
  two_more : {v x : TextWriter} → Put (line_text (tableau_of t) q) u v → Put (line_text (tableau_of t) (width_of t + q)) v x → Lines t (q + 1) s x
  unfolding lines_text
  two_more a b = record { text = put_as more (put_join (put_join m.text a) b) }
    where
      T : Tableau
      T = tableau_of t

      line : ℕ → List ℕ
      line i = line_text T (display_row T.width i)

      more : (joined (2 * q) line ++ line_text T q) ++ line_text T (width_of t + q) ≡ joined (2 * (q + 1)) line
      more =
          ap₂ (λ (i j : ℕ). (joined (2 * q) line ++ line_text T i) ++ line_text T j) (sym (order_x T.width q))
          (ap (λ (j : ℕ). j + q) (sym (width_of_lem t)) ∙ sym (order_z T.width q))
          ∙ ap (λ (l : List ℕ). l ++ line (2 * q + 1)) (sym (joined-more (2 * q) line))
          ∙ ap₂ (λ (i : ℕ) (j : ℕ). joined i line ++ line j) (sym (add-one (2 * q))) refl
          ∙ sym (joined-more (2 * q + 1) line) ∙ ap (λ (j : ℕ). joined j line) (omega arith)

  -- of the rows of a qubit p of b
  module _ {b x z : List ℕ} {p i j : ℕ} (eb : b ≡ t) (ep : p ≡ q) (ex : x ≡ b) (ei : i ≡ p) (ez : z ≡ b) (ej : j ≡ width_of b + p) where
    pub lines_more : {v w : TextWriter} → Put (line_text (tableau_of x) i) u v → Put (line_text (tableau_of z) j) v w → Lines t (q + 1) s w
    lines_more a c =
        two_more (put_as (ap₂ (λ (l : List ℕ) (r : ℕ). line_text (tableau_of l) r) (ex ∙ eb) (ei ∙ ep)) a)
        (put_as (ap₂ (λ (l : List ℕ) (r : ℕ). line_text (tableau_of l) r) (ez ∙ eb) (ej ∙ ap₂ (λ (l : List ℕ) (r : ℕ). width_of l + r) eb ep)) c)

pub lines_written : {t d e : List ℕ} {n q r : ℕ} {s u v w : TextWriter} → n ≡ width_of t → n ≤ 128 → q ≤ n → n ≤ q → s.at ≡ 0 → s.dst.now ≡ d
    → Put (header_text n) s u → Put (10 ∷ []) u v → Lines t q v w → e ≡ w.dst.now → r ≡ w.at → TextWritten (text_of_tableau t) d e r
unfolding text_of_tableau display_text
lines_written {t} {n = n} {q} e narrow l m f i a b c =
    let w = (tableau_of t).width in
    let en : n ≡ w = e ∙ sym (width_of_lem t) in
    let end : 2 * q ≡ 2 * w = omega arith in
    put_whole (omega (arith, display_short (tableau_of t) (omega arith))) f i
    (put_as (ap₂ (λ (j : ℕ) (k : ℕ). header_text j ++ (10 ∷ lines_text (tableau_of t) k)) en end) (put_join a (put_join b c.text)))

-- ---- the questions, and what is written
pub display_refused : (t : List ℕ) {x : Refusal} (room : ℕ) → Err x ≡ tableau_questions t → Err x ≡ display_answer t room
unfolding display_answer
display_refused t room h = first_not _ h

pub display_asked : (t : List ℕ) {q : Outcome} {n : ℕ} (room : ℕ) → Ok tt ≡ tableau_questions t → n ≡ length (text_of_tableau t)
    → q ≡ room_question n room → q ≡ display_answer t room
unfolding display_answer
display_asked t room h c q = first_done h (q ∙ ap (λ (k : ℕ). room_question k room) c)

module _ (t d : List ℕ) (h : Ok tt ≡ display_answer t (length d)) where
  pub display_formed : FormedTableau t
  unfolding display_answer
  display_formed = tableau-formed t (done_first _ _ (sym h))

  room : length (text_of_tableau t) ≤ length d
  unfolding display_answer
  room = room-is _ (length d) (done_second (tableau_questions t) _ (sym h))

  pub display_done : {e : List ℕ} {n : ℕ} → TextWritten (text_of_tableau t) d e n → CountWritten (display_answer t (length d)) (text_of_tableau t) d e (Ok n)
  display_done a = number-done h a.count (a.bytes ∙ copied-whole (text_of_tableau t) d room)

pub ruleset displays = (checked, exit_not, display_refused, display_asked, display_formed, display_done, text_same, number-exit, rules)

-- ---- whether a text starts with another
-- every display text starts with its name
starts_append : (p s : List ℕ) → starts_with p (p ++ s) ≡ true
unfolding starts_with
starts_append [] s = refl
starts_append (x ∷ p) s = ap₂ (λ a b. a && b) (eq-eqb x x refl) (starts_append p s)

named : (t : Tableau) → display_text t ≡ name_text ++ ((decimal t.width ++ qubits_text) ++ (10 ∷ lines_text t (2 * t.width)))
unfolding display_text header_text
named t = append_assoc name_text (decimal t.width ++ qubits_text) (10 ∷ lines_text t (2 * t.width))

pub display_named : (t : Tableau) → starts_with name_text (display_text t) ≡ true
display_named t = ap (starts_with name_text) (named t) ∙ starts_append name_text _

-- and so does a destination to which one was written
pub written_named : (t d : List ℕ) → starts_with name_text (written (Ok tt) (text_of_tableau t) d) ≡ true
unfolding written text_of_tableau
written_named t d =
    let rest = (decimal (tableau_of t).width ++ qubits_text) ++ (10 ∷ lines_text (tableau_of t) (2 * (tableau_of t).width)) in
    let after = drop (length (display_text (tableau_of t))) d in
    ap (λ (l : List ℕ). starts_with name_text (l ++ after)) (named (tableau_of t))
    ∙ ap (starts_with name_text) (append_assoc name_text rest after) ∙ starts_append name_text _

-- the scope document's example: H on 0, then CX from 0 to 1
pub display_reading : text_of_tableau (compose_record (gate_record 24 0 1) (compose_record (gate_record 4 0 0) (identity_record 2)))
    ≡ bytes_of "CliffordRep(2 qubits):\n  X_0 -> +Z0\n  Z_0 -> +X0 X1\n  X_1 -> +X1\n  Z_1 -> +Z0 Z1\n"
unfolding text_of_tableau display_text header_text lines_text line_text label_text generator_text display_row joined row_of row_letter row_qubit tableau_of row_part row_offset row_length letter_place letter_in decode_row letter_text sparse_text sparse_text_to qubits prefix_text entry_words words_at entry_word decimal digits_to body_text spaced phase_of letter_of compose_record gate_record gate_tableau one_qubit_gate one_qubit_gates two_qubit_gate two_qubit_gates on_qubit on_qubits gate_on_each image_string pair_string pair_row tableau_record encode_row listed compose widen apply apply_to image_of row_image identity_string single scale mul phase_of_letters product_to letter_phase letter_mul letter_product ◌·◌ negate turn phase_byte letter_byte identity_record identity_tableau
display_reading = refl

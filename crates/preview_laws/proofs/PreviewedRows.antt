-- A preview shows the row that composing, or playing a gate, leaves in the record; and where it is refused.
use mathlib.Core.Path.{◌≡◌, sym, ap, ap₂, ◌∙◌, subst}
use mathlib.Core.List.{List, [], ◌∷◌, ◌++◌, append_assoc, append-nil}
use mathlib.Core.Logic.{◌↔◌}
use Prim.Native.Nat.{ℕ, zero, suc, ◌+◌, ◌*◌, ◌-◌, ◌≤◌, ◌<◌}
use native.Mathlib.Omega.{arith}
use lib.ListN.{length, take, drop, length-drop, get_or-append}
use lib.Seq.{take-append_seam, drop-append_seam, take-append-le, drop-append-le}
use Rattle.pauli_group.specs.Letter.{I}
use Rattle.pauli_group.specs.PauliString.{PauliString, qubits, Within}
use Rattle.clifford_group.specs.Tableau.{Clifford}
use Rattle.clifford_group.specs.Conjugation.{Generator, of_x, of_z, row}
use Rattle.clifford_gates.specs.GateNumbers.{gate_tableau}
use Rattle.pauli.specs.declared.refusal.Refusal.{Refusal}
use Rattle.pauli.specs.declared.refusal.Refusal.TheVariants.{Room, Slot}
use Rattle.pauli.specs.Answers.{written, Written, Outcome}
use Rattle.pauli.specs.Places.{listed}
use Rattle.pauli.specs.Layout.{phase_byte, letter_byte, encode_string, string_length, string_record}
use Rattle.pauli.specs.Questions.{◌and_then◌, room_question}
use Rattle.pauli.proofs.Asking.{and_then_done, done_both, done_first, done_second, done_room, has_room, no_room, room-is, strings_admitted, record-length}
use Rattle.pauli.proofs.Places.{listed_ext}
use Rattle.clifford.specs.Layout.{row_length, row_offset, width_of, row_part, decode_row, tableau_of, record_length, FormedRow, FormedTableau}
use Rattle.clifford.specs.Questions.{tableau_questions, slot_question, compose_questions, compose_answer}
use Rattle.clifford.specs.Tableaux.{compose_record, apply_record}
use Rattle.clifford.specs.GateAnswers.{gate_record}
use Rattle.clifford.proofs.Asking.{tableau-formed, tableaux_admitted, slot_in, slot-out, slot_is}
use Rattle.clifford.proofs.Play.{Playable, playable-is}
use Rattle.clifford.proofs.Rows.{row_there, row_within, row_room}
use Rattle.clifford.proofs.RecordLaws.{compose-formed, compose-width}
use Rattle.clifford_laws.specs.Weights.{without_weight}
use Rattle.clifford_laws.specs.Validity.{generator_record, larger_width}
use Rattle.clifford_laws.proofs.Weights.{row_dropped}
use Rattle.clifford_laws.proofs.PlayedGates.{clifford_gate}
use Rattle.gate_play.specs.PlayQuestions.{play_questions}
use Rattle.gate_play.proofs.Plays.{asked-playable}
use Rattle.preview.specs.Previews.{preview_questions, preview_answer, composed_image}
use Rattle.preview.specs.Promises.{Previewed}
use Rattle.preview.specs.Inside.Sending.{sent_through}
use Rattle.preview.proofs.Previews.{row-sent}
use Rattle.preview_laws.specs.PreviewedRows.{row_index, row_as_string, ShowsRow, PreviewSentence}
use Rattle.std.specs.Prelude.{Ok, Err}

-- ---- a row as a string
listed_parts : (m n : ℕ) (f : ℕ → ℕ) → listed (m + n) f ≡ listed m f ++ listed n (λ k. f (m + k))
unfolding listed
listed_parts m zero f = let e : m + 0 ≡ m = omega arith in ap (λ (k : ℕ). listed k f) e ∙ sym (append-nil (listed m f))
listed_parts m (suc n) f =
    let e : m + suc n ≡ suc (m + n) = omega arith in
    ap (λ (k : ℕ). listed k f) e ∙ ap (λ (l : List ℕ). l ++ (f (m + n) ∷ [])) (listed_parts m n f)
    ∙ append_assoc (listed m f) (listed n (λ k. f (m + k))) (f (m + n) ∷ [])

abbrev beyond : ℕ → List ℕ
beyond w = listed (qubits - w) (λ q. letter_byte I)

wider : (w : ℕ) (s : PauliString) → w ≤ qubits → Within w s → string_record s ≡ encode_string w s ++ beyond w
unfolding string_record encode_string
wider w s h i =
    let f : ℕ → ℕ = λ q. letter_byte (s.letters q) in
    let whole : qubits ≡ w + (qubits - w) = omega arith in
    ap (λ (l : List ℕ). phase_byte s.phase ∷ l)
    (ap (λ (n : ℕ). listed n f) whole ∙ listed_parts w (qubits - w) f
    ∙ ap (λ (l : List ℕ). listed w f ++ l) (listed_ext (qubits - w) _ _ (λ q l. ap letter_byte (i (w + q) (omega arith)))))

row-string : {w : ℕ} {p : List ℕ} → FormedRow w p → w ≤ qubits → string_record (decode_row w p) ≡ without_weight p ++ beyond w
row-string {w} {p} f h =
    wider w (decode_row w p) h (row_within w p)
    ∙ ap (λ (l : List ℕ). l ++ beyond w) (sym (row_dropped w (decode_row w p)) ∙ ap without_weight (row_there f))

-- ---- of a record, and of one at the front of more bytes
module _ {c : List ℕ} (formed : FormedTableau c) where
  image_string_lem : (g : Generator) (q : ℕ) → q < width_of c → string_record (row (tableau_of c) g q) ≡ row_as_string c (row_index g (width_of c) q)
  unfolding tableau_of row_as_string row_index qubits
  image_string_lem of_x q h = row-string (formed.rows q (omega arith)) formed.narrow
  image_string_lem of_z q h = row-string (formed.rows (width_of c + q) (omega arith)) formed.narrow

  module _ (rest : List ℕ) where
    front_width : width_of (c ++ rest) ≡ width_of c
    front_width = get_or-append c rest 0 0 formed.some

    front_part : (r : ℕ) → r < 2 * width_of c → row_part (c ++ rest) r ≡ row_part c r
    unfolding row_part
    front_part r h =
        let w : ℕ = width_of c in
        let end : row_offset w r + row_length w ≤ length c = omega (arith, row_room w r h, formed.long) in
        ap (λ (v : ℕ). take (row_length v) (drop (row_offset v r) (c ++ rest))) front_width
        ∙ ap (take (row_length w)) (drop-append-le (row_offset w r) c rest (omega arith))
        ∙ take-append-le (row_length w) (drop (row_offset w r) c) rest (omega (arith, length-drop (row_offset w r) c))

    front_string : (g : Generator) (q : ℕ) → q < width_of c
        → row_as_string (c ++ rest) (row_index g (width_of (c ++ rest)) q) ≡ string_record (row (tableau_of c) g q)
    front_string g q h =
        ap (λ (w : ℕ). row_as_string (c ++ rest) (row_index g w q)) front_width ∙ same ∙ sym (image_string_lem g q h)
      where
        own : (g : Generator) → row_index g (width_of c) q < 2 * width_of c
        own of_x = unfold row_index in omega arith
        own of_z = unfold row_index in omega arith

        same : row_as_string (c ++ rest) (row_index g (width_of c) q) ≡ row_as_string c (row_index g (width_of c) q)
        same = unfold row_as_string in ap₂ (λ (p : List ℕ) (w : ℕ). without_weight p ++ beyond w) (front_part (row_index g (width_of c) q) (own g)) front_width

-- ---- what was written
done_bytes : {q : Outcome} {out d e : List ℕ} → Written q out d e (Ok tt) → e ≡ out ++ drop (length out) d
unfolding written
done_bytes {out = out} {d = d} w = w.bytes ∙ ap (λ x. written x out d) (sym w.answer)

module _ (g : Generator) (a b : List ℕ) (q : ℕ) {f h : List ℕ} (p : Previewed g a b q f h (Ok tt)) where
  asked : preview_questions a b q ≡ Ok tt
  asked = unfold preview_answer in done_first (preview_questions a b q) _ (sym p.answer)

  both : compose_questions a b ≡ Ok tt
  both = unfold preview_questions in done_first (compose_questions a b) _ asked

  inside : q < larger_width a b
  inside = unfold preview_questions in slot_is q (larger_width a b) (done_second (compose_questions a b) _ asked)

  composite : FormedTableau (compose_record a b)
  unfolding compose_questions
  composite = compose-formed (tableau-formed a (done_first (tableau_questions a) _ both)) (tableau-formed b (done_second (tableau_questions a) _ both))

  shows : (rest : List ℕ) {e : List ℕ} → e ≡ compose_record a b ++ rest → ShowsRow g q e f h
  shows rest {e} k = record {
    inside = subst (λ (l : List ℕ). q < width_of l) (sym k) (omega (arith, own, front_width composite rest));
    row = ap (take string_length) wrote ∙ ap (λ (n : ℕ). take n (image ++ drop (length image) f)) (sym long) ∙ take-append_seam image (drop (length image) f)
        ∙ sym (front_string composite rest g q own) ∙ ap (λ (l : List ℕ). row_as_string l (row_index g (width_of l) q)) (sym k);
    behind = ap (drop string_length) wrote ∙ ap (λ (n : ℕ). drop n (image ++ drop (length image) f)) (sym long) ∙ drop-append_seam image (drop (length image) f)
        ∙ ap (λ (n : ℕ). drop n f) long;
  }
    where
      image : List ℕ
      image = string_record (row (tableau_of (compose_record a b)) g q)

      long : length image ≡ string_length
      long = record-length (row (tableau_of (compose_record a b)) g q)

      wrote : h ≡ image ++ drop (length image) f
      wrote = unfold composed_image in done_bytes p

      own : q < width_of (compose_record a b)
      own = subst (λ (w : ℕ). q < w) (sym (compose-width a b)) inside

-- ---- the request's sentences
preview_sent : (g : Generator) (a b : List ℕ) (q : ℕ) → compose_questions a b ≡ Ok tt → q < larger_width a b
    → composed_image g a b q ≡ apply_record a (apply_record b (generator_record g q))
unfolding preview_questions sent_through
preview_sent g a b q e h =
    sym (row-sent g a b q (done_both (compose_questions a b) _ e (sym (slot_in h))))

-- the gate's own tableau passes its questions, and t is no narrower
preview_plays : (gate q₀ q₁ : ℕ) (t : List ℕ) (q room : ℕ) → play_questions t gate q₀ q₁ ≡ Ok tt → q < width_of t → string_length ≤ room
    → preview_answer (gate_record gate q₀ q₁) t q room ≡ Ok tt
unfolding preview_answer preview_questions compose_questions play_questions gate_record qubits
preview_plays gate q₀ q₁ t q room e h r =
    let own : tableau_questions t ≡ Ok tt = done_first (tableau_questions t) _ e in
    let p : Playable gate q₀ q₁ t = playable-is gate q₀ q₁ t (asked-playable t gate q₀ q₁ e) in
    let narrow : width_of t ≤ 128 = p.laid.narrow in
    let c : Clifford (gate_tableau gate q₀ q₁) =
    clifford_gate gate q₀ q₁ p.gate (omega (arith, p.first)) (λ m. omega (arith, p.second m)) p.different in
    done_room _ string_length room
    (done_both _ _ (done_both _ _ (tableaux_admitted (gate_tableau gate q₀ q₁) c.proper) own) (sym (slot_in (omega arith)))) r

preview_accepted : (a b : List ℕ) (q room : ℕ)
    → (preview_answer a b q room ≡ Ok tt) ↔ ((compose_answer a b (record_length (larger_width a b)) ≡ Ok tt) × (q < larger_width a b) × (string_length ≤ room))
unfolding preview_answer preview_questions compose_answer
preview_accepted a b q room = (
  (λ e. let asked = done_first (compose_questions a b and_then slot_question q (larger_width a b)) _ e in (
    done_room (compose_questions a b) n n (done_first (compose_questions a b) _ asked) (omega arith),
    slot_is q (larger_width a b) (done_second (compose_questions a b) _ asked),
    room-is string_length room (done_second (compose_questions a b and_then slot_question q (larger_width a b)) _ e),
  )),
  (λ (c, i, r). done_room (compose_questions a b and_then slot_question q (larger_width a b)) string_length room
      (done_both (compose_questions a b) _ (done_first (compose_questions a b) _ c) (sym (slot_in i))) r),
)
  where
    n : ℕ
    n = record_length (larger_width a b)

module _ (a b : List ℕ) (q room : ℕ) where
  -- where composing passes, and where it doesn't
  after : compose_questions a b ≡ Ok tt → preview_answer a b q room ≡ (slot_question q (larger_width a b) and_then room_question string_length room)
  unfolding preview_answer preview_questions ◌and_then◌
  after e = ap (λ x. (x and_then slot_question q (larger_width a b)) and_then room_question string_length room) e

  preview_refused : (enough : ℕ) (why : Refusal) → record_length (larger_width a b) ≤ enough → compose_answer a b enough ≡ Err why
      → preview_answer a b q room ≡ Err why
  unfolding preview_answer preview_questions compose_answer ◌and_then◌
  preview_refused enough why h e =
      let refused : compose_questions a b ≡ Err why =
      and_then_done (compose_questions a b) ∙ ap (λ x. compose_questions a b and_then x) (has_room (record_length (larger_width a b)) enough h) ∙ e in
      ap (λ x. (x and_then slot_question q (larger_width a b)) and_then room_question string_length room) refused

  preview_outside : compose_questions a b ≡ Ok tt → larger_width a b ≤ q → preview_answer a b q room ≡ Err (Slot q (larger_width a b))
  unfolding ◌and_then◌
  preview_outside e h = after e ∙ ap (λ x. x and_then room_question string_length room) (sym (slot-out h))

  preview_short : compose_questions a b ≡ Ok tt → q < larger_width a b → room < string_length → preview_answer a b q room ≡ Err Room
  unfolding ◌and_then◌
  preview_short e h s = after e ∙ ap₂ ◌and_then◌ (sym (slot_in h)) (sym (no_room string_length room s))

pub preview_sentence : PreviewSentence
preview_sentence = record {
  composed = λ g a b q d e f h c p. shows g a b q p (drop (length (compose_record a b)) d) (done_bytes c);
  played = λ g gate q₀ q₁ t e q f h c p. shows g (gate_record gate q₀ q₁) t q p (drop (length (compose_record (gate_record gate q₀ q₁) t)) t) (done_bytes c);
  plays = preview_plays;
  sent = preview_sent;
  string = λ g a b q. (unfold composed_image in strings_admitted (row (tableau_of (compose_record a b)) g q));
  accepted = preview_accepted;
  refused = preview_refused;
  outside = preview_outside;
  short = preview_short;
}

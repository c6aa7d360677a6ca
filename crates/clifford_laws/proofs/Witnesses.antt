-- The witnesses: the bytes of two closed lists of calls, computed.
use mathlib.Core.Path.{◌≡◌, refl, sym, ap, ◌∙◌, subst}
use mathlib.Core.Bool.{true, false}
use mathlib.Core.List.{List, [], ◌∷◌, ◌++◌}
use Prim.Native.Nat.{ℕ, ◌+◌, ◌≤◌}
use native.Mathlib.Omega.{arith}
use lib.ListN.{length, take, drop, get_or, length-append}
use lib.Seq.{take_at, drop_at}
use Rattle.pauli.specs.declared.refusal.Refusal.{Refusal}
use Rattle.pauli.specs.declared.refusal.Refusal.TheVariants.{BadByte, Room, FalseWeight}
use Rattle.pauli_group.specs.Phase.{◌·◌, negate, turn, is_real}
use Rattle.pauli_group.specs.Letter.{not_i, letter_product, letter_phase, letter_mul, anticommute}
use Rattle.pauli_group.specs.PauliString.{qubits, product_to, count_to, has_letter, weight_to, anticommuting_places, commute, phase_of_letters, mul, identity_string, scale, single}
use Rattle.clifford_group.specs.Tableau.{identity_tableau, row_image, image_of, apply_to, apply, widen, compose, all_to, valid_qubit, valid_pair, is_valid}
use Rattle.pauli.specs.Places.{listed, first_place}
use Rattle.pauli.specs.Layout.{phase_byte, phase_of, letter_byte, letter_of}
use Rattle.pauli.specs.Questions.{ask, ◌and_then◌, first_bad, bytes_question, room_question}
use Rattle.clifford.specs.Layout.{letter_place, letter_in, letters_of, row_length, row_offset, record_length, row_of, joined, encode_row, decode_row, tableau_record, row_part, tableau_of, width_of}
use Rattle.clifford.specs.Questions.{width_question, length_question, row_question, rows_question, true_weight, first_false, weights_question, tableau_questions, compose_questions, compose_answer}
use Rattle.clifford.specs.Tableaux.{record_valid, identity_record, compose_record}
use Rattle.clifford.specs.GateAnswers.{gate_record}
use Rattle.clifford_gates.specs.Gates.{one_qubit_gates, two_qubit_gates}
use Rattle.clifford_gates.specs.GateTableaux.{image_string, gate_on_each, on_qubit, pair_string, pair_row, on_qubits}
use Rattle.clifford_gates.specs.GateNumbers.{one_qubit_gate, two_qubit_gate, gate_tableau}
use Rattle.clifford_laws.specs.WayBack.{Call, is_done, call_answer, accepts, steps_of, Step, Steps, none, step, product_from, product_of, steps, record_then, record_now}
use Rattle.clifford_laws.specs.Witnesses.{first_letter, first_weight, Witness, h_record, sz_record, cx_record, fdg_record, f4dg_record, after_two, after_three, call, bad_call, false_call, short_call, one_step, three_steps}
use Rattle.clifford_laws.proofs.WayBacks.{after-steps, steps-more, steps_kept, steps_nil, next-is, next_kept}
use Rattle.clifford_laws.proofs.WayBackSteps.{way_back, record_then_lem}
use Rattle.clifford_laws.proofs.Readings.{same-is}
use Rattle.std.specs.Prelude.{Ok, Err}

-- what the calls of a list do to the record r, up to the record now
data Trace : List ℕ → List Call → List (List ℕ) → List ℕ → Type 0 where
  end : {r : List ℕ} → Trace r [] [] r
  taken : {r next now : List ℕ} {c : Call} {cs : List Call} {ss : List (List ℕ)} → call_answer r c ≡ Ok tt → compose_record c.a r ≡ next → Trace next cs ss now
      → Trace r (c ∷ cs) (c.a ∷ ss) now
  kept : {r now : List ℕ} {c : Call} {cs : List Call} {ss : List (List ℕ)} {x : Refusal} → call_answer r c ≡ Err x
      → Trace r cs ss now → Trace r (c ∷ cs) ss now

trace_steps : {r now : List ℕ} {cs : List Call} {ss : List (List ℕ)} → Trace r cs ss now → steps_of r cs ≡ ss
trace_steps end = steps_nil _
trace_steps (taken {r} {c = c} {cs} h e t) =
    let done : accepts r c ≡ true = unfold accepts is_done in ap is_done h in
    steps-more r c cs done ∙ ap (λ (l : List (List ℕ)). c.a ∷ l) (ap (λ (x : List ℕ). steps_of x cs) (next-is r c done ∙ e) ∙ trace_steps t)
trace_steps (kept {r} {c = c} {cs} h t) =
    let refused : accepts r c ≡ false = unfold accepts is_done in ap is_done h in
    steps_kept r c cs refused ∙ ap (λ (x : List ℕ). steps_of x cs) (next_kept r c refused) ∙ trace_steps t

trace_product : {r now : List ℕ} {cs : List Call} {ss : List (List ℕ)} → Trace r cs ss now → product_from r ss ≡ now
unfolding product_from
trace_product end = refl
trace_product (taken {ss = ss} h e t) = ap (λ (x : List ℕ). product_from x ss) e ∙ trace_product t
trace_product (kept h t) = trace_product t

witnessed : (n w : ℕ) (calls : List Call) (earlier later : List (List ℕ)) {product then now : List ℕ} → n ≤ 128 → w ≤ n
    → Trace (identity_record n) calls (earlier ++ later) now
    → Steps n (earlier ++ later) → product_from (identity_record n) earlier ≡ then → product_of w later ≡ product → Witness n w calls earlier later product then now
witnessed n w calls earlier later {product} {then} {now} n≤ w≤ trace good e p =
    let k : ℕ = length earlier in
    let all : steps n calls ≡ earlier ++ later = trace_steps trace in
    let few : k ≤ length (steps n calls) = omega (arith, ap length all, length-append earlier later) in
    let front : take k (steps n calls) ≡ earlier = ap (take k) all ∙ take_at earlier later k refl in
    let past : record_then n calls k ≡ then = record_then_lem n calls k few ∙ ap (product_from (identity_record n)) front ∙ e in
    let present : record_now n calls ≡ now = after-steps (identity_record n) calls ∙ ap (product_from (identity_record n)) all ∙ trace_product trace in
    let made : product_of w (drop k (steps n calls)) ≡ product = ap (product_of w) (ap (drop k) all ∙ drop_at earlier later k refl) ∙ p in
    record {
      all_steps = all;
      after_earlier = past;
      after_all = present;
      of_later = p;
      way = rw (front, made, past, present) at (way_back n n≤ calls (subst (Steps n) (sym all) good) k few w w≤);
    }

record Compositions : Type 0 where
  h_first : compose_record h_record (identity_record 1) ≡ h_record
  fdg_is : compose_record sz_record h_record ≡ fdg_record
  f4dg_is : compose_record h_record sz_record ≡ f4dg_record
  cx_first : compose_record cx_record (identity_record 2) ≡ cx_record

compositions : Compositions
unfolding gate_record gate_tableau one_qubit_gate one_qubit_gates two_qubit_gate two_qubit_gates on_qubit on_qubits gate_on_each image_string pair_string pair_row compose_record identity_record tableau_record tableau_of letter_place letter_in row_length row_part row_offset encode_row decode_row row_of joined listed compose widen apply apply_to image_of row_image identity_tableau identity_string single scale mul phase_of_letters product_to letter_phase letter_mul letter_product ◌·◌ negate turn phase_byte phase_of letter_byte letter_of qubits weight_to has_letter not_i count_to
compositions = record {
  h_first = same-is (compose_record h_record (identity_record 1)) h_record tt;
  fdg_is = same-is (compose_record sz_record h_record) fdg_record tt;
  f4dg_is = same-is (compose_record h_record sz_record) f4dg_record tt;
  cx_first = same-is (compose_record cx_record (identity_record 2)) cx_record tt;
}

-- which calls are accepted, and with what the others are refused
pub record Replies : Type 0 where
  pub one : call_answer (identity_record 1) (call h_record (record_length 1 + 1)) ≡ Ok tt
  pub one_bad : call_answer h_record bad_call ≡ Err (BadByte (first_letter 1))
  pub one-false : call_answer h_record false_call ≡ Err (FalseWeight (first_weight 1))
  pub one-short : call_answer h_record short_call ≡ Err Room
  pub first : call_answer (identity_record 2) (call cx_record (record_length 2)) ≡ Ok tt
  pub short : call_answer cx_record short_call ≡ Err Room
  pub second : call_answer cx_record (call h_record (record_length 2)) ≡ Ok tt
  pub bad : call_answer after_two bad_call ≡ Err (BadByte (first_letter 1))
  pub false-weight : call_answer after_two false_call ≡ Err (FalseWeight (first_weight 1))
  pub third : call_answer after_two (call sz_record (record_length 2 + 1)) ≡ Ok tt

pub replies : Replies
unfolding gate_record gate_tableau one_qubit_gate one_qubit_gates two_qubit_gate two_qubit_gates on_qubit on_qubits gate_on_each image_string pair_string pair_row compose_record tableau_of letter_in decode_row compose widen apply apply_to image_of row_image identity_string scale mul phase_of_letters product_to letter_phase letter_mul letter_product ◌·◌ negate turn phase_of letter_of call_answer compose_answer compose_questions tableau_questions width_question length_question rows_question weights_question true_weight first_false row_question row_part row_offset letter_place letters_of bytes_question first_bad ask ◌and_then◌ room_question record_length row_length first_place identity_record tableau_record encode_row row_of joined listed identity_tableau single phase_byte letter_byte qubits weight_to has_letter not_i count_to
replies = record { one = refl; one_bad = refl; one-false = refl; one-short = refl; first = refl; short = refl; second = refl; bad = refl; false-weight = refl; third = refl }

record Valids : Type 0 where
  h_valid : record_valid h_record ≡ true
  sz_valid : record_valid sz_record ≡ true
  cx_valid : record_valid cx_record ≡ true
  h_width : width_of h_record ≡ 1
  sz_width : width_of sz_record ≡ 1
  cx_width : width_of cx_record ≡ 2

valids : Valids
unfolding gate_record gate_tableau one_qubit_gate one_qubit_gates two_qubit_gate two_qubit_gates on_qubit on_qubits gate_on_each image_string pair_string pair_row tableau_record encode_row row_of joined listed phase_byte letter_byte identity_string single scale mul phase_of_letters product_to letter_phase letter_mul letter_product ◌·◌ negate turn record_valid is_valid all_to valid_qubit valid_pair tableau_of row_part row_offset letter_place letter_in row_length decode_row phase_of letter_of is_real commute anticommuting_places count_to anticommute qubits weight_to has_letter not_i
valids = record { h_valid = refl; sz_valid = refl; cx_valid = refl; h_width = refl; sz_width = refl; cx_width = refl }

abbrev good-step : {n : ℕ} {a : List ℕ} → record_valid a ≡ true → width_of a ≤ n → Step n a
good-step v l = record { valid = v; narrow = l }

-- back to the start, over the step and the refused calls
pub witness : Witness 1 1 one_step [] (h_record ∷ []) h_record (identity_record 1) h_record
unfolding product_of product_from
witness =
    witnessed 1 1 one_step [] (h_record ∷ []) (omega arith) (omega arith)
    (taken replies.one compositions.h_first (kept replies.one_bad (kept replies.one-false (kept replies.one-short end))))
    (step (good-step valids.h_valid (omega (arith, valids.h_width))) none) refl compositions.h_first

-- back to step 1 of 3, by a product of width 1 where the record has width 2
pub witness_between : Witness 2 1 three_steps (cx_record ∷ []) (h_record ∷ sz_record ∷ []) fdg_record cx_record after_three
unfolding product_of product_from
witness_between =
    witnessed 2 1 three_steps (cx_record ∷ []) (h_record ∷ sz_record ∷ []) (omega arith) (omega arith)
    (taken replies.first compositions.cx_first
    (kept replies.short (taken replies.second refl (kept replies.bad (kept replies.false-weight (taken replies.third refl end))))))
    (step (good-step valids.cx_valid (omega (arith, valids.cx_width))) (step (good-step valids.h_valid (omega (arith, valids.h_width))) (step (good-step valids.sz_valid (omega (arith, valids.sz_width))) none)))
    compositions.cx_first
    (ap (compose_record sz_record) compositions.h_first ∙ compositions.fdg_is)

-- its later steps do not commute, and they changed the record
record Bytes : Type 0 where
  fdg_first : get_or fdg_record 1 0 ≡ 0
  f4dg_first : get_or f4dg_record 1 0 ≡ 1
  then_letter : get_or cx_record (first_letter 2) 0 ≡ 1
  now_letter : get_or after_three (first_letter 2) 0 ≡ 2

bytes : Bytes
unfolding gate_record gate_tableau one_qubit_gate one_qubit_gates two_qubit_gate two_qubit_gates on_qubit on_qubits gate_on_each image_string pair_string pair_row compose_record tableau_record tableau_of letter_place letter_in row_length row_part row_offset encode_row decode_row row_of joined listed compose widen apply apply_to image_of row_image identity_string single scale mul phase_of_letters product_to letter_phase letter_mul letter_product ◌·◌ negate turn phase_byte phase_of letter_byte letter_of qubits weight_to has_letter not_i count_to
bytes = record { fdg_first = refl; f4dg_first = refl; then_letter = refl; now_letter = refl }

pub order_matters : compose_record sz_record h_record ≡ compose_record h_record sz_record → ⊥
order_matters e =
    let z : get_or fdg_record 1 0 ≡ get_or f4dg_record 1 0 = ap (λ (b : List ℕ). get_or b 1 0) (sym compositions.fdg_is ∙ e ∙ compositions.f4dg_is) in
    omega (arith, bytes.fdg_first, bytes.f4dg_first)

pub record_changed : record_then 2 three_steps 1 ≡ record_now 2 three_steps → ⊥
record_changed e =
    let z : get_or cx_record (first_letter 2) 0 ≡ get_or after_three (first_letter 2) 0 = ap (λ (b : List ℕ). get_or b (first_letter 2) 0) (sym witness_between.after_earlier ∙ e ∙ witness_between.after_all) in
    omega (arith, bytes.then_letter, bytes.now_letter)

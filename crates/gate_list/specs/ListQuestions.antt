-- The questions put to a gate list (scope document, "Questions on entry", the paragraph "List"), in their order.
use Rattle.std.specs.Prelude.{ℕ, zero, suc, ◌-◌, ◌%◌, Bool, false, cond, not, ◌&&◌, ◌||◌, List, [], ◌∷◌, eqb, ltb, leb, length, Ok, Err}
use Rattle.pauli.specs.declared.refusal.Refusal.TheVariants.{StepGate, StepQubit, StepSameQubit, ListLength, ListRecord, Link, Loop}
use Rattle.pauli.specs.Questions.{ask, ◌and_then◌}
use Rattle.clifford.specs.Questions.{width_question}
use Rattle.gate_list.specs.Lists.{record_size, longest_list, record_count, byte_of, list_width, next_of}
use Rattle.pauli.specs.Answers.{Outcome}

-- "a multiple of 6, from 6 to 24,576 bytes? 16"
unfoldable pub size_question : List ℕ → Outcome
size_question l = ask (eqb (length l % record_size) 0 && (leb record_size (length l) && leb (length l) longest_list)) ListLength

-- "Head [..] right? 17, the record"
unfoldable pub head_question : List ℕ → Outcome
head_question l = ask (eqb (byte_of l 0 0) 0 && (eqb (byte_of l 0 2) 0 && eqb (byte_of l 0 3) 0)) (ListRecord 0)

-- "is next below the record count? 18, the record holding it"
unfoldable pub link_question : List ℕ → ℕ → Outcome
link_question l i = ask (ltb (next_of l i) (record_count l)) (Link i)

-- "fixed zeros right? 17, the record; the second qubit is a fixed zero only for gates 0 to 23"
unfoldable pub zeros_question : List ℕ → ℕ → Outcome
zeros_question l i = ask (eqb (byte_of l i 3) 0 && (leb 24 (byte_of l i 0) || eqb (byte_of l i 2) 0)) (ListRecord i)

-- "Is the gate at most 37? 4", "Is each qubit [..] below the list's width? 5", "Are two qubits different? 6", each "with the record
-- as detail"
unfoldable pub step_gate_question : List ℕ → ℕ → Outcome
step_gate_question l i = ask (ltb (byte_of l i 0) 38) (StepGate i)

unfoldable pub step_qubit_question : List ℕ → ℕ → ℕ → Outcome
step_qubit_question l i q = ask (ltb q (list_width l)) (StepQubit i)

unfoldable pub step_second_questions : List ℕ → ℕ → Outcome
step_second_questions l i =
    cond (ltb (byte_of l i 0) 24) (Ok tt)
    (step_qubit_question l i (byte_of l i 2) and_then ask (not (eqb (byte_of l i 1) (byte_of l i 2))) (StepSameQubit i))

-- "For each record 17, 4, 5, 6 [..], then its link"
unfoldable pub record_questions : List ℕ → ℕ → Outcome
record_questions l i =
    zeros_question l i and_then step_gate_question l i and_then step_qubit_question l i (byte_of l i 1) and_then step_second_questions l i and_then link_question l i

-- i is among the records met
unfoldable pub is_met : List ℕ → ℕ → Bool
is_met [] i = false
is_met (m ∷ rest) i = eqb m i || is_met rest i

-- "Then along the chain": record i is next, those of met were met before, and n others were not. "Does the chain end? If a record
-- is met again, 19, that record." Where none is left to meet, i was met.
unfoldable pub chain_questions : List ℕ → List ℕ → ℕ → ℕ → Outcome
chain_questions l met zero i = ask (eqb i 0) (Loop i)
chain_questions l met (suc n) i =
    cond (eqb i 0) (Ok tt) (cond (is_met met i) (Err (Loop i)) (record_questions l i and_then chain_questions l (i ∷ met) n (next_of l i)))

-- 16; 1; the head's 17 and its link; then along the chain
unfoldable pub list_questions : List ℕ → Outcome
list_questions l =
    size_question l and_then width_question (list_width l) and_then head_question l and_then link_question l 0
    and_then chain_questions l [] (record_count l - 1) (next_of l 0)

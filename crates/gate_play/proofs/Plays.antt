-- The questions of `play`, what they let by, and what is then written.
use mathlib.Core.Path.{◌≡◌, refl, sym, ap, ◌∙◌}
use mathlib.Core.Bool.{Bool, true}
use mathlib.Core.Logic.{◌≢◌}
use mathlib.Core.List.{List, ◌++◌, append-nil}
use Prim.Native.Nat.{ℕ, ◌≤◌, ◌<◌}
use native.Mathlib.Omega.{arith}
use native.Mathlib.Decide.{dec_lt}
use lib.ListN.{length, drop_of_length-le}
use Rattle.pauli.specs.Answers.{written, Outcome}
use Rattle.pauli.specs.Questions.{◌and_then◌}
use Rattle.pauli.proofs.Asking.{passed, done_first, done_second}
use Rattle.clifford.specs.Layout.{width_of, FormedTableau}
use Rattle.clifford.specs.Questions.{tableau_questions}
use Rattle.clifford.specs.Tableaux.{compose_record}
use Rattle.clifford.specs.GateQuestions.{gate_question, different_question, own_qubit_question, qubits_questions}
use Rattle.clifford.specs.GateAnswers.{gate_record}
use Rattle.clifford.specs.Playing.{playable, played, GatePlayed}
use Rattle.clifford.proofs.Asking.{tableau-formed}
use Rattle.clifford.proofs.GateAsking.{gate_in, gate-below, own_in, own_below, qubits-one, qubits_of_two, qubits_differ, are_different}
use Rattle.clifford.proofs.Play.{playable-is, playable_yes}
use Rattle.clifford_laws.proofs.PlayedGates.{played-is, length-played}
use Rattle.gate_play.specs.PlayQuestions.{play_questions}
use Rattle.std.specs.Prelude.{Ok}

-- ---- what they let by: a tableau, and a gate that has a place in it
module _ (t : List ℕ) (g q r : ℕ) (e : play_questions t g q r ≡ Ok tt) where
  rest : (gate_question 38 g and_then qubits_questions (width_of t) g q r) ≡ Ok tt
  rest = unfold play_questions in done_second (tableau_questions t) _ e

  formed : FormedTableau t
  formed = unfold play_questions in tableau-formed t (done_first _ _ e)

  gate : g < 38
  gate = gate-below 38 g (done_first _ _ rest)

  first : q < width_of t
  first = unfold qubits_questions in own_below (width_of t) q (done_first _ _ (done_second (gate_question 38 g) _ rest))

  two : 24 ≤ g → (own_qubit_question (width_of t) r and_then different_question q r) ≡ Ok tt
  two h = done_second (own_qubit_question (width_of t) q) _ (qubits_of_two (width_of t) g q r h ∙ done_second (gate_question 38 g) _ rest)

  second : 24 ≤ g → r < width_of t
  second h = own_below (width_of t) r (done_first _ _ (two h))

  different : 24 ≤ g → q ≢ r
  different h = are_different q r (done_second (own_qubit_question (width_of t) r) _ (two h))

  pub asked-playable : playable g q r t ≡ true
  asked-playable = playable_yes g q r t gate first second different formed.narrow formed.long

  -- the whole record is written
  pub play_written : {d : List ℕ} {b : Bool} → GatePlayed g q r t d b → d ≡ written (Ok tt) (compose_record (gate_record g q r) t) t
  unfolding written
  play_written {d} p =
      let out : List ℕ = compose_record (gate_record g q r) t in
      let is : played g q r t ≡ out = played-is g q r t formed gate first second different in
      let long : length t ≤ length out = omega (arith, ap length (sym is) ∙ length-played g q r t) in
      p.bytes ∙ is ∙ sym (ap (λ (l : List ℕ). out ++ l) (drop_of_length-le t {i = length out} long) ∙ append-nil out)

pub playable-asked : (t : List ℕ) (g q r : ℕ) → tableau_questions t ≡ Ok tt → playable g q r t ≡ true → play_questions t g q r ≡ Ok tt
unfolding play_questions
playable-asked t g q r e h =
    let p = playable-is g q r t h in
    let w = width_of t in
    let qubits : Ok tt ≡ qubits_questions w g q r = elim (dec_lt g 24) [
      | yes l ↦ qubits-one w q r (omega arith) (own_in p.first)
      | no l ↦ let m : 24 ≤ g = omega arith in
          passed (own_in p.first) refl (passed (own_in (p.second m)) refl (qubits_differ (p.different m))) ∙ qubits_of_two w g q r m
    ] in
    sym (passed (sym e) refl (passed (gate_in p.gate) refl qubits))

pub play_done : (t : List ℕ) (g q r : ℕ) {o : Outcome} {d : List ℕ} {b : Bool} → o ≡ play_questions t g q r → o ≡ Ok tt → GatePlayed g q r t d b
    → d ≡ written (Ok tt) (compose_record (gate_record g q r) t) t
play_done t g q r e f p = play_written t g q r (sym e ∙ f) p

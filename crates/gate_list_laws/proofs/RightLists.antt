-- The questions of a record and of a list's head let by exactly the right ones.
use Rattle.std.specs.Prelude.{Ok}
use mathlib.Core.Path.{◌≡◌, refl, sym}
use mathlib.Core.List.{List}
use Prim.Native.Nat.{ℕ}
use lib.Dec.{eqb}
use borrow.Author.Tests.{eqb-true}
use Rattle.pauli.specs.declared.refusal.Refusal.TheVariants.{ListRecord}
use Rattle.pauli.proofs.Asking.{ask_done}
use Rattle.clifford_group.proofs.Valid.{and_both}
use Rattle.clifford.specs.Questions.{width_question}
use Rattle.clifford.proofs.Asking.{width_is}
use Rattle.gate_list.specs.Lists.{byte_of, list_width, play_of}
use Rattle.gate_list.specs.ListQuestions.{size_question, head_question, link_question, zeros_question, record_questions}
use Rattle.gate_list.proofs.AdmittedChains.{zeros_of, record-play}
use Rattle.gate_list.proofs.Chains.{link_done, record-link}
use Rattle.gate_list.proofs.ListAdmitted.{size_done}
use Rattle.gate_list.proofs.OrderedChains.{record_done}
use Rattle.gate_list_laws.specs.GateLists.{RightHead, RightRecord}

pub passed_right : (l : List ℕ) (i : ℕ) → record_questions l i ≡ Ok tt → RightRecord l i
unfolding zeros_question
passed_right l i e = record {
  fixed = eqb-true _ 0 (and_both _ _ (ask_done _ (ListRecord i) (zeros_of l i e))).0;
  play = record-play l i e;
  link = record-link l i e;
}

pub right_passes : {l : List ℕ} {i : ℕ} → RightRecord l i → record_questions l i ≡ Ok tt
unfolding play_of
right_passes r = sym (record_done (record { gate = refl; first = refl; second = refl; fixed = r.fixed; link = refl }) r.play r.link)

pub passed_head : (l : List ℕ) → size_question l ≡ Ok tt → width_question (list_width l) ≡ Ok tt → head_question l ≡ Ok tt → link_question l 0 ≡ Ok tt → RightHead l
unfolding head_question
passed_head l s w h k =
    let zeros = ask_done _ (ListRecord 0) h in
    let parts = and_both (eqb (byte_of l 0 0) 0) _ zeros in
    let rest = and_both (eqb (byte_of l 0 2) 0) (eqb (byte_of l 0 3) 0) parts.1 in
    record {
      whole = (size_done l s).whole;
      some = (size_done l s).some;
      few = (size_done l s).few;
      narrow = width_is (list_width l) w;
      gate = eqb-true _ 0 parts.0;
      second = eqb-true _ 0 rest.0;
      fixed = eqb-true _ 0 rest.1;
      link = link_done l 0 k;
    }

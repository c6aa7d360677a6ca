-- The run: after each gate the record is the product so far, and the gates that are left stand on the rest of the chain.
use mathlib.Core.Path.{◌≡◌, refl, sym, ap, ap₂, ◌∙◌, subst}
use mathlib.Core.Bool.{Bool}
use mathlib.Core.List.{List, [], ◌∷◌}
use Prim.Native.Nat.{ℕ, suc, ◌+◌, ◌-◌, ◌<◌, ◌≤◌}
use native.Mathlib.Omega.{arith}
use lib.ListN.{length}
use mir.Val.{Fits}
use mir.Syntax.{w64}
use borrow.Author.Rules.{rules}
use Rattle.pauli_group.specs.PauliString.{qubits}
use Rattle.clifford.specs.Layout.{record_length, width_of, FormedTableau}
use Rattle.clifford.specs.GateAnswers.{gate_record}
use Rattle.clifford.specs.Playing.{played, PlayedBy, letter_tables, pair_tables}
use Rattle.clifford.proofs.Play.{gate-played}
use Rattle.clifford.specs.Tableaux.{compose_record}
use Rattle.clifford_laws.specs.WayBack.{product_from, product_of}
use Rattle.clifford_laws.proofs.PlayedGates.{played-is, played-formed, played-same, width-played}
use Rattle.clifford.proofs.RecordLaws.{identity-width, identity-good}
use Rattle.gate_list.specs.Lists.{Play, record_count, byte_of, list_width, next_of, play_of, chain_of, plays_of, gates_of}
use Rattle.gate_list.specs.OrderedLists.{PlayFits, PlaysFit, more, Chain, ends, links}
use Rattle.gate_list.specs.Runs.{tableaux_of, run_record, step_count}
use Rattle.std.specs.Prelude.{Ok}
use Rattle.clifford.specs.Tableaux.{identity_record}
use Rattle.gate_list.specs.ListQuestions.{list_questions}
use Rattle.gate_list.specs.Inside.Runs.{record_played, Ran}
use Rattle.gate_list.proofs.GateOrder.{product-first}
use Rattle.gate_list.proofs.AdmittedChains.{admitted_chain, admitted_plays, admitted_narrow, admitted_sized, step_count_lem, steps-few}
use Rattle.gate_list.proofs.ListAdmitted.{sized_some}

-- ---- the chain from record i on, taken apart
record NextOn (l : List ℕ) (i : ℕ) (rest : List ℕ) : Type 0 where
  after : List ℕ
  is : rest ≡ i ∷ after
  own : i < record_count l
  chain : Chain l (next_of l i) after

next-on : {l : List ℕ} {i : ℕ} {rest : List ℕ} → Chain l i rest → (i ≡ 0 → ⊥) → NextOn l i rest
next-on ends h = absurd (h refl)
next-on (links {rest = rest} z o c) h = record { after = rest; is = refl; own = o; chain = c }

chain_over : {l : List ℕ} {i : ℕ} {rest : List ℕ} → Chain l i rest → i ≡ 0 → rest ≡ []
chain_over ends h = refl
chain_over (links z o c) h = absurd (z h)

first_fits : {w : ℕ} {p : Play} {rest : List Play} → PlaysFit w (p ∷ rest) → PlayFits w p
first_fits (more f g) = f

rest-fits : {w : ℕ} {p : Play} {rest : List Play} → PlaysFit w (p ∷ rest) → PlaysFit w rest
rest-fits (more f g) = g

-- ---- the record after n gates, where record i is next
pub record Running (l t : List ℕ) (n i : ℕ) : Type 0 where
  pub rest : List ℕ
  pub chain : Chain l i rest
  pub plays : PlaysFit (list_width l) (plays_of l rest)
  pub formed : FormedTableau t
  pub wide : width_of t ≡ list_width l
  pub product : product_from t (tableaux_of (plays_of l rest)) ≡ run_record l
  pub steps : n + length rest ≡ step_count l
  pub few : step_count l ≤ 4095

-- an admitted list, and the identity
pub record Begins (l t : List ℕ) : Type 0 where
  pub asked : list_questions l ≡ Ok tt
  pub bytes : t ≡ identity_record (list_width l)

pub begins : {l t : List ℕ} → list_questions l ≡ Ok tt → t ≡ identity_record (list_width l) → Begins l t
begins a b = record { asked = a; bytes = b }

begins-formed : {l t : List ℕ} → Begins l t → FormedTableau t
unfolding qubits
begins-formed {l} b = subst FormedTableau (sym b.bytes) (identity-good (list_width l) (admitted_narrow l b.asked)).formed

begins-wide : {l t : List ℕ} → Begins l t → width_of t ≡ list_width l
begins-wide {l} b = ap width_of b.bytes ∙ identity-width (list_width l)

pub running_head : {l t : List ℕ} → Begins l t → 0 < record_count l
running_head {l} b = sized_some (admitted_sized l b.asked)

pub running_start : {l t : List ℕ} {i : ℕ} → Begins l t → i ≡ next_of l 0 → Running l t 0 i
unfolding run_record product_of gates_of
running_start {l} {t} b e = record {
  rest = chain_of l;
  chain = subst (λ (j : ℕ). Chain l j (chain_of l)) (sym e) (admitted_chain l b.asked);
  plays = admitted_plays l b.asked;
  formed = begins-formed b;
  wide = begins-wide b;
  product = ap (λ (x : List ℕ). product_from x (tableaux_of (plays_of l (chain_of l)))) b.bytes;
  steps = omega (arith, step_count_lem l);
  few = steps-few l b.asked;
}

running_long : {l t : List ℕ} {n i : ℕ} → Running l t n i → length t ≡ record_length (list_width l)
running_long r = r.formed.long ∙ ap record_length r.wide

pub running_same : {l t e : List ℕ} {n i : ℕ} → Begins l t → Running l e n i → length e ≡ length t
running_same b r = running_long r ∙ sym ((begins-formed b).long ∙ ap record_length (begins-wide b))

pub running_end : {l t : List ℕ} {n i : ℕ} → Running l t n i → i ≡ 0 → Ran l t n
unfolding tableaux_of plays_of product_from
running_end {l} {t} {n} r h =
    let over = chain_over r.chain h in
    record {
      bytes = sym (ap (λ (x : List ℕ). product_from t (tableaux_of (plays_of l x))) over) ∙ r.product;
      steps = omega (arith, ap length over, r.steps);
    }

module _ {l t : List ℕ} {n i : ℕ} (r : Running l t n i) (h : i ≡ 0 → ⊥) where
  here : NextOn l i r.rest
  here = next-on r.chain h

  pub running_own : i < record_count l
  running_own = here.own

  left : n + suc (length here.after) ≡ step_count l
  left = omega (arith, r.steps, ap length here.is)

  pub running_fits : Fits w64 (n + 1)
  running_fits = record { fits = omega (arith, left, r.few) }

  pub running_less : step_count l - (n + 1) < step_count l - n
  running_less = omega (arith, left)

  all_fit : PlaysFit (list_width l) (play_of l i ∷ plays_of l here.after)
  unfolding plays_of
  all_fit = subst (λ (x : List ℕ). PlaysFit (list_width l) (plays_of l x)) here.is r.plays

  fits : PlayFits (list_width l) (play_of l i)
  fits = first_fits all_fit

  module _ {e : List ℕ} (ee : e ≡ record_played l i t) where
    in_width : byte_of l i 1 < width_of t
    unfolding play_of
    in_width = omega (arith, fits.first, r.wide)

    second_in : 24 ≤ byte_of l i 0 → byte_of l i 2 < width_of t
    unfolding play_of
    second_in k = omega (arith, fits.second k, r.wide)

    composed : e ≡ compose_record (gate_record (byte_of l i 0) (byte_of l i 1) (byte_of l i 2)) t
    unfolding play_of record_played
    composed = ee ∙ played-is _ _ _ t r.formed fits.gate in_width second_in fits.different

    made : FormedTableau e
    unfolding play_of record_played
    made = subst FormedTableau (sym ee) (played-formed _ _ _ t r.formed fits.gate in_width second_in fits.different)

    pub running_step : {k : ℕ} → k ≡ next_of l i → Running l e (n + 1) k
    unfolding plays_of play_of record_played
    running_step {k} ek = record {
      rest = here.after;
      chain = subst (λ (j : ℕ). Chain l j here.after) (sym ek) here.chain;
      plays = rest-fits all_fit;
      formed = made;
      wide = ap width_of ee ∙ width-played _ _ _ t ∙ r.wide;
      product = ap (λ (x : List ℕ). product_from x (tableaux_of (plays_of l here.after))) composed ∙ sym (product-first t (play_of l i) (plays_of l here.after))
          ∙ sym (ap (λ (x : List ℕ). product_from t (tableaux_of (plays_of l x))) here.is) ∙ r.product;
      steps = omega (arith, left);
      few = r.few;
    }

pub ruleset runs = (
  begins,
  running_head,
  running_start,
  running_same,
  running_end,
  running_own,
  running_fits,
  running_less,
  running_step,
  rules,
)

-- ---- one gate
module _ {ones twos : List (List (List ℕ))} {t e : List ℕ} {g a b : ℕ} {f : Bool} (letters : ones ≡ letter_tables) (pairs : twos ≡ pair_tables) (p : PlayedBy ones twos g a b t e f) where
  pub record_was_played : (l : List ℕ) (i : ℕ) → a ≡ byte_of l i 1 → b ≡ byte_of l i 2 → g ≡ byte_of l i 0 → e ≡ record_played l i t
  unfolding record_played
  record_was_played l i ea eb eg =
      (gate-played letters pairs p).bytes ∙ ap (λ (k : ℕ). played k a b t) eg ∙ ap₂ (λ (j k : ℕ). played (byte_of l i 0) j k t) ea eb

  pub played_length : length e ≡ length t
  played_length = played-same (gate-played letters pairs p)

pub ruleset record_plays = (record_was_played, played_length, rules)

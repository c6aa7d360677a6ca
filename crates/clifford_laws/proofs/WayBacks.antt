-- The way back: composing the inverse of the product of the later steps brings back the record after the earlier ones.
use mathlib.Core.Path.{◌≡◌, refl, sym, ap, ◌∙◌, subst}
use mathlib.Core.Bool.{Bool, true, false, cond}
use mathlib.Core.List.{List, [], ◌∷◌, ◌++◌}
use Prim.Native.Nat.{ℕ, max, ◌≤◌}
use native.Mathlib.Omega.{arith}
use lib.ListN.{length, take}
use lib.Seq.{take_at}
use Rattle.pauli_group.specs.PauliString.{qubits}
use Rattle.pauli.specs.Answers.{written, Outcome}
use Rattle.pauli.specs.Layout.{string_length}
use Rattle.pauli.specs.Questions.{string_questions}
use Rattle.pauli.proofs.Asking.{done_both, done_first, done_room, strings_admitted}
use Rattle.clifford.specs.Layout.{record_length, width_of, FormedTableau}
use Rattle.clifford.specs.Questions.{tableau_questions, apply_questions, apply_answer, compose_questions, compose_answer, inverse_answer}
use Rattle.clifford.specs.Tableaux.{Good, identity_record, apply_record, compose_record, inverse_record}
use Rattle.clifford_laws.specs.WayBack.{Call, is_done, call_answer, accepts, destination_after, next_record, record_after, steps_of, Step, Steps, step, product_from, product_of, sent_by, EachApplied, none_left, applied, WayBack}
use Rattle.clifford.proofs.RecordLaws.{compose-formed, compose-width, compose-length, compose-good, records_assoc, identity-width, identity-good, identity-left, inverse-width, inverse-good, inverse_left, inverse-right, send_compose, send_identity}
use Rattle.clifford.proofs.Asking.{tableau-formed, formed-good}
use Rattle.std.specs.Prelude.{Ok, Err}

-- ---- one call
is_done_lem : (q : Outcome) → is_done q ≡ true → q ≡ Ok tt
unfolding is_done
is_done_lem (Ok tt) e = refl
is_done_lem (Err x) e = absurd (no e)
  where
    no : false ≡ true → ⊥
    no e = let z : ◌≡◌ {A = ℕ} 0 1 = ap (λ b. cond b 1 0) e in omega arith

module _ (r : List ℕ) (c : Call) (h : accepts r c ≡ true) where
  done : call_answer r c ≡ Ok tt
  unfolding accepts
  done = is_done_lem (call_answer r c) h

  asked : compose_questions c.a r ≡ Ok tt
  unfolding call_answer compose_answer
  asked = done_first _ _ done

  step-formed : FormedTableau c.a
  unfolding compose_questions
  step-formed = tableau-formed c.a (done_first _ _ asked)

  -- the next record is the composition
  pub next-is : next_record r c ≡ compose_record c.a r
  unfolding next_record destination_after written
  next-is =
      ap (λ b. cond b (take (record_length (max (width_of c.a) (width_of r))) (destination_after r c)) r) h
      ∙ ap (λ q. take (record_length (max (width_of c.a) (width_of r))) (written q (compose_record c.a r) c.destination)) done
      ∙ take_at (compose_record c.a r) _ (record_length (max (width_of c.a) (width_of r))) (compose-length c.a r)

pub next_kept : (r : List ℕ) (c : Call) → accepts r c ≡ false → next_record r c ≡ r
unfolding next_record
next_kept r c h = ap (λ b. cond b (take (record_length (max (width_of c.a) (width_of r))) (destination_after r c)) r) h

pub steps-more : (r : List ℕ) (c : Call) (cs : List Call) → accepts r c ≡ true → steps_of r (c ∷ cs) ≡ c.a ∷ steps_of (next_record r c) cs
unfolding steps_of
steps-more r c cs h = ap (λ b. cond b (c.a ∷ steps_of (next_record r c) cs) (steps_of (next_record r c) cs)) h

pub steps_kept : (r : List ℕ) (c : Call) (cs : List Call) → accepts r c ≡ false → steps_of r (c ∷ cs) ≡ steps_of (next_record r c) cs
unfolding steps_of
steps_kept r c cs h = ap (λ b. cond b (c.a ∷ steps_of (next_record r c) cs) (steps_of (next_record r c) cs)) h

-- ---- a list of calls
nothing : (r : List ℕ) → r ≡ product_from r (steps_of r [])
unfolding product_from steps_of
nothing r = refl

one_more : (r a : List ℕ) (rest : List (List ℕ)) → product_from r (a ∷ rest) ≡ product_from (compose_record a r) rest
unfolding product_from
one_more r a rest = refl

no_steps : (r : List ℕ) (ds : List Call) → steps_of r ds ≡ steps_of r [] ++ steps_of (record_after r []) ds
unfolding steps_of record_after
no_steps r ds = refl

pub steps_nil : (r : List ℕ) → steps_of r [] ≡ []
unfolding steps_of
steps_nil r = refl

pub after_next : (r : List ℕ) (c : Call) (cs : List Call) → record_after (next_record r c) cs ≡ record_after r (c ∷ cs)
unfolding record_after
after_next r c cs = refl

-- the record after a list is the product of its steps
pub after-steps : (r : List ℕ) (cs : List Call) → record_after r cs ≡ product_from r (steps_of r cs)
unfolding record_after
after-steps r [] = nothing r
after-steps r (c ∷ cs) = go (accepts r c) refl (after-steps (next_record r c) cs)
  where
    go : (b : Bool) → accepts r c ≡ b → record_after (next_record r c) cs ≡ product_from (next_record r c) (steps_of (next_record r c) cs)
        → record_after (next_record r c) cs ≡ product_from r (steps_of r (c ∷ cs))
    go true h e = e ∙ ap (λ (x : List ℕ). product_from x (steps_of (next_record r c) cs)) (next-is r c h) ∙ sym (ap (product_from r) (steps-more r c cs h) ∙ one_more r c.a _)
    go false h e = e ∙ ap (λ (x : List ℕ). product_from x (steps_of (next_record r c) cs)) (next_kept r c h) ∙ sym (ap (product_from r) (steps_kept r c cs h))

-- two lists one after the other
after_append : (r : List ℕ) (cs ds : List Call) → record_after r (cs ++ ds) ≡ record_after (record_after r cs) ds
unfolding record_after
after_append r [] ds = refl
after_append r (c ∷ cs) ds = after_append (next_record r c) cs ds

pub steps_append : (r : List ℕ) (cs ds : List Call) → steps_of r (cs ++ ds) ≡ steps_of r cs ++ steps_of (record_after r cs) ds
steps_append r [] ds = no_steps r ds
steps_append r (c ∷ cs) ds = go (accepts r c) refl (steps_append (next_record r c) cs ds)
  where
    rest : List (List ℕ)
    rest = steps_of (record_after r (c ∷ cs)) ds

    go : (b : Bool) → accepts r c ≡ b → steps_of (next_record r c) (cs ++ ds) ≡ steps_of (next_record r c) cs ++ steps_of (record_after (next_record r c) cs) ds
        → steps_of r (c ∷ cs ++ ds) ≡ steps_of r (c ∷ cs) ++ rest
    go true h e = steps-more r c (cs ++ ds) h ∙ ap (λ (l : List (List ℕ)). c.a ∷ l) (e ∙ later) ∙ sym (ap (λ (l : List (List ℕ)). l ++ rest) (steps-more r c cs h))
      where
        later : steps_of (next_record r c) cs ++ steps_of (record_after (next_record r c) cs) ds ≡ steps_of (next_record r c) cs ++ rest
        later = ap (λ (x : List ℕ). steps_of (next_record r c) cs ++ steps_of x ds) (after_next r c cs)
    go false h e = steps_kept r c (cs ++ ds) h ∙ e ∙ ap (λ (x : List ℕ). steps_of (next_record r c) cs ++ steps_of x ds) (after_next r c cs) ∙ sym (ap (λ (l : List (List ℕ)). l ++ rest) (steps_kept r c cs h))

-- ---- good steps: records of valid tableaux no wider than n
pub data GoodSteps (n : ℕ) : List (List ℕ) → Type 0 where
  nil : GoodSteps n []
  more : {a : List ℕ} {rest : List (List ℕ)} → Good a → width_of a ≤ n → GoodSteps n rest → GoodSteps n (a ∷ rest)

step-head : {n : ℕ} {a : List ℕ} {rest : List (List ℕ)} → Steps n (a ∷ rest) → Step n a
step-head (step s ss) = s

step_tail : {n : ℕ} {a : List ℕ} {rest : List (List ℕ)} → Steps n (a ∷ rest) → Steps n rest
step_tail (step s ss) = ss

-- well-formedness follows from acceptance
good-steps : (n : ℕ) (r : List ℕ) (cs : List Call) → Steps n (steps_of r cs) → GoodSteps n (steps_of r cs)
good-steps n r [] ss = subst (GoodSteps n) (sym (steps_nil r)) nil
good-steps n r (c ∷ cs) ss = go (accepts r c) refl (good-steps n (next_record r c) cs)
  where
    go : (b : Bool) → accepts r c ≡ b → (Steps n (steps_of (next_record r c) cs) → GoodSteps n (steps_of (next_record r c) cs)) → GoodSteps n (steps_of r (c ∷ cs))
    go true h later =
        let these : Steps n (c.a ∷ steps_of (next_record r c) cs) = subst (Steps n) (steps-more r c cs h) ss in
        subst (GoodSteps n) (sym (steps-more r c cs h))
        (more (record { formed = step-formed r c h; valid = (step-head these).valid }) (step-head these).narrow (later (step_tail these)))
    go false h later = subst (GoodSteps n) (sym (steps_kept r c cs h)) (later (subst (Steps n) (steps_kept r c cs h) ss))

good-first : (n : ℕ) (xs ys : List (List ℕ)) → GoodSteps n (xs ++ ys) → GoodSteps n xs
good-first n [] ys g = nil
good-first n (x ∷ xs) ys (more g w rest) = more g w (good-first n xs ys rest)

good-second : (n : ℕ) (xs ys : List (List ℕ)) → GoodSteps n (xs ++ ys) → GoodSteps n ys
good-second n [] ys g = g
good-second n (x ∷ xs) ys (more g w rest) = good-second n xs ys rest

-- ---- products of good steps
pub product-good : (n : ℕ) (p : List ℕ) (steps : List (List ℕ)) → Good p → GoodSteps n steps → Good (product_from p steps)
unfolding product_from
product-good n p [] gp gs = gp
product-good n p (a ∷ rest) gp (more g w gs) = product-good n (compose_record a p) rest (compose-good g gp) gs

pub product_narrow : (n : ℕ) (p : List ℕ) (steps : List (List ℕ)) → width_of p ≤ n → GoodSteps n steps → width_of (product_from p steps) ≤ n
unfolding product_from
product_narrow n p [] h gs = h
product_narrow n p (a ∷ rest) h (more g w gs) = product_narrow n (compose_record a p) rest (omega (arith, compose-width a p)) gs

product_wide : (n : ℕ) (p : List ℕ) (steps : List (List ℕ)) → n ≤ width_of p → n ≤ width_of (product_from p steps)
unfolding product_from
product_wide n p [] h = h
product_wide n p (a ∷ rest) h = product_wide n (compose_record a p) rest (omega (arith, compose-width a p))

-- a product of a composition is the composition of the product
product_apart : (n : ℕ) (p r : List ℕ) (steps : List (List ℕ)) → Good p → FormedTableau r → GoodSteps n steps
    → product_from (compose_record p r) steps ≡ compose_record (product_from p steps) r
unfolding product_from
product_apart n p r [] gp fr gs = refl
product_apart n p r (a ∷ rest) gp fr (more g w gs) =
    ap (λ (x : List ℕ). product_from x rest) (sym (records_assoc g gp.formed fr)) ∙ product_apart n (compose_record a p) r rest (compose-good g gp) fr gs

-- a string is sent through a product as by its steps
pub product-sends : (n : ℕ) (p : List ℕ) (steps : List (List ℕ)) → FormedTableau p → GoodSteps n steps → (s : List ℕ)
    → apply_record (product_from p steps) s ≡ sent_by steps (apply_record p s)
unfolding product_from sent_by
product-sends n p [] fp gs s = refl
product-sends n p (a ∷ rest) fp (more g w gs) s =
    product-sends n (compose_record a p) rest (compose-formed g.formed fp) gs s ∙ ap (sent_by rest) (send_compose g fp s)

-- ---- the way back
-- each string on the way is a record, so the next `apply` is accepted
each_applied : (n : ℕ) (steps : List (List ℕ)) → GoodSteps n steps → (s : List ℕ) → string_questions s ≡ Ok tt → (room : ℕ)
    → string_length ≤ room → EachApplied room steps s
unfolding apply_answer apply_questions apply_record
each_applied n [] gs s e room l = none_left
each_applied n (a ∷ rest) (more g w gs) s e room l =
    applied (done_room _ _ room (done_both _ _ (formed-good a g.formed) e) l) (each_applied n rest gs (apply_record a s) (strings_admitted _) room l)

small_width : (k : ℕ) → k ≤ 128 → k ≤ qubits
unfolding qubits
small_width k h = h

module _ (n : ℕ) (n≤ : n ≤ 128) (first rest : List Call) (premise : Steps n (steps_of (identity_record n) (first ++ rest))) (w : ℕ) (w≤ : w ≤ n) where
  abbrev start : List ℕ
  start = identity_record n

  abbrev then : List ℕ
  then = record_after start first

  abbrev now : List ℕ
  now = record_after start (first ++ rest)

  abbrev later : List (List ℕ)
  later = steps_of then rest

  -- the product of the later steps
  abbrev made : List ℕ
  made = product_of w later

  all_good : GoodSteps n (steps_of start first ++ later)
  all_good = subst (GoodSteps n) (steps_append start first rest) (good-steps n start (first ++ rest) premise)

  first_good : GoodSteps n (steps_of start first)
  first_good = good-first n (steps_of start first) later all_good

  later_good : GoodSteps n later
  later_good = good-second n (steps_of start first) later all_good

  start_good : Good start
  start_good = identity-good n (small_width n n≤)

  then_is : then ≡ product_from start (steps_of start first)
  then_is = after-steps start first

  then_good : Good then
  then_good = subst Good (sym then_is) (product-good n start (steps_of start first) start_good first_good)

  then_width : n ≤ width_of then
  then_width = subst (λ (x : List ℕ). n ≤ width_of x) (sym then_is) (product_wide n start (steps_of start first) (omega (arith, identity-width n)))

  product_is_good : Good made
  unfolding product_of
  product_is_good = product-good n (identity_record w) later (identity-good w (small_width w (omega arith))) later_good

  product-width : width_of made ≤ n
  unfolding product_of
  product-width = product_narrow n (identity_record w) later (omega (arith, identity-width w)) later_good

  back-good : Good (inverse_record made)
  back-good = inverse-good product_is_good

  -- the record now is the product of the later steps, composed with the record then
  now_is : now ≡ compose_record made then
  unfolding product_of
  now_is =
      after_append start first rest ∙ after-steps then rest
      ∙ ap (λ (x : List ℕ). product_from x later) (sym (identity-left w then_good.formed (omega (arith, then_width))))
      ∙ product_apart n (identity_record w) then later (identity-good w (small_width w (omega arith))) then_good.formed later_good

  bytes_back : compose_record (inverse_record made) now ≡ then
  bytes_back =
      ap (compose_record (inverse_record made)) now_is ∙ sym (records_assoc back-good product_is_good.formed then_good.formed)
      ∙ ap (λ (x : List ℕ). compose_record x then) (inverse_left product_is_good)
      ∙ identity-left (width_of made) then_good.formed (omega (arith, product-width, then_width))

  strings-back : (s : List ℕ) → string_questions s ≡ Ok tt → apply_record (compose_record (inverse_record made) now) s ≡ sent_by (steps_of start first) s
  strings-back s e =
      ap (λ (x : List ℕ). apply_record x s) (bytes_back ∙ then_is) ∙ product-sends n start (steps_of start first) start_good.formed first_good s
      ∙ ap (sent_by (steps_of start first)) (send_identity n (small_width n n≤) s e)

  now_formed : FormedTableau now
  now_formed = subst FormedTableau (sym now_is) (compose-formed product_is_good.formed then_good.formed)

  -- the record now has the width n, so the composition has no more bytes than it
  now_width : width_of now ≡ max (width_of made) (width_of then)
  now_width = ap width_of now_is ∙ compose-width made then

  asked-inverse : (room : ℕ) → length made ≤ room → inverse_answer made room ≡ Ok tt
  unfolding inverse_answer
  asked-inverse room l =
      done_room _ _ room (formed-good made product_is_good.formed) (omega (arith, product_is_good.formed.long))

  asked-compose : (room : ℕ) → length now ≤ room → compose_answer (inverse_record made) now room ≡ Ok tt
  unfolding compose_answer compose_questions
  asked-compose room l =
      let wide : max (width_of (inverse_record made)) (width_of now) ≡ width_of now =
      omega (arith, inverse-width made, now_width) in
      let long : record_length (max (width_of (inverse_record made)) (width_of now)) ≡ length now =
      ap record_length wide ∙ sym now_formed.long in
      done_room _ _ room (done_both _ _ (formed-good (inverse_record made) back-good.formed) (formed-good now now_formed)) (omega arith)

  asked-apply : (s : List ℕ) → string_questions s ≡ Ok tt → (room : ℕ) → string_length ≤ room
      → apply_answer (compose_record (inverse_record made) now) s room ≡ Ok tt
  unfolding apply_answer apply_questions
  asked-apply s e room l =
      done_room _ _ room
      (done_both _ _ (ap tableau_questions bytes_back ∙ formed-good then then_good.formed) e) l

  asked-call : (d : List ℕ) → length now ≤ length d → accepts now (record { a = inverse_record made; destination = d }) ≡ true
  unfolding accepts call_answer is_done
  asked-call d l = ap is_done (asked-compose (length d) l)

  -- For every way to part a list of calls.
  pub way_back_parted : WayBack (steps_of start first) made then now
  way_back_parted = record {
    inverts = asked-inverse;
    composes = asked-compose;
    applies = asked-apply;
    bytes = bytes_back;
    accepted = asked-call;
    returns = λ d l. next-is now _ (asked-call d l) ∙ bytes_back;
    sends = each_applied n (steps_of start first) first_good;
    strings = strings-back;
    formed = formed-good (inverse_record made) back-good.formed;
    valid = back-good.valid;
    width = inverse-width made;
    left = inverse_left product_is_good;
    right = inverse-right product_is_good;
  }

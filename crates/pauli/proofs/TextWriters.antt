-- What is put through a text writer: texts one after another, the decimal numeral of a number, and the entry of a sparse text.
use Rattle.std.proofs.Common.{◌≡◌, ℕ, zero, suc, ◌+◌, ◌/◌, ◌%◌, ◌<◌, ◌≤◌, Bool, true, false, min, List, [], ◌∷◌, ◌++◌, length, sym, refl, ap, ◌∙◌, ap₂, subst, arith, rules}
use Rattle.pauli.specs.declared.text_writer.TextWriter.{TextWriter}
use Rattle.pauli.specs.Layout.{letter_of}
use Rattle.pauli.specs.SparseText.{decimal, letter_text, entry_word}
use Rattle.pauli.specs.TextWriting.{last_place, Stored}
use Rattle.pauli.specs.TextWriters.{writer_place, Put}
use Rattle.pauli.specs.Inside.TextWriting.{TextWritten, added, more_text}
use Rattle.pauli.proofs.TextWrites.{stored-none, stored-capped, stored_join, stored_as, whole-text, put_in, put_out, part_put, words-none, words-some}
use Rattle.pauli.proofs.Decimals.{decimal-one, decimal-more}

-- what is stored from the place of a writer on
pub put_stored : {s t : TextWriter} {w : List ℕ} → t.dst.ghost_name ≡ s.dst.ghost_name → Stored s.at w s.dst.now t.dst.now t.at → Put w s t
put_stored e a = record { same = e; stored = stored-capped a }

pub ruleset part_puts = (put_stored, put_in, put_out, part_put, rules)

-- ---- no text, two texts one after another, and the same text
pub put_none : {s : TextWriter} → Put [] s s
put_none = record { same = refl; stored = stored-none (record { fits = omega arith }) }

pub put_join : {s t u : TextWriter} {v w : List ℕ} → Put v s t → Put w t u → Put (v ++ w) s u
put_join a b = record { same = b.same ∙ a.same; stored = stored_join a.stored b.stored }

pub put_as : {s t : TextWriter} {v w : List ℕ} → v ≡ w → Put v s t → Put w s t
put_as p a = record { same = a.same; stored = stored_as p a.stored }

-- a whole text, from the front on
pub put_whole : {s t : TextWriter} {w d f : List ℕ} {r : ℕ} → length w < last_place → s.at ≡ 0 → s.dst.now ≡ d → Put w s t → f ≡ t.dst.now → r ≡ t.at
    → TextWritten w d f r
put_whole {s} {t} {w} {d} {f} {r} h e i a l p =
    let front : writer_place s ≡ 0 = omega (arith, e) in
    let end : writer_place t ≡ r = omega (arith, e, p, a.stored.place) in
    whole-text (omega (arith, h)) (subst (λ x. x) (λ j. Stored (front j) w (i j) (sym l j) (end j)) a.stored)

-- ---- a numeral: one digit, or that of the tenth and a digit
pub number_one : {s t u : TextWriter} {n c : ℕ} → n < 10 → t ≡ s → c ≡ 48 + n % 10 → Put (c ∷ []) t u → Put (decimal n) s u
number_one {u = u} {n} {c} h e p a =
    let small : n % 10 ≡ n = omega arith in
    put_as (ap (λ (x : ℕ). x ∷ []) (p ∙ ap (λ (x : ℕ). 48 + x) small) ∙ sym (decimal-one n h)) (subst (λ x. Put (c ∷ []) x u) e a)

pub number_more : {s t u r : TextWriter} {n c : ℕ} → 10 ≤ n → r ≡ t → c ≡ 48 + n % 10 → Put (decimal (n / 10)) s t → Put (c ∷ []) r u → Put (decimal n) s u
number_more {u = u} {n = n} {c} h e p a b =
    put_as (ap (λ (x : ℕ). decimal (n / 10) ++ (x ∷ [])) p ∙ sym (decimal-more n h)) (put_join a (subst (λ x. Put (c ∷ []) x u) e b))

-- ---- an entry, with the space before it
pub entry_put : {s t u : TextWriter} {c : ℕ} (l q : ℕ) → c ≡ letter_text (letter_of l) → Put (c ∷ []) s t → Put (decimal q) t u
    → Put (entry_word (letter_of l) q) s u
unfolding entry_word
entry_put l q h a b = put_as (ap (λ (x : ℕ). x ∷ decimal q) h) (put_join a b)

module _ {s : TextWriter} {l : ℕ} (first : Bool) (q : ℕ) where
  pub more_none : l ≡ 0 → Put (more_text first (letter_of l) q) s s
  unfolding more_text added
  more_none h = put_as (sym (ap (added first) (words-none l q h))) put_none

  pub more_first : {t : TextWriter} → (l ≡ 0 → ⊥) → first ≡ true → Put (entry_word (letter_of l) q) s t → Put (more_text first (letter_of l) q) s t
  unfolding more_text added
  more_first h p a = put_as (sym (ap₂ added p (words-some l q h))) a

  pub more_next : {t u : TextWriter} → (l ≡ 0 → ⊥) → first ≡ false → Put (32 ∷ []) s t → Put (entry_word (letter_of l) q) t u
      → Put (more_text first (letter_of l) q) s u
  unfolding more_text added
  more_next h p a b = put_as (sym (ap₂ added p (words-some l q h))) (put_join a b)

pub ruleset entries = (entry_put, more_none, more_first, more_next, rules)

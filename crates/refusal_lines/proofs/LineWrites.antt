-- The line of a refusal, written part by part.
use mathlib.Core.Path.{◌≡◌, refl, sym, ap, ◌∙◌}
use mathlib.Core.Bool.{Bool, true, false, cond}
use mathlib.Core.List.{List, [], ◌∷◌, ◌++◌}
use Prim.Native.Nat.{ℕ, ◌^◌, ◌<◌}
use native.Mathlib.Omega.{arith}
use borrow.Author.Rules.{rules}
use borrow.Author.Tests.{ne_eqb}
use Rattle.pauli.specs.QuotedText.{bytes_of}
use Rattle.pauli.specs.SparseText.{decimal}
use Rattle.pauli.specs.declared.text_writer.TextWriter.{TextWriter}
use Rattle.pauli.specs.TextWriters.{Put}
use Rattle.pauli.specs.Inside.TextWriting.{TextWritten}
use Rattle.pauli.proofs.TextWriters.{put_none, put_join, put_as, put_whole}
use Rattle.refusal_wording.specs.RefusalLines.{Sentence, sentences, sentence_among, sentence, has_detail, detail_text, is_width_error, width_error_text, wording, refusal_line}
use Rattle.refusal_wording.proofs.LineParts.{worded, detailed}
use Rattle.refusal_wording.proofs.LineText.{line-most}

-- ---- a sentence: that of the arm's number, and where no arm has it, unknown
pub sentence_arm : {w : List ℕ} {n : ℕ} (m : ℕ) → n ≡ m → w ≡ sentence m → w ≡ sentence n
sentence_arm m h e = e ∙ ap sentence (sym h)

-- what is known after the arms for the sentences of a table
abbrev pub NoneOf : List Sentence → ℕ → Type 0
NoneOf [] n = Unit {0}
NoneOf (s ∷ rest) n = (n ≡ s.number → ⊥) × NoneOf rest n

none_of : (t : List Sentence) (n : ℕ) → NoneOf t n → bytes_of "unknown" ≡ sentence_among t n
unfolding sentence_among
none_of [] n h = refl
none_of (s ∷ rest) n h = none_of rest n h.1 ∙ sym (ap (λ b. cond b (bytes_of s.text) (sentence_among rest n)) (ne_eqb n s.number h.0))

pub sentence_unknown : (n : ℕ) → NoneOf sentences n → bytes_of "unknown" ≡ sentence n
unfolding sentences sentence
sentence_unknown n h = none_of sentences n h

pub ruleset sentence_arms = (sentence_arm, sentence_unknown, rules)

-- ---- the detail
module _ {s : TextWriter} {b : Bool} (n m : ℕ) (e : b ≡ has_detail n) where
  pub detail_none : b ≡ false → Put (detail_text n m) s s
  detail_none h = put_as (sym (detailed n m (sym e ∙ h))) put_none

  pub detail_some : {t u : TextWriter} → b ≡ true → Put (bytes_of " ") s t → Put (decimal m) t u → Put (detail_text n m) s u
  detail_some h x y = put_as (sym (detailed n m (sym e ∙ h))) (put_join x y)

-- ---- the wording of 14 and 15, and of the others
pub error_put : {s t u v w x : TextWriter} (m n : ℕ) → Put (bytes_of "qubit ") s t → Put (decimal m) t u → Put (bytes_of " is outside num_qubits ") u v
    → Put (decimal n) v w → Put (bytes_of "; pass a width greater than the maximum qubit index (max qubit + 1)") w x → Put (width_error_text m n) s x
unfolding width_error_text
error_put m n a b c d e = put_join a (put_join b (put_join c (put_join d e)))

module _ {b : Bool} {s : TextWriter} (n m w : ℕ) (e : b ≡ is_width_error n) where
  pub wording_error : {t : TextWriter} → b ≡ true → Put (width_error_text m w) s t → Put (wording n m w) s t
  wording_error h a = put_as (sym (worded n m w (sym e ∙ h))) a

  pub wording_sentence : {t u : TextWriter} {x : List ℕ} → b ≡ false → x ≡ sentence n → Put x s t → Put (detail_text n m) t u → Put (wording n m w) s u
  wording_sentence h i x y = put_as (ap (λ (l : List ℕ). l ++ detail_text n m) i ∙ sym (worded n m w (sym e ∙ h))) (put_join x y)

-- ---- the whole line
pub line_written : {s t u v : TextWriter} {d e : List ℕ} {n m w r : ℕ} → n < 2 ^ 64 → m < 2 ^ 64 → w < 2 ^ 64 → s.at ≡ 0 → s.dst.now ≡ d
    → Put (decimal n) s t → Put (bytes_of ": ") t u → Put (wording n m w) u v → e ≡ v.dst.now → r ≡ v.at → TextWritten (refusal_line n m w) d e r
unfolding refusal_line
line_written hn hm hw f i x y z = put_whole (omega (arith, line-most hn hm hw)) f i (put_join x (put_join y z))

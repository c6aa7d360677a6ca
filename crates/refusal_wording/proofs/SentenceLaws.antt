-- The sentences, by one computed test over their table.
use mathlib.Core.Path.{◌≡◌, refl}
use mathlib.Core.Bool.{Bool, true, false, cond, not, ◌&&◌}
use mathlib.Core.List.{List, [], ◌∷◌}
use Prim.Native.Nat.{ℕ, ◌≤◌}
use lib.Dec.{eqb, leb}
use lib.ListN.{length}
use borrow.Author.Tests.{not-true, leb-true}
use Rattle.pauli_group.proofs.Finite.{and_both}
use Rattle.pauli.specs.QuotedText.{bytes_of}
use Rattle.pauli.specs.Text.{is_digit, any_digit}
use Rattle.refusal_wording.specs.RefusalLines.{Sentence, sentences, sentence_among, sentence}

-- a test of every byte
unfoldable pub each : (ℕ → Bool) → List ℕ → Bool
each f [] = true
each f (c ∷ cs) = f c && each f cs

-- from the space to the tilde
unfoldable pub is_printed : ℕ → Bool
is_printed c = leb 32 c && leb c 126

-- a test of every sentence, "unknown" among them
unfoldable every : (List ℕ → Bool) → List Sentence → Bool
every f [] = f (bytes_of "unknown")
every f (s ∷ rest) = f (bytes_of s.text) && every f rest

among_has : (f : List ℕ → Bool) (t : List Sentence) (n : ℕ) → every f t ≡ true → f (sentence_among t n) ≡ true
unfolding every sentence_among
among_has f [] n h = h
among_has f (s ∷ rest) n h =
    let both = and_both (f (bytes_of s.text)) (every f rest) h in
    pick (eqb n s.number) both.0 (among_has f rest n both.1)
  where
    pick : (b : Bool) {x y : List ℕ} → f x ≡ true → f y ≡ true → f (cond b x y) ≡ true
    pick true k l = k
    pick false k l = l

-- no digit, every byte printed, and no more than 63 of them
unfoldable is_fit : List ℕ → Bool
is_fit t = not (any_digit t) && (each is_printed t && leb (length t) 63)

sentences_fit : every is_fit sentences ≡ true
unfolding every is_fit sentences any_digit is_digit each is_printed
sentences_fit = refl

module _ (n : ℕ) where
  fit : (not (any_digit (sentence n)) ≡ true) × ((each is_printed (sentence n) && leb (length (sentence n)) 63) ≡ true)
  unfolding sentence is_fit
  fit = and_both (not (any_digit (sentence n))) (each is_printed (sentence n) && leb (length (sentence n)) 63) (among_has is_fit sentences n sentences_fit)

  -- "fixed texts without digits"
  pub sentence-digits : any_digit (sentence n) ≡ false
  sentence-digits = not-true (any_digit (sentence n)) fit.0

  pub sentence_printed : each is_printed (sentence n) ≡ true
  sentence_printed = (and_both (each is_printed (sentence n)) (leb (length (sentence n)) 63) fit.1).0

  pub sentence-most : length (sentence n) ≤ 63
  sentence-most = leb-true (length (sentence n)) 63 (and_both (each is_printed (sentence n)) (leb (length (sentence n)) 63) fit.1).1

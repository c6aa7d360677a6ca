-- The product of two records is that of their letters at each place, and of their phases.
use mathlib.Core.Path.{◌≡◌, sym, ap, ap₂, ◌∙◌}
use mathlib.Core.List.{List}
use Prim.Native.Nat.{ℕ}
use Rattle.pauli_group.specs.Phase.{◌·◌}
use Rattle.pauli_group.specs.Letter.{letter_phase, letter_mul}
use Rattle.pauli_group.specs.PauliString.{PauliString, mul, places_taken}
use Rattle.pauli_group.proofs.Products.{product_to_ext}
use Rattle.pauli_group.proofs.PlacesTaken.{taken_le, taken-within, phase-taken}
use Rattle.pauli.specs.Layout.{letter_byte, string_of}
use Rattle.pauli.specs.Rows.{product_phase_byte, product_letter_byte}
use Rattle.pauli.specs.Strings.{phase_of_record, letter_of_record, places_taken_of_records}
use Rattle.pauli.proofs.Records.{phase-back, letter-back, string-within}
use Rattle.pauli_laws.specs.ProductByLetters.{phase_at_place, ProductByLetters}
use Rattle.pauli_laws.proofs.EitherOrder.{read_back}

module _ (s t : List ℕ) where
  abbrev S : PauliString
  S = string_of s

  abbrev T : PauliString
  T = string_of t

  place-phase : (q : ℕ) → letter_phase (S.letters q) (T.letters q) ≡ phase_at_place s t q
  unfolding phase_at_place product_phase_byte letter_of_record
  place-phase q = sym (phase-back _ ∙ ap₂ letter_phase (letter-back (S.letters q)) (letter-back (T.letters q)))

  pub product_by_letters : ProductByLetters s t
  unfolding phase_of_record letter_of_record places_taken_of_records product_letter_byte mul
  product_by_letters = record {
    letters = λ q. ap (λ (u : PauliString). letter_byte (u.letters q)) (read_back s t)
        ∙ sym (ap letter_byte (ap₂ letter_mul (letter-back (S.letters q)) (letter-back (T.letters q))));
    phase = phase-back _ ∙ ap (λ (u : PauliString). u.phase) (read_back s t)
        ∙ ap₂ ◌·◌ (sym (ap₂ ◌·◌ (phase-back S.phase) (phase-back T.phase)))
        (phase-taken S T (places_taken S T) (taken_le S T) (taken-within S T (string-within s) (string-within t)).0
        ∙ product_to_ext (places_taken S T) _ _ (λ q l. place-phase q));
  }

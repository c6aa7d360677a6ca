-- s·t = (-1)^n t·s on records, for the number n of places at which s and t anticommute.
use mathlib.Core.Path.{◌≡◌, sym, ap, ap₂, ◌∙◌}
use mathlib.Core.List.{List}
use Prim.Native.Nat.{ℕ}
use Rattle.pauli_group.specs.Phase.{◌·◌}
use Rattle.pauli_group.specs.PauliString.{PauliString, qubits, mul, scale, commutation_sign}
use Rattle.pauli_group.proofs.Strings.{mul_swap, within-mul}
use Rattle.pauli_group.proofs.AnticommutingPlaces.{places-most, even-commute}
use Rattle.pauli.specs.Layout.{phase_byte, letter_byte, string_of, string_record}
use Rattle.pauli.specs.Rows.{phase_bytes_product}
use Rattle.pauli.specs.Strings.{phase_of_record, letter_of_record, places_of_records, product_record}
use Rattle.pauli.proofs.Records.{phase-back, string-within, string-back}
use Rattle.pauli_laws.specs.EitherOrder.{EitherOrder}

-- a product's record is read back as the product
pub read_back : (s t : List ℕ) → string_of (product_record s t) ≡ mul (string_of s) (string_of t)
unfolding product_record
read_back s t = string-back _ (within-mul qubits (string_of s) (string_of t) (string-within s) (string-within t))

module _ (s t : List ℕ) where
  abbrev S : PauliString
  S = string_of s

  abbrev T : PauliString
  T = string_of t

  read_swapped : string_of (product_record s t) ≡ scale (commutation_sign S T) (string_of (product_record t s))
  read_swapped = read_back s t ∙ mul_swap S T ∙ ap (scale (commutation_sign S T)) (sym (read_back t s))

  pub either_order : EitherOrder s t
  unfolding places_of_records phase_of_record letter_of_record product_record phase_bytes_product commutation_sign scale qubits
  either_order = record {
    most = places-most S T;
    phase = ap (λ (u : PauliString). phase_byte u.phase) read_swapped ∙ sym (ap phase_byte (ap₂ ◌·◌ (phase-back _) (phase-back _)));
    letters = λ q. ap (λ (u : PauliString). letter_byte (u.letters q)) read_swapped;
    even = ((λ e. ap string_record ((even-commute S T).0 e)), (λ e. (even-commute S T).1 (sym (read_back s t) ∙ ap string_of e ∙ read_back t s)));
  }

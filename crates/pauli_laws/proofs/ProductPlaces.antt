-- The places that a product takes: the fewest behind which both records have only I; behind them neither counts.
use mathlib.Core.Path.{◌≡◌, refl, sym, ap, ap₂, ◌∙◌}
use mathlib.Core.List.{List}
use Prim.Native.Nat.{ℕ, ◌≤◌}
use native.Mathlib.Decide.{dec_lt}
use native.Mathlib.Omega.{arith}
use Rattle.pauli_group.specs.Letter.{Letter, I, X, Z, Y}
use Rattle.pauli_group.specs.PauliString.{PauliString, qubits, mul, places_taken, Within}
use Rattle.pauli_group.proofs.Strings.{string_ext, within-mul}
use Rattle.pauli_group.proofs.PlacesTaken.{taken_le, taken-within, taken-least}
use Rattle.pauli.specs.Layout.{letter_byte, decode_string, string_of, string_record}
use Rattle.pauli.specs.Strings.{letter_of_record, places_taken_of_records, product_record}
use Rattle.pauli.proofs.Records.{decode_encode, decode_within, decode_phase, decode_letter, string-within}
use Rattle.pauli_laws.specs.ProductPlaces.{cut_record, ProductPlaces}
use Rattle.pauli_laws.proofs.EitherOrder.{read_back}

byte-I : (l : Letter) → letter_byte l ≡ 0 → l ≡ I
unfolding letter_byte
byte-I I e = refl
byte-I X e = absurd (omega arith)
byte-I Z e = absurd (omega arith)
byte-I Y e = absurd (omega arith)

-- letters told as 0, and strings that end
only-I : (s : List ℕ) (k : ℕ) → ((q : ℕ) → k ≤ q → letter_of_record s q ≡ 0) → Within k (string_of s)
unfolding letter_of_record
only-I s k h q l = byte-I ((string_of s).letters q) (h q l)

ends : (s : List ℕ) (k : ℕ) → Within k (string_of s) → (q : ℕ) → k ≤ q → letter_of_record s q ≡ 0
unfolding letter_of_record letter_byte
ends s k h q l = ap letter_byte (h q l)

-- a string that ends before place k is the same when it is cut there
cut-same : (s : List ℕ) (k : ℕ) → k ≤ qubits → Within k (string_of s) → string_of (cut_record k s) ≡ string_of s
unfolding cut_record string_record string_of
cut-same s k h w =
    decode_encode qubits (decode_string k s) (λ q l. decode_within k s q (omega arith))
    ∙ string_ext (decode_string k s) (decode_string qubits s) (decode_phase k s ∙ sym (decode_phase qubits s))
    (λ q. elim (dec_lt q k) [
      | yes l ↦ decode_letter k s q l ∙ sym (decode_letter qubits s q (omega arith))
      | no l ↦ decode_within k s q (omega arith) ∙ sym (w q (omega arith))
    ])

module _ (s t : List ℕ) where
  abbrev p : ℕ
  p = places_taken (string_of s) (string_of t)

  both : Within p (string_of s) × Within p (string_of t)
  both = taken-within (string_of s) (string_of t) (string-within s) (string-within t)

  product-ends : Within p (string_of (product_record s t))
  product-ends q l = ap (λ (u : PauliString). u.letters q) (read_back s t) ∙ within-mul p (string_of s) (string_of t) both.0 both.1 q l

  pub product-places : ProductPlaces s t
  unfolding places_taken_of_records qubits product_record
  product-places = record {
    most = taken_le (string_of s) (string_of t);
    behind = record { first = ends s p both.0; second = ends t p both.1 };
    least = λ k h. taken-least (string_of s) (string_of t) k (only-I s k h.first) (only-I t k h.second);
    cut = ap₂ (λ (a : PauliString) (b : PauliString). string_record (mul a b))
        (cut-same s p (taken_le (string_of s) (string_of t)) both.0) (cut-same t p (taken_le (string_of s) (string_of t)) both.1);
    product = ends (product_record s t) p product-ends;
  }

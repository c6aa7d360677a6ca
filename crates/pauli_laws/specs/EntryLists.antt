-- What `with_phase_and_paulis` admits: entries as pairs of a letter and a qubit (scope document, "String record").
use Rattle.std.specs.Prelude.{ℕ, ◌<◌, ◌≤◌, ◌≡◌, cond, List, [], ◌∷◌, eqb}
use Rattle.pauli_group.specs.Phase.{Phase}
use Rattle.pauli_group.specs.Letter.{Letter, I}
use Rattle.pauli_group.specs.PauliString.{PauliString, qubits}
use Rattle.pauli.specs.Layout.{letter_byte, string_length}

pub record Entry : Type 0 where
  pub letter : Letter
  pub qubit : ℕ

-- "Entries are byte pairs (letter, qubit)"
unfoldable pub entry_bytes : List Entry → List ℕ
entry_bytes [] = []
entry_bytes (e ∷ es) = letter_byte e.letter ∷ e.qubit ∷ entry_bytes es

-- no entry names qubit q
pub data Unnamed (q : ℕ) : List Entry → Type 0 where
  none : Unnamed q []
  other : {e : Entry} {es : List Entry} → (e.qubit ≡ q → ⊥) → Unnamed q es → Unnamed q (e ∷ es)

-- "Is each qubit below 128 (of I entries too)", "is each qubit named once"
pub data NamedOnce : List Entry → Type 0 where
  none : NamedOnce []
  entry : {e : Entry} {es : List Entry} → e.qubit < qubits → Unnamed e.qubit es → NamedOnce es → NamedOnce (e ∷ es)

-- a phase byte, the bytes of such entries, and room for a string record
pub record EntriesGiven (p : ℕ) (b : List ℕ) (room : ℕ) : Type 0 where
  pub phase : p ≤ 3
  pub entries : List Entry
  pub bytes : b ≡ entry_bytes entries
  pub once : NamedOnce entries
  pub enough : string_length ≤ room

-- the string that they name: at each qubit the letter named for it, I where none is
unfoldable pub letter_for : List Entry → ℕ → Letter
letter_for [] q = I
letter_for (e ∷ es) q = cond (eqb e.qubit q) e.letter (letter_for es q)

unfoldable pub named_string : Phase → List Entry → PauliString
named_string p es = record { phase = p; letters = letter_for es }

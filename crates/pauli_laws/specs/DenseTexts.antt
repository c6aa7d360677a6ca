-- What `from_dense_str` admits: white space, a prefix, letters and white space (scope document, "String record").
use Rattle.std.specs.Prelude.{ℕ, ◌<◌, ◌≤◌, ◌≡◌, true, false, length, get_or}
use mathlib.Core.List.{List, [], ◌∷◌, ◌++◌, Memᴰ}
use Rattle.pauli_group.specs.Phase.{Phase, PlusOne, MinusOne, PlusI, MinusI, is_real}
use Rattle.pauli_group.specs.Letter.{Letter, I, X, Z, Y}
use Rattle.pauli_group.specs.PauliString.{PauliString, qubits, Within}
use Rattle.pauli.specs.Text.{is_space, is_small_i}
use Rattle.pauli.specs.QuotedText.{bytes_of}

infix 40 ◌among◌
abbrev pub ◌among◌ : {A : Type 0} → A → List A → Type 0
a among l = Memᴰ a l

-- "The prefix is +, −, +i, −i, i or none (a hyphen is written for −)": how a phase may be written
unfoldable pub prefixes : Phase → List (List ℕ)
prefixes PlusOne = bytes_of "" ∷ bytes_of "+" ∷ []
prefixes MinusOne = bytes_of "-" ∷ []
prefixes PlusI = bytes_of "+i" ∷ bytes_of "i" ∷ []
prefixes MinusI = bytes_of "-i" ∷ []

-- "I, i and 1 are identity; x, y, z may be either case": how a letter may be written
unfoldable pub spellings : Letter → List ℕ
spellings I = bytes_of "Ii1"
spellings X = bytes_of "Xx"
spellings Y = bytes_of "Yy"
spellings Z = bytes_of "Zz"

pub data White : List ℕ → Type 0 where
  none : White []
  space : {c : ℕ} {w : List ℕ} → is_space c ≡ true → White w → White (c ∷ w)

-- t is a dense text of the string s
pub record DenseText (s : PauliString) (t : List ℕ) : Type 0 where
  pub before : List ℕ
  pub prefix : List ℕ
  pub body : List ℕ
  pub after : List ℕ
  pub bytes : t ≡ before ++ (prefix ++ (body ++ after))
  pub white_before : White before
  pub white_after : White after
  pub phase : prefix among prefixes s.phase
  -- a prefix takes as much as it can: after none, + or - comes no i
  pub longest : is_real s.phase ≡ true → is_small_i (get_or body 0 0) ≡ false
  -- "the letter's position after the prefix is its qubit"; behind the last there are none
  pub letters : (q : ℕ) → q < length body → get_or body q 0 among spellings (s.letters q)
  pub rest : (q : ℕ) → length body ≤ q → s.letters q ≡ I
  -- "Is the qubit of a non-I letter below 128?"
  pub within : Within qubits s

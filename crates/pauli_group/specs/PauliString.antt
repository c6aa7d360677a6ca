-- Pauli strings: a phase, and a letter for each qubit.
use Rattle.std.specs.Prelude.{ℕ, zero, suc, ◌+◌, ◌%◌, ◌≤◌, ◌≡◌, Bool, cond, ◌||◌, eqb}
use Rattle.pauli_group.specs.Phase.{Phase, PlusOne, minus_one_to, ◌·◌}
use Rattle.pauli_group.specs.Letter.{Letter, I, not_i, letter_phase, letter_mul, anticommute}

-- the number of qubits of a string record. No law below depends on which number it is.
unfoldable pub qubits : ℕ
qubits = 128

-- The letters are a function of the qubit. A record's string has I at `qubits` and above.
pub record PauliString : Type 0 where
  pub phase : Phase
  pub letters : ℕ → Letter

-- the product of the phases f 0 to f (n - 1)
unfoldable pub product_to : ℕ → (ℕ → Phase) → Phase
product_to zero f = PlusOne
product_to (suc n) f = product_to n f · f n

-- how many of the places 0 to n - 1 have f
unfoldable pub count_to : ℕ → (ℕ → Bool) → ℕ
count_to zero f = 0
count_to (suc n) f = count_to n f + cond (f n) 1 0

-- 1 + the last of the places 0 to n - 1 that has f, and 0 where none has
unfoldable pub last_to : ℕ → (ℕ → Bool) → ℕ
last_to zero f = 0
last_to (suc n) f = cond (f n) (suc n) (last_to n f)

-- the phase that the letters' products give, over all qubits
unfoldable pub phase_of_letters : (ℕ → Letter) → (ℕ → Letter) → Phase
phase_of_letters a b = product_to qubits (λ q. letter_phase (a q) (b q))

-- A product multiplies phases and, qubit by qubit, letters.
unfoldable pub mul : PauliString → PauliString → PauliString
mul s t = record {
  phase = s.phase · t.phase · phase_of_letters s.letters t.letters;
  letters = λ q. letter_mul (s.letters q) (t.letters q);
}

-- a letter other than I at qubit q
unfoldable pub has_letter : PauliString → ℕ → Bool
has_letter s q = not_i (s.letters q)

-- the weight of the letters on qubits 0 to n - 1: how many of them are other than I
unfoldable pub weight_to : ℕ → PauliString → ℕ
weight_to n s = count_to n (has_letter s)

-- the places that a product takes: as far as the last at which either string has a letter other than I
unfoldable pub places_taken : PauliString → PauliString → ℕ
places_taken s t = last_to qubits (λ q. has_letter s q || has_letter t q)

-- the identity: phase +1 and I everywhere
unfoldable pub identity_string : PauliString
identity_string = record { phase = PlusOne; letters = λ q. I }

-- the same letters, with the phase multiplied by p
unfoldable pub scale : Phase → PauliString → PauliString
scale p s = record { phase = p · s.phase; letters = s.letters }

-- one letter, on qubit k
unfoldable pub single : Letter → ℕ → PauliString
single l k = record { phase = PlusOne; letters = λ q. cond (eqb q k) l I }

-- the number of qubits at which two strings have two different letters other than I
unfoldable pub anticommuting_places : PauliString → PauliString → ℕ
anticommuting_places s t = count_to qubits (λ q. anticommute (s.letters q) (t.letters q))

-- two strings commute when that number is even
unfoldable pub commute : PauliString → PauliString → Bool
commute s t = eqb (anticommuting_places s t % 2) 0

-- the sign by which two strings change when they change places: -1 to that number
unfoldable pub commutation_sign : PauliString → PauliString → Phase
commutation_sign s t = minus_one_to (anticommuting_places s t)

-- no letter at qubit w or above
abbrev pub Within : ℕ → PauliString → Type 0
Within w s = (q : ℕ) → w ≤ q → s.letters q ≡ I

-- Laws of the layout: both round trips of phase and letter bytes and of string records.
use Rattle.std.proofs.Common.{◌≡◌, ℕ, zero, suc, ◌+◌, ◌<◌, ◌≤◌, true, false, cond, List, length, get_or, sym, refl, ap, ◌∙◌, add-one, arith, ext_get_or, le-ltb, lt-ltb}
use native.Mathlib.Decide.{dec_lt}
use Rattle.pauli_group.specs.Phase.{Phase, PlusOne, MinusOne, PlusI, MinusI}
use Rattle.pauli_group.specs.Letter.{Letter, I, X, Z, Y, not_i}
use Rattle.pauli_group.specs.PauliString.{PauliString, qubits, has_letter, Within}
use Rattle.pauli_group.proofs.Strings.{string_ext}
use Rattle.pauli.specs.Layout.{phase_byte, phase_of, letter_byte, letter_of, encode_string, decode_string, string_record, string_of, WellFormed}
use Rattle.pauli.proofs.Places.{length-listed, get_d_listed}

-- ---- bytes of phases and letters
pub phase-back : (p : Phase) → phase_of (phase_byte p) ≡ p
unfolding phase_of phase_byte
phase-back PlusOne = refl
phase-back MinusOne = refl
phase-back PlusI = refl
phase-back MinusI = refl

pub letter-back : (l : Letter) → letter_of (letter_byte l) ≡ l
unfolding letter_of letter_byte
letter-back I = refl
letter-back X = refl
letter-back Z = refl
letter-back Y = refl

pub phase_there : (b : ℕ) → b ≤ 3 → phase_byte (phase_of b) ≡ b
unfolding phase_of phase_byte
phase_there zero h = refl
phase_there (suc zero) h = refl
phase_there (suc (suc zero)) h = refl
phase_there (suc (suc (suc b))) h = omega arith

pub letter_there : (b : ℕ) → b ≤ 3 → letter_byte (letter_of b) ≡ b
unfolding letter_of letter_byte
letter_there zero h = refl
letter_there (suc zero) h = refl
letter_there (suc (suc zero)) h = refl
letter_there (suc (suc (suc b))) h = omega arith

pub phase-small : (p : Phase) → phase_byte p ≤ 3
unfolding phase_byte
phase-small PlusOne = omega arith
phase-small MinusOne = omega arith
phase-small PlusI = omega arith
phase-small MinusI = omega arith

pub letter-small : (l : Letter) → letter_byte l ≤ 3
unfolding letter_byte
letter-small I = omega arith
letter-small X = omega arith
letter-small Z = omega arith
letter-small Y = omega arith

-- ---- strings of w letters
pub length_encode : (w : ℕ) (s : PauliString) → length (encode_string w s) ≡ suc w
unfolding encode_string
length_encode w s = ap suc (length-listed w _)

pub encode_letter : (w : ℕ) (s : PauliString) (q : ℕ) → q < w → get_or (encode_string w s) (suc q) 0 ≡ letter_byte (s.letters q)
unfolding encode_string
encode_letter w s q h = get_d_listed w _ q 0 h

pub encode_phase : (w : ℕ) (s : PauliString) → get_or (encode_string w s) 0 0 ≡ phase_byte s.phase
unfolding encode_string
encode_phase w s = refl

encode_small : (w : ℕ) (s : PauliString) (k : ℕ) → k < suc w → get_or (encode_string w s) k 0 ≤ 3
encode_small w s zero h = omega (arith, encode_phase w s, phase-small s.phase)
encode_small w s (suc k) h = let l : k < w = omega arith in omega (arith, encode_letter w s k l, letter-small (s.letters k))

pub encode_formed : (w : ℕ) (s : PauliString) → WellFormed w (encode_string w s)
encode_formed w s = record { long = length_encode w s; small = λ k h. encode_small w s k (omega (arith, length_encode w s)) }

-- decode after encode, on strings without letters at w or above
pub decode_encode : (w : ℕ) (s : PauliString) → Within w s → decode_string w (encode_string w s) ≡ s
unfolding decode_string
decode_encode w s h =
    string_ext (decode_string w (encode_string w s)) s (ap phase_of (encode_phase w s) ∙ phase-back s.phase)
    (λ q. elim (dec_lt q w) [
      | yes l ↦ ap (λ b. cond b (letter_of (get_or (encode_string w s) (suc q) 0)) I) (lt-ltb q w l)
          ∙ ap letter_of (encode_letter w s q l) ∙ letter-back (s.letters q)
      | no l ↦ ap (λ b. cond b (letter_of (get_or (encode_string w s) (suc q) 0)) I) (le-ltb q w (omega arith)) ∙ sym (h q (omega arith))
    ])

pub decode_within : (w : ℕ) (b : List ℕ) → Within w (decode_string w b)
unfolding decode_string
decode_within w b q h = ap (λ x. cond x (letter_of (get_or b (suc q) 0)) I) (le-ltb q w h)

pub decode_phase : (w : ℕ) (b : List ℕ) → (decode_string w b).phase ≡ phase_of (get_or b 0 0)
unfolding decode_string
decode_phase w b = refl

pub decode_letter : (w : ℕ) (b : List ℕ) (q : ℕ) → q < w → (decode_string w b).letters q ≡ letter_of (get_or b (suc q) 0)
unfolding decode_string
decode_letter w b q h = ap (λ x. cond x (letter_of (get_or b (suc q) 0)) I) (lt-ltb q w h)

-- encode after decode, on well-formed bytes
pub encode_decode : {w : ℕ} {b : List ℕ} → WellFormed w b → encode_string w (decode_string w b) ≡ b
encode_decode {w} {b} f = ext_get_or 0 (encode_string w (decode_string w b)) b (length_encode w (decode_string w b) ∙ sym f.long) at
  where
    at : (k : ℕ) → k < length (encode_string w (decode_string w b)) → get_or (encode_string w (decode_string w b)) k 0 ≡ get_or b k 0
    at zero h = encode_phase w (decode_string w b) ∙ ap phase_byte (decode_phase w b) ∙ phase_there (get_or b 0 0) (f.small 0 (omega (arith, f.long)))
    at (suc q) h =
        let l : q < w = omega (arith, length_encode w (decode_string w b)) in
        encode_letter w (decode_string w b) q l ∙ ap letter_byte (decode_letter w b q l)
        ∙ letter_there (get_or b (suc q) 0) (f.small (suc q) (omega (arith, f.long)))

-- ---- the string of a record
pub string-within : (s : List ℕ) → Within qubits (string_of s)
unfolding string_of
string-within s = decode_within qubits s

pub string-back : (s : PauliString) → Within qubits s → string_of (string_record s) ≡ s
unfolding string_of string_record
string-back s h = decode_encode qubits s h

pub letter_of_lem : (s : List ℕ) (q : ℕ) → q < 128 → (string_of s).letters q ≡ letter_of (get_or s (suc q) 0)
unfolding string_of qubits
letter_of_lem s q h = decode_letter 128 s q h

pub some-letter : (n : ℕ) → (n ≡ 0 → ⊥) → not_i (letter_of n) ≡ true
unfolding not_i letter_of
some-letter zero h = absurd (h refl)
some-letter (suc zero) h = refl
some-letter (suc (suc zero)) h = refl
some-letter (suc (suc (suc n))) h = refl

-- it has a letter at a qubit exactly if the byte is not 0
pub has_none : (s : List ℕ) (q : ℕ) → q < 128 → get_or s (q + 1) 0 ≡ 0 → has_letter (string_of s) q ≡ false
unfolding has_letter not_i letter_of
has_none s q l e = ap not_i (letter_of_lem s q l ∙ ap letter_of (ap (λ (j : ℕ). get_or s j 0) (sym (add-one q)) ∙ e))

pub has_one : (s : List ℕ) (q : ℕ) → q < 128 → (get_or s (q + 1) 0 ≡ 0 → ⊥) → has_letter (string_of s) q ≡ true
unfolding has_letter
has_one s q l d = ap not_i (letter_of_lem s q l) ∙ some-letter (get_or s (suc q) 0) (λ e. d (ap (λ (j : ℕ). get_or s j 0) (add-one q) ∙ e))

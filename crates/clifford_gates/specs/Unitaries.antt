-- The gates' unitary matrices over the Gaussian integers, each scaled so that no root of two appears.
use Rattle.std.specs.Prelude.{◌≡◌, List, [], ◌∷◌, ℕ, ◌<◌, pos, negsuc}
use Rattle.pauli_group.specs.Phase.{Phase, PlusOne, PlusI, MinusI}
use Rattle.pauli_group.specs.Letter.{Letter, I, X, Z, Y}
use Rattle.pauli_group.specs.Papers.{Gaussian, gaussian, add_g, mul_g, conjugate_g, Square, square_product, Matrix, matrix_product, scale_matrix, phase_number, pauli_matrix}
use Rattle.clifford_gates.specs.Gates.{Image, plus, minus, OneQubit, PairImage, TwoQubit}

abbrev zero1 : Gaussian
zero1 = gaussian (pos 0) (pos 0)

abbrev one1 : Gaussian
one1 = gaussian (pos 1) (pos 0)

-- Hadamard's matrix, times the root of two, and the phase gate's
unfoldable pub hadamard : Matrix
hadamard = record { a = one1; b = one1; c = one1; d = gaussian (negsuc 0) (pos 0) }

unfoldable pub phase_gate : Matrix
phase_gate = record { a = one1; b = zero1; c = zero1; d = gaussian (pos 0) (pos 1) }

-- words of the two, and their products: the rightmost acts first
pub data WordGate : Type 0 where
  H S : WordGate

unfoldable pub word : List WordGate → Matrix
word [] = pauli_matrix I
word (H ∷ w) = matrix_product hadamard (word w)
word (S ∷ w) = matrix_product phase_gate (word w)

-- gates 0 to 23, each as one of the 24 products of `single_qubit_cliffords`
unfoldable pub one_qubit_unitaries : List Matrix
one_qubit_unitaries =
    word ([]) ∷  -- I
    word (H ∷ S ∷ S ∷ H ∷ []) ∷  -- X
    word (S ∷ S ∷ H ∷ S ∷ S ∷ H ∷ []) ∷  -- Y
    word (S ∷ S ∷ []) ∷  -- Z
    word (H ∷ []) ∷  -- H
    word (S ∷ S ∷ H ∷ S ∷ S ∷ []) ∷  -- H2
    word (H ∷ S ∷ S ∷ H ∷ S ∷ S ∷ S ∷ []) ∷  -- H3
    word (H ∷ S ∷ S ∷ H ∷ S ∷ []) ∷  -- H4
    word (S ∷ S ∷ H ∷ S ∷ H ∷ []) ∷  -- H5
    word (S ∷ S ∷ S ∷ H ∷ S ∷ []) ∷  -- H6
    word (H ∷ S ∷ H ∷ []) ∷  -- SX
    word (S ∷ H ∷ S ∷ []) ∷  -- SXdg
    word (H ∷ S ∷ S ∷ []) ∷  -- SY
    word (S ∷ S ∷ H ∷ []) ∷  -- SYdg
    word (S ∷ []) ∷  -- SZ
    word (S ∷ S ∷ S ∷ []) ∷  -- SZdg
    word (S ∷ H ∷ S ∷ H ∷ []) ∷  -- F
    word (S ∷ H ∷ []) ∷  -- Fdg
    word (S ∷ H ∷ S ∷ S ∷ []) ∷  -- F2
    word (S ∷ S ∷ S ∷ H ∷ S ∷ H ∷ []) ∷  -- F2dg
    word (S ∷ S ∷ H ∷ S ∷ []) ∷  -- F3
    word (S ∷ S ∷ S ∷ H ∷ S ∷ S ∷ []) ∷  -- F3dg
    word (S ∷ S ∷ S ∷ H ∷ []) ∷  -- F4
    word (H ∷ S ∷ []) ∷  -- F4dg
    []

-- the matrix of a letter with its phase
unfoldable pub image_matrix : Image → Matrix
image_matrix i = scale_matrix (phase_number i.phase) (pauli_matrix i.letter)

-- ---- the same matrices as sums of letters, up to a factor: what each gate's name means

unfoldable pub add_matrix : Matrix → Matrix → Matrix
add_matrix m n = record { a = add_g m.a n.a; b = add_g m.b n.b; c = add_g m.c n.c; d = add_g m.d n.d }

-- two letters with their signs: a Hadamard gate, times the root of two
unfoldable pub sum_of : Image → Image → Matrix
sum_of i j = add_matrix (image_matrix i) (image_matrix j)

-- a letter's root, 1 - i·P, and its inverse, 1 + i·P, times the root of two
unfoldable pub letter_root : Phase → Letter → Matrix
letter_root p l = sum_of (plus I) (record { phase = p; letter = l })

-- a face gate, 1 + p·X + q·Y + r·Z, times 2
unfoldable pub face : Phase → Phase → Phase → Matrix
face p q r = add_matrix (letter_root p X) (sum_of (record { phase = q; letter = Y }) (record { phase = r; letter = Z }))

unfoldable pub one_qubit_forms : List Matrix
one_qubit_forms =
    pauli_matrix I ∷
    pauli_matrix X ∷
    pauli_matrix Y ∷
    pauli_matrix Z ∷
    sum_of (plus X) (plus Z) ∷  -- H = X + Z
    sum_of (plus X) (minus Z) ∷  -- H2 = X - Z
    sum_of (plus X) (plus Y) ∷  -- H3 = X + Y
    sum_of (plus X) (minus Y) ∷  -- H4 = X - Y
    sum_of (plus Y) (plus Z) ∷  -- H5 = Y + Z
    sum_of (plus Y) (minus Z) ∷  -- H6 = Y - Z
    letter_root MinusI X ∷  -- SX = 1 - iX
    letter_root PlusI X ∷  -- SXdg = 1 + iX
    letter_root MinusI Y ∷  -- SY = 1 - iY
    letter_root PlusI Y ∷  -- SYdg = 1 + iY
    letter_root MinusI Z ∷  -- SZ = 1 - iZ
    letter_root PlusI Z ∷  -- SZdg = 1 + iZ
    face MinusI MinusI MinusI ∷  -- F = 1 - i(X + Y + Z)
    face PlusI PlusI PlusI ∷  -- Fdg = 1 + i(X + Y + Z)
    face PlusI MinusI MinusI ∷  -- F2 = 1 - i(-X + Y + Z)
    face MinusI PlusI PlusI ∷  -- F2dg = 1 + i(-X + Y + Z)
    face PlusI PlusI MinusI ∷  -- F3 = 1 - i(-X - Y + Z)
    face MinusI MinusI PlusI ∷  -- F3dg = 1 + i(-X - Y + Z)
    face MinusI PlusI MinusI ∷  -- F4 = 1 - i(X - Y + Z)
    face PlusI MinusI PlusI ∷  -- F4dg = 1 + i(X - Y + Z)
    []

-- equal up to a factor: z·m = w·n for numbers z and w that are not 0
pub record UpToFactor {A : Type 0} (times : Gaussian → A → A) (m n : A) : Type 0 where
  pub z : Gaussian
  pub w : Gaussian
  pub z_some : z ≡ zero1 → ⊥
  pub w_some : w ≡ zero1 → ⊥
  pub is : times z m ≡ times w n

-- ---- unitary: u·u† is a positive multiple of the identity, so u is a unitary matrix times a root

-- the adjoint
unfoldable pub adjoint : Matrix → Matrix
adjoint m = record { a = conjugate_g m.a; b = conjugate_g m.c; c = conjugate_g m.b; d = conjugate_g m.d }

-- a number times the identity
unfoldable pub multiple : Gaussian → Matrix
multiple z = scale_matrix z (pauli_matrix I)

-- m is such a multiple, of a number above 0
pub record PositiveMultiple {A : Type 0} (of : Gaussian → A) (m : A) : Type 0 where
  pub norm : ℕ
  pub positive : 0 < norm
  pub is : m ≡ of (gaussian (pos norm) (pos 0))

abbrev pub Unitary : Matrix → Type 0
Unitary u = PositiveMultiple multiple (matrix_product u (adjoint u))

-- ---- conjugation

-- the gate's images are those of conjugation by u: u·P = P'·u, so P' = u·P·u† for a unitary u
pub record Conjugates (u : Matrix) (g : OneQubit) : Type 0 where
  pub x : matrix_product u (pauli_matrix X) ≡ matrix_product (image_matrix g.x) u
  pub z : matrix_product u (pauli_matrix Z) ≡ matrix_product (image_matrix g.z) u

-- ---- two qubits: 4 by 4 matrices as 2 by 2 blocks, the first qubit outside

abbrev pub Blocks : Type 0
Blocks = Square Matrix

unfoldable pub block_product : Blocks → Blocks → Blocks
block_product m n = square_product add_matrix matrix_product m n

unfoldable pub add_blocks : Blocks → Blocks → Blocks
add_blocks m n = record { a = add_matrix m.a n.a; b = add_matrix m.b n.b; c = add_matrix m.c n.c; d = add_matrix m.d n.d }

-- the Kronecker product
unfoldable pub kronecker : Matrix → Matrix → Blocks
kronecker m n = record { a = scale_matrix m.a n; b = scale_matrix m.b n; c = scale_matrix m.c n; d = scale_matrix m.d n }

unfoldable pub block_adjoint : Blocks → Blocks
block_adjoint m = record { a = adjoint m.a; b = adjoint m.c; c = adjoint m.b; d = adjoint m.d }

unfoldable pub block_multiple : Gaussian → Blocks
block_multiple z = kronecker (multiple z) (pauli_matrix I)

abbrev pub UnitaryPair : Blocks → Type 0
UnitaryPair u = PositiveMultiple block_multiple (block_product u (block_adjoint u))

-- a phase times two letters
unfoldable pub pair_matrix : Phase → Letter → Letter → Blocks
pair_matrix p a b = kronecker (scale_matrix (phase_number p) (pauli_matrix a)) (pauli_matrix b)

-- a letter on the second qubit where the first is 1: the blocks 1 and P
unfoldable pub controlled : Letter → Blocks
controlled l = record { a = pauli_matrix I; b = scale_matrix zero1 (pauli_matrix I); c = scale_matrix zero1 (pauli_matrix I); d = pauli_matrix l }

-- the square root of two equal letters, 1 - i·PP, and its inverse, 1 + i·PP, times the root of two
unfoldable pub root_of : Phase → Letter → Blocks
root_of p l = add_blocks (pair_matrix PlusOne I I) (pair_matrix p l l)

-- twice the exchange of the qubits, 1 + ZZ + p·(XX + YY): p is 1 for SWAP, i for iSWAP, -i for its inverse. On basis states it is
-- `state_exchange`.
unfoldable pub exchange : Phase → Blocks
exchange p =
    add_blocks (add_blocks (pair_matrix PlusOne I I) (pair_matrix PlusOne Z Z)) (add_blocks (pair_matrix p X X) (pair_matrix p Y Y))

-- |00> and |11> stay, |01> and |10> change places with the factor p; all times 2
unfoldable pub state_exchange : Phase → Blocks
state_exchange p =
    let two : Gaussian = gaussian (pos 2) (pos 0) in
    let turned : Gaussian = mul_g two (phase_number p) in
    record {
      a = record { a = two; b = zero1; c = zero1; d = zero1 };
      b = record { a = zero1; b = zero1; c = turned; d = zero1 };
      c = record { a = zero1; b = turned; c = zero1; d = zero1 };
      d = record { a = zero1; b = zero1; c = zero1; d = two };
    }

-- G: CZ, Hadamard on both qubits, CZ; times 2. It is its own inverse.
unfoldable pub g_gate : Blocks
g_gate = block_product (controlled Z) (block_product (kronecker hadamard hadamard) (controlled Z))

-- gates 24 to 37, each in the letters of its name
unfoldable pub two_qubit_unitaries : List Blocks
two_qubit_unitaries =
    controlled X ∷  -- CX
    controlled Y ∷  -- CY
    controlled Z ∷  -- CZ
    exchange PlusOne ∷  -- SWAP
    root_of MinusI X ∷  -- SXX = 1 - i·XX
    root_of PlusI X ∷  -- SXXdg = 1 + i·XX
    root_of MinusI Y ∷  -- SYY = 1 - i·YY
    root_of PlusI Y ∷  -- SYYdg = 1 + i·YY
    root_of MinusI Z ∷  -- SZZ = 1 - i·ZZ
    root_of PlusI Z ∷  -- SZZdg = 1 + i·ZZ
    exchange PlusI ∷  -- ISWAP
    exchange MinusI ∷  -- ISWAPdg
    g_gate ∷  -- G
    g_gate ∷  -- Gdg
    []

-- ---- the same matrices as circuits of H, S and CZ, up to a factor: two gates exchanged above are not exchanged here

unfoldable pub scale_blocks : Gaussian → Blocks → Blocks
scale_blocks z m = record { a = scale_matrix z m.a; b = scale_matrix z m.b; c = scale_matrix z m.c; d = scale_matrix z m.d }

-- a word on each qubit
unfoldable pub words : List WordGate → List WordGate → Blocks
words v w = kronecker (word v) (word w)

-- one after another, the rightmost acts first
unfoldable pub circuit : List Blocks → Blocks
circuit [] = pair_matrix PlusOne I I
circuit (m ∷ ms) = block_product m (circuit ms)

unfoldable pub cnot : Blocks
cnot = circuit (words [] (H ∷ []) ∷ controlled Z ∷ words [] (H ∷ []) ∷ [])

-- the exchange by three CNOTs, the middle one turned round
unfoldable pub three_cnots : Blocks
three_cnots = circuit (cnot ∷ words (H ∷ []) (H ∷ []) ∷ cnot ∷ words (H ∷ []) (H ∷ []) ∷ cnot ∷ [])

-- a word on the parity of the two qubits
unfoldable pub on_parity : List WordGate → Blocks
on_parity w = circuit (cnot ∷ words [] w ∷ cnot ∷ [])

abbrev inverse_s : List WordGate
inverse_s = S ∷ S ∷ S ∷ []

unfoldable pub two_qubit_circuits : List Blocks
two_qubit_circuits =
    cnot ∷  -- CX
    circuit (words [] (S ∷ []) ∷ cnot ∷ words [] inverse_s ∷ []) ∷  -- CY
    controlled Z ∷  -- CZ
    three_cnots ∷  -- SWAP
    circuit (words (H ∷ []) (H ∷ []) ∷ on_parity (S ∷ []) ∷ words (H ∷ []) (H ∷ []) ∷ []) ∷  -- SXX
    circuit (words (H ∷ []) (H ∷ []) ∷ on_parity inverse_s ∷ words (H ∷ []) (H ∷ []) ∷ []) ∷  -- SXXdg
    circuit (words (S ∷ H ∷ []) (S ∷ H ∷ []) ∷ on_parity (S ∷ []) ∷ words (H ∷ inverse_s) (H ∷ inverse_s) ∷ []) ∷  -- SYY
    circuit (words (S ∷ H ∷ []) (S ∷ H ∷ []) ∷ on_parity inverse_s ∷ words (H ∷ inverse_s) (H ∷ inverse_s) ∷ []) ∷  -- SYYdg
    on_parity (S ∷ []) ∷  -- SZZ
    on_parity inverse_s ∷  -- SZZdg
    circuit (three_cnots ∷ controlled Z ∷ words (S ∷ []) (S ∷ []) ∷ []) ∷  -- ISWAP
    circuit (three_cnots ∷ controlled Z ∷ words inverse_s inverse_s ∷ []) ∷  -- ISWAPdg
    circuit (controlled Z ∷ words (H ∷ []) (H ∷ []) ∷ controlled Z ∷ []) ∷  -- G
    circuit (controlled Z ∷ words (H ∷ []) (H ∷ []) ∷ controlled Z ∷ []) ∷  -- Gdg
    []

unfoldable pub pair_image_matrix : PairImage → Blocks
pair_image_matrix i = pair_matrix i.phase i.first i.second

pub record ConjugatesPair (u : Blocks) (g : TwoQubit) : Type 0 where
  pub x0 : block_product u (pair_matrix PlusOne X I) ≡ block_product (pair_image_matrix g.x0) u
  pub x1 : block_product u (pair_matrix PlusOne I X) ≡ block_product (pair_image_matrix g.x1) u
  pub z0 : block_product u (pair_matrix PlusOne Z I) ≡ block_product (pair_image_matrix g.z0) u
  pub z1 : block_product u (pair_matrix PlusOne I Z) ≡ block_product (pair_image_matrix g.z1) u

-- the two lists are as long, and R holds of the entries of each number
pub data Each {A B : Type 0} (R : A → B → Type 0) : List A → List B → Type 0 where
  none : Each R [] []
  more : {a : A} {b : B} {xs : List A} {ys : List B} → R a b → Each R xs ys → Each R (a ∷ xs) (b ∷ ys)

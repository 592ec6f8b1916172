-- The four rounds of MD5 (RFC 1321, 3.4). Sections, letters and order are the RFC's.
-- Assumes nothing.
use Rattle.std.specs.Prelude.{ℕ, ◌+◌, ◌-◌, ◌*◌, ◌/◌, ◌%◌, ◌^◌, List, [], ◌∷◌, bit_and, bit_or, bit_xor, slice_index}
use Rattle.md5_rounds.specs.declared.State.{State}

-- ---- 2. Terminology and notation

-- "+" on words: addition modulo 2^32
infixl 65 ◌⊞◌
abbrev pub ◌⊞◌ : ℕ → ℕ → ℕ
x ⊞ y = (x + y) % 2 ^ 32

-- X <<< s: the 32 bits of X rotated left by s
infixl 66 ◌<<<◌
abbrev pub ◌<<<◌ : ℕ → ℕ → ℕ
x <<< s = x * 2 ^ s % 2 ^ 32 + x / 2 ^ (32 - s)

-- not(X): the complement of each of the 32 bits
abbrev pub not : ℕ → ℕ
not x = 2 ^ 32 - 1 - x

-- ---- 3.4. Process message in 16-word blocks

-- XY v not(X) Z
abbrev pub F : ℕ → ℕ → ℕ → ℕ
F x y z = bit_or (bit_and x y) (bit_and (not x) z)

-- XZ v Y not(Z)
abbrev pub G : ℕ → ℕ → ℕ → ℕ
G x y z = bit_or (bit_and x z) (bit_and y (not z))

-- X xor Y xor Z
abbrev pub H : ℕ → ℕ → ℕ → ℕ
H x y z = bit_xor (bit_xor x y) z

-- Y xor (X v not(Z))
abbrev pub I : ℕ → ℕ → ℕ → ℕ
I x y z = bit_xor y (bit_or x (not z))

-- the table T[1 .. 64], from the sine function: T[i] is the integer part of 4294967296 times abs(sin(i))
unfoldable pub sine_parts : List ℕ
sine_parts =
    0xd76aa478 ∷ 0xe8c7b756 ∷ 0x242070db ∷ 0xc1bdceee ∷
    0xf57c0faf ∷ 0x4787c62a ∷ 0xa8304613 ∷ 0xfd469501 ∷
    0x698098d8 ∷ 0x8b44f7af ∷ 0xffff5bb1 ∷ 0x895cd7be ∷
    0x6b901122 ∷ 0xfd987193 ∷ 0xa679438e ∷ 0x49b40821 ∷
    0xf61e2562 ∷ 0xc040b340 ∷ 0x265e5a51 ∷ 0xe9b6c7aa ∷
    0xd62f105d ∷ 0x02441453 ∷ 0xd8a1e681 ∷ 0xe7d3fbc8 ∷
    0x21e1cde6 ∷ 0xc33707d6 ∷ 0xf4d50d87 ∷ 0x455a14ed ∷
    0xa9e3e905 ∷ 0xfcefa3f8 ∷ 0x676f02d9 ∷ 0x8d2a4c8a ∷
    0xfffa3942 ∷ 0x8771f681 ∷ 0x6d9d6122 ∷ 0xfde5380c ∷
    0xa4beea44 ∷ 0x4bdecfa9 ∷ 0xf6bb4b60 ∷ 0xbebfbc70 ∷
    0x289b7ec6 ∷ 0xeaa127fa ∷ 0xd4ef3085 ∷ 0x04881d05 ∷
    0xd9d4d039 ∷ 0xe6db99e5 ∷ 0x1fa27cf8 ∷ 0xc4ac5665 ∷
    0xf4292244 ∷ 0x432aff97 ∷ 0xab9423a7 ∷ 0xfc93a039 ∷
    0x655b59c3 ∷ 0x8f0ccc92 ∷ 0xffeff47d ∷ 0x85845dd1 ∷
    0x6fa87e4f ∷ 0xfe2ce6e0 ∷ 0xa3014314 ∷ 0x4e0811a1 ∷
    0xf7537e82 ∷ 0xbd3af235 ∷ 0x2ad7d2bb ∷ 0xeb86d391 ∷ []

-- T[i]
abbrev pub T : ℕ → ℕ
T i = slice_index sine_parts (i - 1)

-- a = b + ((a + f(b,c,d) + x + t) <<< s). The words come out in the order in which the next operation names them: after [ABCD ..] comes
-- [DABC ..]
unfoldable pub operate : (ℕ → ℕ → ℕ → ℕ) → ℕ → ℕ → ℕ → State → State
operate f x s t w = record { a = w.d; b = w.b ⊞ ((w.a ⊞ f w.b w.c w.d ⊞ x ⊞ t) <<< s); c = w.b; d = w.c }

-- the operations [abcd k s i] of a round, one after the other: x is X[k] and t is T[i]
unfoldable pub operations : (ℕ → ℕ → ℕ → ℕ) → List ℕ → List (ℕ × ℕ × ℕ) → State → State
operations f X [] w = w
operations f X (o ∷ os) w = operations f X os (operate f (slice_index X o.0) o.1 (T o.2) w)

-- Round 1
unfoldable pub round1 : List ℕ → State → State
unfolding sine_parts operations
round1 X = operations F X (
    (0, 7, 1) ∷ (1, 12, 2) ∷ (2, 17, 3) ∷ (3, 22, 4) ∷
    (4, 7, 5) ∷ (5, 12, 6) ∷ (6, 17, 7) ∷ (7, 22, 8) ∷
    (8, 7, 9) ∷ (9, 12, 10) ∷ (10, 17, 11) ∷ (11, 22, 12) ∷
    (12, 7, 13) ∷ (13, 12, 14) ∷ (14, 17, 15) ∷ (15, 22, 16) ∷ [])

-- Round 2
unfoldable pub round2 : List ℕ → State → State
unfolding sine_parts operations
round2 X = operations G X (
    (1, 5, 17) ∷ (6, 9, 18) ∷ (11, 14, 19) ∷ (0, 20, 20) ∷
    (5, 5, 21) ∷ (10, 9, 22) ∷ (15, 14, 23) ∷ (4, 20, 24) ∷
    (9, 5, 25) ∷ (14, 9, 26) ∷ (3, 14, 27) ∷ (8, 20, 28) ∷
    (13, 5, 29) ∷ (2, 9, 30) ∷ (7, 14, 31) ∷ (12, 20, 32) ∷ [])

-- Round 3
unfoldable pub round3 : List ℕ → State → State
unfolding sine_parts operations
round3 X = operations H X (
    (5, 4, 33) ∷ (8, 11, 34) ∷ (11, 16, 35) ∷ (14, 23, 36) ∷
    (1, 4, 37) ∷ (4, 11, 38) ∷ (7, 16, 39) ∷ (10, 23, 40) ∷
    (13, 4, 41) ∷ (0, 11, 42) ∷ (3, 16, 43) ∷ (6, 23, 44) ∷
    (9, 4, 45) ∷ (12, 11, 46) ∷ (15, 16, 47) ∷ (2, 23, 48) ∷ [])

-- Round 4
unfoldable pub round4 : List ℕ → State → State
unfolding sine_parts operations
round4 X = operations I X (
    (0, 6, 49) ∷ (7, 10, 50) ∷ (14, 15, 51) ∷ (5, 21, 52) ∷
    (12, 6, 53) ∷ (3, 10, 54) ∷ (10, 15, 55) ∷ (1, 21, 56) ∷
    (8, 6, 57) ∷ (15, 10, 58) ∷ (6, 15, 59) ∷ (13, 21, 60) ∷
    (4, 6, 61) ∷ (11, 10, 62) ∷ (2, 15, 63) ∷ (9, 21, 64) ∷ [])

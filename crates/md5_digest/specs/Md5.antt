-- MD5 as RFC 1321 defines it, of a message that is a list of bytes. Sections, letters and order are the RFC's; the four rounds of 3.4 stand in
-- crates/md5_rounds/specs/Rounds.antt.
-- Assumes nothing.
use Rattle.std.specs.Prelude.{ℕ, zero, suc, ◌+◌, ◌-◌, ◌*◌, ◌/◌, ◌%◌, ◌^◌, List, [], ◌∷◌, ◌++◌, length, take, drop, replicate}
use Rattle.words.specs.Words.{le32}
use Rattle.md5_rounds.specs.declared.State.{State}
use Rattle.md5_rounds.specs.Rounds.{◌⊞◌, operate, round1, round2, round3, round4}

-- ---- 2. Terminology and notation

-- (A word's four bytes, the low-order byte first, are `le32` of words.)

-- a list of bytes as words: each group of four bytes is a word, the low-order byte first. (Bytes that are no whole group are left out; the
-- message of 3.2 has none.)
unfoldable pub words_of : List ℕ → List ℕ
words_of [] = []
words_of (b₀ ∷ []) = []
words_of (b₀ ∷ b₁ ∷ []) = []
words_of (b₀ ∷ b₁ ∷ b₂ ∷ []) = []
words_of (b₀ ∷ b₁ ∷ b₂ ∷ b₃ ∷ l) = (b₀ + b₁ * 2 ^ 8 + b₂ * 2 ^ 16 + b₃ * 2 ^ 24) ∷ words_of l

-- ---- 3.1. Append padding bits

-- a 1 bit, then 0 bits until the length in bits is 448 modulo 512: the byte 128, then zeros until the length in bytes is 56 modulo 64
unfoldable pub padded : List ℕ → List ℕ
padded m = m ++ 128 ∷ replicate ((119 - length m % 64) % 64) 0

-- ---- 3.2. Append length

-- b, the length of the message in bits before it was padded. Its low-order 64 bits are used, as two words, the low-order word first
unfoldable pub length_bytes : List ℕ → List ℕ
length_bytes m = let b = length m * 8 % 2 ^ 64 in le32 (b % 2 ^ 32) ++ le32 (b / 2 ^ 32)

-- the resulting message
unfoldable pub message : List ℕ → List ℕ
unfolding padded length_bytes
message m = padded m ++ length_bytes m

-- ---- 3.3. Initialize MD buffer

-- the four words A, B, C, D. A's bytes are 01 23 45 67, the low-order byte first
abbrev pub buffer : State
buffer = record { a = 0x67452301; b = 0xefcdab89; c = 0x98badcfe; d = 0x10325476 }

-- ---- 3.4. Process message in 16-word blocks

-- A = A + AA and so on: each word is increased by the value that it had before the block
abbrev pub plus : State → State → State
plus w ww = record { a = w.a ⊞ ww.a; b = w.b ⊞ ww.b; c = w.c ⊞ ww.c; d = w.d ⊞ ww.d }

-- the buffer after a block X
unfoldable pub after_block : List ℕ → State → State
after_block X w = plus (round4 X (round3 X (round2 X (round1 X w)))) w

-- block i of the words M: X[j] is M[i*16+j]
abbrev pub block_at : ℕ → List ℕ → List ℕ
block_at i M = take 16 (drop (i * 16) M)

-- the buffer after the blocks 0 to n-1 of M
unfoldable pub after_blocks : ℕ → List ℕ → State → State
after_blocks zero M w = w
after_blocks (suc i) M w = after_block (block_at i M) (after_blocks i M w)

-- ---- 3.5. Output

-- from the low-order byte of A to the high-order byte of D
abbrev pub output : State → List ℕ
output w = le32 w.a ++ le32 w.b ++ le32 w.c ++ le32 w.d

-- the message digest: M are the words of the resulting message, and their number is a multiple of 16
unfoldable pub md5 : List ℕ → List ℕ
unfolding words_of message operate round1 round2 round3 round4 after_block after_blocks
md5 m = let M = words_of (message m) in output (after_blocks (length M / 16) M buffer)

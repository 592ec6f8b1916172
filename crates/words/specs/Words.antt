-- Words of bytes, the most significant byte first (ICC.1:2022, clause 4: uInt16Number, uInt32Number) or last, and signed numbers at 32 bits.
-- Assumes nothing.
use Rattle.std.specs.Prelude.{ℕ, suc, ◌+◌, ◌*◌, ◌-◌, ◌/◌, ◌%◌, ◌^◌, ◌<◌, cond, List, [], ◌∷◌, ltb, ℤ, pos, negsuc, neg_ℤ, get_or}

-- a byte: a uInt8Number
abbrev pub Byte : ℕ → Type 0
Byte b = b < 256

-- a uInt16Number
unfoldable pub be16 : ℕ → List ℕ
be16 n = n / 256 % 256 ∷ n % 256 ∷ []

-- a uInt32Number
unfoldable pub be32 : ℕ → List ℕ
be32 n = n / 16777216 % 256 ∷ n / 65536 % 256 ∷ n / 256 % 256 ∷ n % 256 ∷ []

-- the same number with the least significant byte first, as RFC 1321 and the memory of x86-64 have it
abbrev pub le32 : ℕ → List ℕ
le32 n = n % 256 ∷ n / 256 % 256 ∷ n / 65536 % 256 ∷ n / 16777216 % 256 ∷ []

-- the number that the first two bytes of a list make; bytes past its end count 0
unfoldable pub word16 : List ℕ → ℕ
word16 l = get_or l 0 0 * 256 + get_or l 1 0

-- the same of the first four bytes
unfoldable pub word32 : List ℕ → ℕ
word32 l = get_or l 0 0 * 16777216 + get_or l 1 0 * 65536 + get_or l 2 0 * 256 + get_or l 3 0

-- the two's complement, at 32 bits, of a number that fits them. `negsuc n` is -(n + 1)
unfoldable pub twos_complement32 : ℤ → ℕ
twos_complement32 (pos n) = n
twos_complement32 (negsuc n) = 2 ^ 32 - suc n

-- the number whose two's complement is n, for an n below 2 ^ 32
unfoldable pub signed32 : ℕ → ℤ
signed32 n = cond (ltb n (2 ^ 31)) (pos n) (neg_ℤ (pos (2 ^ 32 - n)))

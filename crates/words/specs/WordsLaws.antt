-- Words and two's complement read back what was written.
-- Assumes nothing.
use Rattle.std.specs.Prelude.{ℕ, zero, suc, ◌+◌, ◌*◌, ◌-◌, ◌/◌, ◌%◌, ◌^◌, ◌≤◌, ◌<◌, ◌≡◌, refl, cond, List, [], ◌∷◌, ◌++◌, ltb, ℤ, pos, negsuc, neg_ℤ, length, get_or, take, drop}
use Rattle.std.proofs.Common.{ap, ap₂, ◌∙◌, arith, add-zero, le_of_eq, lit<, length-drop, drop_of_length-le, get_or-drop, drop-drop, take_all, SFits, of_z, to_z}
use Rattle.std.specs.Int.{w32}
use mir.ValLaws.{to_z-of_z, of_z-to_z, of_z_fits, to_z-Fits}
use Rattle.buffer.specs.All.{All, none, more}
use Rattle.buffer.specs.Bytes.{zeros}
use Rattle.words.specs.Words.{Byte, be16, be32, le32, word16, word32, twos_complement32, signed32}

pub length-be16 : (n : ℕ) → length (be16 n) ≡ 2
unfolding be16
length-be16 n = refl

pub length-be32 : (n : ℕ) → length (be32 n) ≡ 4
unfolding be32
length-be32 n = refl

pub be32_zero : be32 0 ≡ zeros 4
unfolding be32
be32_zero = refl

-- ---- a word of 32 bits is two of 16

pub be32_halves : (n : ℕ) → be32 n ≡ be16 (n / 65536) ++ be16 (n % 65536)
unfolding be16 be32
be32_halves n =
    let a : n / 16777216 % 256 ≡ n / 65536 / 256 % 256 = omega arith in
    let c : n / 256 % 256 ≡ n % 65536 / 256 % 256 = omega arith in
    let d : n % 256 ≡ n % 65536 % 256 = omega arith in
    cc

pub word32_halves : (l : List ℕ) → word32 l ≡ word16 l * 65536 + word16 (drop 2 l)
unfolding word16 word32
word32_halves l = rw (get_or-drop 2 l 0 0, get_or-drop 2 l 1 0) (omega arith)

-- ---- a word at a place

-- the part of a list from a place on, as `&slice[i..]` has it
pub from_on : (l : List ℕ) (i : ℕ) → take (length l - i) (drop i l) ≡ drop i l
from_on l i = take_all (length l - i) (drop i l) (le_of_eq (length-drop i l))

pub word16_drop : (i : ℕ) (l : List ℕ) → word16 (drop i l) ≡ get_or l i 0 * 256 + get_or l (i + 1) 0
unfolding word16
word16_drop i l = rw (get_or-drop i l 0 0, get_or-drop i l 1 0, add-zero i)

pub word32_drop : (i : ℕ) (l : List ℕ) → word32 (drop i l) ≡ word16 (drop i l) * 65536 + word16 (drop (i + 2) l)
word32_drop i l = word32_halves (drop i l) ∙ rw (drop-drop 2 i l)

-- past the end
pub word16_past : (l : List ℕ) (i : ℕ) → length l ≤ i → word16 (drop i l) ≡ 0
unfolding word16
word16_past l i h = rw (drop_of_length-le l h)

pub word32_past : (l : List ℕ) (i : ℕ) → length l ≤ i → word32 (drop i l) ≡ 0
unfolding word32
word32_past l i h = rw (drop_of_length-le l h)

-- ---- a word written and read

word16_be16 : (n : ℕ) (r : List ℕ) → n < 2 ^ 16 → word16 (be16 n ++ r) ≡ n
unfolding be16 word16
word16_be16 n r h = omega arith

pub word32_be32 : (n : ℕ) (r : List ℕ) → n < 2 ^ 32 → word32 (be32 n ++ r) ≡ n
unfolding be16
word32_be32 n r h =
    rw (be32_halves n, word32_halves)
    (rw (word16_be16 (n / 65536) (be16 (n % 65536) ++ r) (omega arith), word16_be16 (n % 65536) r (omega arith)) (omega arith))

pub word32_below : (n : ℕ) (r : List ℕ) → word32 (be32 n ++ r) < 2 ^ 32
unfolding be32 word32
word32_below n r = omega arith

-- ---- a word read and written

pub be16_word16 : (a b : ℕ) → a < 256 → b < 256 → be16 (word16 (a ∷ b ∷ [])) ≡ a ∷ b ∷ []
unfolding be16 word16
be16_word16 a b ha hb =
    let high : (a * 256 + b) / 256 % 256 ≡ a = omega arith in
    let low : (a * 256 + b) % 256 ≡ b = omega arith in
    cc

be32_word32 : (a b c d : ℕ) → a < 256 → b < 256 → c < 256 → d < 256 → be32 (word32 (a ∷ b ∷ c ∷ d ∷ [])) ≡ a ∷ b ∷ c ∷ d ∷ []
unfolding word16
be32_word32 a b c d ha hb hc hd =
    let high : (word16 (a ∷ b ∷ []) * 65536 + word16 (c ∷ d ∷ [])) / 65536 ≡ word16 (a ∷ b ∷ []) = omega arith in
    let low : (word16 (a ∷ b ∷ []) * 65536 + word16 (c ∷ d ∷ [])) % 65536 ≡ word16 (c ∷ d ∷ []) = omega arith in
    rw word32_halves (be32_halves _ ∙ ap₂ (λ (x y : ℕ). be16 x ++ be16 y) high low ∙ ap₂ (λ (x y : List ℕ). x ++ y) (be16_word16 a b ha hb) (be16_word16 c d hc hd))

-- the number whose bytes are those of n in the other order, least significant byte first
pub le32_swapped : (n : ℕ) → le32 (word32 (le32 n)) ≡ be32 n
unfolding be32
le32_swapped n = ap turned (be32_word32 (n % 256) (n / 256 % 256) (n / 65536 % 256) (n / 16777216 % 256) (omega arith) (omega arith) (omega arith) (omega arith))
  where
    turned : List ℕ → List ℕ
    turned l = get_or l 3 0 ∷ get_or l 2 0 ∷ get_or l 1 0 ∷ get_or l 0 0 ∷ []

-- every place of a list of bytes holds a byte; past the end it counts 0
pub byte_at : (l : List ℕ) → All Byte l → (i : ℕ) → Byte (get_or l i 0)
byte_at [] none i = lit< tt
byte_at (x ∷ l) (more h hs) zero = h
byte_at (x ∷ l) (more h hs) (suc i) = byte_at l hs i

pub bytes_drop : (n : ℕ) (l : List ℕ) → ((i : ℕ) → Byte (get_or l i 0)) → (i : ℕ) → Byte (get_or (drop n l) i 0)
bytes_drop n l h i = rw (get_or-drop n l i 0) (h (n + i))

pub word16_lt : (l : List ℕ) → ((i : ℕ) → Byte (get_or l i 0)) → word16 l < 2 ^ 16
unfolding word16
word16_lt l h = omega (arith, h 0, h 1)

pub word32_lt : (l : List ℕ) → ((i : ℕ) → Byte (get_or l i 0)) → word32 l < 2 ^ 32
unfolding word32
word32_lt l h = omega (arith, h 0, h 1, h 2, h 3)

-- the word at the front of a list, written again
pub be32_front : (l : List ℕ) → ((i : ℕ) → Byte (get_or l i 0)) → 4 ≤ length l → be32 (word32 l) ≡ take 4 l
unfolding word32
be32_front [] h n = absurd (omega arith)
be32_front (x ∷ []) h n = absurd (omega arith)
be32_front (x ∷ (y ∷ [])) h n = absurd (omega arith)
be32_front (x ∷ (y ∷ (z ∷ []))) h n = absurd (omega arith)
be32_front (x ∷ (y ∷ (z ∷ (w ∷ l)))) h n = be32_word32 x y z w (h 0) (h 1) (h 2) (h 3)

-- ---- two's complement: the library's, at 32 bits

pub twos_complement32_is : (z : ℤ) → twos_complement32 z ≡ of_z w32 z
unfolding twos_complement32
twos_complement32_is (pos n) = refl
twos_complement32_is (negsuc n) = refl

pub signed32_is : (n : ℕ) → n < 2 ^ 32 → signed32 n ≡ to_z w32 n
unfolding signed32
signed32_is n h = ap (λ (z : ℤ). cond (ltb n (2 ^ 31)) (pos n) z) (ap (λ (k : ℕ). neg_ℤ (pos k)) (more n h))
  where
    more : (n : ℕ) → n < 2 ^ 32 → 2 ^ 32 - n ≡ suc (2 ^ 32 - suc n)
    more n h = omega arith

pub twos_complement32_lt : (z : ℤ) → SFits w32 z → twos_complement32 z < 2 ^ 32
twos_complement32_lt z h = rw (twos_complement32_is z) (of_z_fits w32 z h).fits

signed32_fits : (n : ℕ) → n < 2 ^ 32 → SFits w32 (signed32 n)
signed32_fits n h = rw (signed32_is n h) (to_z-Fits w32 n (record { fits = h }))

pub signed32_twos_complement32 : (z : ℤ) → SFits w32 z → signed32 (twos_complement32 z) ≡ z
signed32_twos_complement32 z h = signed32_is (twos_complement32 z) (twos_complement32_lt z h) ∙ ap (to_z w32) (twos_complement32_is z) ∙ to_z-of_z w32 z h

twos_complement32_signed32 : (n : ℕ) → n < 2 ^ 32 → twos_complement32 (signed32 n) ≡ n
twos_complement32_signed32 n h = twos_complement32_is (signed32 n) ∙ ap (of_z w32) (signed32_is n h) ∙ of_z-to_z w32 n (record { fits = h })

pub twos_complement32_pos : (n : ℕ) → twos_complement32 (pos n) ≡ n
unfolding twos_complement32
twos_complement32_pos n = refl

-- ---- a signed number in four bytes

pub number_written : (z : ℤ) (r : List ℕ) → SFits w32 z → signed32 (word32 (be32 (twos_complement32 z) ++ r)) ≡ z
number_written z r h = ap signed32 (word32_be32 (twos_complement32 z) r (twos_complement32_lt z h)) ∙ signed32_twos_complement32 z h

pub number_fits : (l : List ℕ) → ((i : ℕ) → Byte (get_or l i 0)) → SFits w32 (signed32 (word32 l))
number_fits l h = signed32_fits (word32 l) (word32_lt l h)

pub number_read : (l : List ℕ) → ((i : ℕ) → Byte (get_or l i 0)) → 4 ≤ length l → be32 (twos_complement32 (signed32 (word32 l))) ≡ take 4 l
number_read l h n = ap be32 (twos_complement32_signed32 (word32 l) (word32_lt l h)) ∙ be32_front l h n

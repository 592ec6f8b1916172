-- That two definitions of the reader say what 01 says, for lists of bytes. Assumes nothing.
use Rattle.std.specs.Prelude.{ℕ, ◌+◌, ◌≤◌, ◌≡◌, List, [], ◌∷◌, ℤ, length, take, drop}
use Rattle.std.proofs.Common.{arith, length-drop, SFits}
use Rattle.std.specs.Int.{w32}
use Rattle.words.specs.Words.{Byte, be32, word32, twos_complement32, signed32}
use Rattle.words.specs.WordsLaws.{byte_at, bytes_drop, be32_front, number_fits, number_read}
use Rattle.buffer.specs.All.{All, none, more}
use Rattle.buffer.specs.Bytes.{zeros}
use Rattle.profile.specs.Signatures as Sig
use Rattle.profile.specs.declared.Kind.{Kind}
use Rattle.profile.specs.TagTypes.{join, s15_fixed_16s}
use Rattle.profile.specs.Layout.{header, front, D50}
use Rattle.reader_spec.specs.Table.{varying_of}

-- 26, "the bytes of free numbers aside": the four bytes of a signed 32-bit number are any four bytes
pub any_four : (a b c d : ℕ) → Byte a → Byte b → Byte c → Byte d → (z : ℤ) × SFits w32 z × (be32 (twos_complement32 z) ≡ a ∷ b ∷ c ∷ d ∷ [])
any_four a b c d ha hb hc hd =
    let l = a ∷ b ∷ c ∷ d ∷ [] in
    let bytes = byte_at l (more ha (more hb (more hc (more hd none)))) in
    (signed32 (word32 l), number_fits l bytes, number_read l bytes (omega arith))

-- 23, "another header byte differs (size, intent, id aside)", and since order 6 of 02 maker and model aside: the header that a file is held against has the file's own bytes there
pub header_literal : (k : Kind) (f : List ℕ) → All Byte f → 132 ≤ length f
    → header k (varying_of f)
    ≡ join (take 4 f ∷ front k ∷ zeros 4 ∷ take 4 (drop 48 f) ∷ take 4 (drop 52 f) ∷ zeros 8 ∷ take 4 (drop 64 f) ∷ s15_fixed_16s D50 ∷ Sig.jxl ∷ take 16 (drop 84 f) ∷ zeros 28 ∷ [])
unfolding header varying_of
header_literal k f b h =
    let bytes = byte_at f b in
    let four : (n : ℕ) → n + 4 ≤ length f → be32 (word32 (drop n f)) ≡ take 4 (drop n f) =
    λ n g. be32_front (drop n f) (bytes_drop n f bytes) (simp length-drop (omega arith))
    in
    rw (be32_front f bytes (omega arith), four 48 (omega arith), four 52 (omega arith), four 64 (omega arith))

-- The `A2B0` and `B2A0` elements of the XYB profile: lutAToBType and lutBToAType (ICC.1:2022, 10.12 and 10.13). Assumes nothing.
use Rattle.std.specs.Prelude.{ℕ, List, [], ◌∷◌, take, drop}
use Rattle.words.specs.Words.{be32}
use Rattle.buffer.specs.Bytes.{zeros}
use Rattle.xyb_constants.specs.XybNumbers as Xyb
use Rattle.profile.specs.Signatures as Sig
use Rattle.profile.specs.TagTypes.{join, para, s15_fixed_16s, uint16s}

-- three identity curves
unfoldable pub identity_curves : List ℕ
identity_curves = join (para 0 (Xyb.identity_gamma ∷ []) ∷ para 0 (Xyb.identity_gamma ∷ []) ∷ para 0 (Xyb.identity_gamma ∷ []) ∷ [])

-- two points in each of three dimensions, entries of two bytes
unfoldable pub clut : List ℕ
clut = join ((2 ∷ 2 ∷ 2 ∷ []) ∷ zeros 13 ∷ (2 ∷ 0 ∷ 0 ∷ 0 ∷ []) ∷ uint16s Xyb.clut ∷ [])

unfoldable pub m_curves : List ℕ
m_curves = join (para 3 (take 5 Xyb.m_curves) ∷ para 3 (take 5 (drop 5 Xyb.m_curves)) ∷ para 3 (drop 10 Xyb.m_curves) ∷ [])

-- three channels in and out; where the B curves, the matrix, the M curves, the CLUT and the A curves start, the A curves being the B curves
unfoldable pub a2b0 : List ℕ
a2b0 =
    join (Sig.m_ab ∷ zeros 4 ∷ (3 ∷ 3 ∷ 0 ∷ 0 ∷ []) ∷ be32 32 ∷ be32 244 ∷ be32 148 ∷ be32 80 ∷ be32 32
    ∷ identity_curves ∷ clut ∷ m_curves ∷ s15_fixed_16s Xyb.matrix ∷ [])

-- the B curves at byte 32, and nothing else
unfoldable pub b2a0 : List ℕ
b2a0 = join (Sig.m_ba ∷ zeros 4 ∷ (3 ∷ 3 ∷ 0 ∷ 0 ∷ []) ∷ be32 32 ∷ zeros 16 ∷ identity_curves ∷ [])

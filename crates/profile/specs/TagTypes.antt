-- The bytes of each tag type of ICC.1:2022 (section 10) that the profiles hold. Assumes nothing.
use Rattle.std.specs.Prelude.{ℕ, ◌*◌, List, [], ◌∷◌, ◌++◌, length, ℤ, pos}
use Rattle.words.specs.Words.{be16, be32, twos_complement32}
use Rattle.buffer.specs.Ascii.{ascii}
use Rattle.buffer.specs.Bytes.{zeros}
use Rattle.profile.specs.Signatures as Sig
use Rattle.profile.specs.declared.CurveName.{CurveName}
use Rattle.profile.specs.declared.CurveName.TheVariants as Name
use Rattle.profile.specs.declared.Curve.{Curve}
use Rattle.profile.specs.declared.Curve.TheVariants.{Named, Gamma}

-- parts, one after another
unfoldable pub join : List (List ℕ) → List ℕ
join [] = []
join (x ∷ xs) = x ++ join xs

-- s15Fixed16Numbers (4.6): each the four bytes of its two's complement
unfoldable pub s15_fixed_16s : List ℤ → List ℕ
s15_fixed_16s [] = []
s15_fixed_16s (z ∷ zs) = be32 (twos_complement32 z) ++ s15_fixed_16s zs

unfoldable pub uint16s : List ℕ → List ℕ
uint16s [] = []
uint16s (n ∷ ns) = be16 n ++ uint16s ns

-- UTF-16BE of ASCII letters
unfoldable pub utf16 : List ℕ → List ℕ
utf16 [] = []
utf16 (c ∷ t) = 0 ∷ c ∷ utf16 t

-- multiLocalizedUnicodeType: one record of 12 bytes, `enUS`, whose text starts at byte 28
unfoldable pub mluc : List ℕ → List ℕ
mluc t = join (Sig.mluc ∷ zeros 4 ∷ be32 1 ∷ be32 12 ∷ ascii "enUS" ∷ be32 (2 * length t) ∷ be32 28 ∷ utf16 t ∷ [])

-- XYZType
unfoldable pub xyz : List ℤ → List ℕ
xyz ns = join (Sig.XYZ ∷ zeros 4 ∷ s15_fixed_16s ns ∷ [])

-- s15Fixed16ArrayType
unfoldable pub sf32 : List ℤ → List ℕ
sf32 ns = join (Sig.sf32 ∷ zeros 4 ∷ s15_fixed_16s ns ∷ [])

-- parametricCurveType, of function type f with these parameters
unfoldable pub para : ℕ → List ℤ → List ℕ
para f ns = join (Sig.para ∷ zeros 4 ∷ be16 f ∷ zeros 2 ∷ s15_fixed_16s ns ∷ [])

-- the five numbers of each named curve, g, a, b, c, d of function type 3: the table of 01 (FixedConstants)
abbrev pub parameters : CurveName → List ℤ
parameters Name.BT709 = pos 145636 ∷ pos 59632 ∷ pos 5904 ∷ pos 14564 ∷ pos 5308 ∷ []
parameters Name.Linear = pos 65536 ∷ pos 65536 ∷ pos 0 ∷ pos 65536 ∷ pos 0 ∷ []
parameters Name.SRGB = pos 157286 ∷ pos 62119 ∷ pos 3417 ∷ pos 5072 ∷ pos 2651 ∷ []
parameters Name.DCI = pos 170394 ∷ pos 65536 ∷ pos 0 ∷ pos 65536 ∷ pos 0 ∷ []

abbrev pub curve : Curve → List ℕ
curve (Named n) = para 3 (parameters n)
curve (Gamma g) = para 0 (g ∷ [])

-- TransferCharacteristics values of H.273; a gamma has none
abbrev pub transfer : Curve → ℕ
transfer (Named Name.BT709) = 1
transfer (Named Name.Linear) = 8
transfer (Named Name.SRGB) = 13
transfer (Named Name.DCI) = 17
transfer (Gamma g) = 0

-- cicpType: primaries, transfer, matrix coefficients 0, full range 1
unfoldable pub cicp : ℕ → Curve → List ℕ
cicp v c = join (Sig.cicp ∷ zeros 4 ∷ (v ∷ transfer c ∷ 0 ∷ 1 ∷ []) ∷ [])

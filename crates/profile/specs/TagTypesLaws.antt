-- Laws of the tag types: how long each is, without and with its padding. Assumes nothing.
use Rattle.std.specs.Prelude.{ℕ, ◌+◌, ◌*◌, ◌≡◌, refl, List, [], ◌∷◌, length, take, drop, ℤ, pos}
use Rattle.std.proofs.Common.{ap, ◌∙◌, arith, length-append, length-drop, length-take-le}
use Rattle.words.specs.Words.{be16, be32, twos_complement32}
use Rattle.words.specs.WordsLaws.{length-be16, length-be32}
use Rattle.xyb_constants.specs.XybNumbers.{m_curves}
use Rattle.xyb_constants.proofs.XybNumbersLaws as XybNumbers
use Rattle.profile.specs.Elements.{padded, padded_size}
use Rattle.profile.specs.ElementsLaws.{length-padded}
use Rattle.profile.specs.TagTypes
use Rattle.profile.specs.Xyb
use Rattle.profile.specs.Shape
use Rattle.profile.specs.declared.CurveName.{CurveName}
use Rattle.profile.specs.declared.CurveName.TheVariants as Name
use Rattle.profile.specs.declared.Curve.{Curve}
use Rattle.profile.specs.declared.Curve.TheVariants.{Named, Gamma}

-- ---- the lengths of the tag types

pub length-utf16 : (t : List ℕ) → length (TagTypes.utf16 t) ≡ 2 * length t
unfolding TagTypes.utf16
length-utf16 [] = refl
length-utf16 (c ∷ t) = omega (arith, length-utf16 t)

pub length-s15_fixed_16s : (ns : List ℤ) → length (TagTypes.s15_fixed_16s ns) ≡ 4 * length ns
unfolding TagTypes.s15_fixed_16s
length-s15_fixed_16s [] = refl
length-s15_fixed_16s (z ∷ ns) =
    omega (arith, length-append (be32 (twos_complement32 z)) (TagTypes.s15_fixed_16s ns), length-be32 (twos_complement32 z), length-s15_fixed_16s ns)

pub length-mluc : (t : List ℕ) → length (TagTypes.mluc t) ≡ Shape.mluc_size (length t)
unfolding TagTypes.mluc TagTypes.join
length-mluc t = simp (length-append, length-be32, length-utf16) (omega arith)

pub length-xyz : (ns : List ℤ) → length (TagTypes.xyz ns) ≡ 8 + 4 * length ns
unfolding TagTypes.xyz TagTypes.join
length-xyz ns = simp (length-append, length-s15_fixed_16s) (omega arith)

pub length-sf32 : (ns : List ℤ) → length (TagTypes.sf32 ns) ≡ 8 + 4 * length ns
unfolding TagTypes.sf32 TagTypes.join
length-sf32 ns = simp (length-append, length-s15_fixed_16s) (omega arith)

pub length-para : (f : ℕ) (ns : List ℤ) → length (TagTypes.para f ns) ≡ 12 + 4 * length ns
unfolding TagTypes.para TagTypes.join
length-para f ns = simp (length-append, length-be16, length-s15_fixed_16s) (omega arith)

pub length-parameters : (n : CurveName) → length (TagTypes.parameters n) ≡ 5
length-parameters Name.BT709 = refl
length-parameters Name.Linear = refl
length-parameters Name.SRGB = refl
length-parameters Name.DCI = refl

pub length-curve : (c : Curve) → length (TagTypes.curve c) ≡ Shape.curve_size (Shape.is_gamma c)
length-curve (Named n) = rw (length-para 3 (TagTypes.parameters n), length-parameters n)
length-curve (Gamma g) = length-para 0 (g ∷ [])

pub length-cicp : (v : ℕ) (c : Curve) → length (TagTypes.cicp v c) ≡ 12
unfolding TagTypes.cicp TagTypes.join
length-cicp v c = refl

length-uint16s : (ns : List ℕ) → length (TagTypes.uint16s ns) ≡ 2 * length ns
unfolding TagTypes.uint16s
length-uint16s [] = refl
length-uint16s (n ∷ ns) = omega (arith, length-append (be16 n) (TagTypes.uint16s ns), length-be16 n, length-uint16s ns)

pub identity_curves_lem :
    Xyb.identity_curves ≡ TagTypes.join (TagTypes.para 0 (pos 65536 ∷ []) ∷ TagTypes.para 0 (pos 65536 ∷ []) ∷ TagTypes.para 0 (pos 65536 ∷ []) ∷ [])
unfolding Xyb.identity_curves
identity_curves_lem = rw XybNumbers.identity_gamma_is refl

pub length-identity_curves : length Xyb.identity_curves ≡ 48
unfolding Xyb.identity_curves TagTypes.join
length-identity_curves = simp (length-append, length-para)

pub length-clut : length Xyb.clut ≡ 68
unfolding Xyb.clut TagTypes.join
length-clut = simp (length-append, length-uint16s, XybNumbers.length-clut)

pub length-m_curves : length Xyb.m_curves ≡ 96
unfolding Xyb.m_curves TagTypes.join
length-m_curves =
    let first : length (take 5 m_curves) ≡ 5 = length-take-le 5 m_curves (omega (arith, XybNumbers.length-m_curves)) in
    let rest : length (drop 5 m_curves) ≡ 10 = simp length-drop (omega (arith, XybNumbers.length-m_curves)) in
    let second : length (take 5 (drop 5 m_curves)) ≡ 5 = length-take-le 5 (drop 5 m_curves) (omega arith) in
    let third : length (drop 10 m_curves) ≡ 5 = simp length-drop (omega (arith, XybNumbers.length-m_curves)) in
    simp (length-append, length-para, first, second, third)

pub length-a2b0 : length Xyb.a2b0 ≡ 292
unfolding Xyb.a2b0 TagTypes.join
length-a2b0 = simp (length-append, length-be32, length-identity_curves, length-clut, length-m_curves, length-s15_fixed_16s, XybNumbers.length-matrix)

pub length-b2a0 : length Xyb.b2a0 ≡ 80
unfolding Xyb.b2a0 TagTypes.join
length-b2a0 = simp (length-append, length-be32, length-identity_curves)

-- ---- with its padding; only `mluc` has any

pub length-padded_mluc : (t : List ℕ) → length (padded (TagTypes.mluc t)) ≡ padded_size (Shape.mluc_size (length t))
length-padded_mluc t = length-padded (TagTypes.mluc t) ∙ ap padded_size (length-mluc t)

-- Encodings whose floats print with at most two whole digits, and those whose gamma prints as zero. Assumes nothing.
use Rattle.std.specs.Prelude.{ℕ, ◌*◌, ◌^◌, ◌<◌, Bool, false, eqb, ℤ, Float}
use Rattle.std.specs.Float.{nan, inf, fin}
use Rattle.std.specs.Float.Ieee.{up, down}
use Rattle.std.specs.Float.Ieee.Nearest.{closest}
use Rattle.color_encoding.specs.declared.JxlWhitePoint.{JxlWhitePoint}
use Rattle.color_encoding.specs.declared.JxlWhitePoint.TheVariants as W
use Rattle.color_encoding.specs.declared.JxlPrimaries.{JxlPrimaries}
use Rattle.color_encoding.specs.declared.JxlPrimaries.TheVariants as P
use Rattle.color_encoding.specs.declared.JxlTransferFunction.{JxlTransferFunction}
use Rattle.color_encoding.specs.declared.JxlTransferFunction.TheVariants as F
use Rattle.color_encoding.specs.declared.JxlColorEncoding.{JxlColorEncoding}
use Rattle.color_encoding.specs.declared.JxlColorEncoding.TheVariants.{RgbColorSpace, GrayscaleColorSpace, XYB}

-- m * 2 ^ e in units of 10 ^ -7, to the nearest, a tie to the even one: the digits of `seven_decimals`
abbrev pub ten_millionths : ℕ → ℤ → ℕ
ten_millionths m e = closest (m * up e * 10 ^ 7) (down e)

-- a finite float whose seven decimals have at most two whole digits
abbrev pub TwoDigits : Float → Type 0
TwoDigits nan = ⊥
TwoDigits (inf s) = ⊥
TwoDigits (fin s m e) = ten_millionths m e < 10 ^ 9

abbrev pub WhiteTwoDigits : JxlWhitePoint → Type 0
WhiteTwoDigits W.D65 = Unit {0}
WhiteTwoDigits W.E = Unit {0}
WhiteTwoDigits W.DCI = Unit {0}
WhiteTwoDigits (W.Chromaticity wx wy) = TwoDigits wx × TwoDigits wy

abbrev pub PrimariesTwoDigits : JxlPrimaries → Type 0
PrimariesTwoDigits P.SRGB = Unit {0}
PrimariesTwoDigits P.BT2100 = Unit {0}
PrimariesTwoDigits P.P3 = Unit {0}
PrimariesTwoDigits (P.Chromaticities rx ry gx gy bx by) = ((TwoDigits rx × TwoDigits ry) × (TwoDigits gx × TwoDigits gy)) × (TwoDigits bx × TwoDigits by)

abbrev pub TransferTwoDigits : JxlTransferFunction → Type 0
TransferTwoDigits F.BT709 = Unit {0}
TransferTwoDigits F.Linear = Unit {0}
TransferTwoDigits F.SRGB = Unit {0}
TransferTwoDigits F.PQ = Unit {0}
TransferTwoDigits F.DCI = Unit {0}
TransferTwoDigits F.HLG = Unit {0}
TransferTwoDigits (F.Gamma g) = TwoDigits g

-- every float of the encoding
abbrev pub FloatsTwoDigits : JxlColorEncoding → Type 0
FloatsTwoDigits (RgbColorSpace w p t i) = WhiteTwoDigits w × (PrimariesTwoDigits p × TransferTwoDigits t)
FloatsTwoDigits (GrayscaleColorSpace w t i) = WhiteTwoDigits w × TransferTwoDigits t
FloatsTwoDigits (XYB i) = Unit {0}

-- ---- a gamma whose seven decimals are all zero

abbrev pub prints_zero : Float → Bool
prints_zero nan = false
prints_zero (inf s) = false
prints_zero (fin s m e) = eqb (ten_millionths m e) 0

abbrev pub transfer_prints_zero : JxlTransferFunction → Bool
transfer_prints_zero F.BT709 = false
transfer_prints_zero F.Linear = false
transfer_prints_zero F.SRGB = false
transfer_prints_zero F.PQ = false
transfer_prints_zero F.DCI = false
transfer_prints_zero F.HLG = false
transfer_prints_zero (F.Gamma g) = prints_zero g

abbrev pub gamma_prints_zero : JxlColorEncoding → Bool
gamma_prints_zero (RgbColorSpace w p t i) = transfer_prints_zero t
gamma_prints_zero (GrayscaleColorSpace w t i) = transfer_prints_zero t
gamma_prints_zero (XYB i) = false

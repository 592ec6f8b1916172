-- The names of white points, primaries and transfer functions: the `Display` impls of api/color.rs.
-- Assumes nothing.
use Rattle.std.specs.Prelude.{ℕ, List, ◌++◌, Float}
use Rattle.color_encoding.specs.declared.JxlWhitePoint.{JxlWhitePoint}
use Rattle.color_encoding.specs.declared.JxlWhitePoint.TheVariants as W
use Rattle.color_encoding.specs.declared.JxlPrimaries.{JxlPrimaries}
use Rattle.color_encoding.specs.declared.JxlPrimaries.TheVariants as P
use Rattle.color_encoding.specs.declared.JxlTransferFunction.{JxlTransferFunction}
use Rattle.color_encoding.specs.declared.JxlTransferFunction.TheVariants as F
use Rattle.color_encoding.specs.declared.PrimariesXy.{PrimariesXy}
use Rattle.buffer.specs.Ascii.{ascii}
use Rattle.decimal.specs.Seven.{seven_decimals}

abbrev pub comma : List ℕ
comma = ascii ","

abbrev pub semicolon : List ℕ
semicolon = ascii ";"

-- two numbers with a separator between them
unfoldable pub pair : List ℕ → Float → Float → List ℕ
pair separator x y = seven_decimals x ++ separator ++ seven_decimals y

unfoldable pub white_name : JxlWhitePoint → List ℕ
unfolding pair
white_name W.D65 = ascii "D65"
white_name W.E = ascii "EER"
white_name W.DCI = ascii "DCI"
white_name (W.Chromaticity wx wy) = pair semicolon wx wy

unfoldable pub primaries_name : JxlPrimaries → List ℕ
unfolding pair
primaries_name P.SRGB = ascii "SRG"
primaries_name P.BT2100 = ascii "202"
primaries_name P.P3 = ascii "DCI"
primaries_name (P.Chromaticities rx ry gx gy bx by) = pair comma rx ry ++ semicolon ++ pair comma gx gy ++ semicolon ++ pair comma bx by

unfoldable pub transfer_name : JxlTransferFunction → List ℕ
transfer_name F.BT709 = ascii "709"
transfer_name F.Linear = ascii "Lin"
transfer_name F.SRGB = ascii "SRG"
transfer_name F.PQ = ascii "PeQ"
transfer_name F.DCI = ascii "DCI"
transfer_name F.HLG = ascii "HLG"
transfer_name (F.Gamma g) = ascii "g" ++ seven_decimals g

-- primaries of one's own, by their coordinates
abbrev pub chromaticities : PrimariesXy → JxlPrimaries
chromaticities xy = P.Chromaticities xy.rx xy.ry xy.gx xy.gy xy.bx xy.by

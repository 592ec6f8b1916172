-- An encoding as it is read from its description: each float is the one nearest to its own seven decimals. Assumes nothing.
use Rattle.std.specs.Prelude.{◌^◌, Float}
use Rattle.std.specs.Float.{nan, inf, fin, binary32}
use Rattle.std.specs.Float.Ieee.{round}
use Rattle.color_encoding.specs.declared.JxlWhitePoint.{JxlWhitePoint}
use Rattle.color_encoding.specs.declared.JxlWhitePoint.TheVariants as W
use Rattle.color_encoding.specs.declared.JxlPrimaries.{JxlPrimaries}
use Rattle.color_encoding.specs.declared.JxlPrimaries.TheVariants as P
use Rattle.color_encoding.specs.declared.JxlTransferFunction.{JxlTransferFunction}
use Rattle.color_encoding.specs.declared.JxlTransferFunction.TheVariants as F
use Rattle.color_encoding.specs.declared.JxlColorEncoding.{JxlColorEncoding}
use Rattle.color_encoding.specs.declared.JxlColorEncoding.TheVariants.{RgbColorSpace, GrayscaleColorSpace, XYB}
use Rattle.description_round_trip.specs.TwoDigits.{ten_millionths}

-- what is no number and the infinities are not read
abbrev pub float_as_read : Float → Float
float_as_read nan = nan
float_as_read (inf s) = inf s
float_as_read (fin s m e) = round binary32 s (ten_millionths m e) (10 ^ 7)

abbrev pub white_as_read : JxlWhitePoint → JxlWhitePoint
white_as_read W.D65 = W.D65
white_as_read W.E = W.E
white_as_read W.DCI = W.DCI
white_as_read (W.Chromaticity wx wy) = W.Chromaticity (float_as_read wx) (float_as_read wy)

abbrev pub primaries_as_read : JxlPrimaries → JxlPrimaries
primaries_as_read P.SRGB = P.SRGB
primaries_as_read P.BT2100 = P.BT2100
primaries_as_read P.P3 = P.P3
primaries_as_read (P.Chromaticities rx ry gx gy bx by) =
    P.Chromaticities (float_as_read rx) (float_as_read ry) (float_as_read gx) (float_as_read gy) (float_as_read bx) (float_as_read by)

abbrev pub transfer_as_read : JxlTransferFunction → JxlTransferFunction
transfer_as_read F.BT709 = F.BT709
transfer_as_read F.Linear = F.Linear
transfer_as_read F.SRGB = F.SRGB
transfer_as_read F.PQ = F.PQ
transfer_as_read F.DCI = F.DCI
transfer_as_read F.HLG = F.HLG
transfer_as_read (F.Gamma g) = F.Gamma (float_as_read g)

abbrev pub encoding_as_read : JxlColorEncoding → JxlColorEncoding
encoding_as_read (RgbColorSpace w p t i) = RgbColorSpace (white_as_read w) (primaries_as_read p) (transfer_as_read t) i
encoding_as_read (GrayscaleColorSpace w t i) = GrayscaleColorSpace (white_as_read w) (transfer_as_read t) i
encoding_as_read (XYB i) = XYB i

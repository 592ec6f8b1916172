-- An encoding as the bytes of a lent record of C: the number of its section in a job (1 gray, 2 RGB, 3 XYB), and then the 40 bytes of an RGB entry
-- (01, "The job"): white, primaries, curve, intent. What the kind does not use is zero. Assumes nothing.
use Rattle.std.specs.Prelude.{ℕ, List, [], ◌∷◌, ◌++◌, Float, get_or, drop}
use Rattle.std.specs.Float.{binary32}
use Rattle.std.specs.Float.Ieee.{to_bits}
use Rattle.buffer.specs.Bytes.{zeros}
use Rattle.buffer.specs.Checked.{Checked}
use Rattle.words.specs.Words.{be32}
use Rattle.color_encoding.specs.declared.JxlWhitePoint.{JxlWhitePoint}
use Rattle.color_encoding.specs.declared.JxlWhitePoint.TheVariants as W
use Rattle.color_encoding.specs.declared.JxlPrimaries.{JxlPrimaries}
use Rattle.color_encoding.specs.declared.JxlPrimaries.TheVariants as P
use Rattle.color_encoding.specs.declared.JxlTransferFunction.{JxlTransferFunction}
use Rattle.color_encoding.specs.declared.JxlTransferFunction.TheVariants as F
use Rattle.color_encoding.specs.declared.JxlColorEncoding.{JxlColorEncoding}
use Rattle.color_encoding.specs.declared.JxlColorEncoding.TheVariants.{RgbColorSpace, GrayscaleColorSpace, XYB}
use Rattle.color_encoding.specs.Codes.{white_point_number, primaries_number, transfer_function_number, unknown, gray_from, xyb_from}
use Rattle.color_encoding.specs.Intent.{intent_number}
use Rattle.job_entry.specs.Entry.{white_at, curve_at, intent_at, rgb_encoding}

-- the bytes of a record
abbrev pub encoding_size : ℕ
encoding_size = 41

-- ---- the record of an encoding

-- big-endian f32 bits
abbrev pub float_bytes : Float → List ℕ
float_bytes x = be32 (to_bits binary32 x)

-- wx, wy
abbrev pub white_floats : JxlWhitePoint → List ℕ
white_floats W.D65 = zeros 8
white_floats W.E = zeros 8
white_floats W.DCI = zeros 8
white_floats (W.Chromaticity wx wy) = float_bytes wx ++ float_bytes wy

-- rx, ry, gx, gy, bx, by
abbrev pub primaries_floats : JxlPrimaries → List ℕ
primaries_floats P.SRGB = zeros 24
primaries_floats P.BT2100 = zeros 24
primaries_floats P.P3 = zeros 24
primaries_floats (P.Chromaticities rx ry gx gy bx by) = float_bytes rx ++ float_bytes ry ++ float_bytes gx ++ float_bytes gy ++ float_bytes bx ++ float_bytes by

-- g
abbrev pub curve_float : JxlTransferFunction → List ℕ
curve_float F.BT709 = zeros 4
curve_float F.Linear = zeros 4
curve_float F.SRGB = zeros 4
curve_float F.PQ = zeros 4
curve_float F.DCI = zeros 4
curve_float F.HLG = zeros 4
curve_float (F.Gamma g) = float_bytes g

-- a part: its number, and then its floats
abbrev pub white_bytes : JxlWhitePoint → List ℕ
white_bytes w = white_point_number w ∷ white_floats w

abbrev pub primaries_bytes : JxlPrimaries → List ℕ
primaries_bytes p = primaries_number p ∷ primaries_floats p

abbrev pub curve_bytes : JxlTransferFunction → List ℕ
curve_bytes t = transfer_function_number t ∷ curve_float t

unfoldable pub encoding_record : JxlColorEncoding → List ℕ
encoding_record (GrayscaleColorSpace w t i) = 1 ∷ (white_bytes w ++ (zeros 25 ++ (curve_bytes t ++ (intent_number i ∷ []))))
encoding_record (RgbColorSpace w p t i) = 2 ∷ (white_bytes w ++ (primaries_bytes p ++ (curve_bytes t ++ (intent_number i ∷ []))))
encoding_record (XYB i) = 3 ∷ (zeros 39 ++ (intent_number i ∷ []))

-- ---- the way back: the encoding that a record's bytes mean. 43: a section, kind, curve or intent has no meaning

-- by the section's number: none, gray, RGB, XYB
abbrev pub section_list : List ℕ → List (Checked JxlColorEncoding)
section_list entry =
    unknown ∷ gray_from (white_at entry 0) (curve_at entry 34) (intent_at entry 39) ∷ rgb_encoding entry ∷ xyb_from (intent_at entry 39) ∷ []

unfoldable pub encoding_by : List ℕ → Checked JxlColorEncoding
unfolding rgb_encoding
encoding_by b = get_or (section_list (drop 1 b)) (get_or b 0 0) unknown

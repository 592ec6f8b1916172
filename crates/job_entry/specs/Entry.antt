-- An entry of a job (01, "The job"): the encoding that its bytes mean. Assumes nothing.
use Rattle.std.specs.Prelude.{ℕ, ◌+◌, List, drop, get_or, Float}
use Rattle.std.specs.Float.{binary32}
use Rattle.std.specs.Float.Ieee.{of_bits}
use Rattle.buffer.specs.Checked.{Checked}
use Rattle.words.specs.Words.{word32}
use Rattle.color_encoding.specs.declared.RenderingIntent.{RenderingIntent}
use Rattle.color_encoding.specs.declared.JxlWhitePoint.{JxlWhitePoint}
use Rattle.color_encoding.specs.declared.JxlPrimaries.{JxlPrimaries}
use Rattle.color_encoding.specs.declared.JxlTransferFunction.{JxlTransferFunction}
use Rattle.color_encoding.specs.declared.JxlColorEncoding.{JxlColorEncoding}
use Rattle.color_encoding.specs.Codes.{white_point_from, primaries_from, transfer_function_from, intent_from, gray_from, rgb_from, xyb_from}

-- ---- the fields of an entry, from place i of its bytes on; a byte past the end counts 0

abbrev pub byte_at : List ℕ → ℕ → ℕ
byte_at b i = get_or b i 0

-- big-endian f32 bits; every pattern of a NaN is NaN
abbrev pub float_at : List ℕ → ℕ → Float
float_at b i = of_bits binary32 (word32 (drop i b))

-- the kind, then wx, wy
abbrev pub white_at : List ℕ → ℕ → Checked JxlWhitePoint
white_at b i = white_point_from (byte_at b i) (float_at b (i + 1)) (float_at b (i + 5))

-- the kind, then rx, ry, gx, gy, bx, by
abbrev pub primaries_at : List ℕ → ℕ → Checked JxlPrimaries
primaries_at b i =
    primaries_from (byte_at b i) (float_at b (i + 1)) (float_at b (i + 5)) (float_at b (i + 9)) (float_at b (i + 13)) (float_at b (i + 17)) (float_at b (i + 21))

-- the curve, then g
abbrev pub curve_at : List ℕ → ℕ → Checked JxlTransferFunction
curve_at b i = transfer_function_from (byte_at b i) (float_at b (i + 1))

abbrev pub intent_at : List ℕ → ℕ → Checked RenderingIntent
intent_at b i = intent_from (byte_at b i)

-- ---- the encoding that an entry's bytes mean. 43: a kind, curve or intent has no meaning

-- white, curve, intent
unfoldable pub gray_encoding : List ℕ → Checked JxlColorEncoding
gray_encoding b = gray_from (white_at b 0) (curve_at b 9) (intent_at b 14)

-- white, primaries, curve, intent
unfoldable pub rgb_encoding : List ℕ → Checked JxlColorEncoding
rgb_encoding b = rgb_from (white_at b 0) (primaries_at b 9) (curve_at b 34) (intent_at b 39)

-- the intent
unfoldable pub xyb_encoding : List ℕ → Checked JxlColorEncoding
xyb_encoding b = xyb_from (intent_at b 0)

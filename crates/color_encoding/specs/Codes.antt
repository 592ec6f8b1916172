-- The enums from their numbers, in a job (01: the white's and the primaries' kind bytes, the curve byte, the intent byte) and in a call from C.
-- A number is the place of its meaning in a list, the first place being 0. A number past the list has no meaning: refusal 43 of 01.
-- Assumes nothing.
use Rattle.std.specs.Prelude.{ℕ, List, [], ◌∷◌, map, Float, get_or}
use Rattle.buffer.specs.Checked.{Checked, is, refused, then}
use Rattle.color_encoding.specs.declared.RenderingIntent.{RenderingIntent}
use Rattle.color_encoding.specs.declared.RenderingIntent.TheVariants.{Perceptual, Relative, Saturation, Absolute}
use Rattle.color_encoding.specs.declared.JxlWhitePoint.{JxlWhitePoint}
use Rattle.color_encoding.specs.declared.JxlWhitePoint.TheVariants as W
use Rattle.color_encoding.specs.declared.JxlPrimaries.{JxlPrimaries}
use Rattle.color_encoding.specs.declared.JxlPrimaries.TheVariants as P
use Rattle.color_encoding.specs.declared.JxlTransferFunction.{JxlTransferFunction}
use Rattle.color_encoding.specs.declared.JxlTransferFunction.TheVariants as F
use Rattle.color_encoding.specs.declared.JxlColorEncoding.{JxlColorEncoding}
use Rattle.color_encoding.specs.declared.JxlColorEncoding.TheVariants.{RgbColorSpace, GrayscaleColorSpace, XYB}

-- 43: a kind, curve or intent has no meaning
abbrev pub unknown : {A : Type 0} → Checked A
unknown = refused 43

-- the meaning of a number
abbrev pub from : {A : Type 0} → List A → ℕ → Checked A
from meanings n = get_or (map is meanings) n unknown

abbrev pub intent_list : List RenderingIntent
intent_list = Perceptual ∷ Relative ∷ Saturation ∷ Absolute ∷ []

abbrev pub intent_from : ℕ → Checked RenderingIntent
intent_from n = from intent_list n

-- the floats are the coordinates of the last one
abbrev pub white_point_list : Float → Float → List JxlWhitePoint
white_point_list wx wy = W.D65 ∷ W.E ∷ W.DCI ∷ W.Chromaticity wx wy ∷ []

abbrev pub white_point_from : ℕ → Float → Float → Checked JxlWhitePoint
white_point_from n wx wy = from (white_point_list wx wy) n

-- the floats are the coordinates of the last one
abbrev pub primaries_list : Float → Float → Float → Float → Float → Float → List JxlPrimaries
primaries_list rx ry gx gy bx by = P.SRGB ∷ P.BT2100 ∷ P.P3 ∷ P.Chromaticities rx ry gx gy bx by ∷ []

abbrev pub primaries_from : ℕ → Float → Float → Float → Float → Float → Float → Checked JxlPrimaries
primaries_from n rx ry gx gy bx by = from (primaries_list rx ry gx gy bx by) n

-- in the order of `JxlTransferFunction`; the float is the last one's
abbrev pub transfer_function_list : Float → List JxlTransferFunction
transfer_function_list gamma = F.BT709 ∷ F.Linear ∷ F.SRGB ∷ F.PQ ∷ F.DCI ∷ F.HLG ∷ F.Gamma gamma ∷ []

abbrev pub transfer_function_from : ℕ → Float → Checked JxlTransferFunction
transfer_function_from n gamma = from (transfer_function_list gamma) n

-- ---- the number of a meaning: its place in the list

abbrev pub white_point_number : JxlWhitePoint → ℕ
white_point_number W.D65 = 0
white_point_number W.E = 1
white_point_number W.DCI = 2
white_point_number (W.Chromaticity wx wy) = 3

abbrev pub primaries_number : JxlPrimaries → ℕ
primaries_number P.SRGB = 0
primaries_number P.BT2100 = 1
primaries_number P.P3 = 2
primaries_number (P.Chromaticities rx ry gx gy bx by) = 3

abbrev pub transfer_function_number : JxlTransferFunction → ℕ
transfer_function_number F.BT709 = 0
transfer_function_number F.Linear = 1
transfer_function_number F.SRGB = 2
transfer_function_number F.PQ = 3
transfer_function_number F.DCI = 4
transfer_function_number F.HLG = 5
transfer_function_number (F.Gamma g) = 6

-- ---- the encoding that the parts give together

abbrev pub gray_from : Checked JxlWhitePoint → Checked JxlTransferFunction → Checked RenderingIntent → Checked JxlColorEncoding
gray_from w t i =
    then w (λ a.
    then t (λ b.
    then i (λ c.
    is (GrayscaleColorSpace a b c))))

abbrev pub rgb_from : Checked JxlWhitePoint → Checked JxlPrimaries → Checked JxlTransferFunction → Checked RenderingIntent → Checked JxlColorEncoding
rgb_from w p t i =
    then w (λ a.
    then p (λ b.
    then t (λ c.
    then i (λ d.
    is (RgbColorSpace a b c d)))))

abbrev pub xyb_from : Checked RenderingIntent → Checked JxlColorEncoding
xyb_from i = then i (λ a. is (XYB a))

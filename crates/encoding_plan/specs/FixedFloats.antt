-- The floats that the fixed numbers of an encoding's file are made from, in the order of the file, and how many of the numbers were rounded (02,
-- order 5). Meant is each f32 that the Rust gives to `append_s15_fixed_16`: the header's white, `cicp` and the CLUT have none, and the three curve
-- tags of RGB share one curve. Assumes nothing.
use Rattle.std.specs.Prelude.{Bool, true, false, List, [], ◌++◌, Float}
use Rattle.buffer.specs.Checked.{Checked, is, value_or, then}
use Rattle.color_encoding.specs.Coordinates.{white_xy, primaries_xy}
use Rattle.color_encoding.specs.declared.WhiteXy.{WhiteXy}
use Rattle.color_encoding.specs.declared.JxlTransferFunction.{JxlTransferFunction}
use Rattle.color_encoding.specs.declared.JxlColorEncoding.{JxlColorEncoding}
use Rattle.color_encoding.specs.declared.JxlColorEncoding.TheVariants.{RgbColorSpace, GrayscaleColorSpace, XYB}
use Rattle.numbers.specs.declared.fixed.Counted.{Counted}
use Rattle.numbers.specs.Rounded.{counted}
use Rattle.xyb_constants.specs.XybNumbers as Xyb
use Rattle.profile.specs.Plan.{Plan}
use Rattle.profile.specs.FixedConstants.{d50_floats}
use Rattle.encoding_curve.specs.CurveOf.{supported, curve_floats}
use Rattle.encoding_numbers.specs.NumbersOf.{gray_floats, chad_floats, column_floats}
use Rattle.encoding_plan.specs.PlanOf.{color_plan}

-- those of the curve; PQ and HLG are refused and have none
abbrev pub transfer_floats : JxlTransferFunction → List Float
transfer_floats t = value_or [] (then (supported t) (λ s. is (curve_floats s)))

-- those of a gray white: of `wtpt` or, adapted, of `wtpt` and `chad` (02, order 9)
abbrev pub white_floats : Bool → WhiteXy → List Float
white_floats true w = d50_floats ++ chad_floats w
white_floats false w = gray_floats w

-- a is the mark "adapted" of gray
unfoldable pub color_floats : Bool → JxlColorEncoding → List Float
-- `wtpt`, `chad` with the mark, `kTRC`
color_floats a (GrayscaleColorSpace w t i) = white_floats a (white_xy w) ++ transfer_floats t
-- `wtpt`, `chad`, `rXYZ` to `bXYZ`, `rTRC` to `bTRC`
color_floats a (RgbColorSpace w p t i) = d50_floats ++ chad_floats (white_xy w) ++ column_floats (primaries_xy p) (white_xy w) ++ transfer_floats t
-- `wtpt`, `chad`, `A2B0`, `B2A0`
color_floats a (XYB i) = d50_floats ++ Xyb.fixed_floats

-- the plan of an encoding with the count, or the refusal, which has none
abbrev pub counted_color_plan : Bool → JxlColorEncoding → Checked (Counted Plan)
counted_color_plan a e = counted (color_floats a e) (color_plan a e)

-- ---- without the mark

abbrev pub fixed_floats : JxlColorEncoding → List Float
fixed_floats e = color_floats false e

abbrev pub counted_plan : JxlColorEncoding → Checked (Counted Plan)
counted_plan e = counted_color_plan false e

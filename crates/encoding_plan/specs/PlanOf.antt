-- The plan of a color encoding, with or without the mark "adapted" that gray encodings may have (02, order 9), or the first of refusals 1 and 3 to 8 (01, "Words of
-- demand 3" and the refusal list). Its maker and model are zero: EncodingPlan has the plan of an encoding with these two. It never has the mark "id not
-- computed" (02, order 7). Assumes nothing.
use Rattle.std.specs.Prelude.{ℕ, Option, Bool, true, false, List, ℤ}
use Rattle.color_encoding.specs.Intent.{intent_number}
use Rattle.color_encoding.specs.Coordinates.{white_xy, primaries_xy}
use Rattle.color_encoding.specs.declared.WhiteXy.{WhiteXy}
use Rattle.color_encoding.specs.declared.RenderingIntent.{RenderingIntent}
use Rattle.color_encoding.specs.declared.JxlColorEncoding.{JxlColorEncoding}
use Rattle.color_encoding.specs.declared.JxlColorEncoding.TheVariants.{RgbColorSpace, GrayscaleColorSpace, XYB}
use Rattle.text.specs.Description.{description}
use Rattle.profile.specs.Plan.{Plan, gray, rgb, xyb, plain_plan}
use Rattle.profile.specs.declared.GrayWhite.{GrayWhite}
use Rattle.profile.specs.declared.GrayWhite.TheVariants.{Unadapted as unadapted, Adapted as adapted}
use Rattle.profile.specs.declared.Curve.{Curve}
use Rattle.buffer.specs.Checked.{Checked, is, then}
pub use Rattle.encoding_curve.specs.CurveOf.{supported, curve_of, cicp_pair, cicp_of}
pub use Rattle.encoding_numbers.specs.NumbersOf.{gray_numbers, chad_numbers, column_numbers}

-- ---- the white of a gray plan

-- its own, which refusals 3 and 7 are about, or, with the mark, adapted to D50, which 4 and 5 are about
abbrev pub gray_white : Bool → WhiteXy → Checked GrayWhite
gray_white true w = then (chad_numbers w) (λ m. is (adapted m))
gray_white false w = then (gray_numbers w) (λ xz. is (unadapted xz.0 xz.1))

-- ---- the plan

abbrev pub gray_plan : JxlColorEncoding → RenderingIntent → Curve → GrayWhite → Plan
gray_plan e i c w = plain_plan (intent_number i) (gray (record { text = description e; curve = c; white = w }))

abbrev pub rgb_plan : JxlColorEncoding → RenderingIntent → Curve → Option ℕ → List ℤ → List ℤ → Plan
rgb_plan e i c v m k =
    plain_plan (intent_number i) (rgb (record { text = description e; curve = c; chad = m; columns = k; cicp = v }))

abbrev pub xyb_plan : RenderingIntent → Plan
xyb_plan i = plain_plan (intent_number i) xyb

-- a is the mark; of RGB and XYB, whose white always is adapted, it says nothing
unfoldable pub color_plan : Bool → JxlColorEncoding → Checked Plan
color_plan a (GrayscaleColorSpace w t i) =
    then (supported t) (λ s.
    then (gray_white a (white_xy w)) (λ white.
    then (curve_of s) (λ c.
    is (gray_plan (GrayscaleColorSpace w t i) i c white))))
color_plan a (RgbColorSpace w p t i) =
    then (supported t) (λ s.
    then (chad_numbers (white_xy w)) (λ m.
    then (column_numbers (primaries_xy p) (white_xy w)) (λ k.
    then (curve_of s) (λ c.
    is (rgb_plan (RgbColorSpace w p t i) i c (cicp_of w p c) m k)))))
-- of every intent (02, order 8)
color_plan a (XYB i) = is (xyb_plan i)

-- without the mark, as jobs and typed texts mean it
abbrev pub plan_of : JxlColorEncoding → Checked Plan
plan_of e = color_plan false e

-- Gray encodings with the mark "adapted" (02, order 9), and what their plans hold: the terms of AdaptedGray. Assumes nothing.
use Rattle.std.specs.Prelude.{ℕ, ◌≡◌, true, List, ℤ}
use Rattle.buffer.specs.Checked.{is}
use Rattle.color_encoding.specs.Coordinates.{white_xy}
use Rattle.color_encoding.specs.declared.RenderingIntent.{RenderingIntent}
use Rattle.color_encoding.specs.declared.JxlWhitePoint.{JxlWhitePoint}
use Rattle.color_encoding.specs.declared.JxlTransferFunction.{JxlTransferFunction}
use Rattle.color_encoding.specs.declared.JxlColorEncoding.TheVariants.{GrayscaleColorSpace}
use Rattle.text.specs.Description.{description}
use Rattle.profile.specs.Plan.{Plan, gray}
use Rattle.profile.specs.declared.GrayWhite.TheVariants.{Adapted as adapted}
use Rattle.profile.specs.declared.Curve.{Curve}
use Rattle.encoding_plan.specs.PlanOf.{chad_numbers}
use Rattle.encoding_plan.specs.EncodingPlan.{encoding_as}
use Rattle.encoding_plan.specs.declared.Encoding.{Encoding}

-- gray with the mark, and with any maker and model
abbrev pub marked : JxlWhitePoint → JxlTransferFunction → RenderingIntent → ℕ → ℕ → Encoding
marked w t i maker model = encoding_as true maker model (GrayscaleColorSpace w t i)

-- the plan has the mark, the text of the encoding without it, and the `chad` numbers of the white
pub record HasMark (w : JxlWhitePoint) (t : JxlTransferFunction) (i : RenderingIntent) (q : Plan) : Type 0 where
  pub chad : List ℤ
  pub chad_is : chad_numbers (white_xy w) ≡ is chad
  pub curve : Curve
  pub content : q.content ≡ gray (record { text = description (GrayscaleColorSpace w t i); curve = curve; white = adapted chad })

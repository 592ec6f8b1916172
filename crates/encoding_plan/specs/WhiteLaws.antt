-- The white of an RGB encoding that has a plan lies in its range. Assumes nothing.
use Rattle.std.specs.Prelude.{◌≡◌, Bool, List, ℤ}
use Rattle.buffer.specs.Checked.{is}
use Rattle.buffer.specs.CheckedLaws.{both}
use Rattle.color_encoding.specs.Coordinates.{white_xy}
use Rattle.color_encoding.specs.declared.JxlWhitePoint.{JxlWhitePoint}
use Rattle.color_encoding.specs.declared.JxlColorEncoding.{JxlColorEncoding}
use Rattle.color_encoding.specs.declared.JxlColorEncoding.TheVariants.{RgbColorSpace, GrayscaleColorSpace, XYB}
use Rattle.adaptation.specs.Adapt.{chad_matrix}
use Rattle.adaptation.specs.AdaptLaws.{adapted_in_range}
use Rattle.text.specs.Held.{InRange, WhiteInRange}
use Rattle.profile.specs.Plan.{Plan}
use Rattle.encoding_plan.specs.PlanOf.{supported, chad_numbers, color_plan}

pub white_in_range_lem : (w : JxlWhitePoint) {m : List ℤ} → chad_numbers (white_xy w) ≡ is m → InRange w
white_in_range_lem w e = adapted_in_range (white_xy w) (both (chad_matrix (white_xy w)) _ e).first

pub planned_in_range : (a : Bool) (e : JxlColorEncoding) {p : Plan} → color_plan a e ≡ is p → WhiteInRange e
unfolding color_plan
planned_in_range a (RgbColorSpace w p t i) e =
    let curve = both (supported t) _ e in
    white_in_range_lem w (both (chad_numbers (white_xy w)) _ curve.second).first
planned_in_range a (GrayscaleColorSpace w t i) e = tt
planned_in_range a (XYB i) e = tt

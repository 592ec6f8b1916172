-- `color_plan` by its checks, one after another. Assumes nothing.
use Rattle.std.specs.Prelude.{ℕ, ◌≡◌, Bool, List, ℤ}
use Rattle.color_encoding.specs.Coordinates.{white_xy, primaries_xy}
use Rattle.color_encoding.specs.declared.RenderingIntent.{RenderingIntent}
use Rattle.color_encoding.specs.declared.JxlWhitePoint.{JxlWhitePoint}
use Rattle.color_encoding.specs.declared.JxlPrimaries.{JxlPrimaries}
use Rattle.color_encoding.specs.declared.JxlTransferFunction.{JxlTransferFunction}
use Rattle.color_encoding.specs.declared.JxlColorEncoding.TheVariants.{RgbColorSpace, GrayscaleColorSpace}
use Rattle.profile.specs.declared.GrayWhite.{GrayWhite}
use Rattle.profile.specs.declared.Curve.{Curve}
use Rattle.buffer.specs.Checked.{is, refused}
use Rattle.encoding_plan.specs.PlanOf.{supported, curve_of, gray_white, chad_numbers, column_numbers, cicp_of, gray_plan, rgb_plan, color_plan}
use Rattle.encoding_curve.specs.declared.SupportedCurve.{SupportedCurve}

module _ (a : Bool) (w : JxlWhitePoint) (t : JxlTransferFunction) (i : RenderingIntent) where
  pub gray_unsupported : {n : ℕ} → supported t ≡ refused n → color_plan a (GrayscaleColorSpace w t i) ≡ refused n
  unfolding color_plan
  gray_unsupported h = simp h

  module _ {s : SupportedCurve} (h : supported t ≡ is s) where
    pub gray_no_white : {n : ℕ} → gray_white a (white_xy w) ≡ refused n → color_plan a (GrayscaleColorSpace w t i) ≡ refused n
    unfolding color_plan
    gray_no_white e = simp h (rw e)

    module _ {white : GrayWhite} (e : gray_white a (white_xy w) ≡ is white) where
      pub gray_no_curve : {n : ℕ} → curve_of s ≡ refused n → color_plan a (GrayscaleColorSpace w t i) ≡ refused n
      unfolding color_plan
      gray_no_curve f = simp h (rw (e, f))

      pub gray_plan_lem : {c : Curve} → curve_of s ≡ is c
          → color_plan a (GrayscaleColorSpace w t i) ≡ is (gray_plan (GrayscaleColorSpace w t i) i c white)
      unfolding color_plan
      gray_plan_lem f = simp h (rw (e, f))

module _ (a : Bool) (w : JxlWhitePoint) (p : JxlPrimaries) (t : JxlTransferFunction) (i : RenderingIntent) where
  pub rgb_unsupported : {n : ℕ} → supported t ≡ refused n → color_plan a (RgbColorSpace w p t i) ≡ refused n
  unfolding color_plan
  rgb_unsupported h = simp h

  module _ {s : SupportedCurve} (h : supported t ≡ is s) where
    pub rgb_no_chad : {n : ℕ} → chad_numbers (white_xy w) ≡ refused n → color_plan a (RgbColorSpace w p t i) ≡ refused n
    unfolding color_plan
    rgb_no_chad e = simp h (rw e)

    module _ {m : List ℤ} (e : chad_numbers (white_xy w) ≡ is m) where
      pub rgb_no_columns : {n : ℕ} → column_numbers (primaries_xy p) (white_xy w) ≡ refused n → color_plan a (RgbColorSpace w p t i) ≡ refused n
      unfolding color_plan
      rgb_no_columns f = simp h (rw (e, f))

      module _ {k : List ℤ} (f : column_numbers (primaries_xy p) (white_xy w) ≡ is k) where
        pub rgb_no_curve : {n : ℕ} → curve_of s ≡ refused n → color_plan a (RgbColorSpace w p t i) ≡ refused n
        unfolding color_plan
        rgb_no_curve g = simp h (rw (e, f, g))

        pub rgb_plan_lem : {c : Curve} → curve_of s ≡ is c
            → color_plan a (RgbColorSpace w p t i) ≡ is (rgb_plan (RgbColorSpace w p t i) i c (cicp_of w p c) m k)
        unfolding color_plan
        rgb_plan_lem g = simp h (rw (e, f, g))

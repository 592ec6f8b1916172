-- The longest file of each kind: 1,200 bytes, of RGB with a gamma and the longest text. Assumes nothing.
use Rattle.std.specs.Prelude.{ℕ, ◌≤◌, ◌≡◌, Bool, false, length}
use Rattle.std.proofs.Common.{lit≤}
use Rattle.buffer.specs.Checked.{is}
use Rattle.color_encoding.specs.Coordinates.{white_xy, primaries_xy}
use Rattle.color_encoding.specs.declared.JxlWhitePoint.{JxlWhitePoint}
use Rattle.color_encoding.specs.declared.JxlPrimaries.{JxlPrimaries}
use Rattle.color_encoding.specs.declared.JxlColorEncoding.{JxlColorEncoding}
use Rattle.color_encoding.specs.declared.JxlColorEncoding.TheVariants.{RgbColorSpace, GrayscaleColorSpace, XYB}
use Rattle.text.specs.Description.{description}
use Rattle.text.specs.Held.{HeldEncoding}
use Rattle.text.specs.Bounds.{length-in_range}
use Rattle.profile.specs.Plan.{Plan, InRange as NumberInRange}
use Rattle.profile.specs.PlanLaws.{white_nines}
use Rattle.profile.specs.Layout.{layout}
use Rattle.profile.specs.LayoutLaws.{length-layout}
use Rattle.profile.specs.Elements.{file_length, start, body_size, tag_count, padding}
use Rattle.profile.specs.Shape.{is_gamma, has_cicp, is_adapted, slots_of}
use Rattle.profile.specs.declared.Kind.TheVariants.{Rgb}
use Rattle.profile.specs.declared.Curve.{Curve}
use Rattle.profile.specs.declared.Curve.TheVariants.{Named, Gamma}
use Rattle.encoding_plan.specs.PlanOf.{cicp_of, gray_plan, rgb_plan, xyb_plan, color_plan}
use Rattle.encoding_plan.specs.WhiteLaws.{white_in_range_lem}
use Rattle.writer.specs.Writer.{max_written}
use Rattle.writer_laws.specs.PlanLaws.{chad_nine, columns_nine, white_good, gray_parts, rgb_parts}
use Rattle.writer_laws.specs.WrittenLengthLaws.{most_letters, rgb_letters, gray_most, gamma_most, named_file}

rgb_most : (w : JxlWhitePoint) (p : JxlPrimaries) (n : ℕ) (c : Curve) → n ≤ most_letters c
    → file_length (slots_of (record { kind = Rgb; letters = n; gamma = is_gamma c; cicp = has_cicp (cicp_of w p c); adapted = false })) ≤ max_written
rgb_most w p n (Named m) h = named_file n (has_cicp (cicp_of w p (Named m))) h
rgb_most w p n (Gamma g) h = gamma_most n h

-- ---- every encoding

pub at_most : (a : Bool) (e : JxlColorEncoding) → HeldEncoding e → {p : Plan} → color_plan a e ≡ is p → length (layout p) ≤ max_written
unfolding color_plan slots_of file_length start body_size tag_count padding
at_most a (GrayscaleColorSpace w t i) held {p} e =
    let g = gray_parts a w t i e in
    let nines = white_nines NumberInRange g.white (white_good a (white_xy w) g.white_is) in
    rw (← g.plan_is, length-layout (gray_plan (GrayscaleColorSpace w t i) i g.curve g.white) nines)
    (gray_most (length (description (GrayscaleColorSpace w t i))) (is_gamma g.curve) (is_adapted g.white) (length-in_range (GrayscaleColorSpace w t i) held tt))
at_most a (RgbColorSpace w q t i) held {p} e =
    let g = rgb_parts a w q t i e in
    let plan = rgb_plan (RgbColorSpace w q t i) i g.curve (cicp_of w q g.curve) g.chad g.columns in
    rw (← g.plan_is, length-layout plan (chad_nine (white_xy w) g.chad_is, columns_nine (primaries_xy q) (white_xy w) g.columns_are))
    (rgb_most w q (length (description (RgbColorSpace w q t i))) g.curve (rgb_letters w q i (white_in_range_lem w g.chad_is) g.curve_is t held g.support_is))
at_most a (XYB i) held {p} e =
    let same : xyb_plan i ≡ p = cc in
    rw (← same, length-layout (xyb_plan i) tt) (lit≤ tt)

-- What the checks of `color_plan` that passed tell of the plan's parts. Assumes nothing.
use Rattle.std.specs.Prelude.{◌≡◌, refl, Bool, true, false, List, length, ℤ}
use Rattle.std.proofs.Common.{inl, inr}
use Rattle.buffer.specs.All.{All}
use Rattle.buffer.specs.Checked.{is}
use Rattle.buffer.specs.CheckedLaws.{both, each_length, each_all}
use Rattle.numbers.specs.Fixed.{fixed_or}
use Rattle.numbers.specs.FixedLaws.{within_if}
use Rattle.linalg.specs.Linalg.{component, rows, columns}
use Rattle.color_encoding.specs.Coordinates.{white_xy, primaries_xy}
use Rattle.color_encoding.specs.declared.WhiteXy.{WhiteXy}
use Rattle.color_encoding.specs.declared.PrimariesXy.{PrimariesXy}
use Rattle.color_encoding.specs.declared.JxlWhitePoint.{JxlWhitePoint}
use Rattle.color_encoding.specs.declared.JxlWhitePoint.TheVariants as W
use Rattle.color_encoding.specs.declared.JxlPrimaries.{JxlPrimaries}
use Rattle.color_encoding.specs.declared.JxlPrimaries.TheVariants as P
use Rattle.color_encoding.specs.declared.RenderingIntent.{RenderingIntent}
use Rattle.color_encoding.specs.declared.JxlTransferFunction.{JxlTransferFunction}
use Rattle.color_encoding.specs.declared.JxlColorEncoding.{JxlColorEncoding}
use Rattle.color_encoding.specs.declared.JxlColorEncoding.TheVariants.{RgbColorSpace, GrayscaleColorSpace}
use Rattle.white_point.specs.GrayWhite.{cie_xyz_from_white_cie_xy}
use Rattle.adaptation.specs.Adapt.{chad_matrix}
use Rattle.colorimetry.specs.Primaries.{create_icc_rgb_matrix}
use Rattle.text.specs.Description.{description}
use Rattle.text.specs.Held.{HeldEncoding, WhiteInRange}
use Rattle.text.specs.Bounds.{length-in_range, some-letter, ascii_description}
use Rattle.profile.specs.Plan.{Plan, GoodWhite, InRange, GoodText, GoodCurve, GoodCicp}
use Rattle.profile.specs.declared.GrayWhite.{GrayWhite}
use Rattle.profile.specs.declared.GrayWhite.TheVariants.{Unadapted as unadapted, Adapted as adapted}
use Rattle.profile.specs.declared.Curve.{Curve}
use Rattle.profile.specs.declared.Curve.TheVariants.{Named, Gamma}
use Rattle.profile.specs.declared.CurveName.{CurveName}
use Rattle.encoding_plan.specs.Answers.{reciprocal_refusal}
use Rattle.encoding_plan.specs.PlanOf.{supported, curve_of, gray_numbers, chad_numbers, column_numbers, gray_white, cicp_pair, cicp_of, gray_plan, rgb_plan, color_plan}
use Rattle.encoding_curve.specs.declared.SupportedCurve.{SupportedCurve}
use Rattle.encoding_curve.specs.declared.SupportedCurve.TheVariants as Supported

-- ---- `chad` and the columns

module _ (w : WhiteXy) {m : List ℤ} (e : chad_numbers w ≡ is m) where
  pub chad_nine : length m ≡ 9
  chad_nine = let g = both (chad_matrix w) _ e in each_length (fixed_or 5) (rows g.value) m g.second

  pub chad_within : All InRange m
  chad_within = let g = both (chad_matrix w) _ e in each_all (fixed_or 5) InRange (λ x y h. within_if 5 x h) (rows g.value) m g.second

module _ (p : PrimariesXy) (w : WhiteXy) {k : List ℤ} (e : column_numbers p w ≡ is k) where
  pub columns_nine : length k ≡ 9
  columns_nine = let g = both (create_icc_rgb_matrix p w) _ e in each_length (fixed_or 7) (columns g.value) k g.second

  pub columns_within : All InRange k
  columns_within = let g = both (create_icc_rgb_matrix p w) _ e in each_all (fixed_or 7) InRange (λ x y h. within_if 7 x h) (columns g.value) k g.second

-- ---- a gray white

xz_within : (w : WhiteXy) {xz : ℤ × ℤ} → gray_numbers w ≡ is xz → InRange xz.0 × InRange xz.1
xz_within w {xz} e =
    let v = both (cie_xyz_from_white_cie_xy w) _ e in
    let a = both (fixed_or 7 (component v.value 0)) _ v.second in
    let b = both (fixed_or 7 (component v.value 2)) _ a.second in
    let same : (a.value, b.value) ≡ xz = cc b.second in
    (rw (← same) (within_if 7 _ a.first), rw (← same) (within_if 7 _ b.first))

pub white_good : (a : Bool) (w : WhiteXy) {white : GrayWhite} → gray_white a w ≡ is white → GoodWhite InRange white
white_good true w {white} e =
    let m = both (chad_numbers w) _ e in
    let same : adapted m.value ≡ white = cc m.second in
    rw (← same) (chad_nine w m.first, chad_within w m.first)
white_good false w {white} e =
    let xz = both (gray_numbers w) _ e in
    let same : unadapted xz.value.0 xz.value.1 ≡ white = cc xz.second in
    rw (← same) (xz_within w xz.first)

-- ---- a curve

pub curve_good : (s : SupportedCurve) {c : Curve} → curve_of s ≡ is c → GoodCurve InRange c
curve_good (Supported.Named n) {c} e = let same : Named n ≡ c = cc in rw (← same) tt
curve_good (Supported.Gamma g) {c} e =
    let a = both (fixed_or reciprocal_refusal _) _ e in
    let same : Gamma a.value ≡ c = cc a.second in
    rw (← same) (within_if reciprocal_refusal _ a.first)

-- ---- `cicp`

pair_good : (n : CurveName) (w : JxlWhitePoint) (p : JxlPrimaries) → GoodCicp (Named n) (cicp_pair w p)
pair_good n W.D65 P.SRGB = inl refl
pair_good n W.D65 P.BT2100 = inr (inl refl)
pair_good n W.D65 P.P3 = inr (inr (inr refl))
pair_good n W.D65 (P.Chromaticities rx ry gx gy bx by) = tt
pair_good n W.DCI P.P3 = inr (inr (inl refl))
pair_good n W.DCI P.SRGB = tt
pair_good n W.DCI P.BT2100 = tt
pair_good n W.DCI (P.Chromaticities rx ry gx gy bx by) = tt
pair_good n W.E p = tt
pair_good n (W.Chromaticity wx wy) p = tt

pub cicp_good_lem : (w : JxlWhitePoint) (p : JxlPrimaries) (c : Curve) → GoodCicp c (cicp_of w p c)
cicp_good_lem w p (Named n) = pair_good n w p
cicp_good_lem w p (Gamma g) = tt

-- ---- the text

pub text_good : (e : JxlColorEncoding) → HeldEncoding e → WhiteInRange e → GoodText (description e)
text_good e h r = record { some-letter = some-letter e; short = length-in_range e h r; ascii = ascii_description e }

-- ---- the parts of which the plan of an accepted encoding is made

pub record GrayParts (a : Bool) (w : JxlWhitePoint) (t : JxlTransferFunction) (i : RenderingIntent) (p : Plan) : Type 0 where
  pub support : SupportedCurve
  pub support_is : supported t ≡ is support
  pub white : GrayWhite
  pub white_is : gray_white a (white_xy w) ≡ is white
  pub curve : Curve
  pub curve_is : curve_of support ≡ is curve
  pub plan_is : gray_plan (GrayscaleColorSpace w t i) i curve white ≡ p

pub gray_parts : (a : Bool) (w : JxlWhitePoint) (t : JxlTransferFunction) (i : RenderingIntent) {p : Plan} → color_plan a (GrayscaleColorSpace w t i) ≡ is p → GrayParts a w t i p
unfolding color_plan
gray_parts a w t i e =
    let s = both (supported t) _ e in
    let n = both (gray_white a (white_xy w)) _ s.second in
    let c = both (curve_of s.value) _ n.second in
    record {
      support = s.value;
      support_is = s.first;
      white = n.value;
      white_is = n.first;
      curve = c.value;
      curve_is = c.first;
      plan_is = cc c.second;
    }

pub record RgbParts (w : JxlWhitePoint) (q : JxlPrimaries) (t : JxlTransferFunction) (i : RenderingIntent) (p : Plan) : Type 0 where
  pub support : SupportedCurve
  pub support_is : supported t ≡ is support
  pub chad : List ℤ
  pub chad_is : chad_numbers (white_xy w) ≡ is chad
  pub columns : List ℤ
  pub columns_are : column_numbers (primaries_xy q) (white_xy w) ≡ is columns
  pub curve : Curve
  pub curve_is : curve_of support ≡ is curve
  pub plan_is : rgb_plan (RgbColorSpace w q t i) i curve (cicp_of w q curve) chad columns ≡ p

pub rgb_parts : (a : Bool) (w : JxlWhitePoint) (q : JxlPrimaries) (t : JxlTransferFunction) (i : RenderingIntent) {p : Plan} → color_plan a (RgbColorSpace w q t i) ≡ is p
    → RgbParts w q t i p
unfolding color_plan
rgb_parts a w q t i e =
    let s = both (supported t) _ e in
    let m = both (chad_numbers (white_xy w)) _ s.second in
    let k = both (column_numbers (primaries_xy q) (white_xy w)) _ m.second in
    let c = both (curve_of s.value) _ k.second in
    record {
      support = s.value;
      support_is = s.first;
      chad = m.value;
      chad_is = m.first;
      columns = k.value;
      columns_are = k.first;
      curve = c.value;
      curve_is = c.first;
      plan_is = cc c.second;
    }

-- How many of the fixed numbers of a file were rounded, by its parts. Assumes nothing.
use Rattle.std.specs.Prelude.{ℕ, ◌+◌, ◌≤◌, ◌≡◌, Bool, true, false, cond, Float, length}
use Rattle.std.proofs.Math.Path.{sym, ap}
use Rattle.std.proofs.Common.{◌∙◌, arith}
use Rattle.std.specs.Float.Ieee.{lt}
use mathlib.Core.List.{List, [], ◌∷◌, ◌++◌}
use Rattle.floats.specs.Abs.{abs}
use Rattle.floats.specs.Binary32.{◌⊗◌, ◌⊘◌, one}
use Rattle.linalg.specs.Linalg.{rows, columns}
use Rattle.white_point.specs.GrayWhite.{epsilon, invalid_white_point_y, gray_z, cie_xyz_from_white_cie_xy}
use Rattle.adaptation.specs.Adapt.{chad_matrix}
use Rattle.colorimetry.specs.Primaries.{create_icc_rgb_matrix}
use Rattle.color_encoding.specs.declared.PrimariesXy.{PrimariesXy}
use Rattle.buffer.specs.Checked.{Checked, is, refused, value_or, then}
use Rattle.color_encoding.specs.Coordinates.{white_xy, primaries_xy}
use Rattle.color_encoding.specs.declared.WhiteXy.{WhiteXy}
use Rattle.color_encoding.specs.declared.RenderingIntent.{RenderingIntent}
use Rattle.color_encoding.specs.declared.JxlWhitePoint.{JxlWhitePoint}
use Rattle.color_encoding.specs.declared.JxlPrimaries.{JxlPrimaries}
use Rattle.color_encoding.specs.declared.JxlTransferFunction.{JxlTransferFunction}
use Rattle.color_encoding.specs.declared.JxlColorEncoding.TheVariants.{RgbColorSpace, GrayscaleColorSpace, XYB}
use Rattle.numbers.specs.Rounded.{rounded_in}
use Rattle.numbers.specs.RoundedLaws.{rounded_in_append, rounded_in_most}
use Rattle.xyb_constants.specs.XybNumbers as Xyb
use Rattle.xyb_constants.proofs.XybNumbersLaws.{fixed_floats_count}
use Rattle.profile.specs.FixedConstants.{d50_floats, d50_count, parameter_floats}
use Rattle.profile.specs.declared.CurveName.TheVariants as Name
use Rattle.encoding_curve.specs.CurveOf.{supported, curve_floats}
use Rattle.encoding_curve.specs.declared.SupportedCurve.{SupportedCurve}
use Rattle.encoding_curve.specs.declared.SupportedCurve.TheVariants.{Named, Gamma}
use Rattle.encoding_numbers.specs.NumbersOf.{gray_floats, chad_floats, column_floats}
use Rattle.encoding_plan.specs.FixedFloats.{transfer_floats, white_floats, color_floats}

-- of a gray white that is adapted
pub adapted_count : (w : WhiteXy) → 2 + rounded_in (chad_floats w) ≡ rounded_in (white_floats true w)
adapted_count w = omega (arith, d50_count, rounded_in_append d50_floats (chad_floats w))

module _ (a : Bool) (w : JxlWhitePoint) (t : JxlTransferFunction) (i : RenderingIntent) {s : SupportedCurve} (h : supported t ≡ is s) where
  transfer_is : transfer_floats t ≡ curve_floats s
  transfer_is = ap (λ (c : Checked SupportedCurve). value_or [] (then c (λ r. is (curve_floats r)))) h

  pub gray_count_lem : rounded_in (white_floats a (white_xy w)) + rounded_in (curve_floats s) ≡ rounded_in (color_floats a (GrayscaleColorSpace w t i))
  unfolding color_floats
  gray_count_lem = sym (rounded_in_append (white_floats a (white_xy w)) (transfer_floats t) ∙ ap (λ (l : List Float). rounded_in (white_floats a (white_xy w)) + rounded_in l) transfer_is)

  pub rgb_count : (p : JxlPrimaries)
      → 2 + rounded_in (chad_floats (white_xy w)) + rounded_in (column_floats (primaries_xy p) (white_xy w)) + rounded_in (curve_floats s)
      ≡ rounded_in (color_floats a (RgbColorSpace w p t i))
  unfolding color_floats
  rgb_count p =
      let chad = chad_floats (white_xy w) in
      let columns = column_floats (primaries_xy p) (white_xy w) in
      let all : rounded_in (color_floats a (RgbColorSpace w p t i)) ≡ rounded_in d50_floats + rounded_in (chad ++ columns ++ transfer_floats t) =
      rounded_in_append d50_floats (chad ++ columns ++ transfer_floats t) in
      omega (arith, all, d50_count, rounded_in_append (chad ++ columns) (transfer_floats t), rounded_in_append chad columns, ap rounded_in transfer_is)

-- ---- how many there are at most

-- of floats that a check gives, none where it refuses
few_of : {A : Type 0} (f : A → List Float) (k : ℕ) → ((x : A) → length (f x) ≤ k) → (c : Checked A) → rounded_in (value_or [] (then c (λ x. is (f x)))) ≤ k
few_of f k h (is x) = omega (arith, h x, rounded_in_most (f x))
few_of f k h (refused n) = omega (arith, rounded_in_most [])

pub chad_few : (w : WhiteXy) → rounded_in (chad_floats w) ≤ 9
chad_few w = few_of rows 9 (λ m. omega arith) (chad_matrix w)

pub columns_few : (p : PrimariesXy) (w : WhiteXy) → rounded_in (column_floats p w) ≤ 9
columns_few p w = few_of columns 9 (λ m. omega arith) (create_icc_rgb_matrix p w)

gray_few : (w : WhiteXy) → rounded_in (gray_floats w) ≤ 3
unfolding cie_xyz_from_white_cie_xy
gray_few w = go (lt (abs w.wy) epsilon)
  where
    go : (b : Bool) → let f = one ⊘ w.wy in rounded_in (value_or [] (cond b invalid_white_point_y (is (w.wx ⊗ f ∷ one ∷ gray_z w ⊗ f ∷ [])))) ≤ 3
    go true = omega (arith, rounded_in_most [])
    go false = let f = one ⊘ w.wy in omega (arith, rounded_in_most (w.wx ⊗ f ∷ one ∷ gray_z w ⊗ f ∷ []))

pub white_few : (a : Bool) (w : WhiteXy) → rounded_in (white_floats a w) ≤ 11
white_few true w = omega (arith, chad_few w, adapted_count w)
white_few false w = omega (arith, gray_few w)

pub curve_few : (s : SupportedCurve) → rounded_in (curve_floats s) ≤ 5
curve_few (Named Name.BT709) = rounded_in_most (parameter_floats Name.BT709)
curve_few (Named Name.Linear) = rounded_in_most (parameter_floats Name.Linear)
curve_few (Named Name.SRGB) = rounded_in_most (parameter_floats Name.SRGB)
curve_few (Named Name.DCI) = rounded_in_most (parameter_floats Name.DCI)
curve_few (Gamma g) = omega (arith, rounded_in_most (one ⊘ g ∷ []))

pub xyb_count : (a : Bool) (i : RenderingIntent) → rounded_in (color_floats a (XYB i)) ≡ 30
unfolding color_floats
xyb_count a i = omega (arith, d50_count, fixed_floats_count, rounded_in_append d50_floats Xyb.fixed_floats)

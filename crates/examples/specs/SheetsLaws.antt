-- The cases of the joint table, one by one, evaluated on the definitions. Assumes nothing.
use Rattle.std.specs.Prelude.{Some, None, ℕ, ◌≡◌, refl, Bool, true, false, List, [], ◌∷◌, ℤ, pos, negsuc, Float, length}
use Rattle.std.proofs.Common.{ap, ◌∙◌, le_refl, le-leb}
use Rattle.std.specs.Float.{binary32}
use Rattle.std.specs.Float.Ieee.{of_bits, size, neg, lt, le, eq, add, sub, mul, div}
use Rattle.buffer.specs.Ascii.{ascii}
use Rattle.numbers.specs.Fixed.{some_number, s15_fixed16, whole}
use Rattle.numbers.specs.Rounded.{rounded_in, counted}
use Rattle.color_encoding.specs.declared.RenderingIntent.TheVariants.{Perceptual, Relative}
use Rattle.color_encoding.specs.declared.RenderingIntent.{RenderingIntent}
use Rattle.color_encoding.specs.declared.JxlColorEncoding.{JxlColorEncoding}
use Rattle.color_encoding.specs.declared.JxlWhitePoint.TheVariants as W
use Rattle.color_encoding.specs.declared.JxlPrimaries.TheVariants as P
use Rattle.color_encoding.specs.declared.JxlTransferFunction.TheVariants as F
use Rattle.color_encoding.specs.declared.JxlColorEncoding.TheVariants.{RgbColorSpace, GrayscaleColorSpace, XYB}
use Rattle.digits.specs.Digits.{digits, last_digits}
use Rattle.decimal.specs.Seven.{seven_decimals}
use Rattle.floats.specs.Abs.{abs}
use Rattle.linalg.specs.Linalg.{dot, applied, product}
use Rattle.matrix_inverse.specs.Inverse.{minor, cofactor, cofactors, determinant, adjugate, singular, inverse}
use Rattle.floats.specs.Narrow.{narrow}
use Rattle.color_encoding.specs.Range.{in_range}
use Rattle.white_point.specs.White.{white_xyz, finite, finite_xyz}
use Rattle.white_point.specs.GrayWhite.{cie_xyz_from_white_cie_xy}
use Rattle.icc_matrix.specs.Narrowed.{narrowed}
use Rattle.adaptation.specs.Adapt.{has_zero, all_finite, lms, gains, adaptable, adaptation_matrix, adapt_to_xyz_d50, chad_matrix}
use Rattle.colorimetry.specs.Primaries.{primaries_matrix, scaled_primaries, primaries_to_xyz, primaries_to_xyz_d50, create_icc_rgb_matrix}
use Rattle.text.specs.Description.{white_name, primaries_name, transfer_name, rgb_text, gray_text, rgb_description, description}
use Rattle.profile.specs.Elements.{file_length, start, body_size, tag_count, padding}
use Rattle.profile.specs.Plan.{Plan, gray, rgb, plain_plan}
use Rattle.profile.specs.declared.GrayWhite.TheVariants.{Unadapted as unadapted, Adapted as adapted}
use Rattle.profile.specs.Shape.{slots_of}
use Rattle.profile.specs.Layout.{layout}
use Rattle.profile.specs.LayoutLaws.{length-layout}
use Rattle.profile.specs.declared.CurveName.TheVariants as Name
use Rattle.profile.specs.declared.Curve.TheVariants.{Named}
use Rattle.buffer.specs.Checked.{Checked, is}
use Rattle.encoding_plan.specs.PlanOf.{xyb_plan, color_plan, plan_of}
use Rattle.encoding_plan.specs.FixedFloats.{color_floats, counted_color_plan, fixed_floats, counted_plan}
use Rattle.encoding_plan.specs.FixedFloatsLaws.{xyb_count}
use Rattle.writer.specs.Writer.{profile, answer}

abbrev b32 : ℕ → Float
b32 n = of_bits binary32 n

-- ---- fixed numbers

-- 1.0
pub one : s15_fixed16 (b32 0x3f80_0000) ≡ some_number (pos 65536) true
unfolding s15_fixed16 of_bits
one = refl

-- 32767.994140625, and the next f32 up
pub largest : s15_fixed16 (b32 0x46ff_fffd) ≡ some_number (pos 2147483264) true
unfolding s15_fixed16 of_bits
largest = refl

pub too_large : s15_fixed16 (b32 0x46ff_fffe) ≡ None
unfolding s15_fixed16 of_bits
too_large = refl

-- two to the -17, and negated: halves go away from zero
pub half : s15_fixed16 (b32 0x3700_0000) ≡ some_number (pos 1) false
unfolding s15_fixed16 of_bits
half = refl

pub minus_half : s15_fixed16 (b32 0xb700_0000) ≡ some_number (negsuc 0) false
unfolding s15_fixed16 of_bits
minus_half = refl

-- 2.4
pub srgb_gamma : s15_fixed16 (b32 0x4019_999a) ≡ some_number (pos 157286) false
unfolding s15_fixed16 of_bits
srgb_gamma = refl

-- ---- texts

-- 1/256 and 3/256: ties go to the even digit
pub tie_down : seven_decimals (b32 0x3b80_0000) ≡ ascii "0.0039062"
unfolding seven_decimals digits last_digits size of_bits
tie_down = refl

pub tie_up : seven_decimals (b32 0x3c40_0000) ≡ ascii "0.0117188"
unfolding seven_decimals digits last_digits size of_bits
tie_up = refl

pub minus_zero : seven_decimals (b32 0x8000_0000) ≡ ascii "-0.0000000"
unfolding seven_decimals digits last_digits size of_bits
minus_zero = refl

-- D65, SRGB, SRGB, Perceptual
pub srgb_text : description (RgbColorSpace W.D65 P.SRGB F.SRGB Perceptual) ≡ ascii "sRGB"
unfolding description
srgb_text = refl

-- ---- profiles: the plan of an encoding, evaluated, and what the writer answers for an output of just its length

abbrev pub srgb : RenderingIntent → JxlColorEncoding
srgb i = RgbColorSpace W.D65 P.SRGB F.SRGB i

-- `chad` of D65, and the columns of SRGB under it
abbrev chad_d65 : List ℤ
chad_d65 = pos 68672 ∷ pos 1501 ∷ negsuc 3286 ∷ pos 1938 ∷ pos 64912 ∷ negsuc 1117 ∷ negsuc 605 ∷ pos 987 ∷ pos 49281 ∷ []

abbrev columns_srgb : List ℤ
columns_srgb = pos 28575 ∷ pos 14581 ∷ pos 912 ∷ pos 25238 ∷ pos 46983 ∷ pos 6363 ∷ pos 9378 ∷ pos 3973 ∷ pos 46806 ∷ []

-- the length of a plan that is known, and the count
exact : (a : Bool) (e : JxlColorEncoding) (p : Plan) (n k : ℕ) → color_plan a e ≡ is p → length (layout p) ≡ n → rounded_in (color_floats a e) ≡ k
    → answer (counted_color_plan a e) n ≡ profile n k
exact a e p n k h l c = ap (λ (q : Checked Plan). answer (counted (color_floats a e) q) n) h ∙ simp (l, c, le-leb n n (le_refl n))

abbrev pub srgb_plan : ℕ → List ℕ → Plan
srgb_plan i t =
    plain_plan i (rgb (record { text = t; curve = Named Name.SRGB; chad = chad_d65; columns = columns_srgb; cicp = Some 1 }))

pub perceptual_plan : plan_of (srgb Perceptual) ≡ is (srgb_plan 0 (ascii "sRGB"))
unfolding color_plan description rgb_description chad_matrix adapt_to_xyz_d50 adaptation_matrix adaptable in_range finite finite_xyz white_xyz has_zero all_finite lms gains narrowed create_icc_rgb_matrix primaries_to_xyz_d50 primaries_to_xyz primaries_matrix scaled_primaries singular inverse adjugate determinant cofactors cofactor minor abs applied product dot narrow s15_fixed16 of_bits neg eq lt le add sub mul div
perceptual_plan = refl

-- all but the Y of `wtpt` and the Z of blue, whatever the intent
pub srgb_count : (i : RenderingIntent) → rounded_in (fixed_floats (srgb i)) ≡ 24
unfolding color_floats rounded_in whole chad_matrix adapt_to_xyz_d50 adaptation_matrix adaptable in_range finite finite_xyz white_xyz has_zero all_finite lms gains narrowed create_icc_rgb_matrix primaries_to_xyz_d50 primaries_to_xyz primaries_matrix scaled_primaries singular inverse adjugate determinant cofactors cofactor minor abs applied product dot narrow of_bits neg eq lt le add sub mul div
srgb_count i = refl

pub perceptual_504 : answer (counted_plan (srgb Perceptual)) 504 ≡ profile 504 24
unfolding slots_of file_length start body_size tag_count padding
perceptual_504 = exact false _ _ 504 24 perceptual_plan (length-layout (srgb_plan 0 (ascii "sRGB")) (refl, refl)) (srgb_count Perceptual)

pub relative_plan : plan_of (srgb Relative) ≡ is (srgb_plan 1 (ascii "RGB_D65_SRG_Rel_SRG"))
unfolding color_plan description rgb_description rgb_text white_name primaries_name transfer_name chad_matrix adapt_to_xyz_d50 adaptation_matrix adaptable in_range finite finite_xyz white_xyz has_zero all_finite lms gains narrowed create_icc_rgb_matrix primaries_to_xyz_d50 primaries_to_xyz primaries_matrix scaled_primaries singular inverse adjugate determinant cofactors cofactor minor abs applied product dot narrow s15_fixed16 of_bits neg eq lt le add sub mul div
relative_plan = refl

pub relative_536 : answer (counted_plan (srgb Relative)) 536 ≡ profile 536 24
unfolding slots_of file_length start body_size tag_count padding
relative_536 = exact false _ _ 536 24 relative_plan (length-layout (srgb_plan 1 (ascii "RGB_D65_SRG_Rel_SRG")) (refl, refl)) (srgb_count Relative)

abbrev gray_d65 : Plan
gray_d65 =
    plain_plan 1 (gray (record { text = ascii "Gra_D65_Rel_SRG"; curve = Named Name.SRGB; white = unadapted (pos 62289) (pos 71372) }))

pub gray_plan_lem : plan_of (GrayscaleColorSpace W.D65 F.SRGB Relative) ≡ is gray_d65
unfolding color_plan description gray_text white_name transfer_name cie_xyz_from_white_cie_xy abs s15_fixed16 of_bits neg eq lt le add sub mul div
gray_plan_lem = refl

-- all but the Y of `wtpt`
gray_count_lem : rounded_in (fixed_floats (GrayscaleColorSpace W.D65 F.SRGB Relative)) ≡ 7
unfolding color_floats rounded_in whole cie_xyz_from_white_cie_xy abs of_bits neg eq lt le add sub mul div
gray_count_lem = refl

pub gray_328 : answer (counted_plan (GrayscaleColorSpace W.D65 F.SRGB Relative)) 328 ≡ profile 328 7
unfolding slots_of file_length start body_size tag_count padding
gray_328 = exact false _ _ 328 7 gray_plan_lem (length-layout gray_d65 tt) gray_count_lem

-- with the mark "adapted" (02, order 9): `chad` is that of sRGB
abbrev adapted_gray_d65 : Plan
adapted_gray_d65 =
    plain_plan 1 (gray (record { text = ascii "Gra_D65_Rel_SRG"; curve = Named Name.SRGB; white = adapted chad_d65 }))

adapted_plan : color_plan true (GrayscaleColorSpace W.D65 F.SRGB Relative) ≡ is adapted_gray_d65
unfolding color_plan description gray_text white_name transfer_name chad_matrix adapt_to_xyz_d50 adaptation_matrix adaptable in_range finite finite_xyz white_xyz has_zero all_finite lms gains narrowed abs applied product dot narrow s15_fixed16 of_bits neg eq lt le add sub mul div
adapted_plan = refl

-- all but the Y of `wtpt`
adapted_count : rounded_in (color_floats true (GrayscaleColorSpace W.D65 F.SRGB Relative)) ≡ 16
unfolding color_floats rounded_in whole chad_matrix adapt_to_xyz_d50 adaptation_matrix adaptable in_range finite finite_xyz white_xyz has_zero all_finite lms gains narrowed abs applied product dot narrow of_bits neg eq lt le add sub mul div
adapted_count = refl

pub adapted_384 : answer (counted_color_plan true (GrayscaleColorSpace W.D65 F.SRGB Relative)) 384 ≡ profile 384 16
unfolding slots_of file_length start body_size tag_count padding
adapted_384 = exact true _ _ 384 16 adapted_plan (length-layout adapted_gray_d65 refl) adapted_count

-- whatever the intent
pub xyb_720 : (i : RenderingIntent) → answer (counted_plan (XYB i)) 720 ≡ profile 720 30
unfolding color_plan slots_of file_length start body_size tag_count padding
xyb_720 i = exact false (XYB i) (xyb_plan i) 720 30 refl (length-layout (xyb_plan i) tt) (xyb_count false i)

-- `validate_icc_matrix` of api/color.rs: whether the floats of an encoding's white and matrices lie in the range of a fixed number. The Rust has
-- one error for every float out of range; 01 tells 5 and 7 apart. Assumes nothing.
use Rattle.std.specs.Prelude.{ℕ, Bool, false, ◌&&◌, ◌||◌, cond, List, [], ◌∷◌, eqb, Float, Result, Ok, Err}
use Rattle.std.specs.List.{list_all}
use Rattle.std.specs.Float.{binary32}
use Rattle.std.specs.Float.Ieee.{of_bits, le}
use Rattle.linalg.specs.Linalg.{rows}
use Rattle.color_encoding.specs.Coordinates.{white_xy, primaries_xy}
use Rattle.color_encoding.specs.declared.WhiteXy.{WhiteXy}
use Rattle.color_encoding.specs.declared.PrimariesXy.{PrimariesXy}
use Rattle.color_encoding.specs.declared.JxlColorEncoding.{JxlColorEncoding}
use Rattle.color_encoding.specs.declared.JxlColorEncoding.TheVariants.{RgbColorSpace, GrayscaleColorSpace, XYB}
use Rattle.white_point.specs.GrayWhite.{cie_xyz_from_white_cie_xy}
use Rattle.adaptation.specs.Adapt.{chad_matrix}
use Rattle.colorimetry.specs.Primaries.{create_icc_rgb_matrix}
use Rattle.buffer.specs.Checked.{Checked, is, refused, then}
use Rattle.validate.specs.declared.ValidationError.{ValidationError}
use Rattle.validate.specs.declared.ValidationError.TheVariants.{InvalidWhitePointY, InvalidWhitePoint, MatrixInversionFailed, ValueOutOfRange}

-- ---- the tests, in their order, by the numbers of 01's refusal list

-- `is_s15_fixed_16`: within ±32767.995, the f32 32767.994140625
abbrev pub is_s15_fixed_16 : Float → Bool
is_s15_fixed_16 v = le (of_bits binary32 0xc6ff_fffd) v && le v (of_bits binary32 0x46ff_fffd)

abbrev pub all_s15_fixed_16 : List Float → Bool
all_s15_fixed_16 vs = list_all is_s15_fixed_16 vs

-- the refusal n where one of the floats is out of range
abbrev pub in_range_or : ℕ → List Float → Checked (Unit {0})
in_range_or n vs = cond (all_s15_fixed_16 vs) (is tt) (refused n)

abbrev pub white_in_range : WhiteXy → Checked (Unit {0})
white_in_range w = then (cie_xyz_from_white_cie_xy w) (in_range_or 7)

abbrev pub matrix_in_range : PrimariesXy → WhiteXy → Checked (Unit {0})
matrix_in_range p w = then (create_icc_rgb_matrix p w) (λ m. in_range_or 7 (rows m))

abbrev pub matrices_in_range : PrimariesXy → WhiteXy → Checked (Unit {0})
matrices_in_range p w = then (chad_matrix w) (λ m. then (in_range_or 5 (rows m)) (λ _. matrix_in_range p w))

unfoldable pub in_range : JxlColorEncoding → Checked (Unit {0})
in_range (GrayscaleColorSpace w t i) = white_in_range (white_xy w)
in_range (RgbColorSpace w p t i) = matrices_in_range (primaries_xy p) (white_xy w)
in_range (XYB i) = is tt

-- ---- the answer

abbrev pub Answer : Type 0
Answer = Result (Unit {0}) ValidationError

-- the numbers of 01's refusal list that an answer stands for
abbrev pub refusals : Answer → List ℕ
refusals (Ok u) = []
refusals (Err InvalidWhitePointY) = 3 ∷ []
refusals (Err InvalidWhitePoint) = 4 ∷ []
refusals (Err MatrixInversionFailed) = 6 ∷ []
refusals (Err ValueOutOfRange) = 5 ∷ 7 ∷ []

abbrev among : ℕ → List ℕ → Bool
among n [] = false
among n (k ∷ ks) = eqb n k || among n ks

abbrev pub stands_for : Answer → ℕ → Bool
stands_for a n = among n (refusals a)

-- the error that stands for a number
abbrev pub error_at : ℕ → ValidationError
error_at n =
    cond (stands_for (Err InvalidWhitePointY) n) InvalidWhitePointY
    (cond (stands_for (Err InvalidWhitePoint) n) InvalidWhitePoint
    (cond (stands_for (Err MatrixInversionFailed) n) MatrixInversionFailed ValueOutOfRange))

abbrev pub validation : Checked (Unit {0}) → Answer
validation (is u) = Ok u
validation (refused n) = Err (error_at n)

abbrev pub validate_icc_matrix : JxlColorEncoding → Answer
validate_icc_matrix e = validation (in_range e)

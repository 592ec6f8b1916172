-- The writer, as the refusal list of 01 says it: the checks in order, each a fact of the encoding, with its mark "adapted" where it is gray, and of the number of
-- bytes of the output, and what it answers. `WriterAnswers` proves that the writer answers so. Assumes nothing.
use Rattle.std.specs.Prelude.{ℕ, ◌≤◌, ◌≡◌, Bool, true, false, List, [], ◌∷◌, length, ℤ, Float}
use Rattle.std.specs.Float.Ieee.{lt}
use Rattle.buffer.specs.All.{All}
use Rattle.buffer.specs.Checked.{Checked, is, refused}
use Rattle.buffer.specs.First.{First}
use Rattle.floats.specs.Abs.{abs}
use Rattle.floats.specs.Binary32.{◌⊘◌, ◌⊖◌, ◌⊗◌, one}
use Rattle.numbers.specs.Fixed.{some_number, s15_fixed16, whole}
use Rattle.numbers.specs.Rounded.{rounded_in}
use Rattle.linalg.specs.Linalg.{product, rows, columns}
use Rattle.matrix_inverse.specs.Inverse.{singular}
use Rattle.color_encoding.specs.Coordinates.{white_xy, primaries_xy}
use Rattle.color_encoding.specs.declared.WhiteXy.{WhiteXy}
use Rattle.color_encoding.specs.declared.PrimariesXy.{PrimariesXy}
use Rattle.color_encoding.specs.declared.JxlTransferFunction.{JxlTransferFunction}
use Rattle.color_encoding.specs.declared.JxlTransferFunction.TheVariants as F
use Rattle.color_encoding.specs.declared.JxlColorEncoding.{JxlColorEncoding}
use Rattle.color_encoding.specs.declared.JxlColorEncoding.TheVariants.{RgbColorSpace, GrayscaleColorSpace, XYB}
use Rattle.white_point.specs.White.{white_xyz}
use Rattle.white_point.specs.GrayWhite.{epsilon}
use Rattle.icc_matrix.specs.Narrowed.{narrowed}
use Rattle.adaptation.specs.Adapt.{gains, adaptable, adaptation_matrix}
use Rattle.colorimetry.specs.Primaries.{primaries_matrix, scaled_primaries}
use Rattle.profile.specs.Plan.{Plan}
use Rattle.profile.specs.Layout.{layout}
use Rattle.encoding_plan.specs.PlanOf.{color_plan}
use Rattle.encoding_plan.specs.FixedFloats.{color_floats}
use Rattle.writer.specs.Writer.{too_short}
use Rattle.writer.specs.declared.Written.{Written}
use Rattle.writer.specs.Writer.{profile}

-- ---- what each check asks

-- a float has a fixed number
abbrev pub Fits : Float → Type 0
Fits x = (z : ℤ) × (s15_fixed16 x ≡ some_number z (whole x))

-- what is asked of gray with the mark only, and what without it only: 4 and 5 replace 3 and 7 (02, order 9)
abbrev pub IfAdapted : Bool → Type 0 → Type 0
IfAdapted true P = P
IfAdapted false P = Unit {0}

abbrev pub UnlessAdapted : Bool → Type 0 → Type 0
UnlessAdapted true P = Unit {0}
UnlessAdapted false P = P

-- 1: the curve is neither PQ nor HLG
abbrev pub NeitherPqNorHlg : JxlTransferFunction → Type 0
NeitherPqNorHlg t = (t ≡ F.PQ → ⊥) × (t ≡ F.HLG → ⊥)

abbrev pub Ok1 : JxlColorEncoding → Type 0
Ok1 (RgbColorSpace w p t i) = NeitherPqNorHlg t
Ok1 (GrayscaleColorSpace w t i) = NeitherPqNorHlg t
Ok1 (XYB i) = Unit {0}

-- 3: not |wy| < 1e-12, compared in f32, of gray
abbrev pub Ok3 : Bool → JxlColorEncoding → Type 0
Ok3 a (RgbColorSpace w p t i) = Unit {0}
Ok3 a (GrayscaleColorSpace w t i) = UnlessAdapted a (lt (abs (white_xy w).wy) epsilon ≡ false)
Ok3 a (XYB i) = Unit {0}

-- 4: the white of RGB is in range, and meets no other `IccInvalidWhitePoint`
abbrev pub Ok4 : Bool → JxlColorEncoding → Type 0
Ok4 a (RgbColorSpace w p t i) = adaptable (white_xy w) ≡ true
Ok4 a (GrayscaleColorSpace w t i) = IfAdapted a (adaptable (white_xy w) ≡ true)
Ok4 a (XYB i) = Unit {0}

-- the matrix of `chad`
abbrev pub chad_of : WhiteXy → List (List Float)
chad_of w = narrowed (adaptation_matrix (gains w))

-- 5: each number of `chad` fits
abbrev pub Ok5 : Bool → JxlColorEncoding → Type 0
Ok5 a (RgbColorSpace w p t i) = All Fits (rows (chad_of (white_xy w)))
Ok5 a (GrayscaleColorSpace w t i) = IfAdapted a (All Fits (rows (chad_of (white_xy w))))
Ok5 a (XYB i) = Unit {0}

-- 6: not |det| < 1e-12, of the RGB matrix
abbrev pub Ok6 : JxlColorEncoding → Type 0
Ok6 (RgbColorSpace w p t i) = singular (primaries_matrix (primaries_xy p)) ≡ false
Ok6 (GrayscaleColorSpace w t i) = Unit {0}
Ok6 (XYB i) = Unit {0}

-- the matrix from RGB to XYZ of D50
abbrev pub matrix_of : PrimariesXy → WhiteXy → List (List Float)
matrix_of p w = narrowed (product (adaptation_matrix (gains w)) (scaled_primaries (primaries_matrix p) (white_xyz w)))

-- X and Z of a gray white, in f32
abbrev pub gray_x : WhiteXy → Float
gray_x w = w.wx ⊗ (one ⊘ w.wy)

abbrev pub gray_z : WhiteXy → Float
gray_z w = (one ⊖ w.wx ⊖ w.wy) ⊗ (one ⊘ w.wy)

-- 7: each column number and gray white number fits
abbrev pub Ok7 : Bool → JxlColorEncoding → Type 0
Ok7 a (RgbColorSpace w p t i) = All Fits (columns (matrix_of (primaries_xy p) (white_xy w)))
Ok7 a (GrayscaleColorSpace w t i) = UnlessAdapted a (Fits (gray_x (white_xy w)) × Fits (gray_z (white_xy w)))
Ok7 a (XYB i) = Unit {0}

-- 8: where the curve is a gamma g, 1 / g, divided in f32, fits
abbrev pub ReciprocalFits : JxlTransferFunction → Type 0
ReciprocalFits t = (g : Float) → t ≡ F.Gamma g → Fits (one ⊘ g)

abbrev pub Ok8 : JxlColorEncoding → Type 0
Ok8 (RgbColorSpace w p t i) = ReciprocalFits t
Ok8 (GrayscaleColorSpace w t i) = ReciprocalFits t
Ok8 (XYB i) = Unit {0}

-- 9: the output, of n bytes, is not shorter than the profile
abbrev pub Ok9 : Bool → JxlColorEncoding → ℕ → Type 0
Ok9 a e n = (p : Plan) → color_plan a e ≡ is p → length (layout p) ≤ n

-- ---- the checks in order; none has the number 2, which went with order 8 of 02

pub data Check : Type 0 where
  c1 c3 c4 c5 c6 c7 c8 c9 : Check

abbrev pub number : Check → ℕ
number c1 = 1
number c3 = 3
number c4 = 4
number c5 = 5
number c6 = 6
number c7 = 7
number c8 = 8
number c9 = too_short

abbrev pub Passed : Bool → JxlColorEncoding → ℕ → Check → Type 0
Passed a e n c1 = Ok1 e
Passed a e n c3 = Ok3 a e
Passed a e n c4 = Ok4 a e
Passed a e n c5 = Ok5 a e
Passed a e n c6 = Ok6 e
Passed a e n c7 = Ok7 a e
Passed a e n c8 = Ok8 e
Passed a e n c9 = Ok9 a e n

abbrev pub checks : List Check
checks = c1 ∷ c3 ∷ c4 ∷ c5 ∷ c6 ∷ c7 ∷ c8 ∷ c9 ∷ []

-- ---- the answer

-- the writer's answer to the encoding e, with the mark a, and an output of n bytes: the number of the first check that fails, or, where all pass, the length of the
-- profile and how many of its fixed numbers were rounded
pub data Answers (a : Bool) (e : JxlColorEncoding) (n : ℕ) : Checked Written → Type 0 where
  refuses : {c : Check} → First (Passed a e n) checks c → Answers a e n (refused (number c))
  writes : (p : Plan) → color_plan a e ≡ is p → All (Passed a e n) checks → Answers a e n (profile (length (layout p)) (rounded_in (color_floats a e)))

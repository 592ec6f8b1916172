-- The numbers that an XYB profile holds, by the float steps of api/color.rs: `create_icc_lut_atob_tag_for_xyb` (A2B0), `create_icc_noop_btoa_tag`
-- (B2A0), and `chad`. Each float has a fixed number (XybNumbersLaws). Assumes nothing.
use Rattle.std.specs.Prelude.{ℕ, ◌+◌, ◌*◌, min, cond, ℤ, Float}
use mathlib.Core.List.{List, [], ◌∷◌, ◌++◌, map, flatten}
use Rattle.std.specs.Float.{nan, inf, fin, binary32, binary64}
use Rattle.std.specs.Float.Ieee.{up, down, of_bits, neg, le, add, mul}
use Rattle.numbers.specs.Fixed.{fixed_number}
use Rattle.floats.specs.Narrow.{narrow}
use Rattle.color_encoding.specs.Coordinates.{white_xy}
use Rattle.color_encoding.specs.declared.JxlWhitePoint.TheVariants.{D65}
use Rattle.buffer.specs.Checked.{Checked, is, refused}
use Rattle.adaptation.specs.Adapt.{chad_matrix}
use Rattle.floats.specs.Binary32.{◌⊖◌, ◌⊗◌, ◌⊘◌, zero, one}
use Rattle.floats.specs.Binary64.{zero as zero64}
use Rattle.floats.specs.Rounding.{halves_up}
use Rattle.xyb_constants.specs.XybConstants.{at, cbrt_opsin_absorbance_bias, neg_opsin_absorbance_bias_rgb, xyb_offset, xyb_scale, unscaled_a2b_cube_full, xyb_icc_matrix}

-- 3.0 and 65535.0
abbrev pub three : Float
three = of_bits binary32 0x40400000

abbrev pub max_u16 : Float
max_u16 = of_bits binary32 0x477fff00

-- `round().clamp(0.0, 65535.0) as u16`: the nearest whole number, halves away from zero, held to 0 .. 65535
abbrev pub rounded_u16 : Float → ℕ
rounded_u16 nan = 0
rounded_u16 (inf s) = cond s 0 65535
rounded_u16 (fin s m e) = cond s 0 (min (halves_up (m * up e) (down e)) 65535)

-- the color look-up table of A2B0
unfoldable pub clut : List ℕ
clut = map (λ (v : Float). rounded_u16 (max_u16 ⊗ v)) unscaled_a2b_cube_full

-- `x.max(0.0)`, which is 0.0 too where x is no number
abbrev pub max_zero : Float → Float
max_zero x = cond (le zero x) x zero

-- gamma, a, b, c and d of the M curve i of A2B0
abbrev pub m_curve : ℕ → List Float
m_curve i =
    let b = neg (at xyb_offset i) ⊖ neg cbrt_opsin_absorbance_bias in
    three ∷ (one ⊘ at xyb_scale i) ∷ b ∷ zero ∷ max_zero (neg b ⊗ at xyb_scale i) ∷ []

abbrev pub m_curve_floats : List Float
m_curve_floats = m_curve 0 ++ m_curve 1 ++ m_curve 2

unfoldable pub m_curves : List ℤ
m_curves = map fixed_number m_curve_floats

-- The intercept of row i of the matrix of A2B0: f64 products of the row's entries and the negated bias, added to 0.0 one by one. The bias widened
-- to f64 is the same value.
abbrev pub intercept : ℕ → Float
intercept i = add binary64 (add binary64 (add binary64 zero64 (term 0)) (term 1)) (term 2)
  where
    term : ℕ → Float
    term j = mul binary64 (at xyb_icc_matrix (i * 3 + j)) (at neg_opsin_absorbance_bias_rgb j)

-- the matrix of A2B0 row by row, then the intercepts, each narrowed to f32
abbrev pub matrix_floats : List Float
matrix_floats = map narrow (xyb_icc_matrix ++ (intercept 0 ∷ intercept 1 ∷ intercept 2 ∷ []))

unfoldable pub matrix : List ℤ
matrix = map fixed_number matrix_floats

-- the gamma 1.0 of the identity curves of A2B0 and B2A0
unfoldable pub identity_gamma : ℤ
identity_gamma = fixed_number one

-- the rows one after another; none where there is no matrix
abbrev pub entries : Checked (List (List Float)) → List Float
entries (is m) = flatten m
entries (refused n) = []

-- the adaptation to D50 of the white D65
abbrev pub chad_floats : List Float
chad_floats = entries (chad_matrix (white_xy D65))

unfoldable pub chad : List ℤ
chad = map fixed_number chad_floats

-- ---- the floats of all these numbers, in the order of the file (02, order 5); the CLUT has no fixed numbers

-- three curves with the gamma 1.0
abbrev pub identity_floats : List Float
identity_floats = one ∷ one ∷ one ∷ []

-- `chad`; the B curves, the M curves and the matrix of A2B0, whose A curves are its B curves; the B curves of B2A0
abbrev pub fixed_floats : List Float
fixed_floats = chad_floats ++ identity_floats ++ m_curve_floats ++ matrix_floats ++ identity_floats

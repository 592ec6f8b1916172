-- The numbers of XybNumbers: their tables, by computation, where no fixed number is refused; their lengths. Assumes nothing.
use Rattle.std.specs.Prelude.{ℕ, ◌≡◌, refl, ℤ, pos, negsuc, length}
use Rattle.std.proofs.Common.{ap}
use mathlib.Core.List.{List, [], ◌∷◌, flatten}
use Rattle.std.specs.Float.Ieee.{of_bits, of_int, neg, eq, lt, le, add, sub, mul, div}
use Rattle.buffer.specs.Checked.{is, each}
use Rattle.numbers.specs.Fixed.{s15_fixed16, whole, fixed_or}
use Rattle.numbers.specs.FixedLaws.{fixed_numbers_are}
use Rattle.numbers.specs.Rounded.{rounded_in}
use Rattle.floats.specs.Narrow.{narrow}
use Rattle.linalg.specs.Linalg.{applied, product, dot}
use Rattle.color_encoding.specs.Range.{in_range}
use Rattle.white_point.specs.White.{finite, finite_xyz, white_xyz}
use Rattle.icc_matrix.specs.Narrowed.{narrowed}
use Rattle.adaptation.specs.Adapt.{chad_matrix, adapt_to_xyz_d50, adaptation_matrix, adaptable, has_zero, all_finite, lms, gains}
use Rattle.xyb_constants.specs.XybConstants.{unscaled_a2b_cube_full}
use Rattle.xyb_constants.specs.XybNumbers.{clut, m_curve_floats, m_curves, matrix_floats, matrix, chad_floats, chad, identity_gamma, fixed_floats}

-- ---- the tables; `negsuc n` is -(n + 1)

abbrev pub clut_table : List ℕ
clut_table =
    0 ∷ 3206 ∷ 0 ∷ 0 ∷ 3206 ∷ 28873 ∷ 62329 ∷ 65535 ∷ 36662 ∷ 62329 ∷ 65535 ∷ 65535
    ∷ 3206 ∷ 0 ∷ 0 ∷ 3206 ∷ 0 ∷ 28873 ∷ 65535 ∷ 62329 ∷ 36662 ∷ 65535 ∷ 62329 ∷ 65535
    ∷ []

abbrev pub m_curves_table : List ℤ
m_curves_table =
    pos 196608 ∷ pos 58248 ∷ pos 9212 ∷ pos 0 ∷ pos 0
    ∷ pos 196608 ∷ pos 58248 ∷ pos 8379 ∷ pos 0 ∷ pos 0
    ∷ pos 196608 ∷ pos 99027 ∷ negsuc 7978 ∷ pos 0 ∷ pos 5281
    ∷ []

abbrev pub matrix_table : List ℤ
matrix_table =
    pos 99419 ∷ negsuc 72516 ∷ pos 4694
    ∷ negsuc 3277 ∷ pos 37248 ∷ negsuc 1201
    ∷ negsuc 90942 ∷ pos 73044 ∷ pos 44940
    ∷ negsuc 119 ∷ negsuc 123 ∷ negsuc 102
    ∷ []

abbrev pub chad_table : List ℤ
chad_table =
    pos 68672 ∷ pos 1501 ∷ negsuc 3286
    ∷ pos 1938 ∷ pos 64912 ∷ negsuc 1117
    ∷ negsuc 605 ∷ pos 987 ∷ pos 49281
    ∷ []

-- ---- by computation: the floats' fixed numbers are the tables', and none is refused

m_curves_accepted : each (fixed_or 0) m_curve_floats ≡ is m_curves_table
unfolding s15_fixed16 of_bits neg le add sub mul div
m_curves_accepted = refl

matrix_accepted : each (fixed_or 0) matrix_floats ≡ is matrix_table
unfolding s15_fixed16 narrow of_bits neg add mul
matrix_accepted = refl

chad_accepted : each (fixed_or 0) chad_floats ≡ is chad_table
unfolding s15_fixed16 chad_matrix adapt_to_xyz_d50 adaptation_matrix adaptable in_range finite finite_xyz white_xyz has_zero all_finite lms gains narrowed applied product dot narrow flatten of_bits neg eq lt le add sub mul div
chad_accepted = refl

pub clut_is : clut ≡ clut_table
unfolding clut unscaled_a2b_cube_full of_bits of_int neg add sub mul div
clut_is = refl

pub m_curves_is : m_curves ≡ m_curves_table
unfolding m_curves
m_curves_is = fixed_numbers_are 0 m_curve_floats m_curves_table m_curves_accepted

pub matrix_is : matrix ≡ matrix_table
unfolding matrix
matrix_is = fixed_numbers_are 0 matrix_floats matrix_table matrix_accepted

pub chad_is : chad ≡ chad_table
unfolding chad
chad_is = fixed_numbers_are 0 chad_floats chad_table chad_accepted

-- ---- lengths

pub length-clut : length clut ≡ 24
length-clut = ap length clut_is

pub length-m_curves : length m_curves ≡ 15
length-m_curves = ap length m_curves_is

pub length-matrix : length matrix ≡ 12
length-matrix = ap length matrix_is

pub length-chad : length chad ≡ 9
length-chad = ap length chad_is

pub identity_gamma_is : identity_gamma ≡ pos 65536
unfolding identity_gamma s15_fixed16 of_bits
identity_gamma_is = refl

-- ---- how many are rounded

pub fixed_floats_count : rounded_in fixed_floats ≡ 28
unfolding rounded_in whole chad_matrix adapt_to_xyz_d50 adaptation_matrix adaptable in_range finite finite_xyz white_xyz has_zero all_finite lms gains narrowed applied product dot narrow flatten of_bits neg eq lt le add sub mul div
fixed_floats_count = refl

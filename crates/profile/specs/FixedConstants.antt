-- The white of the PCS and the numbers of the named curves are the fixed numbers of the Rust's f32 constants; how many of them are rounded.
-- Assumes nothing.
use Rattle.std.specs.Prelude.{ℕ, ◌≡◌, refl, List, [], ◌∷◌, map, Float}
use Rattle.std.specs.Float.{binary32}
use Rattle.std.specs.Float.Ieee.{of_bits}
use Rattle.floats.specs.Binary32.{zero, one}
use Rattle.numbers.specs.Fixed.{s15_fixed16, whole, fixed_number}
use Rattle.numbers.specs.Rounded.{rounded_in}
use Rattle.profile.specs.TagTypes.{parameters}
use Rattle.profile.specs.Layout.{D50}
use Rattle.profile.specs.declared.CurveName.{CurveName}
use Rattle.profile.specs.declared.CurveName.TheVariants as Name

abbrev b32 : ℕ → Float
b32 n = of_bits binary32 n

-- `D50` of `maybe_create_profile`: 0.964203, 1, 0.824905
abbrev pub d50_floats : List Float
d50_floats = b32 0x3f76_d602 ∷ one ∷ b32 0x3f53_2cf9 ∷ []

pub d50_rounded : map fixed_number d50_floats ≡ D50
unfolding s15_fixed16 of_bits
d50_rounded = refl

pub d50_count : rounded_in d50_floats ≡ 2
unfolding rounded_in whole of_bits
d50_count = refl

-- the `PARAMS` of each named curve, each quotient rounded to f32
abbrev pub parameter_floats : CurveName → List Float
-- 1 / 0.45, 1 / 1.099, 0.099 / 1.099, 1 / 4.5, 0.081
parameter_floats Name.BT709 = b32 0x400e_38e4 ∷ b32 0x3f68_f065 ∷ b32 0x3db8_7cdb ∷ b32 0x3e63_8e39 ∷ b32 0x3da5_e354 ∷ []
-- 1, 1, 0, 1, 0
parameter_floats Name.Linear = one ∷ one ∷ zero ∷ one ∷ zero ∷ []
-- 2.4, 1 / 1.055, 0.055 / 1.055, 1 / 12.92, 0.04045
parameter_floats Name.SRGB = b32 0x4019_999a ∷ b32 0x3f72_a76f ∷ b32 0x3d55_891a ∷ b32 0x3d9e_8391 ∷ b32 0x3d25_aee6 ∷ []
-- 2.6, 1, 0, 1, 0
parameter_floats Name.DCI = b32 0x4026_6666 ∷ one ∷ zero ∷ one ∷ zero ∷ []

pub parameters_rounded_lem : (n : CurveName) → map fixed_number (parameter_floats n) ≡ parameters n
unfolding s15_fixed16 of_bits
parameters_rounded_lem Name.BT709 = refl
parameters_rounded_lem Name.Linear = refl
parameters_rounded_lem Name.SRGB = refl
parameters_rounded_lem Name.DCI = refl

abbrev pub parameters_rounded : CurveName → ℕ
parameters_rounded Name.BT709 = 5
parameters_rounded Name.Linear = 0
parameters_rounded Name.SRGB = 5
parameters_rounded Name.DCI = 1

pub parameters_count : (n : CurveName) → parameters_rounded n ≡ rounded_in (parameter_floats n)
unfolding rounded_in whole of_bits
parameters_count Name.BT709 = refl
parameters_count Name.Linear = refl
parameters_count Name.SRGB = refl
parameters_count Name.DCI = refl

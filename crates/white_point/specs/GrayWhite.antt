-- The white point of gray by its CIE xy coordinates: `cie_xyz_from_white_cie_xy` of api/color.rs, wholly in f32: each operation is rounded to
-- binary32. Assumes nothing.
use Rattle.std.specs.Prelude.{cond, List, [], ◌∷◌, from_bits, Float}
use Rattle.std.specs.Float.{binary32}
use Rattle.std.specs.Float.Ieee.{lt}
use Rattle.floats.specs.Abs.{abs}
use Rattle.floats.specs.Binary32.{◌⊖◌, ◌⊗◌, ◌⊘◌, one}
use Rattle.buffer.specs.Checked.{Checked, is, refused}
use Rattle.color_encoding.specs.declared.WhiteXy.{WhiteXy}

-- 1e-12
abbrev pub epsilon : Float
epsilon = from_bits binary32 0x2b8c_bccc

-- 3 of the refusal list of 01
abbrev pub invalid_white_point_y : {A : Type 0} → Checked A
invalid_white_point_y = refused 3

-- z = 1 - x - y
abbrev pub gray_z : WhiteXy → Float
gray_z w = one ⊖ w.wx ⊖ w.wy

-- X, Y and Z with Y = 1: x * (1 / y), 1, z * (1 / y); refused where the magnitude of y is below epsilon
unfoldable pub cie_xyz_from_white_cie_xy : WhiteXy → Checked (List Float)
cie_xyz_from_white_cie_xy w =
    let factor = one ⊘ w.wy in
    cond (lt (abs w.wy) epsilon) invalid_white_point_y (is (w.wx ⊗ factor ∷ one ∷ gray_z w ⊗ factor ∷ []))

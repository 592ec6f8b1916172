-- The fixed numbers of an encoding's white and primaries, or the refusal (01, the refusal list), and the floats that they are made from.
-- Assumes nothing.
use Rattle.std.specs.Prelude.{List, [], ℤ, Float}
use Rattle.numbers.specs.Fixed.{fixed_or}
use Rattle.linalg.specs.Linalg.{component, rows, columns}
use Rattle.color_encoding.specs.declared.WhiteXy.{WhiteXy}
use Rattle.color_encoding.specs.declared.PrimariesXy.{PrimariesXy}
use Rattle.white_point.specs.GrayWhite.{cie_xyz_from_white_cie_xy}
use Rattle.adaptation.specs.Adapt.{chad_matrix}
use Rattle.colorimetry.specs.Primaries.{create_icc_rgb_matrix}
use Rattle.buffer.specs.Checked.{Checked, is, value_or, then, each}

-- ---- white and primaries

-- X and Z of a white that is not refused. 7: one of them does not fit
abbrev pub gray_numbers : WhiteXy → Checked (ℤ × ℤ)
gray_numbers w =
    then (cie_xyz_from_white_cie_xy w) (λ xyz.
    then (fixed_or 7 (component xyz 0)) (λ x.
    then (fixed_or 7 (component xyz 2)) (λ z.
    is (x, z))))

-- those of `chad`, by rows. 5: one does not fit
abbrev pub chad_numbers : WhiteXy → Checked (List ℤ)
chad_numbers w = then (chad_matrix w) (λ m. each (fixed_or 5) (rows m))

-- those of `rXYZ`, `gXYZ` and `bXYZ`. 7: one does not fit
abbrev pub column_numbers : PrimariesXy → WhiteXy → Checked (List ℤ)
column_numbers p w = then (create_icc_rgb_matrix p w) (λ m. each (fixed_or 7) (columns m))

-- ---- the floats, in the order of the file; none where they are refused

-- those of a gray `wtpt`: X, Y, which is 1, and Z
abbrev pub gray_floats : WhiteXy → List Float
gray_floats w = value_or [] (cie_xyz_from_white_cie_xy w)

abbrev pub chad_floats : WhiteXy → List Float
chad_floats w = value_or [] (then (chad_matrix w) (λ m. is (rows m)))

abbrev pub column_floats : PrimariesXy → WhiteXy → List Float
column_floats p w = value_or [] (then (create_icc_rgb_matrix p w) (λ m. is (columns m)))

-- From the xy coordinates of three primaries and a white point to the matrix from RGB to XYZ: `primaries_to_xyz`, `primaries_to_xyz_d50`
-- and `create_icc_rgb_matrix` of api/color.rs. Assumes nothing.
use Rattle.std.specs.Prelude.{cond, List, [], ◌∷◌, Float}
use Rattle.buffer.specs.Checked.{Checked, is, refused, then}
use Rattle.floats.specs.Binary64.{◌⊖◌, one}
use Rattle.linalg.specs.Linalg.{applied, product}
use Rattle.matrix_inverse.specs.Inverse.{singular, inverse}
use Rattle.color_encoding.specs.declared.WhiteXy.{WhiteXy}
use Rattle.color_encoding.specs.declared.PrimariesXy.{PrimariesXy}
use Rattle.color_encoding.specs.Range.{in_range}
use Rattle.white_point.specs.White.{white_xyz, finite_xyz}
use Rattle.icc_matrix.specs.Narrowed.{narrowed}
use Rattle.adaptation.specs.Adapt.{diagonal, invalid_white_point, adapt_to_xyz_d50}

-- the columns are x, y and z = 1 - x - y of red, green and blue
unfoldable pub primaries_matrix : PrimariesXy → List (List Float)
primaries_matrix p =
    (p.rx ∷ p.gx ∷ p.bx ∷ [])
    ∷ (p.ry ∷ p.gy ∷ p.by ∷ [])
    ∷ ((one ⊖ p.rx ⊖ p.ry) ∷ (one ⊖ p.gx ⊖ p.gy) ∷ (one ⊖ p.bx ⊖ p.by) ∷ [])
    ∷ []

-- the primaries, each scaled so that they add up to the white
unfoldable pub scaled_primaries : List (List Float) → List Float → List (List Float)
scaled_primaries p white = product p (diagonal (applied (inverse p) white))

-- 6 of the refusal list of 01
abbrev pub matrix_inversion_failed : {A : Type 0} → Checked A
matrix_inversion_failed = refused 6

-- the tests, in their order: the coordinates of the white are in range, the inverse exists, X and Z of the white are finite
unfoldable pub primaries_to_xyz : PrimariesXy → WhiteXy → Checked (List (List Float))
primaries_to_xyz p w =
    cond (in_range w)
    (cond (singular (primaries_matrix p)) matrix_inversion_failed
    (cond (finite_xyz (white_xyz w)) (is (scaled_primaries (primaries_matrix p) (white_xyz w))) invalid_white_point))
    invalid_white_point

unfoldable pub primaries_to_xyz_d50 : PrimariesXy → WhiteXy → Checked (List (List Float))
primaries_to_xyz_d50 p w = then (primaries_to_xyz p w) (λ m. then (adapt_to_xyz_d50 w) (λ a. is (product a m)))

-- each entry rounded once to f32
unfoldable pub create_icc_rgb_matrix : PrimariesXy → WhiteXy → Checked (List (List Float))
create_icc_rgb_matrix p w = then (primaries_to_xyz_d50 p w) (λ m. is (narrowed m))

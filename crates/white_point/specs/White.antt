-- The XYZ of an RGB white point with Y = 1, in f64, as `adapt_to_xyz_d50` and `primaries_to_xyz` of api/color.rs begin. (The range of its
-- coordinates is in color_encoding, Range.) Assumes nothing.
use Rattle.std.specs.Prelude.{Bool, ◌&&◌, List, [], ◌∷◌, Float}
use Rattle.floats.specs.Binary64.{◌⊖◌, ◌⊘◌, one}
use Rattle.linalg.specs.Linalg.{component}
use Rattle.color_encoding.specs.declared.WhiteXy.{WhiteXy}
-- Rust's `is_finite`
unfoldable pub use Rattle.std.specs.Float.{float_is_finite as finite}

-- z = 1 - x - y. A coordinate is an f32, whose value is that of the f64 that it is widened to
abbrev pub white_z_of : WhiteXy → Float
white_z_of w = one ⊖ w.wx ⊖ w.wy

-- X, Y and Z with Y = 1: x / y, 1, z / y
unfoldable pub white_xyz : WhiteXy → List Float
white_xyz w = w.wx ⊘ w.wy ∷ one ∷ white_z_of w ⊘ w.wy ∷ []

-- X and Z are finite
unfoldable pub finite_xyz : List Float → Bool
finite_xyz v = finite (component v 0) && finite (component v 2)

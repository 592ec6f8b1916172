-- An f64 matrix as the f32 matrix of a profile: `chad_matrix` of `maybe_create_profile` and `create_icc_rgb_matrix` of api/color.rs end so.
-- Assumes nothing.
use Rattle.std.specs.Prelude.{List, Float}
use Rattle.floats.specs.Narrow.{narrow}
use Rattle.linalg.specs.Linalg.{matrix, entry}

-- each entry rounded once to f32
unfoldable pub narrowed : List (List Float) → List (List Float)
narrowed m = matrix (λ i j. narrow (entry m i j))

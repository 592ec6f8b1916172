-- The range of a white point's coordinates in `adapt_to_xyz_d50` of api/color.rs (01, refusal 4): wx in [0, 1], wy in (0, 1]. A wx of -0 is in it.
-- Assumes nothing.
use Rattle.std.specs.Prelude.{Bool, ◌&&◌}
use Rattle.std.specs.Float.Ieee.{lt, le}
use Rattle.floats.specs.Binary32.{zero, one}
use Rattle.color_encoding.specs.declared.WhiteXy.{WhiteXy}

unfoldable pub in_range : WhiteXy → Bool
in_range w = le zero w.wx && le w.wx one && (lt zero w.wy && le w.wy one)

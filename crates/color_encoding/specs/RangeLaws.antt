-- What a white point in range tells of each coordinate. Assumes nothing.
use Rattle.std.specs.Prelude.{◌≡◌, true, ◌&&◌}
use Rattle.std.specs.Float.Ieee.{lt, le}
use Rattle.buffer.specs.BoolLaws.{both_left, both_right}
use Rattle.floats.specs.Binary32.{zero, one}
use Rattle.color_encoding.specs.declared.WhiteXy.{WhiteXy}
use Rattle.color_encoding.specs.Range.{in_range}

pub record Within (w : WhiteXy) : Type 0 where
  pub x_from : le zero w.wx ≡ true
  pub x_to : le w.wx one ≡ true
  pub y_above : lt zero w.wy ≡ true
  pub y_to : le w.wy one ≡ true

pub within : (w : WhiteXy) → in_range w ≡ true → Within w
unfolding in_range
within w h =
    let x = both_left (le zero w.wx && le w.wx one) (lt zero w.wy && le w.wy one) h in
    let y = both_right (le zero w.wx && le w.wx one) (lt zero w.wy && le w.wy one) h in
    record {
      x_from = both_left (le zero w.wx) (le w.wx one) x;
      x_to = both_right (le zero w.wx) (le w.wx one) x;
      y_above = both_left (lt zero w.wy) (le w.wy one) y;
      y_to = both_right (lt zero w.wy) (le w.wy one) y;
    }

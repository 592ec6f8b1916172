-- A float as an operator types it (02, order 2): an optional minus, one or two whole digits without a needless leading zero, a point and seven
-- digits. Assumes nothing.
use Rattle.std.specs.Prelude.{ℕ, ◌^◌, ◌<◌, ◌≡◌, Bool, List, ◌++◌, Float}
use Rattle.std.specs.Float.{binary32}
use Rattle.std.specs.Float.Ieee.{round}
use Rattle.decimal.specs.Seven.{minus, with_point}

-- The text is q / 10 ^ 7 with seven decimals, q below 10 ^ 9, and a minus before it where it is negative. The float is the binary32 value nearest to
-- that fraction, a tie to the even one; a minus before zero makes a negative zero.
pub record FloatText (x : Float) (text : List ℕ) : Type 0 where
  pub negative : Bool
  pub q : ℕ
  pub below : q < 10 ^ 9
  pub value : x ≡ round binary32 negative q (10 ^ 7)
  pub letters : text ≡ minus negative ++ with_point q

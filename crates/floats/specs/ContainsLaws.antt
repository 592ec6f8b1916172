-- Rust's `x <= y` of floats, as the library's `contains` of a range says it. Assumes nothing.
use Rattle.std.specs.Prelude.{◌≡◌, refl, Bool, true, false, ◌||◌, cond, Some, None, Float}
use Rattle.std.specs.Float.Ieee.{lt, eq, le}
use Rattle.std.proofs.Common.{Less, Equal, Greater}
use Rattle.std.specs.Ordering.{is_le, is_some_and, partial_le, float_partial_cmp}

pub partial_le_is : (x y : Float) → partial_le float_partial_cmp x y ≡ le x y
unfolding le
partial_le_is x y = go (lt x y) (eq x y) (lt y x)
  where
    go : (l e g : Bool) → is_some_and is_le (cond l (Some Less) (cond e (Some Equal) (cond g (Some Greater) None))) ≡ l || e
    go true e g = refl
    go false true g = refl
    go false false true = refl
    go false false false = refl

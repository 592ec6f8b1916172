-- The whole part, then the point and the decimals: the law `with_point_is`.
-- Assumes nothing.
use native.Mathlib.Omega.{arith}
use Rattle.digits.specs.DigitsLaws.{length_digits}
use Rattle.decimal.specs.Seven.{with_point}
use Rattle.buffer.specs.PutsLaws.{then}
use Rattle.decimal.proofs.Point.{with_point_is}
use Rattle.decimal.proofs.put_with_point.Goals as goal

pub put_decimals-requires : goal.put_decimals-requires
put_decimals-requires c =
    (c.requires.0.1, omega (arith, length_digits 7 c.args.whole c.requires.0.0))

pub returns : goal.returns
returns c =
    then (with_point _) (omega arith) c.put_up_to_eight-i.ensures c.put_decimals.ensures (with_point_is c.args.whole c.args.rest c.requires.0.1)

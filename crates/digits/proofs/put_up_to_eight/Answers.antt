-- The digits above 10000 without leading zeros, then the four below: the law `split_digits`.
-- Assumes nothing.
use native.Mathlib.Omega.{arith}
use Rattle.digits.specs.Digits.{digits}
use Rattle.digits.specs.DigitsLaws.{length_digits}
use Rattle.buffer.specs.PutsLaws.{then}
use Rattle.digits.proofs.Split.{split_digits}
use Rattle.digits.proofs.put_up_to_eight.Goals as goal

pub put_four-requires : goal.put_four-requires
put_four-requires c = omega (arith, length_digits 3 c.ten_thousands-high.result (omega arith))

pub returns : goal.returns
returns c =
    then (digits c.args.n) (omega arith) c.put_up_to_four-i.ensures c.put_four.ensures
    (split_digits 4 c.args.n c.ten_thousands-high.result c.ten_thousands-high.ensures c.if-n-lt10000.false)

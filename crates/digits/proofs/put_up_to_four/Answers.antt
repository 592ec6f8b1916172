-- The digits above 100 without leading zeros, then the two below: the law `split_digits`.
-- Assumes nothing.
use native.Mathlib.Omega.{arith}
use Rattle.digits.specs.Digits.{digits}
use Rattle.digits.specs.DigitsLaws.{length_digits}
use Rattle.buffer.specs.PutsLaws.{then}
use Rattle.digits.proofs.Split.{split_digits}
use Rattle.digits.proofs.put_up_to_four.Goals as goal

pub put_two-requires : goal.put_two-requires
put_two-requires c = omega (arith, length_digits 1 c.hundreds-high.result (omega arith))

pub returns : goal.returns
returns c =
    then (digits c.args.n) (omega arith) c.put_up_to_two-i.ensures c.put_two.ensures
    (split_digits 2 c.args.n c.hundreds-high.result c.hundreds-high.ensures c.if-n-lt100.false)

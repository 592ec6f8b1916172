-- Two pairs of digits, one after the other: the law `split_last` at 100.
-- Assumes nothing.
use native.Mathlib.Omega.{arith}
use Rattle.digits.specs.Digits.{last_digits}
use Rattle.digits.specs.DigitsLaws.{length_last}
use Rattle.buffer.specs.PutsLaws.{then}
use Rattle.digits.proofs.Split.{split_last}
use Rattle.digits.proofs.put_four.Goals as goal

pub put_two-requires : goal.put_two-requires
put_two-requires c = omega (arith, length_last 2 c.hundreds-high.result)

pub returns : goal.returns
returns c =
    then (last_digits 4 c.args.n) (omega arith) c.put_two-i.ensures c.put_two.ensures
    (split_last 2 c.args.n c.hundreds-high.result c.hundreds-high.ensures 2)

-- Two runs of four digits, one after the other: the law `split_last` at 10000.
-- Assumes nothing.
use native.Mathlib.Omega.{arith}
use Rattle.digits.specs.Digits.{last_digits}
use Rattle.digits.specs.DigitsLaws.{length_last}
use Rattle.buffer.specs.PutsLaws.{then}
use Rattle.digits.proofs.Split.{split_last}
use Rattle.digits.proofs.put_eight.Goals as goal

pub put_four-requires : goal.put_four-requires
put_four-requires c = omega (arith, length_last 4 c.ten_thousands-high.result)

pub returns : goal.returns
returns c =
    then (last_digits 8 c.args.n) (omega arith) c.put_four-i.ensures c.put_four.ensures
    (split_last 4 c.args.n c.ten_thousands-high.result c.ten_thousands-high.ensures 4)

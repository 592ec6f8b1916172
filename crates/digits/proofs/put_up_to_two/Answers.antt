-- One digit is `digits_small`; two are `two_digits`.
-- Assumes nothing.
use native.Mathlib.Omega.{arith}
use Rattle.digits.specs.Digits.{digits}
use Rattle.digits.specs.DigitsLaws.{digits_small}
use Rattle.buffer.specs.PutsLaws.{same, store}
use Rattle.digits.proofs.Split.{two_digits}
use Rattle.digits.proofs.put_up_to_two.Goals as goal

pub returns-then-n-lt10 : goal.returns-then-n-lt10
returns-then-n-lt10 c = same (digits c.args.n) (store _ c.args.at _ (omega arith)) (digits_small c.args.n c.if-n-lt10.true)

pub returns : goal.returns
returns c =
    same (digits c.args.n) c.put_two.ensures (two_digits c.args.n c.if-n-lt10.false c.requires.0)

-- Of eight digits of a number below 10 ^ 7 the first is 0, and the point is written over it.
-- Assumes nothing.
use mathlib.Core.Path.{refl, ap, ◌∙◌}
use mathlib.Core.List.{List}
use native.Mathlib.Omega.{arith}
use lib.ListN.{set}
use Rattle.buffer.specs.Buffer.{put}
use Rattle.digits.specs.Digits.{last_digits}
use Rattle.digits.specs.DigitsLaws.{length_last, last_cons}
use Rattle.buffer.specs.BufferLaws.{set-put}
use Rattle.decimal.proofs.put_decimals.Goals as goal

pub returns : goal.returns
returns c =
    let l = c.args.out.now in
    let at = c.args.at in
    let n = c.args.n in
    record {
      size = refl;
      place = omega (arith, c.put_eight-end.ensures.place, length_last 8 n, length_last 7 n);
      bytes =
          ap (λ (x : List _). set x at 46) (c.put_eight-end.ensures.bytes ∙ ap (put l at) (last_cons 7 n c.requires.0))
          ∙ set-put l (last_digits 7 n) at 48 46 (omega arith);
    }

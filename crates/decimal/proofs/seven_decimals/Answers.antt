-- What is put in front of 48 zeros: the law `in_front`; that the float is a binary32 value is what owning it tells.
-- Assumes nothing.
use Rattle.std.proofs.Common.{arith, sym, subst}
use lib.Dec.{T}
use Rattle.buffer.specs.PutsLaws.{in_front}
use Rattle.decimal.specs.Seven.{seven_decimals}
use Rattle.decimal.specs.SevenLaws.{length-seven}
use Rattle.decimal.proofs.seven_decimals.Goals as goal

pub returns : goal.returns
returns c =
    let front = in_front 48 {q = seven_decimals c.args.x} c.put_seven_decimals-len.ensures in
    let short = length-seven c.args.x (subst T (sym c.well_formed.0.1) tt) in
    record { len = front.0; short = omega arith; bytes = front.1 }

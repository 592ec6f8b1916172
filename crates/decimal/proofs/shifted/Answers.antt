-- The number stays below 2 ^ 128. Assumes nothing.
use Rattle.std.proofs.Common.{◌<◌, ◌*◌, ◌+◌, ◌^◌, ◌∙◌, arith}
use lib.Pow.{shl_lt, pow_mono}
use native.Mathlib.Nat.{lt_of_lt_of_le}
use Rattle.decimal.specs.Parts.{value_of}
use Rattle.decimal.proofs.Doubling.{next}
use Rattle.decimal.proofs.shifted.Goals as goal

pub double-requires : goal.double-requires
double-requires c =
    let l = c.loop-turn in
    let below : c.args.m * 2 ^ l._turn < 2 ^ 128 = lt_of_lt_of_le (shl_lt 24 l._turn c.requires.0) (pow_mono {i = 24 + l._turn} {j = 128} (omega arith)) in
    (l.invariant.1, omega (arith, below, l.invariant.0))

pub loop-turn-preserved : goal.loop-turn-preserved
loop-turn-preserved c =
    let l = c.loop-turn in
    (c.double.ensures.0 ∙ next (value_of l.parts) c.args.m l._turn l.invariant.0, c.double.ensures.1)

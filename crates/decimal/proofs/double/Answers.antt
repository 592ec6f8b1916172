-- One more part doubled. Assumes nothing.
use Rattle.std.proofs.Common.{arith}
use Rattle.decimal.proofs.Doubling.{one_more}
use Rattle.decimal.proofs.double.Goals as goal

pub loop-i-preserved : goal.loop-i-preserved
loop-i-preserved c =
    let t = c.twice-next.ensures in
    one_more (omega arith) (omega arith) c.loop-i.invariant t.1 t.0.0 t.0.1

-- With i values behind it, the loop has put the first i: the laws `begun`, `one_more`, `ended`.
-- Assumes nothing.
use Rattle.std.proofs.Common.{arith}
use Rattle.elements.specs.EncodingLaws.{begun, one_more, ended, room}
use Rattle.elements.proofs.put_each.Goals as goal

pub loop-value-init : goal.loop-value-init
loop-value-init g c = begun g.met.T.Put.one_by_one _ _ c.args.values.now

pub put-next-requires : goal.put-next-requires
put-next-requires g c = omega (arith, room g.T.Put.width c.loop-value-test.true, c.loop-value.invariant.place, c.requires)

pub loop-value-preserved : goal.loop-value-preserved
loop-value-preserved g c =
    one_more g.met.T.Put.one_by_one c.value-item.result c.args.values.now (omega arith) c.loop-value-test.true c.loop-value.invariant
    (rw (← c.value-item.is) c.put-next.ensures)

pub returns : goal.returns
returns g c = ended g.met.T.Put.one_by_one c.args.values.now (omega arith) c.loop-value.invariant

-- With i numbers behind it, the loop has put the first i: the laws `begun`, `one_more`, `ended`. Assumes nothing.
use native.Mathlib.Omega.{arith}
use Rattle.elements.specs.EncodingLaws.{begun, one_more}
use Rattle.plan_record.specs.PlanRecordLaws.{unsigned}
use Rattle.plan_record.proofs.put_u32s_le.Goals as goal

pub loop-value-init : goal.loop-value-init
loop-value-init c = begun unsigned _ _ c.args.values.now

pub loop-value-preserved : goal.loop-value-preserved
loop-value-preserved c =
    one_more unsigned 0 c.args.values.now (omega arith) c.loop-value-test.true c.loop-value.invariant c.put_u32_le-next.ensures

use Prim.Native.Nat.{◌*◌}
use lib.ListN.{take}
use Rattle.buffer.specs.Puts.{Puts}
use Rattle.plan_record.specs.PlanRecord.{le32s}
use Rattle.plan_record.proofs.put_u32s_le.Given as goal

abbrev pub invariant-loop-value : goal.invariant-loop-value
invariant-loop-value l = Puts l.initial.out l.at (4 * l.value-index) (le32s (take l.value-index l.values)) l.next l.out

use mathlib.Core.Path.{◌≡◌}
use lib.ListN.{length, take, drop}
use Rattle.reader_spec.specs.PlanIn.{numbers_from}
use Rattle.plan_in.proofs.numbers_at.Given as goal

abbrev pub invariant-loop-i : goal.invariant-loop-i
invariant-loop-i g l = (length l.numbers ≡ g.row.N) × (take l.i l.numbers ≡ numbers_from l.i (drop l.at l.file))

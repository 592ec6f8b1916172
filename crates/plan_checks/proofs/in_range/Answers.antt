-- The magnitude is compared, as in `in_range_leb`.
use mir.Syntax.{w32}
use mir.ValLaws.{to_z-of_z}
use Rattle.reader_spec.specs.TestsLaws.{in_range_leb}
use Rattle.plan_checks.proofs.in_range.Goals as goal

pub returns : goal.returns
returns c = rw (c.unsigned_abs.ensures.value, c.unsigned_abs-2.ensures.value, to_z-of_z w32 c.args.z c.ranges.z) (in_range_leb c.args.z)

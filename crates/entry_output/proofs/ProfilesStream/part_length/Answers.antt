-- The length of a profile. Assumes nothing.
use Rattle.std.proofs.Common.{arith}
use Rattle.encoding_plan.specs.PlanOf.{plan_of}
use Rattle.encoding_plan.specs.FixedFloats.{fixed_floats}
use Rattle.entry_output.specs.EntryOutputLaws.{written_is, profile_most}
use Rattle.entry_output.proofs.ProfilesStream.part_length.Goals as goal

pub returns-in-Ok : goal.returns-in-Ok
returns-in-Ok c =
    let e = c.args.entry.encoding in
    let size = written_is (fixed_floats e) (plan_of e) c.in-Ok.ensures in
    record { count = size; most = omega (arith, size, profile_most e c.requires.floats) }

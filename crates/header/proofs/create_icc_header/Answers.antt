-- The size and four runs of fields, one after another, are the header of the kind: the laws `runs` and `header_parts`.
-- Assumes nothing.
use native.Mathlib.Omega.{arith}
use Rattle.profile.specs.RunsLaws.{next, done, runs}
use Rattle.header.proofs.HeaderParts.{header_parts}
use Rattle.header.proofs.create_icc_header.Goals as goal

pub returns : goal.returns
returns c =
    rw (header_parts c.args.kind c.args.size c.args.maker c.args.model)
    (runs
    (next c.put_u32_be-at.ensures
    (next c.put_class_and_space-at.ensures
    (next c.put_date_and_platform-at.ensures
    (next c.put_device-at.ensures
    (next c.put_last_fields.ensures
    done))))) (omega arith)).bytes

-- The fields, one after another: the law `run`.
-- Assumes nothing.
use native.Mathlib.Omega.{arith}
use Rattle.profile.specs.TagTypes.{join}
use Rattle.profile.specs.RunsLaws.{next, done, run}
use Rattle.header.proofs.HeaderParts.{length-class_and_space}
use Rattle.header.proofs.put_class_and_space.Goals as goal

pub returns : goal.returns
unfolding join
returns c =
    run _ _
    (next c.put_bytes-at.ensures
    (next c.write_icc_tag-at.ensures
    (next c.write_icc_tag-at-2.ensures
    (next c.write_icc_tag.ensures
    done)))) (omega (arith, c.requires)) (rw c.signatures_of.ensures) (length-class_and_space c.args.kind)

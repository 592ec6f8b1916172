-- The fields, one after another: the law `run`. Zeros that follow one another are put at once.
-- Assumes nothing.
use mathlib.Core.Path.{refl}
use native.Mathlib.Omega.{arith}
use Rattle.profile.specs.RunsLaws.{next, done, run}
use Rattle.profile.specs.TagTypes.{join}
use Rattle.header.proofs.HeaderParts.{length-last_fields}
use Rattle.header.proofs.put_last_fields.Goals as goal

pub returns : goal.returns
unfolding join
returns c =
    run _ _
    (next c.put_u32_be-at.ensures
    (next c.put_each-at.ensures
    (next c.write_icc_tag-at.ensures
    (next c.put_zeros.ensures
    done)))) (omega (arith, c.requires)) refl length-last_fields

-- The parts of `para`, one after another: the law `run`.
-- Assumes nothing.
use mathlib.Core.Path.{refl}
use native.Mathlib.Omega.{arith}
use Rattle.profile.specs.RunsLaws.{next, done, run}
use Rattle.profile.specs.TagTypes.{join, para}
use Rattle.profile.specs.TagTypesLaws.{length-para}
use Rattle.elements.proofs.create_icc_curv_para_tag.Goals as goal

pub returns : goal.returns
unfolding para join
returns c =
    run _ _
    (next c.put_bytes-at.ensures
    (next c.put_u16_be-at.ensures
    (next c.put_zeros-at.ensures
    (next c.put_each.ensures
    done)))) (omega arith) refl (length-para c.args.curve_type c.args.params.now)

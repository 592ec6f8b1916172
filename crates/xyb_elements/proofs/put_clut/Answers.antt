-- The parts of the CLUT, one after another: the law `run`.
-- Assumes nothing.
use native.Mathlib.Omega.{arith}
use Rattle.profile.specs.RunsLaws.{next, done, run}
use Rattle.profile.specs.TagTypes.{join}
use Rattle.profile.specs.Xyb as Xyb
use Rattle.profile.specs.TagTypesLaws.{length-clut}
use Rattle.xyb_elements.proofs.put_clut.Goals as goal

pub returns : goal.returns
unfolding Xyb.clut join
returns c =
    run _ _
    (next c.put_bytes-at.ensures
    (next c.put_each.ensures
    done)) (omega (arith, c.requires)) (rw c.clut.ensures) length-clut

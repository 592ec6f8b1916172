-- Three curves, one after another: the law `run`.
-- Assumes nothing.
use native.Mathlib.Omega.{arith}
use Rattle.profile.specs.RunsLaws.{next, done, run}
use Rattle.profile.specs.TagTypesLaws.{identity_curves_lem, length-identity_curves}
use Rattle.xyb_elements.proofs.put_identity_curves.Goals as goal

pub returns : goal.returns
returns c =
    run _ _
    (next c.create_icc_curv_para_tag-at.ensures
    (next c.create_icc_curv_para_tag-at-2.ensures
    (next c.create_icc_curv_para_tag.ensures
    done))) (omega arith) identity_curves_lem length-identity_curves

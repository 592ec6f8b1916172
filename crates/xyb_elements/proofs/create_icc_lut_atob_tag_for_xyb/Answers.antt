-- The parts of `a2b0`, one after another: the laws `run` and `whole`.
-- Assumes nothing.
use mathlib.Core.Path.{refl}
use native.Mathlib.Omega.{arith}
use Rattle.words.specs.Words.{be32}
use Rattle.profile.specs.RunsLaws.{next, done, run}
use Rattle.profile.specs.TagTypes.{join}
use Rattle.profile.specs.Xyb.{a2b0}
use Rattle.profile.specs.TagTypesLaws.{length-a2b0}
use Rattle.elements.specs.PartsLaws.{whole}
use Rattle.xyb_elements.proofs.create_icc_lut_atob_tag_for_xyb.Goals as goal

pub returns : goal.returns
unfolding a2b0 join be32
returns c =
    whole
    (run 292 a2b0
    (next c.put_bytes-at.ensures
    (next c.put_identity_curves-at.ensures
    (next c.put_clut-at.ensures
    (next c.put_m_curves-at.ensures
    (next c.put_each.ensures
    done))))) (omega (arith, c.requires)) (rw c.matrix.ensures) length-a2b0) refl

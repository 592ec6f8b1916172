-- The parts of `b2a0`, one after another: the laws `run` and `whole`.
-- Assumes nothing.
use mathlib.Core.Path.{refl}
use native.Mathlib.Omega.{arith}
use Rattle.words.specs.Words.{be32}
use Rattle.profile.specs.RunsLaws.{next, done, run}
use Rattle.profile.specs.TagTypes.{join}
use Rattle.profile.specs.Xyb.{b2a0}
use Rattle.profile.specs.TagTypesLaws.{length-b2a0}
use Rattle.elements.specs.PartsLaws.{whole}
use Rattle.xyb_elements.proofs.create_icc_noop_btoa_tag.Goals as goal

pub returns : goal.returns
unfolding b2a0 join be32
returns c =
    whole
    (run 80 b2a0
    (next c.put_bytes-at.ensures
    (next c.put_identity_curves.ensures
    done)) (omega (arith, c.requires)) refl length-b2a0) refl

-- The three elements, one after another: the laws `run` and `first_parts`.
-- Assumes nothing.
use native.Mathlib.Omega.{arith}
use Rattle.profile.specs.RunsLaws.{next, done, run}
use Rattle.layout.proofs.KindParts.{first_parts, length-first}
use Rattle.layout.proofs.kinds.put_first_elements.Goals as goal

pub returns : goal.returns
returns c =
    run _ _
    (next c.create_icc_mluc_tag-at.ensures
    (next c.create_icc_mluc_tag-at-2.ensures
    (next c.create_icc_xyz_tag.ensures
    done))) (omega (arith, c.requires)) (first_parts _ _) (length-first c.args.text.now c.args.white (omega (arith, c.well_formed)))

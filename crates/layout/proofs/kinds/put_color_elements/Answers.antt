-- The four elements, one after another: the laws `run` and `color_parts`.
-- Assumes nothing.
use mathlib.Core.Path.{◌≡◌}
use native.Mathlib.Omega.{arith}
use lib.ListN.{length}
use Rattle.profile.specs.RunsLaws.{next, done, run}
use Rattle.layout.proofs.KindParts.{color_parts, length-colors}
use Rattle.layout.proofs.kinds.put_color_elements.Goals as goal

pub returns : goal.returns
returns c =
    let nine : length c.args.columns ≡ 9 = omega (arith, c.well_formed) in
    run _ _
    (next c.create_icc_xyz_tag-at.ensures
    (next c.create_icc_xyz_tag-at-2.ensures
    (next c.create_icc_xyz_tag-at-3.ensures
    (next c.put_curve.ensures
    done)))) (omega (arith, c.requires)) (color_parts c.args.columns c.args.curve nine) (length-colors c.args.columns c.args.curve nine)

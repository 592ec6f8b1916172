-- By the case of the curve: its numbers, and `para` of them, which has no padding.
-- Assumes nothing.
use Rattle.std.proofs.Common.{rules, refl}
use mir.Syntax.{w32}
use mir.ValLaws.{to_z-of_z}
use Rattle.profile.specs.TagTypesLaws.{length-parameters}
use Rattle.elements.specs.PartsLaws.{whole}
use Rattle.elements.proofs.put_curve.Goals as goal

pub returns-in-Named : goal.returns-in-Named
returns-in-Named c =
    rw c.in-Named.is
    (whole (rw (c.curve_parameters.ensures, length-parameters c.in-Named.name) at c.create_icc_curv_para_tag.ensures) refl)

pub returns-in-Gamma : goal.returns-in-Gamma
returns-in-Gamma c =
    rw c.in-Gamma.is (whole (rw (to_z-of_z w32 c.in-Gamma.g (search rules)) at c.create_icc_curv_para_tag-in-Gamma.ensures) refl)

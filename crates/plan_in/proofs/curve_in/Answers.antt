-- The branch taken tells which curve, and the call gives its number, which stands 12 bytes on.
use mathlib.Core.Path.{ap, ◌∙◌}
use lib.Seq.{drop-drop}
use Rattle.profile.specs.declared.Curve.TheVariants.{Named, Gamma}
use Rattle.reader_spec.specs.PlanIn.{name_by}
use Rattle.plan_in.proofs.Numbers.{held}
use Rattle.plan_in.proofs.curve_in.Goals as goal

pub returns-then-gamma : goal.returns-then-gamma
returns-then-gamma c =
    ap Gamma (held c.number_at.type_inv c.number_at.ensures) ∙ simp (c.if-gamma.true, drop-drop, c.offset_at.ensures)

pub returns : goal.returns
returns c =
    ap Named (c.name_by.ensures ∙ ap name_by c.read_u32_be.ensures)
    ∙ simp (c.if-gamma.false, drop-drop, c.offset_at.ensures)

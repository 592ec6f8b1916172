-- A written file has 284 to 1,200 bytes. The longest has no `cicp`, a gamma curve and 372 letters: beside a named curve a text has at most 326.
-- The floats of the encoding are binary32 values, as those of the code are. Assumes nothing.
use Rattle.std.specs.Prelude.{◌≤◌, ◌≡◌, Bool, length}
use Rattle.buffer.specs.Checked.{is}
use Rattle.color_encoding.specs.declared.JxlColorEncoding.{JxlColorEncoding}
use Rattle.text.specs.Held.{HeldEncoding}
use Rattle.profile.specs.Plan.{Plan, InRange}
use Rattle.profile.specs.Shape.{min_length}
use Rattle.profile.specs.Layout.{layout}
use Rattle.profile.specs.LayoutLaws.{layout_bounds, length-device}
use Rattle.encoding_plan.specs.PlanOf.{color_plan}
use Rattle.encoding_plan.specs.EncodingPlan.{encoding_plan}
use Rattle.encoding_plan.specs.EncodingPlanLaws.{from_color}
use Rattle.encoding_plan.specs.declared.Encoding.{Encoding}
use Rattle.writer.specs.Writer.{max_written}
use Rattle.writer_laws.specs.PlanValid.{plan_valid}
use Rattle.writer_laws.proofs.AtMostLaws.{at_most}

pub written_length : (a : Bool) (e : JxlColorEncoding) → HeldEncoding e → {p : Plan} → color_plan a e ≡ is p → (min_length ≤ length (layout p)) × (length (layout p) ≤ max_written)
written_length a e held {p} h = ((layout_bounds InRange p (plan_valid a e held h)).0, at_most a e held h)

-- with any maker and model
pub encoding_written_length : (e : Encoding) → HeldEncoding e.color → {q : Plan} → encoding_plan e ≡ is q → (min_length ≤ length (layout q)) × (length (layout q) ≤ max_written)
encoding_written_length e held h =
    let d = from_color e h in
    rw (← d.device, length-device d.plan e.maker e.model) (written_length e.adapted e.color held d.color_plan_lem)

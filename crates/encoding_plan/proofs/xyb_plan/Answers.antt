-- `xyb_plan` meets its contract: the numbers are those of the intent, and the count is the same for each.
use Rattle.std.proofs.Common.{ℕ, ◌≡◌, sym, ap}
use Rattle.buffer.specs.Checked.{is}
use Rattle.color_encoding.specs.declared.JxlColorEncoding.TheVariants.{XYB}
use Rattle.profile.specs.Plan.{xyb, plain_plan}
use Rattle.encoding_plan.specs.PlanOf.{color_plan}
use Rattle.encoding_plan.specs.AnswersLaws.{planned_as}
use Rattle.encoding_plan.specs.FixedFloatsLaws.{xyb_count}
use Rattle.encoding_plan.proofs.xyb_plan.Goals as goal

pub returns : goal.returns
unfolding color_plan
returns c adapted =
    let i = c.args.intent in
    let planned : color_plan adapted (XYB i) ≡ is (plain_plan c.number-number.result xyb) = ap (λ (n : ℕ). is (plain_plan n xyb)) (sym c.number-number.ensures) in
    rw c.plain.ensures (planned_as adapted (XYB i) planned (sym (xyb_count adapted i)))

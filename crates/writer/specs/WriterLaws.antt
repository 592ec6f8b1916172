-- Maker and model do not change what the writer answers, and zeros do not change what it writes. Assumes nothing.
use Rattle.std.specs.Prelude.{ℕ, ◌≡◌, refl, cond, List, leb, length}
use Rattle.std.proofs.Common.{ap, ◌∙◌}
use Rattle.buffer.specs.Checked.{Checked, is, refused, then}
use Rattle.numbers.specs.Rounded.{rounded_in, counted}
use Rattle.color_encoding.specs.declared.JxlColorEncoding.{JxlColorEncoding}
use Rattle.profile.specs.Plan.{Plan, with_device}
use Rattle.profile.specs.LayoutLaws.{length-device}
use Rattle.encoding_plan.specs.PlanOf.{color_plan, plan_of}
use Rattle.encoding_plan.specs.FixedFloats.{color_floats, counted_color_plan, counted_plan}
use Rattle.encoding_plan.specs.EncodingPlan.{plain_encoding, encoding_plan, counted_encoding_plan}
use Rattle.encoding_plan.specs.EncodingPlanLaws.{plain_plan_lem, plain_counted}
use Rattle.encoding_plan.specs.declared.Encoding.{Encoding}
use Rattle.writer.specs.Writer.{profile, answer, output, too_short, Creates}
use Rattle.writer.specs.declared.Written.{Written}

pub any_device : (e : Encoding) (n : ℕ) → answer (counted_encoding_plan e) n ≡ answer (counted_color_plan e.adapted e.color) n
any_device e n = go (color_plan e.adapted e.color)
  where
    go : (c : Checked Plan) → let xs = color_floats e.adapted e.color in answer (counted xs (then c (λ p. is (with_device e.maker e.model p)))) n ≡ answer (counted xs c) n
    go (is p) = ap (λ (m : ℕ). cond (leb m n) (profile m (rounded_in (color_floats e.adapted e.color))) (refused too_short)) (length-device p e.maker e.model)
    go (refused k) = refl

-- ---- with zeros it is the plan of the color encoding that is written

pub plain_writes : {e : Encoding} {c : JxlColorEncoding} {before after : List ℕ} {r : Checked Written} → e ≡ plain_encoding c → Creates e before after r
    → (r ≡ answer (counted_plan c) (length before)) × (after ≡ output (plan_of c) before)
plain_writes {c = c} {before = before} same w = (
  w.writes.answer ∙ ap (λ (x : Encoding). answer (counted_encoding_plan x) (length before)) same ∙ ap (λ p. answer p (length before)) (plain_counted c),
  w.writes.output ∙ ap (λ (x : Encoding). output (encoding_plan x) before) same ∙ ap (λ p. output p before) (plain_plan_lem c),
)

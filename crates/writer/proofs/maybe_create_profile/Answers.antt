-- The answer is that of `answer`. Where it is a length, the plan's layout has it and fits (`fits`), and `put_profile` lays it out;
-- where it is a refusal, the output is as it was (`untouched`). Assumes nothing.
use Rattle.std.proofs.Common.{rules, ◌≡◌, ℕ, ◌≤◌, List, length, sym, ap, ◌∙◌}
use Rattle.std.proofs.lemmas.Result.{err_from_is_err_and}
use Rattle.buffer.specs.Buffer.{put as put_front}
use Rattle.buffer.specs.Checked.{Checked, is, refused}
use Rattle.text.specs.Description.{description}
use Rattle.text.proofs.HeldValues.{held_encoding}
use Rattle.profile.specs.Plan.{Plan, with_device}
use Rattle.profile.specs.Numbers as Plans
use Rattle.profile.specs.declared.Numbers.{Numbers}
use Rattle.profile.specs.Layout.{layout}
use Rattle.profile.specs.LayoutLaws.{length-device}
use Rattle.numbers.specs.RoundedLaws.{counted_value}
use Rattle.encoding_plan.specs.PlanOf.{color_plan}
use Rattle.encoding_plan.specs.FixedFloats.{color_floats, counted_color_plan}
use Rattle.encoding_plan.specs.EncodingPlan.{encoding_plan}
use Rattle.encoding_plan.specs.EncodingPlanLaws.{planned}
use Rattle.encoding_plan.specs.declared.Encoding.{Encoding}
use Rattle.encoding_plan.specs.WhiteLaws.{planned_in_range}
use Rattle.writer.specs.Writer.{answer, Writes, Creates}
use Rattle.writer.specs.WriterLaws.{any_device}
use Rattle.writer.specs.declared.Written.{Written}
use Rattle.writer.proofs.Laying.{fits, laid_out, untouched}
use Rattle.writer.proofs.maybe_create_profile.Goals.{After-with_device-plan, In_ok-written, Start}
use Rattle.writer.proofs.maybe_create_profile.Goals as goal

created : (s : Start) {before after : List ℕ} {r : Checked Written} → Writes (λ p. p) (is s.args.encoding) before after r → Creates s.args.encoding before after r
created s w = record { writes = w; held = held_encoding s.args.encoding.color _ s.well_formed.0.1.1.0; maker = search rules; model = search rules }

-- where the encoding or the output is refused
passed : (s : Start) {k : ℕ} → let e = s.args.encoding in let out = s.args.out.now in
    refused k ≡ answer (counted_color_plan e.adapted e.color) (length out) → Creates e out out (refused k)
passed s h =
    let e = s.args.encoding in
    let out = s.args.out.now in
    let any = h ∙ sym (any_device e (length out)) in
    created s (record { answer = any; output = untouched (color_floats e.adapted e.color) (encoding_plan e) out any })

-- where the answer is a length
module _ (c : In_ok-written) where
  abbrev encoding : Encoding
  encoding = c.args.encoding

  abbrev plan : Plan
  plan = Plans.plan_of c.in_ok-planned.planned.value (description encoding.color)

  is_plan : color_plan encoding.adapted encoding.color ≡ is plan
  is_plan = counted_value (color_floats encoding.adapted encoding.color) _ c.in_ok-planned.ensures

  sized : (c.in_ok-written.written.length ≡ length (layout plan)) × (length (layout plan) ≤ length c.args.out.now)
  sized = fits (color_floats encoding.adapted encoding.color) (length c.args.out.now) is_plan c.in_ok-written.ensures

  -- with maker and model it is as long
  same-length : length (layout (with_device encoding.maker encoding.model plan)) ≡ length (layout plan)
  same-length = length-device plan encoding.maker encoding.model

-- the numbers that are laid out are that plan's, with maker and model
laid : (c : After-with_device-plan) → let w = (goal.at.After-with_device-plan c).In_ok-written in
    layout (Plans.plan_of c.with_device-plan.result (description c.args.encoding.color)) ≡ layout (with_device c.args.encoding.maker c.args.encoding.model (plan w))
laid c = ap (λ (q : Numbers). layout (Plans.plan_of q (description c.args.encoding.color))) c.with_device-plan.ensures

pub returns-in_err-planned : goal.returns-in_err-planned
returns-in_err-planned c =
    let p = err_from_is_err_and c.from_residual.result c.from_residual.ensures.1 in
    rw (p.1, p.2) (passed (goal.at.returns-in_err-planned c).Start (ap (λ q. answer q (length c.args.out.now)) c.in_err-planned.ensures))

pub returns-in_err-written : goal.returns-in_err-written
returns-in_err-written c =
    let p = err_from_is_err_and c.from_residual-in_err-written.result c.from_residual-in_err-written.ensures.1 in
    rw (p.1, p.2) (passed (goal.at.returns-in_err-written c).Start c.in_err-written.ensures)

pub put_profile-requires : goal.put_profile-requires
put_profile-requires c =
    let w = (goal.at.put_profile-requires c).In_ok-written in
    let same = ap length (laid (goal.at.put_profile-requires c).After-with_device-plan) ∙ same-length w in
    (planned_in_range _ _ (is_plan w), (sized w).0 ∙ sym same, rw (sized w).0 (sized w).1)

pub returns : goal.returns
returns c =
    let w = (goal.at.returns c).In_ok-written in
    let e = c.args.encoding in
    let out = c.args.out.now in
    created (goal.at.returns c).Start
    (record {
      answer = c.in_ok-written.ensures ∙ sym (any_device e (length out));
      output =
          laid_out out _ (planned e (is_plan w)) (rw (same-length w) (sized w).1)
          (c.put_profile.ensures ∙ ap (λ t. put_front out 0 t) (laid (goal.at.returns c).After-with_device-plan));
    })

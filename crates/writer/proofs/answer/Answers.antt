-- An accepted white is in range, so that the text is short enough (`WhiteLaws`), and what `layout` answers is the length of the plan's layout.
use Rattle.std.proofs.Common.{rules, ◌≡◌, ℕ, ◌≤◌, List, length, sym, ap, ◌∙◌}
use Rattle.buffer.specs.Checked.{Checked, is}
use Rattle.text.specs.Bounds.{length-in_range}
use Rattle.text.specs.Description.{description}
use Rattle.text.proofs.HeldValues.{held_encoding}
use Rattle.profile.specs.Plan.{Plan, max_letters}
use Rattle.profile.specs.Numbers as Plans
use Rattle.profile.specs.PlanLaws.{Nines, letters_by, nines_by}
use Rattle.profile.specs.Shape.{shape}
use Rattle.profile.specs.Layout.{layout}
use Rattle.profile.specs.LayoutLaws.{length-layout}
use Rattle.numbers.specs.declared.fixed.Counted.{Counted}
use Rattle.numbers.specs.RoundedLaws.{counted_value}
use Rattle.encoding_plan.specs.FixedFloats.{color_floats, counted_color_plan}
use Rattle.encoding_plan.specs.declared.Encoding.{Encoding}
use Rattle.encoding_plan.specs.WhiteLaws.{planned_in_range}
use Rattle.writer.specs.Writer.{answer}
use Rattle.writer.proofs.Laying.{short_layout, too_short_lem, enough}
use Rattle.writer.proofs.answer.Goals.{After-length-size, After-shape_of, Start}
use Rattle.writer.proofs.answer.Goals as goal

module _ (c : Start) where
  abbrev encoding : Encoding
  encoding = c.args.encoding

  abbrev text : List ℕ
  text = description encoding.color

  abbrev plan : Plan
  plan = Plans.plan_of c.args.planned.value text

  abbrev with-count : Counted Plan
  with-count = record { value = plan; rounded = c.args.planned.rounded }

  few : (shape plan).letters ≤ max_letters
  few =
      letters_by c.args.planned.value text
      (length-in_range encoding.color (held_encoding encoding.color _ c.well_formed.0.1.1.0)
      (planned_in_range _ _ (counted_value (color_floats encoding.adapted encoding.color) _ c.requires)))

  nines : Nines plan.content
  nines = nines_by c.args.planned.value text (search rules)

  -- the answer to the plan that is given
  due : answer (is with-count) c.args.capacity ≡ answer (counted_color_plan encoding.adapted encoding.color) c.args.capacity
  due = ap (λ (p : Checked (Counted Plan)). answer p c.args.capacity) c.requires

shaped : (c : After-shape_of) → c.shape_of.result ≡ shape (plan (goal.at.After-shape_of c).Start)
shaped c = c.shape_of.ensures _ c.description_length-letters.ensures

size : (c : After-length-size) → c.length-size.result ≡ length (layout (plan (goal.at.After-length-size c).Start))
size c = (rw (shaped (goal.at.After-length-size c).After-shape_of) at c.length-size.ensures) ∙ sym (length-layout (plan (goal.at.After-length-size c).Start) (nines (goal.at.After-length-size c).Start))

pub length-size-requires : goal.length-size-requires
length-size-requires c = rw (shaped (goal.at.length-size-requires c).After-shape_of) (few (goal.at.length-size-requires c).Start)

pub returns-then-capacity-size : goal.returns-then-capacity-size
returns-then-capacity-size c =
    let s = (goal.at.returns-then-capacity-size c).Start in
    too_short_lem (with-count s) _ _ (size (goal.at.returns-then-capacity-size c).After-length-size) c.if-capacity-size.true ∙ due s

pub overflow_cast-result : goal.overflow_cast-result
overflow_cast-result c =
    let s = (goal.at.overflow_cast-result c).Start in
    short_layout (plan s) (nines s) (few s) (size (goal.at.overflow_cast-result c).After-length-size)

pub returns : goal.returns
returns c =
    let s = (goal.at.returns c).Start in
    enough (with-count s) _ _ (size (goal.at.returns c).After-length-size) c.if-capacity-size.false ∙ due s

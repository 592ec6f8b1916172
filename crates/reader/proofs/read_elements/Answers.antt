-- The plan is the file's one plan, and its mark or its refusal tells the answer (`Answered`).
use mathlib.Core.Path.{◌≡◌, ap, sym, ◌∙◌, subst, refl}
use mathlib.Core.Bool.{Bool, true, false, cond}
use native.Mathlib.Omega.{arith}
use lib.ListN.{length, take, length-append}
use lib.Seq.{take_at}
use mir.Val.{bool_byte}
use Rattle.std.proofs.lemmas.Result.{err_from_is_err_and}
use Rattle.buffer.specs.PutsLaws.{in_front}
use Rattle.profile.specs.Numbers.{text_of}
use Rattle.profile.specs.declared.Shape.{Shape}
use Rattle.reader_spec.specs.PlanIn.{plan_in}
use Rattle.reader_spec.specs.Read.{from_body}
use Rattle.reader_spec.specs.Steps.{Tabled}
use Rattle.reader_spec.specs.StepsLaws.{accepted_plan}
use Rattle.reading.specs.Reading.{text_array}
use Rattle.reader.proofs.Answered.{refused_by}
use Rattle.reader.proofs.read_elements.Goals.{After-text_in}
use Rattle.reader.proofs.read_elements.Goals as goal

-- the text, in front of zeros
module _ (c : After-text_in) where
  letters : c.text_in.result ≡ length (text_of (plan_in c.args.file.now))
  letters = (in_front 372 c.text_in.ensures).0

  array : c.text_in.new.text ≡ text_array (text_of (plan_in c.args.file.now))
  array = (in_front 372 c.text_in.ensures).1

  text : take c.text_in.result c.text_in.new.text ≡ text_of (plan_in c.args.file.now)
  text = ap (take c.text_in.result) array ∙ take_at _ _ _ (sym letters)

-- the number that the library makes of a mark
one_if : (b : Bool) → bool_byte b ≡ cond b 1 0
one_if true = refl
one_if false = refl

pub shared_ref_as_front-plan_answer : goal.shared_ref_as_front-plan_answer
shared_ref_as_front-plan_answer c =
    let a = (goal.at.shared_ref_as_front-plan_answer c).After-text_in in
    omega (arith, letters a, simp length-append at (ap length (array a)))

pub slice_bounds-plan_answer-end : goal.slice_bounds-plan_answer-end
slice_bounds-plan_answer-end c =
    let a = (goal.at.slice_bounds-plan_answer-end c).After-text_in in letters a ∙ sym (ap length (text a))

pub plan_answer-requires : goal.plan_answer-requires
plan_answer-requires c =
    record {
      tabled = subst (λ (x : Shape). Tabled x c.args.file.now) (sym c.requires.0.shape_is) c.requires.0;
      numbers = c.numbers_in-plan.ensures;
      text = text (goal.at.plan_answer-requires c).After-text_in;
    }

pub returns-in_err-mark : goal.returns-in_err-mark
returns-in_err-mark c =
    let p = err_from_is_err_and c.from_residual.result c.from_residual.ensures.1 in
    rw (p.1, p.2) (refused_by (from_body c.args.file.now) c.in_err-mark.ensures)

pub returns : goal.returns
returns c =
    let a = (goal.at.returns c).After-text_in in
    rw (
      accepted_plan c.args.file.now c.in_ok-mark.mark (sym c.in_ok-mark.ensures),
      c.accepted.ensures,
      c.numbers_in-plan.ensures,
      letters a,
      array a,
      c.from.ensures,
      one_if c.in_ok-mark.mark,
    )

-- What `chad_numbers` answers, in the form of a gray white. Assumes nothing.
use Rattle.std.proofs.Common.{ℕ, ◌+◌, true, ap, ◌∙◌, arith}
use Rattle.std.proofs.lemmas.Result.{err_from_is_err_and}
use Rattle.profile.specs.declared.GrayWhite.TheVariants.{Adapted}
use Rattle.numbers.specs.RoundedLaws.{counted_rounded}
use Rattle.encoding_numbers.specs.NumbersOf.{chad_numbers, chad_floats}
use Rattle.encoding_plan.specs.FixedFloats.{white_floats}
use Rattle.encoding_plan.specs.FixedFloatsLaws.{adapted_count, chad_few}
use Rattle.encoding_plan.specs.AnswersLaws.{refused_with, given_with}
use Rattle.encoding_plan.proofs.white_numbers.Goals as goal

pub returns-in_err-chad : goal.returns-in_err-chad
returns-in_err-chad c =
    let w = c.args.white in
    let p = err_from_is_err_and c.from_residual.result c.from_residual.ensures.1 in
    rw (p.1, p.2, c.if-adapted.true) (refused_with Adapted (chad_floats w) (white_floats true w) (chad_numbers w) c.in_err-chad.ensures)

pub overflow_add-result : goal.overflow_add-result
overflow_add-result c =
    let w = c.args.white in
    record { fits = omega (arith, counted_rounded (chad_floats w) (chad_numbers w) c.in_ok-chad.ensures, chad_few w) }

pub returns-then-adapted : goal.returns-then-adapted
returns-then-adapted c =
    let w = c.args.white in
    rw c.if-adapted.true
    (given_with Adapted (chad_floats w) (white_floats true w) (chad_numbers w) (λ h. ap (λ (m : ℕ). 2 + m) h ∙ adapted_count w) c.in_ok-chad.ensures)

-- `gray_plan` meets its contract: each answer is that of the first check of `color_plan` that refuses, or of the plan (`PlanOfLaws`) with its count.
use Rattle.std.proofs.Common.{ℕ, ◌+◌, sym, ap₂, ◌∙◌, arith}
use Rattle.std.proofs.lemmas.Result.{err_from_is_err_and}
use Rattle.numbers.specs.RoundedLaws.{counted_value, counted_rounded, counted_refused}
use Rattle.encoding_plan.specs.PlanOfLaws.{gray_unsupported, gray_no_white, gray_no_curve, gray_plan_lem}
use Rattle.encoding_plan.specs.FixedFloatsLaws.{gray_count_lem, white_few, curve_few}
use Rattle.encoding_plan.specs.AnswersLaws.{refused_as, planned_as}
use Rattle.encoding_plan.proofs.gray_plan.Goals as goal

pub returns-in_err-named_or_gamma : goal.returns-in_err-named_or_gamma
returns-in_err-named_or_gamma c =
    let p = err_from_is_err_and c.from_residual.result c.from_residual.ensures.1 in
    rw (p.1, p.2) (refused_as _ _ (gray_unsupported _ _ _ _ (sym c.in_err-named_or_gamma.ensures)))

pub returns-in_err-numbers : goal.returns-in_err-numbers
returns-in_err-numbers c =
    let p = err_from_is_err_and c.from_residual-in_err-numbers.result c.from_residual-in_err-numbers.ensures.1 in
    let e = rw c.to_xy_coords.ensures at c.in_err-numbers.ensures in
    rw (p.1, p.2) (refused_as _ _ (gray_no_white _ _ _ _ (sym c.in_ok-named_or_gamma.ensures) (counted_refused _ _ e)))

pub returns-in_err-curve : goal.returns-in_err-curve
returns-in_err-curve c =
    let p = err_from_is_err_and c.from_residual-in_err-curve.result c.from_residual-in_err-curve.ensures.1 in
    let white = rw c.to_xy_coords.ensures at c.in_ok-numbers.ensures in
    rw (p.1, p.2)
    (refused_as _ _ (gray_no_curve _ _ _ _ (sym c.in_ok-named_or_gamma.ensures) (counted_value _ _ white) (counted_refused _ _ c.in_err-curve.ensures)))

pub overflow_add-result : goal.overflow_add-result
overflow_add-result c =
    let white = counted_rounded _ _ c.in_ok-numbers.ensures in
    let curve = counted_rounded _ _ c.in_ok-curve.ensures in
    record { fits = omega (arith, white, curve, white_few c.args.adapted c.to_xy_coords.result, curve_few c.in_ok-named_or_gamma.named_or_gamma) }

pub returns : goal.returns
returns c =
    let white = rw c.to_xy_coords.ensures at c.in_ok-numbers.ensures in
    let named = sym c.in_ok-named_or_gamma.ensures in
    rw (c.plain.ensures, c.number.ensures)
    (planned_as _ _
    (gray_plan_lem _ _ _ _ named (counted_value _ _ white) (counted_value _ _ c.in_ok-curve.ensures))
    (ap₂ (λ (m n : ℕ). m + n) (counted_rounded _ _ white) (counted_rounded _ _ c.in_ok-curve.ensures) ∙ gray_count_lem _ _ _ _ named))

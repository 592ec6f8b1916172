-- `rgb_plan` meets its contract: each answer is that of the first check of `color_plan` that refuses, or of the plan (`PlanOfLaws`) with its count.
use Rattle.std.proofs.Common.{ℕ, ◌+◌, ◌≤◌, sym, ap₂, ◌∙◌, arith}
use Rattle.std.proofs.lemmas.Result.{err_from_is_err_and}
use Rattle.numbers.specs.RoundedLaws.{counted_value, counted_rounded, counted_refused}
use Rattle.encoding_plan.specs.PlanOfLaws.{rgb_unsupported, rgb_no_chad, rgb_no_columns, rgb_no_curve, rgb_plan_lem}
use Rattle.encoding_plan.specs.FixedFloatsLaws.{rgb_count, chad_few, columns_few, curve_few}
use Rattle.encoding_plan.specs.AnswersLaws.{refused_as, planned_as}
use Rattle.encoding_plan.proofs.rgb_plan.Goals.{In_ok-curve}
use Rattle.encoding_plan.proofs.rgb_plan.Goals as goal

pub returns-in_err-named_or_gamma : goal.returns-in_err-named_or_gamma
returns-in_err-named_or_gamma c adapted =
    let p = err_from_is_err_and c.from_residual.result c.from_residual.ensures.1 in
    rw (p.1, p.2) (refused_as adapted _ (rgb_unsupported adapted _ _ _ _ (sym c.in_err-named_or_gamma.ensures)))

pub returns-in_err-chad : goal.returns-in_err-chad
returns-in_err-chad c adapted =
    let p = err_from_is_err_and c.from_residual-in_err-chad.result c.from_residual-in_err-chad.ensures.1 in
    let e = rw c.to_xy_coords-white_xy.ensures at c.in_err-chad.ensures in
    rw (p.1, p.2) (refused_as adapted _ (rgb_no_chad adapted _ _ _ _ (sym c.in_ok-named_or_gamma.ensures) (counted_refused _ _ e)))

pub returns-in_err-columns : goal.returns-in_err-columns
returns-in_err-columns c adapted =
    let p = err_from_is_err_and c.from_residual-in_err-columns.result c.from_residual-in_err-columns.ensures.1 in
    let chad = rw c.to_xy_coords-white_xy.ensures at c.in_ok-chad.ensures in
    let e = rw (c.to_xy_coords-white_xy.ensures, c.to_xy_coords.ensures) at c.in_err-columns.ensures in
    rw (p.1, p.2)
    (refused_as adapted _ (rgb_no_columns adapted _ _ _ _ (sym c.in_ok-named_or_gamma.ensures) (counted_value _ _ chad) (counted_refused _ _ e)))

pub returns-in_err-curve : goal.returns-in_err-curve
returns-in_err-curve c adapted =
    let p = err_from_is_err_and c.from_residual-in_err-curve.result c.from_residual-in_err-curve.ensures.1 in
    let chad = rw c.to_xy_coords-white_xy.ensures at c.in_ok-chad.ensures in
    let columns = rw (c.to_xy_coords-white_xy.ensures, c.to_xy_coords.ensures) at c.in_ok-columns.ensures in
    rw (p.1, p.2)
    (refused_as adapted _
    (rgb_no_curve adapted _ _ _ _ (sym c.in_ok-named_or_gamma.ensures) (counted_value _ _ chad) (counted_value _ _ columns) (counted_refused _ _ c.in_err-curve.ensures)))

-- nine, nine and five numbers at most
few : (c : In_ok-curve)
    → (c.in_ok-chad.chad.rounded ≤ 9) × (c.in_ok-columns.columns.rounded ≤ 9) × (c.in_ok-curve.curve.rounded ≤ 5)
few c =
    let chad = counted_rounded _ _ c.in_ok-chad.ensures in
    let columns = counted_rounded _ _ c.in_ok-columns.ensures in
    let curve = counted_rounded _ _ c.in_ok-curve.ensures in (
      omega (arith, chad, chad_few c.to_xy_coords-white_xy.result),
      omega (arith, columns, columns_few c.to_xy_coords.result c.to_xy_coords-white_xy.result),
      omega (arith, curve, curve_few c.in_ok-named_or_gamma.named_or_gamma),
    )

pub overflow_add-result : goal.overflow_add-result
overflow_add-result c = let f = few (goal.at.overflow_add-result c).In_ok-curve in record { fits = omega (arith, f) }

pub overflow_add-result-2 : goal.overflow_add-result-2
overflow_add-result-2 c = let f = few (goal.at.overflow_add-result-2 c).In_ok-curve in record { fits = omega (arith, f) }

pub overflow_add-result-3 : goal.overflow_add-result-3
overflow_add-result-3 c = let f = few (goal.at.overflow_add-result-3 c).In_ok-curve in record { fits = omega (arith, f) }

pub returns : goal.returns
returns c adapted =
    let named = sym c.in_ok-named_or_gamma.ensures in
    let chad = rw c.to_xy_coords-white_xy.ensures at c.in_ok-chad.ensures in
    let columns = rw (c.to_xy_coords-white_xy.ensures, c.to_xy_coords.ensures) at c.in_ok-columns.ensures in
    rw (c.plain.ensures, c.number.ensures, c.cicp_of.ensures)
    (planned_as adapted _
    (rgb_plan_lem adapted _ _ _ _ named (counted_value _ _ chad) (counted_value _ _ columns) (counted_value _ _ c.in_ok-curve.ensures))
    (ap₂ (λ (m n : ℕ). m + n)
    (ap₂ (λ (m n : ℕ). 2 + m + n) (counted_rounded _ _ chad) (counted_rounded _ _ columns))
    (counted_rounded _ _ c.in_ok-curve.ensures)
    ∙ rgb_count adapted _ _ _ named _))

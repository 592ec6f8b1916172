-- A gamma's number and mark are what `to_s15_fixed_16` ensures.
use Rattle.std.proofs.Common.{◌≡◌, rules, sym, ◌∙◌, w32}
use mir.Val.{to_z, of_z}
use Rattle.numbers.specs.RoundedLaws.{mark_counts, rounded_in_one}
use Rattle.encoding_curve.proofs.curve_of.Goals as goal

pub returns-in_ok-reciprocal-in-Gamma : goal.returns-in_ok-reciprocal-in-Gamma
returns-in_ok-reciprocal-in-Gamma c =
    let fixed = sym c.to_s15_fixed_16.ensures ∙ c.in_ok-reciprocal-in-Gamma.ensures.ok_part in
    let same : to_z w32 (of_z w32 c.in_ok-reciprocal-in-Gamma.reciprocal.number) ≡ c.in_ok-reciprocal-in-Gamma.reciprocal.number = search rules in
    rw (same, c.one_if_rounded.ensures ∙ mark_counts _ fixed ∙ sym (rounded_in_one _), c.in-Gamma.is) (simp fixed)

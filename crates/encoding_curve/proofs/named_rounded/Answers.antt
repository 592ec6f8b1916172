-- Each arm knows its curve, and the count is that of its constants (`parameters_count`).
use mathlib.Core.Path.{◌≡◌, sym, ap, ◌∙◌}
use Rattle.numbers.specs.Rounded.{rounded_in}
use Rattle.profile.specs.FixedConstants.{parameter_floats, parameters_rounded, parameters_count}
use Rattle.profile.specs.declared.CurveName.{CurveName}
use Rattle.encoding_curve.proofs.named_rounded.Goals as goal

-- the count of the curve that an arm knows
told : (name : CurveName) {n : CurveName} → name ≡ n → parameters_rounded n ≡ rounded_in (parameter_floats name)
told name e = sym (ap parameters_rounded e) ∙ parameters_count name

pub returns-in-BT709 : goal.returns-in-BT709
returns-in-BT709 c = told _ c.in-BT709.is

pub returns-in-Linear : goal.returns-in-Linear
returns-in-Linear c = told _ c.in-Linear.is

pub returns-in-SRGB : goal.returns-in-SRGB
returns-in-SRGB c = told _ c.in-SRGB.is

pub returns-in-DCI : goal.returns-in-DCI
returns-in-DCI c = told _ c.in-DCI.is

-- What the reader's answer by value tells: the plan, or the refusal number. It undoes `reading`, by which `read` answers (ToldLaws). Assumes nothing.
use Rattle.std.specs.Prelude.{Option, Some, None, ℕ, cond, List, eqb, ℤ, take}
use Rattle.buffer.specs.Checked.{Checked, is, then}
use Rattle.profile.specs.Plan.{Plan, with_mark}
use Rattle.profile.specs.Numbers.{plan_of}
use Rattle.profile.specs.declared.Numbers.{Numbers}
use Rattle.profile.specs.declared.CurveName.{CurveName}
use Rattle.profile.specs.declared.CurveName.TheVariants as Name
use Rattle.profile.specs.declared.Curve.{Curve}
use Rattle.profile.specs.declared.Curve.TheVariants.{Named, Gamma}
use Rattle.profile.specs.declared.GrayWhite.{GrayWhite}
use Rattle.profile.specs.declared.GrayWhite.TheVariants.{Unadapted, Adapted}
use Rattle.profile.specs.declared.Content.{Content}
use Rattle.profile.specs.declared.Content.TheVariants.{Gray, Rgb, Xyb}
use Rattle.reading.specs.declared.Reading.{Reading}

abbrev pub name_by : ℕ → CurveName
name_by n = cond (eqb n 0) Name.BT709 (cond (eqb n 1) Name.Linear (cond (eqb n 2) Name.SRGB Name.DCI))

abbrev pub curve_by : ℕ → ℤ → Curve
curve_by n g = cond (eqb n 6) (Gamma g) (Named (name_by n))

abbrev pub cicp_by : ℕ → Option ℕ
cicp_by v = cond (eqb v 0) None (Some v)

abbrev pub white_by : ℕ → ℤ → ℤ → List ℤ → GrayWhite
white_by a x z m = cond (eqb a 1) (Adapted m) (Unadapted x z)

abbrev pub content_in : Reading → Content
content_in r =
    let c = curve_by r.curve r.gamma in
    cond (eqb r.kind 1) (Gray c (white_by r.adapted r.white_x r.white_z r.chad)) (cond (eqb r.kind 2) (Rgb c (cicp_by r.cicp) r.chad r.columns) Xyb)

abbrev pub numbers_in : Reading → Numbers
numbers_in r = record { intent = r.intent; maker = r.maker; model = r.model; content = content_in r }

-- the numbers, and as many letters of the text as there are; and the mark
abbrev pub plan_in : Reading → Plan
plan_in r = with_mark (eqb r.id_not_computed 1) (plan_of (numbers_in r) (take r.letters r.text))

abbrev pub told : Checked Reading → Checked Plan
told c = then c (λ r. is (plan_in r))

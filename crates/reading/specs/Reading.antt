-- The reader's answer by value: 01's number where the file is refused, and otherwise the plan in numbers;
-- and the same with a plan of zeros beside the number. Assumes nothing.
use Rattle.std.specs.Prelude.{ℕ, ◌-◌, cond, List, ◌++◌, ℤ, pos, length, replicate, Option, Some, None}
use Rattle.buffer.specs.Checked.{Checked}
use Rattle.profile.specs.Plan.{Plan, max_letters}
use Rattle.profile.specs.Numbers.{kind_of, numbers_of, text_of}
use Rattle.profile.specs.declared.Kind.{Kind}
use Rattle.profile.specs.declared.Kind.TheVariants as Kinds
use Rattle.profile.specs.declared.CurveName.{CurveName}
use Rattle.profile.specs.declared.CurveName.TheVariants as Name
use Rattle.profile.specs.declared.Curve.{Curve}
use Rattle.profile.specs.declared.Curve.TheVariants.{Named, Gamma}
use Rattle.profile.specs.declared.GrayWhite.{GrayWhite}
use Rattle.profile.specs.declared.GrayWhite.TheVariants.{Unadapted, Adapted}
use Rattle.profile.specs.declared.Content.{Content}
use Rattle.profile.specs.declared.Content.TheVariants.{Gray, Rgb, Xyb}
use Rattle.profile.specs.declared.Numbers.{Numbers}
use Rattle.reader_spec.specs.RefusalList.{Answer, refused, accepted, number}
use Rattle.reading.specs.declared.NumberAndPlan.{NumberAndPlan}
use Rattle.reading.specs.declared.Reading.{Reading}

-- ---- the values of the enums

-- the kinds are numbered as the sections of the job
abbrev pub kind_number : Kind → ℕ
kind_number Kinds.Gray = 1
kind_number Kinds.Rgb = 2
kind_number Kinds.Xyb = 3

-- the curve's number in the job: `JxlTransferFunction` order
abbrev pub name_number : CurveName → ℕ
name_number Name.BT709 = 0
name_number Name.Linear = 1
name_number Name.SRGB = 2
name_number Name.DCI = 4

abbrev pub curve_number : Curve → ℕ
curve_number (Named n) = name_number n
curve_number (Gamma g) = 6

abbrev pub gamma_number : Curve → ℤ
gamma_number (Named n) = pos 0
gamma_number (Gamma g) = g

abbrev pub cicp_number : Option ℕ → ℕ
cicp_number None = 0
cicp_number (Some v) = v

-- ---- the numbers of a plan: zero where its kind, or its white, has no such number

abbrev pub nine_zeros : List ℤ
nine_zeros = replicate 9 (pos 0)

abbrev pub adapted_of : GrayWhite → ℕ
adapted_of (Unadapted x z) = 0
adapted_of (Adapted m) = 1

abbrev pub x_of : GrayWhite → ℤ
x_of (Unadapted x z) = x
x_of (Adapted m) = pos 0

abbrev pub z_of : GrayWhite → ℤ
z_of (Unadapted x z) = z
z_of (Adapted m) = pos 0

abbrev pub chad_of : GrayWhite → List ℤ
chad_of (Unadapted x z) = nine_zeros
chad_of (Adapted m) = m

-- the fields of the answer that the content gives
pub record Told : Type 0 where
  pub curve : ℕ
  pub gamma : ℤ
  pub cicp : ℕ
  pub adapted : ℕ
  pub white_x : ℤ
  pub white_z : ℤ
  pub chad : List ℤ
  pub columns : List ℤ

abbrev pub told : Content → Told
told (Gray c w) =
    record {
      curve = curve_number c;
      gamma = gamma_number c;
      cicp = 0;
      adapted = adapted_of w;
      white_x = x_of w;
      white_z = z_of w;
      chad = chad_of w;
      columns = nine_zeros;
    }
told (Rgb c v m k) =
    record {
      curve = curve_number c;
      gamma = gamma_number c;
      cicp = cicp_number v;
      adapted = 0;
      white_x = pos 0;
      white_z = pos 0;
      chad = m;
      columns = k;
    }
told Xyb =
    record {
      curve = 0;
      gamma = pos 0;
      cicp = 0;
      adapted = 0;
      white_x = pos 0;
      white_z = pos 0;
      chad = nine_zeros;
      columns = nine_zeros;
    }

-- ---- the answer

-- a text in an array
abbrev pub text_array : List ℕ → List ℕ
text_array t = t ++ replicate (max_letters - length t) 0

-- a plan: its numbers, the number of its mark, and its text in an array, of so many letters
abbrev pub accepted_with : Numbers → ℕ → ℕ → List ℕ → Reading
accepted_with p m n text =
    let c = told p.content in
    record {
      kind = kind_number (kind_of p.content);
      intent = p.intent;
      maker = p.maker;
      model = p.model;
      id_not_computed = m;
      curve = c.curve;
      gamma = c.gamma;
      cicp = c.cicp;
      adapted = c.adapted;
      white_x = c.white_x;
      white_z = c.white_z;
      chad = c.chad;
      columns = c.columns;
      letters = n;
      text = text;
    }

abbrev pub plan_reading : Plan → Reading
plan_reading p = accepted_with (numbers_of p) (cond p.id_not_computed 1 0) (length (text_of p)) (text_array (text_of p))

abbrev pub reading : Answer → Checked Reading
reading (refused c) = Checked.refused (number c)
reading (accepted p) = Checked.is (plan_reading p)

-- ---- the answer as 01 has it, "a number and an all-zero plan"

abbrev pub zero_plan : Reading
zero_plan =
    record {
      kind = 0;
      intent = 0;
      maker = 0;
      model = 0;
      id_not_computed = 0;
      curve = 0;
      gamma = pos 0;
      cicp = 0;
      adapted = 0;
      white_x = pos 0;
      white_z = pos 0;
      chad = nine_zeros;
      columns = nine_zeros;
      letters = 0;
      text = replicate max_letters 0;
    }

-- 0 and the plan, or the refusal's number and the plan of zeros
abbrev pub number_and_plan : Checked Reading → NumberAndPlan
number_and_plan (Checked.is r) = record { number = 0; plan = r }
number_and_plan (Checked.refused n) = record { number = n; plan = zero_plan }

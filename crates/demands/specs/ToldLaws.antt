-- `told` undoes `reading`: of a plan that the reader answers, and of a refusal. Assumes nothing.
use Rattle.std.specs.Prelude.{Option, Some, None, ℕ, ◌-◌, ◌≡◌, refl, Bool, true, false, cond, eqb, length, take, replicate}
use Rattle.std.proofs.Common.{ap, ap₂, ◌∙◌, inl, inr, take_at}
use Rattle.buffer.specs.Checked.{is, refused as refusedBy}
use Rattle.profile.specs.Plan.{Plan, with_mark, Content, gray, rgb, xyb, GoodCicp, GoodContent, InRange, Valid, max_letters}
use Rattle.profile.specs.Numbers.{plan_of, numbers_with, numbers_for, numbers_of, text_of}
use Rattle.profile.specs.PlanLaws.{plan_of_numbers}
use Rattle.profile.specs.declared.GrayWhite.{GrayWhite}
use Rattle.profile.specs.declared.GrayWhite.TheVariants.{Unadapted, Adapted}
use Rattle.profile.specs.declared.CurveName.{CurveName}
use Rattle.profile.specs.declared.CurveName.TheVariants as Name
use Rattle.profile.specs.declared.Curve.{Curve}
use Rattle.profile.specs.declared.Curve.TheVariants.{Named, Gamma}
use Rattle.reader_spec.specs.RefusalList.{Check, c21, c22, c23, c24, c25, c26, c27, c28, refused, accepted, number}
use Rattle.reading.specs.Reading.{name_number, curve_number, gamma_number, cicp_number, adapted_of, x_of, z_of, chad_of, text_array, plan_reading, reading}
use Rattle.demands.specs.Told.{curve_by, cicp_by, white_by, numbers_in, told}

name_back : (n : CurveName) → curve_by (name_number n) (gamma_number (Named n)) ≡ Named n
name_back Name.BT709 = refl
name_back Name.Linear = refl
name_back Name.SRGB = refl
name_back Name.DCI = refl

curve_back : (c : Curve) → curve_by (curve_number c) (gamma_number c) ≡ c
curve_back (Named n) = name_back n
curve_back (Gamma g) = refl

-- no ColourPrimaries value of a plan is 0
cicp_back : (c : Curve) (v : Option ℕ) → GoodCicp c v → cicp_by (cicp_number v) ≡ v
cicp_back c None h = refl
cicp_back (Named n) (Some v) (inl e) = rw e refl
cicp_back (Named n) (Some v) (inr (inl e)) = rw e refl
cicp_back (Named n) (Some v) (inr (inr (inl e))) = rw e refl
cicp_back (Named n) (Some v) (inr (inr (inr e))) = rw e refl
cicp_back (Gamma g) (Some v) h = absurd h

white_back : (w : GrayWhite) → white_by (adapted_of w) (x_of w) (z_of w) (chad_of w) ≡ w
white_back (Unadapted x z) = refl
white_back (Adapted m) = refl

mark_back : (m : Bool) → eqb (cond m 1 0) 1 ≡ m
mark_back true = refl
mark_back false = refl

numbers_back : (p : Plan) → GoodContent InRange p.content → numbers_in (plan_reading p) ≡ numbers_of p
numbers_back p h = go p.content h
  where
    go : (c : Content) → GoodContent InRange c → numbers_in (plan_reading (record { intent = p.intent; maker = p.maker; model = p.model; id_not_computed = p.id_not_computed; content = c }))
        ≡ numbers_with p.maker p.model (numbers_for p.intent c)
    go (gray g) h = rw (curve_back g.curve, white_back g.white)
    go (rgb g) h = rw (curve_back g.curve, cicp_back g.curve g.cicp h.cicp)
    go xyb h = refl

pub plan_told : (p : Plan) → Valid p → told (reading (accepted p)) ≡ is p
plan_told p v =
    let t = text_of p in
    let unmarked : plan_of (numbers_in (plan_reading p)) (take (length t) (text_array t)) ≡ with_mark false p =
    ap₂ plan_of (numbers_back p v.content) (take_at t (replicate (max_letters - length t) 0) (length t) refl) ∙ plan_of_numbers p
    in
    ap is (ap₂ with_mark (mark_back p.id_not_computed) unmarked)

-- ---- the refusals

abbrev pub check_by : ℕ → Check
check_by n =
    cond (eqb n 21) c21
    (cond (eqb n 22) c22 (cond (eqb n 23) c23 (cond (eqb n 24) c24 (cond (eqb n 25) c25 (cond (eqb n 26) c26 (cond (eqb n 27) c27 c28))))))

pub check_back : (c : Check) → check_by (number c) ≡ c
check_back c21 = refl
check_back c22 = refl
check_back c23 = refl
check_back c24 = refl
check_back c25 = refl
check_back c26 = refl
check_back c27 = refl
check_back c28 = refl

pub refusal_told : (c : Check) → told (reading (refused c)) ≡ refusedBy (number c)
refusal_told c = refl

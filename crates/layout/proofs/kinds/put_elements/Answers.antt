-- The elements of each kind, one after another: the law `run`, and the parts and sizes of the kind.
-- Assumes nothing.
use Rattle.std.proofs.Common.{arith, ap, length, ◌≡◌, ◌≤◌, ◌+◌}
use Rattle.profile.specs.Elements.{body_size}
use Rattle.profile.specs.Layout.{elements}
use Rattle.profile.specs.Plan.{GrayContent, RgbContent, gray, rgb, xyb}
use Rattle.profile.specs.PlanLaws.{length-xyb_text}
use Rattle.profile.specs.RunsLaws.{next, done, run}
use Rattle.profile.specs.Shape.{is_gamma, has_cicp, is_adapted, first_slots, chad_slot, cicp_slot, color_slots, curve_size}
use Rattle.xyb_constants.proofs.XybNumbersLaws.{length-chad}
use Rattle.profile.proofs.HeldContent.{held_numbers}
use Rattle.layout.proofs.KindParts.{gray_size, gray_parts, rgb_size, rgb_parts, xyb_size, xyb_parts, length-elements}
use Rattle.layout.proofs.kinds.put_elements.Goals.{In-Gray, In-Rgb}
use Rattle.layout.proofs.kinds.put_elements.Goals as goal

-- ---- gray

gray_room : (c : In-Gray) → let n = length c.args.text.now in let w = is_adapted c.in-Gray.white in
    c.args.at + (body_size (first_slots n) + body_size (chad_slot w) + curve_size (is_gamma c.in-Gray.curve)) ≤ length c.args.out.now
gray_room c =
    let r = rw c.in-Gray.is at c.requires in
    omega (arith, gray_size (length c.args.text.now) (is_gamma c.in-Gray.curve) (is_adapted c.in-Gray.white))

pub put_first_elements-at-requires : goal.put_first_elements-at-requires
put_first_elements-at-requires c = omega (arith, gray_room (goal.at.put_first_elements-at-requires c).In-Gray, c.requires.0)

pub put_gray_chad-at-requires : goal.put_gray_chad-at-requires
put_gray_chad-at-requires c = omega (arith, c.put_first_elements-at.ensures.place, gray_room (goal.at.put_gray_chad-at-requires c).In-Gray)

pub put_curve-requires : goal.put_curve-requires
put_curve-requires c =
    omega (arith, c.put_first_elements-at.ensures.place, c.put_gray_chad-at.ensures.place, gray_room (goal.at.put_curve-requires c).In-Gray)

pub returns-in-Gray : goal.returns-in-Gray
unfolding elements
returns-in-Gray c =
    let g : GrayContent = record { text = c.args.text.now; curve = c.in-Gray.curve; white = c.in-Gray.white } in
    let nines = rw c.in-Gray.is at (held_numbers c.args.plan _ c.well_formed.1.1.0) in
    rw c.in-Gray.is
    (run _ _
    (next c.put_first_elements-at.ensures
    (next c.put_gray_chad-at.ensures
    (next c.put_curve.ensures
    done))) (omega (arith, c.requires)) (gray_parts c.args.plan.intent g _ c.gray_white.ensures) (length-elements c.args.plan.intent (gray g) nines))

-- ---- RGB

rgb_room : (c : In-Rgb) → let n = length c.args.text.now in let s = color_slots (curve_size (is_gamma c.in-Rgb.curve)) in
    (c.args.at + (body_size (first_slots n) + 44 + body_size (cicp_slot (has_cicp c.in-Rgb.cicp)) + body_size s) ≤ length c.args.out.now) × (length c.in-Rgb.chad ≡ 9)
rgb_room c =
    let r = rw c.in-Rgb.is at c.requires in
    let nines = rw c.in-Rgb.is at (held_numbers c.args.plan _ c.well_formed.1.1.0) in
    (omega (arith, rgb_size (length c.args.text.now) (is_gamma c.in-Rgb.curve) (has_cicp c.in-Rgb.cicp)), nines.0)

pub put_first_elements-at-requires-in-Rgb : goal.put_first_elements-at-requires-in-Rgb
put_first_elements-at-requires-in-Rgb c = omega (arith, rgb_room (goal.at.put_first_elements-at-requires-in-Rgb c).In-Rgb, c.requires.0)

pub create_icc_chad_tag-at-requires : goal.create_icc_chad_tag-at-requires
create_icc_chad_tag-at-requires c = omega (arith, rgb_room (goal.at.create_icc_chad_tag-at-requires c).In-Rgb)

pub create_icc_cicp_tag_data-at-requires : goal.create_icc_cicp_tag_data-at-requires
create_icc_cicp_tag_data-at-requires c = omega (arith, rgb_room (goal.at.create_icc_cicp_tag_data-at-requires c).In-Rgb)

pub put_color_elements-requires : goal.put_color_elements-requires
put_color_elements-requires c = omega (arith, rgb_room (goal.at.put_color_elements-requires c).In-Rgb)

pub returns-in-Rgb : goal.returns-in-Rgb
unfolding elements
returns-in-Rgb c =
    let g : RgbContent = record { text = c.args.text.now; curve = c.in-Rgb.curve; chad = c.in-Rgb.chad; columns = c.in-Rgb.columns; cicp = c.in-Rgb.cicp } in
    let nines = rw c.in-Rgb.is at (held_numbers c.args.plan _ c.well_formed.1.1.0) in
    rw c.in-Rgb.is
    (run _ _
    (next c.put_first_elements-at-in-Rgb.ensures
    (next c.create_icc_chad_tag-at.ensures
    (next c.create_icc_cicp_tag_data-at.ensures
    (next c.put_color_elements.ensures
    done)))) (omega (arith, c.requires)) (rgb_parts c.args.plan.intent g) (length-elements c.args.plan.intent (rgb g) nines))

-- ---- XYB, whose text has seven letters and whose `chad` nine numbers

pub put_first_elements-at-requires-in-Xyb : goal.put_first_elements-at-requires-in-Xyb
put_first_elements-at-requires-in-Xyb c =
    let r = rw c.in-Xyb.is at c.requires in
    rw (ap length c.xyb_text.ensures, length-xyb_text) (omega (arith, xyb_size))

pub create_icc_chad_tag-at-requires-in-Xyb : goal.create_icc_chad_tag-at-requires-in-Xyb
create_icc_chad_tag-at-requires-in-Xyb c =
    let r = rw c.in-Xyb.is at c.requires in
    let first = rw (ap length c.xyb_text.ensures, length-xyb_text) at c.put_first_elements-at-in-Xyb.ensures.place in
    rw (ap length c.chad.ensures, length-chad) (omega (arith, xyb_size))

pub create_icc_lut_atob_tag_for_xyb-at-requires : goal.create_icc_lut_atob_tag_for_xyb-at-requires
create_icc_lut_atob_tag_for_xyb-at-requires c =
    let r = rw c.in-Xyb.is at c.requires in
    let first = rw (ap length c.xyb_text.ensures, length-xyb_text) at c.put_first_elements-at-in-Xyb.ensures.place in
    let second = rw (ap length c.chad.ensures, length-chad) at c.create_icc_chad_tag-at-in-Xyb.ensures.place in
    omega (arith, xyb_size)

pub create_icc_noop_btoa_tag-requires : goal.create_icc_noop_btoa_tag-requires
create_icc_noop_btoa_tag-requires c =
    let r = rw c.in-Xyb.is at c.requires in
    let first = rw (ap length c.xyb_text.ensures, length-xyb_text) at c.put_first_elements-at-in-Xyb.ensures.place in
    let second = rw (ap length c.chad.ensures, length-chad) at c.create_icc_chad_tag-at-in-Xyb.ensures.place in
    omega (arith, xyb_size)

pub returns-in-Xyb : goal.returns-in-Xyb
unfolding elements
returns-in-Xyb c =
    rw c.in-Xyb.is
    (run _ _
    (next c.put_first_elements-at-in-Xyb.ensures
    (next c.create_icc_chad_tag-at-in-Xyb.ensures
    (next c.create_icc_lut_atob_tag_for_xyb-at.ensures
    (next c.create_icc_noop_btoa_tag.ensures
    done)))) (omega (arith, c.requires)) (xyb_parts c.args.plan.intent _ _ c.xyb_text.ensures c.chad.ensures) (length-elements c.args.plan.intent xyb tt))

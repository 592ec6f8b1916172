-- What the plan of an encoding has from that of its color encoding. Assumes nothing.
use Rattle.std.specs.Prelude.{◌≡◌, refl, Bool, false}
use Rattle.std.proofs.Common.{sym, ap, ◌∙◌}
use Rattle.buffer.specs.Checked.{Checked, is, refused, then}
use Rattle.buffer.specs.CheckedLaws.{both}
use Rattle.numbers.specs.Rounded.{counted}
use Rattle.color_encoding.specs.declared.JxlColorEncoding.{JxlColorEncoding}
use Rattle.color_encoding.specs.declared.JxlColorEncoding.TheVariants.{RgbColorSpace, GrayscaleColorSpace, XYB}
use Rattle.color_encoding.specs.Coordinates.{white_xy, primaries_xy}
use Rattle.profile.specs.Plan.{Plan, plain_plan, with_device}
use Rattle.encoding_plan.specs.PlanOf.{supported, curve_of, cicp_of, gray_white, chad_numbers, column_numbers, gray_plan, rgb_plan, xyb_plan, color_plan, plan_of}
use Rattle.encoding_plan.specs.FixedFloats.{fixed_floats, counted_plan}
use Rattle.encoding_plan.specs.EncodingPlan.{encoding_plan, plain_encoding, counted_encoding_plan}
use Rattle.encoding_plan.specs.declared.Encoding.{Encoding}

-- ---- the plan of a color encoding is a plain one

abbrev Plain : Plan → Type 0
Plain p = plain_plan p.intent p.content ≡ p

plain_is : (q : Plan) {p : Plan} → Plain q → is q ≡ is p → Plain p
plain_is q {p} h e = let same : q ≡ p = cc e in rw (← same) h

plain_planned : (a : Bool) (c : JxlColorEncoding) {p : Plan} → color_plan a c ≡ is p → Plain p
unfolding color_plan
plain_planned a (GrayscaleColorSpace w t i) e =
    let curve = both (supported t) _ e in
    let white = both (gray_white a (white_xy w)) _ curve.second in
    let last = both (curve_of curve.value) _ white.second in
    plain_is (gray_plan (GrayscaleColorSpace w t i) i last.value white.value) refl last.second
plain_planned a (RgbColorSpace w q t i) e =
    let curve = both (supported t) _ e in
    let chad = both (chad_numbers (white_xy w)) _ curve.second in
    let columns = both (column_numbers (primaries_xy q) (white_xy w)) _ chad.second in
    let last = both (curve_of curve.value) _ columns.second in
    plain_is (rgb_plan (RgbColorSpace w q t i) i last.value (cicp_of w q last.value) chad.value columns.value) refl last.second
plain_planned a (XYB i) e = plain_is (xyb_plan i) refl e

pub plain_fields : (a : Bool) (c : JxlColorEncoding) {p : Plan} → color_plan a c ≡ is p → (p.maker ≡ 0) × (p.model ≡ 0) × (p.id_not_computed ≡ false)
plain_fields a c h =
    let e = plain_planned a c h in
    (ap (λ (p : Plan). p.maker) (sym e), ap (λ (p : Plan). p.model) (sym e), ap (λ (p : Plan). p.id_not_computed) (sym e))

-- ---- with zeros for maker and model the plan of an encoding is that of its color encoding

pub plain_plan_lem : (c : JxlColorEncoding) → encoding_plan (plain_encoding c) ≡ plan_of c
plain_plan_lem c = go (plan_of c) refl
  where
    go : (r : Checked Plan) → plan_of c ≡ r → then r (λ p. is (with_device 0 0 p)) ≡ r
    go (is p) e = let plain = plain_planned false c e in ap is (ap (with_device 0 0) (sym plain) ∙ plain)
    go (refused k) e = refl

pub plain_counted : (c : JxlColorEncoding) → counted_encoding_plan (plain_encoding c) ≡ counted_plan c
plain_counted c = ap (counted (fixed_floats c)) (plain_plan_lem c)

-- ---- of another maker and model

-- the plan of its color encoding, with these two
pub record FromColor (e : Encoding) (q : Plan) : Type 0 where
  pub plan : Plan
  pub color_plan_lem : color_plan e.adapted e.color ≡ is plan
  pub device : with_device e.maker e.model plan ≡ q

pub from_color : (e : Encoding) {q : Plan} → encoding_plan e ≡ is q → FromColor e q
from_color e h =
    let b = both (color_plan e.adapted e.color) _ h in
    record { plan = b.value; color_plan_lem = b.first; device = cc b.second }

-- it never has the mark "id not computed"
pub never_marked : (e : Encoding) {q : Plan} → encoding_plan e ≡ is q → q.id_not_computed ≡ false
never_marked e h =
    let d = from_color e h in
    ap (λ (p : Plan). p.id_not_computed) (sym d.device) ∙ (plain_fields e.adapted e.color d.color_plan_lem).2

pub planned : (e : Encoding) {p : Plan} → color_plan e.adapted e.color ≡ is p → encoding_plan e ≡ is (with_device e.maker e.model p)
planned e h = ap (λ (c : Checked Plan). then c (λ p. is (with_device e.maker e.model p))) h

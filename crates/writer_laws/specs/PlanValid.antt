-- Every plan of an encoding that the writer accepts is one of 01's plans: its text has 1 to 372 bytes, each at most 127, its numbers are in
-- range, nine and nine, and `cicp` stands beside a named curve only. The floats of the encoding are binary32 values, as those of the code are.
-- Assumes nothing.
use Rattle.std.specs.Prelude.{◌≡◌, Bool}
use Rattle.std.proofs.Common.{arith}
use Rattle.buffer.specs.Checked.{is}
use Rattle.color_encoding.specs.IntentLaws.{intent_number_le}
use Rattle.color_encoding.specs.Coordinates.{white_xy, primaries_xy}
use Rattle.color_encoding.specs.declared.JxlColorEncoding.{JxlColorEncoding}
use Rattle.color_encoding.specs.declared.JxlColorEncoding.TheVariants.{RgbColorSpace, GrayscaleColorSpace, XYB}
use Rattle.text.specs.Held.{HeldEncoding}
use Rattle.profile.specs.Plan.{Plan, FourBytes, Valid}
use Rattle.encoding_plan.specs.PlanOf.{xyb_plan, color_plan}
use Rattle.encoding_plan.specs.EncodingPlan.{encoding_plan}
use Rattle.encoding_plan.specs.EncodingPlanLaws.{from_color}
use Rattle.encoding_plan.specs.declared.Encoding.{Encoding}
use Rattle.encoding_plan.specs.WhiteLaws.{white_in_range_lem}
use Rattle.writer_laws.specs.PlanLaws.{chad_nine, chad_within, columns_nine, columns_within, white_good, curve_good, cicp_good_lem, text_good, gray_parts, rgb_parts}

pub plan_valid : (a : Bool) (e : JxlColorEncoding) → HeldEncoding e → {p : Plan} → color_plan a e ≡ is p → Valid p
unfolding color_plan
plan_valid a (GrayscaleColorSpace w t i) held {p} e =
    let g = gray_parts a w t i e in
    rw (← g.plan_is)
    (record {
      intent = intent_number_le i;
      maker = omega arith;
      model = omega arith;
      content =
          record {
            text = text_good (GrayscaleColorSpace w t i) held tt;
            curve = curve_good g.support g.curve_is;
            white = white_good a (white_xy w) g.white_is;
          };
    })
plan_valid a (RgbColorSpace w q t i) held {p} e =
    let g = rgb_parts a w q t i e in
    rw (← g.plan_is)
    (record {
      intent = intent_number_le i;
      maker = omega arith;
      model = omega arith;
      content =
          record {
            text = text_good (RgbColorSpace w q t i) held (white_in_range_lem w g.chad_is);
            curve = curve_good g.support g.curve_is;
            chad_nine = chad_nine (white_xy w) g.chad_is;
            chad = chad_within (white_xy w) g.chad_is;
            columns_nine = columns_nine (primaries_xy q) (white_xy w) g.columns_are;
            columns = columns_within (primaries_xy q) (white_xy w) g.columns_are;
            cicp = cicp_good_lem w q g.curve;
          };
    })
plan_valid a (XYB i) held {p} e =
    let same : xyb_plan i ≡ p = cc in
    rw (← same) (record { intent = intent_number_le i; maker = omega arith; model = omega arith; content = tt })

-- with any maker and model of four bytes
pub encoding_plan_valid : (e : Encoding) → HeldEncoding e.color → FourBytes e.maker → FourBytes e.model → {q : Plan} → encoding_plan e ≡ is q → Valid q
encoding_plan_valid e held maker model h =
    let d = from_color e h in
    let v = plan_valid e.adapted e.color held d.color_plan_lem in
    rw (← d.device) (record { intent = v.intent; maker = maker; model = model; content = v.content })

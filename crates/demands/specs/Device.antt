-- Order 6, "Maker and model in the header": zeros give the old files; other files equal the old ones with these eight bytes and the id changed; what the
-- writer answers does not depend on the two. (That the dry call answers so is in DryCall, that written files are read back with them in Demand3.)
-- Assumes nothing.
use Rattle.std.specs.Prelude.{ℕ, ◌≡◌, Bool, false, List, length, take, get_or}
use Rattle.std.proofs.Common.{sym, ◌∙◌}
use Rattle.buffer.specs.Checked.{is}
use Rattle.color_encoding.specs.declared.JxlColorEncoding.{JxlColorEncoding}
use Rattle.profile.specs.Plan.{Plan}
use Rattle.profile.specs.Layout.{layout}
use Rattle.profile.specs.LayoutLaws.{length-device}
use Rattle.encoding_plan.specs.PlanOf.{color_plan, plan_of}
use Rattle.encoding_plan.specs.EncodingPlan.{encoding_as, plain_encoding, encoding_plan, counted_encoding_plan}
use Rattle.encoding_plan.specs.EncodingPlanLaws.{plain_fields, plain_plan_lem, from_color}
use Rattle.encoding_plan.specs.declared.Encoding.{Encoding}
use Rattle.writer.specs.Writer.{profile, answer, Creates}
use Rattle.writer.specs.WriterLaws.{any_device}
use Rattle.demands.specs.OldFiles.{old_layout, patched, Elsewhere}
use Rattle.demands.specs.DeviceLaws as Laws
use Rattle.demands.specs.Demand3.{written}

-- ---- zeros

-- of a plan whose id is computed, as that of an encoding is
pub zeros_old : (p : Plan) → p.id_not_computed ≡ false → p.maker ≡ 0 → p.model ≡ 0 → layout p ≡ old_layout p
zeros_old p m a b = Laws.zeros_old p m a b

-- the plan of a job's entry and of a typed text is that of its color encoding, with zeros
pub plain_zeros : (c : JxlColorEncoding) → encoding_plan (plain_encoding c) ≡ plan_of c
plain_zeros c = plain_plan_lem c

-- ---- other makers and models: q is the plan of an encoding, and `plan` that of its color encoding

pub record Differs (e : Encoding) (q : Plan) : Type 0 where
  pub plan : Plan
  pub color_plan_lem : color_plan e.adapted e.color ≡ is plan
  pub old : layout plan ≡ old_layout plan
  pub new : layout q ≡ patched e.maker e.model (layout plan)
  pub same_length : length (layout q) ≡ length (layout plan)
  pub elsewhere : (i : ℕ) → Elsewhere i → get_or (layout q) i 0 ≡ get_or (layout plan) i 0

pub differs : (e : Encoding) {q : Plan} → encoding_plan e ≡ is q → Differs e q
differs e h =
    let d = from_color e h in
    let p = d.plan in
    let (maker, model, mark) = plain_fields e.adapted e.color d.color_plan_lem in
    rw (← d.device)
    (record {
      plan = p;
      color_plan_lem = d.color_plan_lem;
      old = zeros_old p mark maker model;
      new = Laws.new p mark e.maker e.model;
      same_length = length-device p e.maker e.model;
      elsewhere = Laws.elsewhere p mark e.maker e.model;
    })

-- the length, the count of rounded numbers and the refusal, on an output of n bytes
pub same_answer : (m : Bool) (c : JxlColorEncoding) (a b maker model n : ℕ) → answer (counted_encoding_plan (encoding_as m a b c)) n ≡ answer (counted_encoding_plan (encoding_as m maker model c)) n
same_answer m c a b maker model n = any_device (encoding_as m a b c) n ∙ sym (any_device (encoding_as m maker model c) n)

-- ---- running code: `maybe_create_profile` ensures `Creates`

pub written_patched : (e : Encoding) (n : ℕ) {k : ℕ} (before after : List ℕ) → Creates e before after (profile n k)
    → (p : Plan) × (color_plan e.adapted e.color ≡ is p) × (take n after ≡ patched e.maker e.model (layout p))
written_patched e n before after w =
    let p = written e n before after w in
    let d = differs e p.its_plan in
    (d.plan, d.color_plan_lem, p.laid_out ∙ d.new)

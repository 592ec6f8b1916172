-- Order 5, "was the number rounded?": the count that a call answers beside a length is that of the floats behind the file's numbers, which are as many as
-- the file has; a refusal has none; the dry call counts as the writer does. In Rattle and from C. Assumes nothing.
use Rattle.std.specs.Prelude.{ℕ, ◌≤◌, ◌≡◌, List, length}
use Rattle.std.proofs.Common.{sym, ap, ◌∙◌, arith}
use Rattle.buffer.specs.Checked.{Checked, is, refused}
use Rattle.numbers.specs.Rounded.{rounded_in}
use Rattle.profile.specs.Plan.{Plan}
use Rattle.encoding_plan.specs.EncodingPlan.{encoding_plan}
use Rattle.encoding_plan.specs.EncodingPlanLaws.{from_color}
use Rattle.encoding_plan.specs.declared.Encoding.{Encoding}
use Rattle.encoding_plan.specs.FixedFloats.{color_floats}
use Rattle.writer.specs.Writer.{profile, profile_by, count_after, Creates}
use Rattle.writer.specs.declared.Written.{Written}
use Rattle.writer_laws.specs.FileNumbers.{number_count}
use Rattle.writer_laws.specs.NumbersOfFloats.{most_rounded}
use Rattle.coded_writer.specs.CodedWriter.{code_answer, WritesCounted, MeasuresCounted}
use Rattle.demands.specs.Demand3Laws.{count_of}

-- ---- `maybe_create_profile` ensures `Creates`; the dry call answers the same (DryCall)

pub record CountedIts (e : Encoding) (k : ℕ) : Type 0 where
  pub plan : Plan
  pub its_plan : encoding_plan e ≡ is plan
  pub rounded : k ≡ rounded_in (color_floats e.adapted e.color)
  pub most : k ≤ number_count plan.content

pub counted_its : (e : Encoding) {n k : ℕ} (before after : List ℕ) → Creates e before after (profile n k) → CountedIts e k
counted_its e before after w =
    let c = count_of (color_floats e.adapted e.color) (encoding_plan e) (length before) w.writes.answer in
    let d = from_color e c.1 in
    record { plan = c.0; its_plan = c.1; rounded = c.2; most = rw (← d.device) (omega (arith, c.2, most_rounded e.adapted e.color d.color_plan_lem)) }

-- ---- from C: the calls that write and count ensure `WritesCounted`, the dry ones `MeasuresCounted`; the count was k at entry and is m at exit

module _ (c : Checked Encoding) where
  -- the number and the count tell the whole answer
  pub written_told : (before after : List ℕ) {k m r : ℕ} → WritesCounted c before after k m r → profile_by r m ≡ code_answer c (length before)
  written_told before after {k} {m} {r} w = ap (profile_by r) w.rounded ∙ w.writes.told k

  pub measured_told : (n : ℕ) {k m r : ℕ} → MeasuresCounted c n k m r → profile_by r m ≡ code_answer c n
  measured_told n {k} {m} {r} d = ap (profile_by r) d.rounded ∙ d.measures.told k

  -- a refusal leaves the count
  pub refused_leaves : (before after : List ℕ) {k m r j : ℕ} → WritesCounted c before after k m r → code_answer c (length before) ≡ refused j → m ≡ k
  refused_leaves before after {k} w h = w.rounded ∙ ap (λ (a : Checked Written). count_after a k) h

  -- the dry call with the output's length counts as the writer does
  pub same_count : (before after : List ℕ) {k m l r s : ℕ} → WritesCounted c before after k m r → MeasuresCounted c (length before) k l s → (s ≡ r) × (l ≡ m)
  same_count before after w d = (d.measures.answer ∙ sym w.writes.writes.answer, d.rounded ∙ sym w.rounded)

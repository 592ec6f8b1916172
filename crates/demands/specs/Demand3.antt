-- Demand 3, whole, over what the calls hand out: the struct that `read` answers, the answer and the record of `merqyduk_read`, and the answer and the
-- output of `maybe_create_profile`. `layout` is what a plan lays out to, `told` the plan that the reader's struct tells, `reading_by` the struct that a
-- C struct's bytes tell. Assumes nothing.
use Rattle.std.specs.Prelude.{ℕ, ◌≤◌, ◌≡◌, ◌↔◌, false, List, length, take}
use Rattle.std.proofs.Common.{sym, ap, subst}
use Rattle.buffer.specs.Checked.{Checked, is, refused}
use Rattle.profile.specs.Plan.{Plan}
use Rattle.profile.specs.PlanLaws.{unmarked}
use Rattle.profile.specs.Shape.{min_length, max_length}
use Rattle.profile.specs.Layout.{layout}
use Rattle.encoding_plan.specs.FixedFloats.{color_floats}
use Rattle.encoding_plan.specs.EncodingPlan.{encoding_plan}
use Rattle.encoding_plan.specs.EncodingPlanLaws.{from_color, never_marked}
use Rattle.encoding_plan.specs.declared.Encoding.{Encoding}
use Rattle.writer.specs.Writer.{profile, Creates}
use Rattle.writer_laws.specs.PlanValid.{encoding_plan_valid}
use Rattle.reader_spec.specs.Exists.{Exists}
use Rattle.reader_spec.specs.FileLaws.{computed_exists}
use Rattle.reader_spec.specs.RefusalList.{Check, FirstFailing, checks, number}
use Rattle.reader_spec.specs.Read.{read}
use Rattle.reader_spec.specs.Owners.{Owned}
use Rattle.reader_spec.proofs.Accepts as Accepts
use Rattle.reading.specs.Reading.{reading}
use Rattle.reading.specs.declared.Reading.{Reading}
use Rattle.plan_record.specs.PlanRecord.{record_size, reading_by}
use Rattle.host.specs.Host.{ReadsPlan}
use Rattle.demands.specs.Told.{told}
use Rattle.demands.specs.Demand3Laws as Laws
use Rattle.demands.specs.Demand3Laws.{front_of}

-- `read` ensures that it answers r to the file f
abbrev pub Reads : List ℕ → Checked Reading → Type 0
Reads f r = r ≡ reading (read f)

-- ---- the reader

module _ (f : List ℕ) (r : Checked Reading) (h : Reads f r) where
  -- it accepts a file exactly when some plan lays out to those bytes, id included
  pub accepts : ((a : Reading) × (r ≡ is a)) ↔ ((p : Plan) × Exists p × (layout p ≡ f))
  accepts = Laws.accepts f r h

  -- it answers that plan
  pub answers : (p : Plan) → (told r ≡ is p) ↔ (Exists p × (layout p ≡ f))
  answers p = Laws.answers f r h p

  -- it refuses by the number of the first check of 01's list that the file does not pass
  pub refuses : (c : Check) → (told r ≡ refused (number c)) ↔ FirstFailing f checks c
  refuses c = Laws.refuses f r h c

  -- each byte of an accepted file has exactly one owner, and the length is the sum; there are 284 to 1,240
  pub owned : (a : Reading) → r ≡ is a → Owned f × (min_length ≤ length f) × (length f ≤ max_length)
  owned a e = Laws.owned f r h a e

-- no other plan lays out to the same bytes
pub one_plan : (p q : Plan) → Exists p → Exists q → layout p ≡ layout q → p ≡ q
one_plan p q v w e = Accepts.one_plan p q v w e

-- ---- the reader from C

-- `merqyduk_read` ensures that it answers r to the file f, and that the record that it was lent holds `after` at exit, `before` at entry
abbrev pub ReadsInC : List ℕ → List ℕ → List ℕ → ℕ → Type 0
ReadsInC f before after r = ReadsPlan (reading (read f)) before after r

module _ (f before after : List ℕ) (r : ℕ) (h : ReadsInC f before after r) where
  -- it answers 0 exactly when some plan lays out to the file and the record has room for the struct
  pub accepts_in_c : (r ≡ 0) ↔ (((p : Plan) × Exists p × (layout p ≡ f)) × (record_size ≤ length before))
  accepts_in_c = Laws.accepts_in_c f before after r h

  -- then the bytes of the record tell that plan, as the reader's struct does
  pub answers_in_c : r ≡ 0 → (p : Plan) → (told (is (reading_by after)) ≡ is p) ↔ (Exists p × (layout p ≡ f))
  answers_in_c zero p = Laws.answers f (is (reading_by after)) (Laws.stored_is f before after r h zero) p

  -- it answers the number of the first check of 01's list that the file does not pass, however long the record is
  pub refuses_in_c : (c : Check) → (r ≡ number c) ↔ FirstFailing f checks c
  refuses_in_c c = Laws.refuses_in_c f before after r h c

-- ---- the writer

-- the first n bytes of an output are the encoding's plan laid out, which has its maker and model and never the mark "id not computed", and the reader
-- answers that plan to them
pub record WroteItsPlan (e : Encoding) (n : ℕ) (after : List ℕ) : Type 0 where
  pub plan : Plan
  pub its_plan : encoding_plan e ≡ is plan
  pub its_device : (plan.maker ≡ e.maker) × (plan.model ≡ e.model)
  pub computed : plan.id_not_computed ≡ false
  pub exists : Exists plan
  pub laid_out : take n after ≡ layout plan
  pub read_back : (r : Checked Reading) → Reads (take n after) r → told r ≡ is plan

-- `maybe_create_profile` ensures `Creates`
pub written : (e : Encoding) (n : ℕ) {k : ℕ} (before after : List ℕ) → Creates e before after (profile n k) → WroteItsPlan e n after
written e n before after w =
    let p = front_of (color_floats e.adapted e.color) (encoding_plan e) before after w.writes.answer w.writes.output in
    let computed = never_marked e p.1 in
    let exists : Exists p.0 =
    subst Exists (unmarked p.0 computed) (computed_exists p.0 (encoding_plan_valid e w.held w.maker w.model p.1)) in
    let device = (from_color e p.1).device in
    record {
      plan = p.0;
      its_plan = p.1;
      its_device = (ap (λ (q : Plan). q.maker) (sym device), ap (λ (q : Plan). q.model) (sym device));
      computed = computed;
      exists = exists;
      laid_out = p.2;
      read_back = λ r h. (answers (take n after) r h p.0).1 (exists, sym p.2);
    }

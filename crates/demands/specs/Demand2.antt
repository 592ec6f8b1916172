-- Demand 2 of the writer, for the encodings that the Rust has, with any maker and model: with a curve other than PQ and HLG, writing succeeds exactly if `validate_icc_matrix` does, a gamma's reciprocal fits and the
-- output is not shorter than the profile; 1,200 bytes are enough. So writing XYB always succeeds with enough output, 720 bytes (02, order 8). And where
-- `validate_icc_matrix` refuses, the writer refuses by a number that its answer stands for. (Gray with the mark "adapted" is in AdaptedGray.) Assumes nothing.
use Rattle.std.specs.Prelude.{Ok, ℕ, ◌≤◌, ◌≡◌, refl, ◌↔◌, Bool, true, false, cond, leb, length}
use Rattle.std.proofs.Common.{sym, ap, ◌∙◌, le_trans}
use Rattle.buffer.specs.Checked.{Checked, is, refused}
use Rattle.buffer.specs.CheckedLaws.{Passes}
use Rattle.numbers.specs.Rounded.{rounded_in, counted}
use Rattle.color_encoding.specs.declared.RenderingIntent.{RenderingIntent}
use Rattle.color_encoding.specs.declared.JxlColorEncoding.{JxlColorEncoding}
use Rattle.color_encoding.specs.declared.JxlColorEncoding.TheVariants.{RgbColorSpace, GrayscaleColorSpace, XYB}
use Rattle.text.specs.Held.{HeldEncoding}
use Rattle.profile.specs.Layout.{layout}
use Rattle.encoding_plan.specs.PlanOf.{xyb_plan, plan_of}
use Rattle.encoding_plan.specs.FixedFloats.{fixed_floats, counted_plan}
use Rattle.encoding_plan.specs.EncodingPlan.{encoding_with, counted_encoding_plan}
use Rattle.encoding_plan.specs.declared.Encoding.{Encoding}
use Rattle.validate.specs.Validate.{in_range, stands_for, validation, validate_icc_matrix}
use Rattle.writer.specs.Writer.{profile, answer, max_written, too_short}
use Rattle.writer.specs.WriterLaws.{any_device}
use Rattle.writer_laws.specs.RefusalList.{Ok1, Ok8, Ok9}
use Rattle.writer_laws.proofs.WrittenLength.{written_length}
use Rattle.demands.specs.Demand2Laws.{valid_if, named, has_plan, has_room, written, gray_planned, gray_plan_if, gray_refused, rgb_planned, rgb_plan_if, rgb_refused, xyb_planned, xyb_valid, xyb_answered, xyb_refused}

-- ---- the conditions; those that the refusal list names too are its own: 1, that the curve is neither PQ nor HLG, and 9, that the output is not shorter than
-- the profile, among them

pub record Acceptable (e : JxlColorEncoding) : Type 0 where
  pub matrix : validate_icc_matrix e ≡ Ok tt
  -- where the curve is a gamma g, 1 / g, divided in f32, has a fixed number
  pub gamma : Ok8 e

-- what `maybe_create_profile` answers for an output of n bytes is a length, with the count of rounded numbers
pub record Succeeds (e : Encoding) (n : ℕ) : Type 0 where
  pub size : ℕ
  pub rounded : ℕ
  pub answers : answer (counted_encoding_plan e) n ≡ profile size rounded

-- what it answers is a number that the answer of `validate_icc_matrix` stands for
pub record RefusesAsNamed (e : Encoding) (n : ℕ) : Type 0 where
  pub number : ℕ
  pub answers : answer (counted_encoding_plan e) n ≡ refused number
  pub named : stands_for (validate_icc_matrix e.color) number ≡ true

-- ---- the theorems

pub succeeds_exactly_if : (c : JxlColorEncoding) (maker model : ℕ) → Ok1 c → (n : ℕ) → Succeeds (encoding_with maker model c) n ↔ (Acceptable c × Ok9 false c n)
succeeds_exactly_if c maker model h n =
    (λ s. (acceptable c (has_plan false c n (answers s)), has_room false c n (answers s)), λ a. succeeds (plan c h a.0) a.1)
  where
    e : Encoding
    e = encoding_with maker model c

    answers : (s : Succeeds e n) → answer (counted_plan c) n ≡ profile s.size s.rounded
    answers s = sym (any_device e n) ∙ s.answers

    acceptable : (e : JxlColorEncoding) → Passes (plan_of e) → Acceptable e
    acceptable (GrayscaleColorSpace w t i) p = let a = gray_planned w t i p.given in record { matrix = ap validation a.0; gamma = a.1 }
    acceptable (RgbColorSpace w q t i) p = let a = rgb_planned w q t i p.given in record { matrix = ap validation a.0; gamma = a.1 }
    acceptable (XYB i) p = record { matrix = xyb_valid i; gamma = tt }

    plan : (e : JxlColorEncoding) → Ok1 e → Acceptable e → Passes (plan_of e)
    plan (GrayscaleColorSpace w t i) h a = gray_plan_if w t i h a.gamma (valid_if _ a.matrix)
    plan (RgbColorSpace w q t i) h a = rgb_plan_if w q t i h a.gamma (valid_if _ a.matrix)
    plan (XYB i) h a = record { value = xyb_plan i; given = xyb_planned i }

    succeeds : Passes (plan_of c) → Ok9 false c n → Succeeds e n
    succeeds p room =
        record { size = length (layout p.value); rounded = rounded_in (fixed_floats c); answers = any_device e n ∙ written false c n p.given (room p.value p.given) }

-- whatever the intent, the maker and the model
pub xyb_answer : (i : RenderingIntent) (maker model n : ℕ) → answer (counted_encoding_plan (encoding_with maker model (XYB i))) n ≡ cond (leb 720 n) (profile 720 30) (refused too_short)
xyb_answer i maker model n = any_device (encoding_with maker model (XYB i)) n ∙ xyb_answered i n

-- the floats of the encoding are binary32 values, as those of the code are
pub enough_output : (a : Bool) (e : JxlColorEncoding) → HeldEncoding e → (n : ℕ) → max_written ≤ n → Ok9 a e n
enough_output a e held n enough p h = le_trans (written_length a e held h).1 enough

pub refuses_as_named : (c : JxlColorEncoding) (maker model : ℕ) → Ok1 c → (validate_icc_matrix c ≡ Ok tt → ⊥) → (n : ℕ) → RefusesAsNamed (encoding_with maker model c) n
refuses_as_named c maker model h invalid n = go (in_range c) refl
  where
    refuses : (e : JxlColorEncoding) → Ok1 e → {k : ℕ} → in_range e ≡ refused k → plan_of e ≡ refused k
    refuses (GrayscaleColorSpace w t i) h r = gray_refused w t i h r
    refuses (RgbColorSpace w q t i) h r = rgb_refused w q t i h r
    refuses (XYB i) h r = xyb_refused i r

    go : (v : Checked (Unit {0})) → in_range c ≡ v → RefusesAsNamed (encoding_with maker model c) n
    go (is u) r = absurd (invalid (ap validation r))
    go (refused k) r =
        record {
          number = k;
          answers = any_device (encoding_with maker model c) n ∙ ap (λ p. answer (counted (fixed_floats c) p) n) (refuses c h r);
          named = ap (λ v. stands_for (validation v) k) r ∙ named c r;
        }

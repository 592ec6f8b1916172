-- Order 8, "XYB with other intents": Perceptual files keep their bytes; the file of another intent is the Perceptual one with the intent in header byte 67, the
-- matching text and a new id; the writer never answers 2; the reader knows all four, refuses a text of another intent by 26, and leaves 24 for intents above
-- 3. (That writing XYB always succeeds with enough output is `xyb_answer` of Demand2.) Assumes nothing.
use Rattle.std.specs.Prelude.{ℕ, ◌<◌, ◌≡◌, List, length, take}
use Rattle.std.proofs.Common.{sym, ◌∙◌}
use Rattle.buffer.specs.Checked.{is, refused as refusedBy, Checked}
use Rattle.color_encoding.specs.Intent.{intent_number}
use Rattle.color_encoding.specs.declared.RenderingIntent.{RenderingIntent}
use Rattle.color_encoding.specs.declared.RenderingIntent.TheVariants.{Perceptual}
use Rattle.color_encoding.specs.declared.JxlColorEncoding.TheVariants.{XYB}
use Rattle.text.specs.Description.{description}
use Rattle.profile.specs.Plan.{FourBytes}
use Rattle.profile.specs.Layout.{xyb_text, with_id, layout}
use Rattle.encoding_plan.specs.EncodingPlan.{encoding_with, encoding_plan, counted_encoding_plan}
use Rattle.encoding_plan.specs.declared.Encoding.{Encoding}
use Rattle.writer.specs.Writer.{profile, answer, Creates}
use Rattle.writer.specs.WriterLaws.{any_device}
use Rattle.writer_laws.proofs.RefusalNumbers as RefusalNumbers
use Rattle.reader_spec.specs.Table.{varying_of}
use Rattle.reader_spec.specs.RefusalList.{accepted, refused, c24, c26}
use Rattle.reader_spec.specs.Read.{read}
use Rattle.reading.specs.declared.Reading.{Reading}
use Rattle.demands.specs.Told.{told}
use Rattle.demands.specs.Demand3.{Reads}
use Rattle.demands.specs.XybFiles.{xyb_plan_with, old_xyb_file, with_byte67, patched_xyb}
use Rattle.demands.specs.XybIntentsLaws as Laws

-- ---- the files

module _ (maker model : ℕ) where
  pub its_plan : (i : RenderingIntent) → encoding_plan (encoding_with maker model (XYB i)) ≡ is (xyb_plan_with maker model i)
  its_plan i = Laws.its_plan maker model i

  pub perceptual_kept : layout (xyb_plan_with maker model Perceptual) ≡ old_xyb_file maker model
  perceptual_kept = Laws.perceptual_kept maker model

  pub patched : (i : RenderingIntent) → layout (xyb_plan_with maker model i) ≡ patched_xyb i (layout (xyb_plan_with maker model Perceptual))
  patched i = Laws.patched maker model i

  pub length-720 : (i : RenderingIntent) → length (layout (xyb_plan_with maker model i)) ≡ 720
  length-720 i = Laws.length-720 maker model i

-- the text is what `get_color_encoding_description` gives
pub matching_text : (i : RenderingIntent) → xyb_text (intent_number i) ≡ description (XYB i)
matching_text i = Laws.matching_text i

-- ---- the writer

pub never_2 : (e : Encoding) (n : ℕ) → ¬ (answer (counted_encoding_plan e) n ≡ refusedBy 2)
never_2 e n h = RefusalNumbers.never_2 e.adapted e.color n (sym (any_device e n) ∙ h)

-- running code: `maybe_create_profile` ensures `Creates`
pub written_patched : (maker model : ℕ) (i : RenderingIntent) {n k : ℕ} (before after : List ℕ)
    → Creates (encoding_with maker model (XYB i)) before after (profile n k) → take n after ≡ patched_xyb i (old_xyb_file maker model)
written_patched maker model i before after w = Laws.written_patched maker model i before after w

-- ---- the reader

module _ (maker model : ℕ) (a : FourBytes maker) (b : FourBytes model) where
  pub known : (i : RenderingIntent) → read (layout (xyb_plan_with maker model i)) ≡ accepted (xyb_plan_with maker model i)
  known i = Laws.known maker model a b i

  -- a file of intent j whose header says i, whatever stands in place of its id
  pub another_text : (i j : RenderingIntent) → ¬ (i ≡ j) → (id : List ℕ) → length id ≡ 16
      → read (with_byte67 i (with_id id (xyb_plan_with maker model j))) ≡ refused c26
  another_text i j other id sixteen = Laws.another_text maker model a b i j id sixteen other

-- running code: what `maybe_create_profile` wrote for j, with i in byte 67, as `read` answers to it
pub written_another : (maker model : ℕ) (i j : RenderingIntent) → ¬ (i ≡ j) → {n k : ℕ} (before after : List ℕ)
    → Creates (encoding_with maker model (XYB j)) before after (profile n k) → (r : Checked Reading) → Reads (with_byte67 i (take n after)) r → told r ≡ refusedBy 26
written_another maker model i j other before after w r reads = Laws.written_26 maker model i j other before after w r reads

pub only_above_3 : (f : List ℕ) → read f ≡ refused c24 → 3 < (varying_of f).intent
only_above_3 f h = Laws.only_above_3 f h

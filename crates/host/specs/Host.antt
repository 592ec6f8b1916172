-- The calls from C on jobs, files, texts and segments: what each answers, and what it leaves in what it is lent. The numbers are those of 01's refusal list.
-- (A call that takes an encoding by codes promises what `CodedWriter` of coded_writer says; one that writes the profile of an entry of a job, what
-- `ProfileOf` of job_output says, its answer as one number.) Assumes nothing.
use Rattle.std.specs.Prelude.{Option, Some, None, ℕ, ◌≡◌, cond, List, eqb, leb, length}
use Rattle.buffer.specs.Buffer.{put}
use Rattle.buffer.specs.Checked.{Checked, is, refused, value_or, then}
use Rattle.color_encoding.specs.declared.JxlColorEncoding.{JxlColorEncoding}
use Rattle.profile.specs.Elements.{Entry}
use Rattle.writer.specs.Writer.{too_short}
use Rattle.reading.specs.declared.Reading.{Reading}
use Rattle.plan_record.specs.PlanRecord.{record_size, plan_record}
use Rattle.encoding_record.specs.EncodingRecord.{encoding_size, encoding_record}
use Rattle.app2.specs.App2 as App2

-- ---- a job: how many entries it has

-- 0 for a good job; 41, 42 or 43
abbrev pub job_number : Checked ℕ → ℕ
job_number (is n) = 0
job_number (refused k) = k

-- the lent number at exit, which was m at entry: how many entries a good job has
abbrev pub job_entries : Checked ℕ → ℕ → ℕ
job_entries (is n) m = n
job_entries (refused k) m = m

pub record CountsEntries (a : Checked ℕ) (before after r : ℕ) : Type 0 where
  pub answer : r ≡ job_number a
  pub entries : after ≡ job_entries a before

-- ---- the profile of an entry of a job

-- the length; 0: the job has no such entry; the refusal of the job or of the entry
abbrev pub profile_number : Checked (Option ℕ) → ℕ
profile_number (is (Some n)) = n
profile_number (is None) = 0
profile_number (refused k) = k

-- ---- a file, or a typed text, read into a lent record

-- the lent record at exit, which was l at entry: the bytes of a value, so many, at its front, or the number of the refusal; then 9 where l is shorter
abbrev pub stored : {A : Type 0} → ℕ → (A → List ℕ) → Checked A → List ℕ → Checked (List ℕ)
stored size bytes c l = then c (λ a. cond (leb size (length l)) (is (put l 0 (bytes a))) (refused too_short))

-- 0 where something was stored; the refusal
abbrev pub stored_number : {A : Type 0} → Checked A → ℕ
stored_number (is a) = 0
stored_number (refused n) = n

-- the rest of the lent record is as it was; on a refusal all of it is
pub record Stores {A : Type 0} (size : ℕ) (bytes : A → List ℕ) (c : Checked A) (before after : List ℕ) (r : ℕ) : Type 0 where
  pub answer : r ≡ stored_number (stored size bytes c before)
  pub left : after ≡ value_or before (stored size bytes c before)

-- by the reader's answer: the struct of its plan
abbrev pub ReadsPlan : Checked Reading → List ℕ → List ℕ → ℕ → Type 0
ReadsPlan = Stores record_size plan_record

-- by the encoding that a text describes
abbrev pub StoresEncoding : Checked JxlColorEncoding → List ℕ → List ℕ → ℕ → Type 0
StoresEncoding = Stores encoding_size encoding_record

-- ---- an element of a file

-- by the line e of the tag table: the element's size, and its offset in the lent number, which is as it was where the element has no bytes
pub record FindsElement (e : Entry) (before after r : ℕ) : Type 0 where
  pub answer : r ≡ e.size
  pub offset : after ≡ cond (eqb e.size 0) before e.offset

-- ---- APP2 segments

-- the promise of a call on segments that gives c, with its answer as one number, which tells that answer
pub record GivesNumber (c : Checked (List ℕ)) (before after : List ℕ) (r : ℕ) : Type 0 where
  pub answer : r ≡ App2.number (App2.answer c)
  pub output : after ≡ App2.output c before
  pub told : App2.output_by r ≡ App2.answer c

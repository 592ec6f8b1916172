-- What the writer and the dry call promise, as a call by codes promises it. Assumes nothing.
use Rattle.std.specs.Prelude.{ℕ, zero, suc, ◌≤◌, ◌<◌, ◌≡◌, refl, Bool, List, eqb, length}
use Rattle.std.proofs.Common.{sym, ap, ◌∙◌, arith, lit≤, le-leb}
use Rattle.buffer.specs.Checked.{Checked, is, refused, then}
use Rattle.color_encoding.specs.Codes.{unknown}
use Rattle.color_encoding.specs.declared.JxlColorEncoding.{JxlColorEncoding}
use Rattle.encoding_plan.specs.EncodingPlan.{encoding_as}
use Rattle.encoding_plan.specs.declared.Encoding.{Encoding}
use Rattle.refusals.specs.Refusals.{number}
use Rattle.refusals.specs.declared.Refusal.{Refusal}
use Rattle.refusals.specs.declared.Refusal.TheVariants as R
use Rattle.writer.specs.Writer.{number as number_of, count_after, Creates, MeasuresProfile}
use Rattle.writer.specs.WriterLaws.{any_device}
use Rattle.writer.specs.declared.Written.{Written}
use Rattle.writer_laws.proofs.RefusalNumbers.{answer_told}
use Rattle.coded_writer.specs.CodedWriter.{coded, mark_from, coded_by, code_answer, Told, CreatesCode, MeasuresLength, WritesCode, MeasuresCode, WritesCounted, MeasuresCounted}

-- ---- the number of the mark

pub mark_known : (n : ℕ) → n ≤ 1 → mark_from n ≡ is (eqb n 1)
mark_known zero h = refl
mark_known (suc zero) h = refl
mark_known (suc (suc n)) h = absurd (omega arith)

pub mark_unknown : (n : ℕ) → 1 < n → mark_from n ≡ unknown
mark_unknown zero h = absurd (omega arith)
mark_unknown (suc zero) h = absurd (omega arith)
mark_unknown (suc (suc n)) h = refl

-- ---- the answer does not depend on maker and model

pub any_device_coded : (m : Bool) (a b i j : ℕ) (c : Checked JxlColorEncoding) (n : ℕ) → code_answer (coded m a b c) n ≡ code_answer (coded m i j c) n
any_device_coded m a b i j (is e) n = any_device (encoding_as m a b e) n ∙ sym (any_device (encoding_as m i j e) n)
any_device_coded m a b i j (refused k) n = refl

pub any_device_by : (m a b i j : ℕ) (c : Checked JxlColorEncoding) (n : ℕ) → code_answer (coded_by m a b c) n ≡ code_answer (coded_by m i j c) n
any_device_by m a b i j c n = go (mark_from m)
  where
    go : (k : Checked Bool) → code_answer (then k (λ x. coded x a b c)) n ≡ code_answer (then k (λ x. coded x i j c)) n
    go (is x) = any_device_coded x a b i j c n
    go (refused k) = refl

-- ---- one number tells the writer's answer

-- a refusal's number is below 100
small : (r : Refusal) → number r ≤ 99
small R.UnsupportedTransferFunction = lit≤ tt
small R.InvalidWhitePointY = lit≤ tt
small R.InvalidWhitePoint = lit≤ tt
small R.ChadOutOfRange = lit≤ tt
small R.MatrixInversionFailed = lit≤ tt
small R.ValueOutOfRange = lit≤ tt
small R.GammaOutOfRange = lit≤ tt
small R.TooShort = lit≤ tt
small R.FileTooShort = lit≤ tt
small R.WrongSize = lit≤ tt
small R.WrongHeader = lit≤ tt
small R.WrongIntent = lit≤ tt
small R.WrongTable = lit≤ tt
small R.WrongElements = lit≤ tt
small R.OutOfRange = lit≤ tt
small R.WrongId = lit≤ tt
small R.EndsEarly = lit≤ tt
small R.BytesLeft = lit≤ tt
small R.Unknown = lit≤ tt
small R.NotInLanguage = lit≤ tt
small R.GammaIsZero = lit≤ tt
small R.WrongDataSize = lit≤ tt
small R.WrongSegments = lit≤ tt
small R.SegmentsTooShort = lit≤ tt

pub refusal_told : (r : Refusal) → Told (refused (number r))
refusal_told r k = simp (le-leb (number r) 99 (small r))

pub measured_told : {e : Encoding} {n : ℕ} {r : Checked Written} → MeasuresProfile e n r → MeasuresLength (is e) n r
measured_told {e} {n} {r} m =
    let same = any_device e n in
    record { answer = m.answer; told = λ k. rw (m.answer, same) (answer_told e.adapted e.color m.held n k) }

pub created_told : {e : Encoding} {before after : List ℕ} {r : Checked Written} → Creates e before after r → CreatesCode (is e) before after r
created_told {e} {before} w =
    let m = measured_told {e = e} {n = length before} (record { answer = w.writes.answer; held = w.held }) in
    record { writes = w.writes; told = m.told }

-- ---- the answer as that number

pub code_measured : {c : Checked Encoding} {n : ℕ} {r : Checked Written} → MeasuresLength c n r → MeasuresCode c n (number_of r)
code_measured m = record { told = λ k. rw (← m.answer) (m.told k); answer = ap number_of m.answer }

pub code_written : {c : Checked Encoding} {before after : List ℕ} {r : Checked Written} → CreatesCode c before after r → WritesCode c before after (number_of r)
code_written w =
    record {
      writes = record { answer = ap number_of w.writes.answer; output = w.writes.output };
      told = λ k. rw (← w.writes.answer) (w.told k);
    }

-- with the count in a lent number, which was k
pub count_measured : {c : Checked Encoding} {n : ℕ} (k : ℕ) {r : Checked Written} → MeasuresLength c n r → MeasuresCounted c n k (count_after r k) (number_of r)
count_measured k m = record { measures = code_measured m; rounded = ap (λ (a : Checked Written). count_after a k) m.answer }

pub count_written : {c : Checked Encoding} {before after : List ℕ} (k : ℕ) {r : Checked Written} → CreatesCode c before after r
    → WritesCounted c before after k (count_after r k) (number_of r)
count_written k w = record { writes = code_written w; rounded = ap (λ (a : Checked Written). count_after a k) w.writes.answer }

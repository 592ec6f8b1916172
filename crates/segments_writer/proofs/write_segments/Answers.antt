-- Each return is a case of `written_segments`. Assumes nothing.
use Rattle.std.proofs.Common.{ℕ, ◌+◌, ◌-◌, ◌*◌, ◌/◌, ◌≤◌, ◌≡◌, sym, ◌∙◌, List, length, arith, rules, zero-add}
use Rattle.buffer.specs.Checked.{is, refused}
use Rattle.refusals.specs.Refusals.{number, checked}
use Rattle.app2.specs.Segments.{bytes, segments}
use Rattle.reader_spec.specs.Read.{read}
use Rattle.reading.specs.Reading.{reading}
use Rattle.reading.specs.declared.Reading.{Reading}
use Rattle.app2.specs.App2.{max_data, max_segments, accepted_file}
use Rattle.app2.specs.CutLaws.{cut_number}
use Rattle.app2.specs.Properties.{Named}
use Rattle.app2.proofs.ChecksLaws.{named_if, named_few, accepted_by, accepted_bounds, fitting_of, fitting_not, gives_refusal, gives_bytes, written_unread, written_53, written_sized}
use Rattle.app2.proofs.SegmentsLaws.{length-segments}
use Rattle.segments_writer.proofs.write_segments.Goals.{then-size-lt1-via-then-size-lt1, then-size-lt1-via-else-size-lt1+then-size-gt-MAX_DATA, then-size-lt1-via-else-size-lt1+else-size-gt-MAX_DATA+then-file-size}
use Rattle.segments_writer.proofs.write_segments.Goals as goal

-- past the reader and 53: the segments have no more than 5,830 bytes, since a file has 1,240 at most
record Passed (f : List ℕ) (n : ℕ) : Type 0 where
  accepts : accepted_file f ≡ is f
  named : Named n f
  long : length (bytes (segments n f)) ≡ length f + 18 * ((length f + (n - 1)) / n)
  short : length (bytes (segments n f)) ≤ 5830

passed : (f : List ℕ) (n : ℕ) {r : Reading} → is r ≡ reading (read f) → 1 ≤ n → n ≤ max_data → length f ≤ max_segments * n → Passed f n
passed f n e low high few =
    let accepts = accepted_by f e in
    let named = named_if n f low high few in
    let long = length-segments n f low in
    record { accepts = accepts; named = named; long = long; short = omega (arith, long, named.few, (accepted_bounds f accepts).1) }

pub returns-in_err-read : goal.returns-in_err-read
returns-in_err-read c =
    let same : checked c.from_residual.result ≡ refused (number c.in_err-read.field-0.0) = search rules in
    rw same (gives_refusal (written_unread _ _ _ (accepted_by _ c.in_err-read.ensures)))

pub returns-then-size-lt1 : goal.returns-then-size-lt1
returns-then-size-lt1 c =
    let no : ¬ Named c.args.size c.args.file.now = elim c.then-size-lt1.branch [
      | then-size-lt1-via-then-size-lt1 w ↦ λ h. omega (arith, h.low)
      | then-size-lt1-via-else-size-lt1+then-size-gt-MAX_DATA w ↦ λ h. omega (arith, h.high)
      | then-size-lt1-via-else-size-lt1+else-size-gt-MAX_DATA+then-file-size w ↦ λ h. omega (arith, named_few _ _ h)
    ] in
    gives_refusal (written_53 _ _ _ (accepted_by _ c.in_ok-read.ensures) no)

pub returns-then-out-file : goal.returns-then-out-file
returns-then-out-file c =
    let p = passed c.args.file.now c.args.size c.in_ok-read.ensures (omega arith) (omega arith) (omega arith) in
    gives_refusal (written_sized _ _ _ p.accepts p.named ∙ fitting_not _ _ (omega (arith, p.long, c.segments_for-count.ensures)))

pub put_segments-requires : goal.put_segments-requires
put_segments-requires c =
    let p = passed c.args.file.now c.args.size c.in_ok-read.ensures (omega arith) (omega arith) (omega arith) in
    let many = c.segments_for-count.ensures in
    (p.named.low, p.named.high, many ∙ sym (cut_number _ p.named.low _), omega (arith, many, p.named.few), omega (arith, many, p.long))

pub overflow_cast-result : goal.overflow_cast-result
overflow_cast-result c =
    let p = passed c.args.file.now c.args.size c.in_ok-read.ensures (omega arith) (omega arith) (omega arith) in
    omega (arith, c.put_segments.ensures.place, p.short)

pub returns : goal.returns
returns c =
    let p = passed c.args.file.now c.args.size c.in_ok-read.ensures (omega arith) (omega arith) (omega arith) in
    let fits = fitting_of (length c.args.out.now) (bytes (segments c.args.size c.args.file.now)) (omega (arith, p.long, c.segments_for-count.ensures)) in
    gives_bytes (written_sized _ _ _ p.accepts p.named ∙ fits) (c.put_segments.ensures.place ∙ zero-add _) c.put_segments.ensures.bytes

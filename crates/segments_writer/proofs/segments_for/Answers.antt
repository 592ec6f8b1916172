-- The digit is tried, and then the next. Assumes nothing.
use Rattle.std.proofs.Common.{add-one}
use Rattle.segments_writer.proofs.Digits.{taken, passed, halves}
use Rattle.segments_writer.proofs.segments_for.Goals.{then-digit-size, else-digit-size}
use Rattle.segments_writer.proofs.segments_for.Goals as goal

pub loop-digit-preserved : goal.loop-digit-preserved
loop-digit-preserved c =
    let l = c.loop-digit in
    let half = halves l.digit-index c.loop-digit-test.true in
    rw add-one
    (elim c.if-digit-size.branch [
      | then-digit-size w ↦ rw (w.left-is, w.count-is) (taken _ half l.invariant w.if-digit-size.true)
      | else-digit-size w ↦ rw (w.left-is, w.count-is) (passed _ half l.invariant w.if-digit-size.false)
    ])

-- The loop copies: with i bytes behind it, the slice has the first i bytes in place. Assumes nothing.
use Rattle.std.proofs.Common.{◌≡◌, refl, arith, add-one, length}
use Rattle.std.proofs.Math.Seq.{paste-suc}
use Rattle.buffer.specs.BufferLaws.{copied}
use Rattle.buffer.proofs.put_bytes.Goals as goal

pub loop-i-preserved : goal.loop-i-preserved
loop-i-preserved c =
    let at = c.loop-i in
    let start = c.args in
    rw (at.invariant, add-one at.i) (paste-suc start.out.now start.at start.bytes.now at.i 0 (omega arith) (omega arith))

pub returns : goal.returns
returns c =
    let end : c.loop-i.i ≡ length c.args.bytes.now = omega arith in
    record { size = refl; place = refl; bytes = rw (c.loop-i.invariant, end) (copied _ _ _) }

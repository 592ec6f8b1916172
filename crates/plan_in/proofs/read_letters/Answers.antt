-- With i letters behind it, the loop has put the first i: the law `one_more`. Assumes nothing.
use Prim.Native.Nat.{◌+◌, ◌*◌}
use mathlib.Core.Path.{sym}
use native.Mathlib.Omega.{arith}
use native.Mathlib.Nat.{add_assoc}
use lib.ListN.{drop, length-drop}
use lib.Seq.{get_or-drop}
use Rattle.buffer.specs.BufferLaws.{put_nothing}
use Rattle.reader_spec.specs.PlanIn.{low_bytes}
use Rattle.plan_in.proofs.Letters.{one_more}
use Rattle.plan_in.proofs.read_letters.Goals as goal

pub loop-i-init : goal.loop-i-init
unfolding low_bytes
loop-i-init c = sym (put_nothing _ _)

pub loop-i-preserved : goal.loop-i-preserved
loop-i-preserved c =
    let at = c.loop-i in
    let l = drop c.args.at c.args.file.now in
    rw (at.invariant, add_assoc c.args.at (2 * at.i) 1, ← get_or-drop c.args.at c.args.file.now (2 * at.i + 1) 0)
    (one_more c.args.text.now l at.i (omega arith) (simp length-drop (omega arith)))

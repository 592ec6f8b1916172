use Prim.Native.Nat.{◌*◌}
use mathlib.Core.Path.{◌≡◌}
use lib.ListN.{take, drop}
use Rattle.buffer.specs.Buffer.{put}
use Rattle.reader_spec.specs.PlanIn.{low_bytes}
use Rattle.plan_in.proofs.read_letters.Given as goal

abbrev pub invariant-loop-i : goal.invariant-loop-i
invariant-loop-i l = l.text ≡ put l.initial.text 0 (low_bytes (take (2 * l.i) (drop l.at l.file)))

use Rattle.std.proofs.Common.{◌≡◌, ◌&&◌, drop}
use Rattle.buffer.specs.Bytes.{same}
use Rattle.buffer.proofs.same_bytes.Given as goal

abbrev pub invariant-loop-i : goal.invariant-loop-i
invariant-loop-i l = same l.a l.b ≡ (l.all && same (drop l.i l.a) (drop l.i l.b))

use Rattle.std.proofs.Common.{◌≡◌}
use Rattle.buffer.specs.Buffer.{put}
use Rattle.buffer.specs.Bytes.{zeros}
use Rattle.buffer.proofs.put_zeros.Given as goal

abbrev pub invariant-loop-i : goal.invariant-loop-i
invariant-loop-i l = l.out ≡ put l.initial.out l.at (zeros l.i)

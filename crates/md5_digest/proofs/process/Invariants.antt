use Rattle.std.proofs.Common.{◌≡◌}
use Rattle.md5_digest.specs.Md5.{words_of, after_blocks}
use Rattle.md5_digest.proofs.process.Given as goal

abbrev pub invariant-loop-i : goal.invariant-loop-i
invariant-loop-i l = l.buffer ≡ after_blocks l.i (words_of l.data) l.initial.buffer

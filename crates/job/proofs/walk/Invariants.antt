-- The entries before the i-th have a meaning. Assumes nothing.
use Rattle.std.proofs.Common.{◌≡◌, List, take}
use Rattle.buffer.specs.Checked.{is, each}
use Rattle.buffer.specs.CheckedLaws.{Passes}
use Rattle.job.specs.Job.{Entry, sections, cut, meaning}
use Rattle.job.proofs.walk.Given as goal

abbrev pub invariant-loop-i : goal.invariant-loop-i
invariant-loop-i l = (es : List Entry) → cut 1 sections l.job ≡ is es → Passes (each meaning (take l.i es))

-- The first i parts are put one after another. Assumes nothing.
use Rattle.std.proofs.Common.{◌≡◌, length, take}
use Rattle.buffer.specs.Puts.{PutsText}
use Rattle.profile.specs.TagTypes.{join}
use Rattle.job.specs.Job as Job
use Rattle.job_output.specs.JobOutput.{parts_of}
use Rattle.job_output.proofs.put_parts.Given as goal

abbrev pub invariant-loop-i : goal.invariant-loop-i
invariant-loop-i g l =
    PutsText l.initial.out l.start (join (take l.i (parts_of g.S.Stream.part_text (Job.job 1 l.job)))) l.at l.out × (length l.out ≡ length l.initial.out)

-- The first i parts are counted, each of up to 1,200 bytes. Assumes nothing.
use Rattle.std.proofs.Common.{◌≡◌, ◌*◌, ◌≤◌, length, take}
use Rattle.profile.specs.TagTypes.{join}
use Rattle.job.specs.Job as Job
use Rattle.job_output.specs.JobOutput.{parts_of}
use Rattle.job_output.proofs.parts_length.Given as goal

abbrev pub invariant-loop-i : goal.invariant-loop-i
invariant-loop-i g l = (l.total ≡ length (join (take l.i (parts_of g.S.Stream.part_text (Job.job 1 l.job))))) × (l.total ≤ l.i * 1200)

-- Of a job that is not refused, an entry by itself is the entry of the job. Assumes nothing.
use Rattle.std.proofs.Common.{sym, ◌∙◌}
use Rattle.job.specs.JobLaws.{entry_of}
use Rattle.job.proofs.entry.Goals as goal

pub returns : goal.returns
returns c = c.entry_alone.ensures.answer ∙ entry_of 1 c.args.job.now (sym c.in_ok-entries.ensures.answer) c.args.i

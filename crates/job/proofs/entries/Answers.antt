-- By the counts, or their refusal. Assumes nothing.
use Rattle.std.proofs.Common.{sym, ap, arith}
use Rattle.std.proofs.lemmas.Result.{err_from_is_err_and}
use Rattle.job.specs.Job.{job_answer}
use Rattle.job.specs.JobLaws.{cut_refused}
use Rattle.job.specs.Counts.{entries_by}
use Rattle.job.specs.CountsLaws.{length-entries_by}
use Rattle.job.proofs.entries.Goals as goal

pub returns-in_err-counts : goal.returns-in_err-counts
returns-in_err-counts c =
    let p = err_from_is_err_and c.from_residual.result c.from_residual.ensures.1 in
    let e = c.in_err-counts.ensures in
    rw (p.1, p.2) (record { answer = sym (ap job_answer (cut_refused 1 c.args.job.now e.by)); bounds = e.filled })

pub walk-requires : goal.walk-requires
walk-requires c =
    let n = c.in_ok-counts.counts in
    let e = c.in_ok-counts.ensures in
    record {
      entries = entries_by c.args.job.now n.gray n.rgb n.xyb;
      given = e.by;
      size = length-entries_by c.args.job.now n.gray n.rgb n.xyb;
      small = omega (arith, e.filled.gray_few, e.filled.rgb_few, e.filled.xyb_few);
    }

-- By the counts, or their refusal. Assumes nothing.
use Rattle.std.proofs.Common.{sym, ap, List}
use Rattle.std.proofs.lemmas.Result.{err_from_is_err_and}
use Rattle.buffer.specs.Checked.{Checked}
use Rattle.job.specs.Job.{Entry, entry_alone}
use Rattle.job.proofs.entry_alone.Goals as goal

pub returns-in_err-counts : goal.returns-in_err-counts
unfolding entry_alone
returns-in_err-counts c =
    let p = err_from_is_err_and c.from_residual.result c.from_residual.ensures.1 in
    rw (p.1, p.2) (record { answer = sym (ap (λ (e : Checked (List Entry)). entry_alone e c.args.i) c.in_err-counts.ensures.by); bounds = c.in_err-counts.ensures.filled })

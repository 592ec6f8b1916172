-- The entry, then what the writer does with it. Assumes nothing.
use Rattle.std.proofs.Common.{ap}
use Rattle.std.proofs.lemmas.Result.{err_from_is_err_and}
use Rattle.writer.specs.WriterLaws.{plain_writes}
use Rattle.job_output.specs.JobOutput.{from_writer}
use Rattle.job_output.proofs.profile.Goals as goal

pub returns-in_err-written : goal.returns-in_err-written
returns-in_err-written c =
    let p = err_from_is_err_and c.from_residual-in_err-written.result c.from_residual-in_err-written.ensures.1 in
    let call = plain_writes c.into.ensures c.in_err-written.ensures in
    rw (p.1, p.2, ← c.in_ok-entry.ensures, c.in-Some.is) (record { answer = ap from_writer call.0; output = call.1 })

pub returns : goal.returns
returns c =
    let call = plain_writes c.into.ensures c.in_ok-written.ensures in
    rw (← c.in_ok-entry.ensures, c.in-Some.is) (record { answer = ap from_writer call.0; output = call.1 })

-- What the entry's bytes mean, with its section and place. Assumes nothing.
use Rattle.std.proofs.Common.{◌+◌, ◌*◌}
use Rattle.job.specs.CountsLaws.{told_part}
use Rattle.job.proofs.entry_in.Goals as goal

pub returns : goal.returns
returns c =
    let a = c.args in
    rw (← c.size-size.ensures) (told_part a.section (a.i + 1) (a.start + a.i * c.size-size.result) c.size-size.result a.job.now c.in_ok-encoding.ensures)

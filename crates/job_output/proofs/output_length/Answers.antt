-- What comes first, and then the parts; of a refused job there are none. Assumes nothing.
use Rattle.std.proofs.Common.{length, sym, ap, ◌∙◌, arith}
use Rattle.refusals.specs.Refusals.{checked}
use Rattle.job_output.specs.PartsLaws.{length-output, refused_output}
use Rattle.job_output.proofs.output_length.Goals as goal

pub returns-in-Ok : goal.returns-in-Ok
returns-in-Ok g c =
    omega (arith, length-output c.args.job.now g.S.Stream.head_text g.S.Stream.part_text c.entries-answer.ensures.answer, c.head-line.ensures.len, c.parts_length.ensures.count)

pub returns-in-Err : goal.returns-in-Err
returns-in-Err g c =
    c.head-line.ensures.len
    ∙ sym (ap length (refused_output c.args.job.now g.S.Stream.head_text g.S.Stream.part_text c.entries-answer.ensures.answer (ap checked c.in-Err.is)))

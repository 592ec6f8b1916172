-- What comes first, and then the parts; of a refused job there are none. Assumes nothing.
use Rattle.std.proofs.Common.{sym, ap, arith}
use Rattle.buffer.specs.PutsLaws.{then, same}
use Rattle.refusals.specs.Refusals.{checked}
use Rattle.entry_output.specs.EntryOutputLaws.{line_room, line_text}
use Rattle.job_output.specs.PartsLaws.{good_job, output_is, length-output, refused_output}
use Rattle.job_output.proofs.put_output.Goals as goal

pub put_line-start-requires : goal.put_line-start-requires
put_line-start-requires g c =
    (line_room c.head.ensures, omega (arith, length-output c.args.job.now g.S.Stream.head_text g.S.Stream.part_text c.entries-answer.ensures.answer, c.head.ensures.len, c.requires))

pub put_parts-requires : goal.put_parts-requires
put_parts-requires g c =
    let told = c.entries-answer.ensures in
    let headed = same _ c.put_line-start.ensures (sym (line_text c.head.ensures)) in (
      good_job told.answer told.bounds (ap checked c.in-Ok.is),
      omega (arith, headed.place, length-output c.args.job.now g.S.Stream.head_text g.S.Stream.part_text told.answer, c.requires, c.put_line-start.auto.out),
    )

pub returns-in-Ok : goal.returns-in-Ok
returns-in-Ok g c =
    let headed = same _ c.put_line-start.ensures (sym (line_text c.head.ensures)) in
    then _ (omega arith) headed c.put_parts.ensures (output_is c.args.job.now g.S.Stream.head_text g.S.Stream.part_text c.entries-answer.ensures.answer)

pub returns-in-Err : goal.returns-in-Err
returns-in-Err g c =
    let headed = same _ c.put_line-start.ensures (sym (line_text c.head.ensures)) in
    same _ headed (refused_output c.args.job.now g.S.Stream.head_text g.S.Stream.part_text c.entries-answer.ensures.answer (ap checked c.in-Err.is))

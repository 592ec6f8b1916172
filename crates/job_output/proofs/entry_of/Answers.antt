-- The call for the i-th entry gives the entry (`PartsLaws`). Assumes nothing.
use Rattle.job_output.specs.PartsLaws.{stands, not_none, not-refused}
use Rattle.job_output.proofs.entry_of.Goals as goal

pub unreachable-requires : goal.unreachable-requires
unreachable-requires c =
    let asked = rw c.in-Ok-None.field-0-is at c.in-Ok-None.ensures in
    not_none c.requires.0 c.requires.1 asked.answer

pub unreachable-requires-in-Err : goal.unreachable-requires-in-Err
unreachable-requires-in-Err c = not-refused c.requires.0 c.requires.1 c.in-Err.ensures.answer

pub returns : goal.returns
returns c = stands c.requires.0 c.requires.1 (rw c.in-Ok-Some.field-0-is at c.in-Ok-Some.ensures)

-- The refusal's number after its words. Assumes nothing.
use Rattle.line_text.proofs.put_first.Goals as goal

pub returns-in-Err : goal.returns-in-Err
returns-in-Err c = rw (c.in-Err.is, ← c.number.ensures) c.put_worded-in-Err.ensures

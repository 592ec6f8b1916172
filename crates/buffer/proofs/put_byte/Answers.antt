-- One store is a run of one byte: the law `store`.
-- Assumes nothing.
use Rattle.buffer.specs.PutsLaws.{store}
use Rattle.buffer.proofs.put_byte.Goals as goal

pub returns : goal.returns
returns c = store _ _ _ c.requires

-- The library's bytes are those of the definition. Assumes nothing.
use Rattle.words.specs.Words.{be16}
use Rattle.words.proofs.write_u16_be.Goals as goal

pub returns-clause-slice_after : goal.returns-clause-slice_after
unfolding be16
returns-clause-slice_after c = rw c.to_be_bytes.ensures at c.write.ensures.slice_after

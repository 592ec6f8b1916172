-- The library's bytes are those of the definition. Assumes nothing.
use Rattle.words.specs.Words.{be32}
use Rattle.words.proofs.put_u32_be.Goals as goal

pub returns : goal.returns
unfolding be32
returns c = rw c.to_be_bytes.ensures at c.put_bytes.ensures

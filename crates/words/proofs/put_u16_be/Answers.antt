-- The library's bytes are those of the definition. Assumes nothing.
use Rattle.words.specs.Words.{be16}
use Rattle.words.proofs.put_u16_be.Goals as goal

pub returns : goal.returns
unfolding be16
returns c = rw c.to_be_bytes-bytes.ensures at c.put_bytes.ensures

-- `word` meets its contract: what the library makes of the four bytes is the first word from i on.
use Rattle.std.proofs.Common.{arith}
use Rattle.md5_digest.proofs.Words.{first_word}
use Rattle.md5_digest.proofs.word.Goals as goal

pub returns : goal.returns
returns c = omega (arith, first_word c.args.«data».now c.args.i c.requires)

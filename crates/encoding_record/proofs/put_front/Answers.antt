-- The section, and then the white point. Assumes nothing.
use native.Mathlib.Omega.{arith}
use Rattle.buffer.specs.PutsLaws.{joined}
use Rattle.encoding_record.proofs.put_front.Goals as goal

pub returns : goal.returns
returns c =
    joined (omega (arith, c.requires)) c.put_byte-next.ensures c.put_white.ensures

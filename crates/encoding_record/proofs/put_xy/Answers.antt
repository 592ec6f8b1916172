-- One float, and then the other. Assumes nothing.
use native.Mathlib.Omega.{arith}
use Rattle.buffer.specs.PutsLaws.{joined}
use Rattle.encoding_record.proofs.put_xy.Goals as goal

pub returns : goal.returns
returns c =
    joined (omega (arith, c.requires)) c.put_float-next.ensures c.put_float.ensures

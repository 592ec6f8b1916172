-- The curve, and then the intent. Assumes nothing.
use native.Mathlib.Omega.{arith}
use Rattle.buffer.specs.PutsLaws.{joined}
use Rattle.encoding_record.proofs.put_end.Goals as goal

pub returns : goal.returns
returns c =
    joined (omega (arith, c.requires)) c.put_curve-next.ensures c.put_intent.ensures

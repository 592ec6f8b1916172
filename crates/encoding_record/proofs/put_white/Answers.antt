-- The number, and then the floats of one's own or zeros. Assumes nothing.
use mathlib.Core.Path.{ap}
use native.Mathlib.Omega.{arith}
use Rattle.buffer.specs.PutsLaws.{joined}
use Rattle.encoding_record.specs.EncodingRecord.{white_floats}
use Rattle.encoding_record.proofs.Parts.{part, white_zeros}
use Rattle.encoding_record.proofs.put_white.Goals as goal

pub returns-in-Chromaticity : goal.returns-in-Chromaticity
returns-in-Chromaticity c =
    part _ (white_floats c.args.white) c.number.ensures (ap white_floats c.in-Chromaticity.is) (joined (omega (arith, c.requires)) c.put_number-next.ensures c.put_xy.ensures)

pub returns-in_default : goal.returns-in_default
returns-in_default c =
    part _ (white_floats c.args.white) c.number.ensures (white_zeros c.args.white c.in_default.not-Chromaticity) (joined (omega (arith, c.requires)) c.put_number-next.ensures c.put_zeros.ensures)

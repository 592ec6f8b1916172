-- The number, and then the floats of one's own or zeros. Assumes nothing.
use mathlib.Core.Path.{ap}
use native.Mathlib.Omega.{arith}
use Rattle.buffer.specs.PutsLaws.{joined}
use Rattle.encoding_record.specs.EncodingRecord.{curve_float}
use Rattle.encoding_record.proofs.Parts.{part, curve_zeros}
use Rattle.encoding_record.proofs.put_curve.Goals as goal

pub returns-in-Gamma : goal.returns-in-Gamma
returns-in-Gamma c =
    part _ (curve_float c.args.curve) c.number.ensures (ap curve_float c.in-Gamma.is) (joined (omega (arith, c.requires)) c.put_number-next.ensures c.put_float.ensures)

pub returns-in_default : goal.returns-in_default
returns-in_default c =
    part _ (curve_float c.args.curve) c.number.ensures (curve_zeros c.args.curve c.in_default.not-Gamma) (joined (omega (arith, c.requires)) c.put_number-next.ensures c.put_zeros.ensures)

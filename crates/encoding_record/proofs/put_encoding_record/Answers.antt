-- Each arm is the clause of `encoding_record` for its variant. Assumes nothing.
use mathlib.Core.Path.{ap}
use native.Mathlib.Omega.{arith}
use Rattle.encoding_record.specs.EncodingRecord.{encoding_record}
use Rattle.encoding_record.proofs.Parts.{named, three}
use Rattle.encoding_record.proofs.put_encoding_record.Goals as goal

pub returns-in-RgbColorSpace : goal.returns-in-RgbColorSpace
unfolding encoding_record
returns-in-RgbColorSpace c =
    named (encoding_record c.args.encoding) (ap encoding_record c.in-RgbColorSpace.is) (three (omega (arith, c.requires)) c.put_front-primaries_at.ensures c.put_primaries-curve_at.ensures c.put_end.ensures)

pub returns-in-GrayscaleColorSpace : goal.returns-in-GrayscaleColorSpace
unfolding encoding_record
returns-in-GrayscaleColorSpace c =
    named (encoding_record c.args.encoding) (ap encoding_record c.in-GrayscaleColorSpace.is) (three (omega (arith, c.requires)) c.put_front-zeros_at.ensures c.put_zeros-curve_at.ensures c.put_end-in-GrayscaleColorSpace.ensures)

pub returns-in-XYB : goal.returns-in-XYB
unfolding encoding_record
returns-in-XYB c =
    named (encoding_record c.args.encoding) (ap encoding_record c.in-XYB.is) (three (omega (arith, c.requires)) c.put_byte-zeros_at.ensures c.put_zeros-intent_at.ensures c.put_intent.ensures)

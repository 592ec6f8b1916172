-- The test tells the NaN patterns from the others. Assumes nothing.
use lib.Ieee.{binary32}
use Rattle.floats.specs.FieldsLaws.{no_nan, no_number}
use Rattle.numbers.proofs.bits.f32_from_bits.Goals as goal

pub float_from_bits-result : goal.float_from_bits-result
float_from_bits-result c = no_nan binary32 c.args.bits c.if-bits-gt2139095040.false

pub returns-then-bits-gt2139095040 : goal.returns-then-bits-gt2139095040
returns-then-bits-gt2139095040 c = no_number binary32 c.args.bits c.if-bits-gt2139095040.true

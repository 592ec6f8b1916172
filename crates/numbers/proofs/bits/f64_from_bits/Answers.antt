-- The test tells the NaN patterns from the others. Assumes nothing.
use lib.Ieee.{binary64}
use Rattle.floats.specs.FieldsLaws.{no_nan, no_number}
use Rattle.numbers.proofs.bits.f64_from_bits.Goals as goal

pub float_from_bits-result : goal.float_from_bits-result
float_from_bits-result c = no_nan binary64 c.args.bits c.if-bits-gt9218868437227405312.false

pub returns-then-bits-gt9218868437227405312 : goal.returns-then-bits-gt9218868437227405312
returns-then-bits-gt9218868437227405312 c = no_number binary64 c.args.bits c.if-bits-gt9218868437227405312.true

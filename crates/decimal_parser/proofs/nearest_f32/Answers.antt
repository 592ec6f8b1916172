-- The pattern of `magnitude`, with the sign put before it. Assumes nothing.
use Prim.Native.Nat.{◌+◌, ◌^◌}
use native.Mathlib.Omega.{arith}
use lib.Ieee.{binary32}
use Rattle.floats.specs.FieldsLaws.{no_nan}
use Rattle.decimal_parser.proofs.nearest_f32.Goals as goal

pub float_from_bits-result : goal.float_from_bits-result
float_from_bits-result c = let m = c.magnitude-m in no_nan binary32 (2 ^ 31 + m.result) (omega (arith, m.ensures.0))

pub float_from_bits-result-2 : goal.float_from_bits-result-2
float_from_bits-result-2 c = let m = c.magnitude-m in no_nan binary32 m.result (omega (arith, m.ensures.0))

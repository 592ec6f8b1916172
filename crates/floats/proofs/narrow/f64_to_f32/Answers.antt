-- The pattern's sign, exponent field and digits give back the value, and `magnitude` narrows them: the laws of `NarrowPattern`.
-- Assumes nothing.
use mathlib.Core.Path.{sym, subst, ◌∙◌}
use Prim.Native.Nat.{◌/◌, ◌^◌}
use native.Mathlib.Omega.{arith}
use lib.Dec.{T}
use lib.Ieee.{binary64, to_bits}
use Rattle.floats.proofs.NarrowPattern.{nan-narrows, sign_le, sign_no_nan, finish, infinite}
use Rattle.floats.proofs.narrow.f64_to_f32.Goals as goal

pub returns-then-is_nan : goal.returns-then-is_nan
returns-then-is_nan c = nan-narrows c.args.x (subst T (sym (sym c.is_nan.ensures.value ∙ c.if-is_nan.true)) tt)

pub overflow_mul-sign : goal.overflow_mul-sign
overflow_mul-sign c = omega (arith, sign_le c.args.x c.well_formed.0.1)

pub overflow_add-result : goal.overflow_add-result
overflow_add-result c = omega (arith, sign_le c.args.x c.well_formed.0.1)

pub overflow_cast-result : goal.overflow_cast-result
overflow_cast-result c = omega (arith, sign_le c.args.x c.well_formed.0.1)

pub float_from_bits-result : goal.float_from_bits-result
float_from_bits-result c = sign_no_nan (to_bits binary64 c.args.x / 2 ^ 63) 0x7f80_0000 (omega arith)

pub returns-then-field-eq2047 : goal.returns-then-field-eq2047
returns-then-field-eq2047 c = infinite c.args.x c.well_formed.0.1 c.if-is_nan.ensures.not_nan c.if-field-eq2047.true

pub overflow_add-result-2 : goal.overflow_add-result-2
overflow_add-result-2 c = omega (arith, sign_le c.args.x c.well_formed.0.1, c.magnitude.ensures.0)

pub overflow_cast-result-2 : goal.overflow_cast-result-2
overflow_cast-result-2 c = omega (arith, sign_le c.args.x c.well_formed.0.1, c.magnitude.ensures.0)

pub float_from_bits-result-2 : goal.float_from_bits-result-2
float_from_bits-result-2 c = sign_no_nan (to_bits binary64 c.args.x / 2 ^ 63) c.magnitude.result c.magnitude.ensures.0

pub returns : goal.returns
returns c = finish c.args.x c.well_formed.0.1 c.magnitude.result c.magnitude.ensures.1

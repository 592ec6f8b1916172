-- The fields of a bit pattern (IEEE 754, 3.4). A finite value is significand * 2 ^ (exponent field - 1) units, the least positive value of the
-- format being the unit; a field of 0 counts as 1. Assumes nothing.
use Rattle.std.specs.Prelude.{ℕ, ◌+◌, cond, eqb}
use Rattle.std.specs.Float.{Format}
use Rattle.std.specs.Float.Ieee.{hid}

-- the digits, with the leading one put back where the exponent field is not 0
abbrev pub significand : Format → ℕ → ℕ → ℕ
significand f field digits = cond (eqb field 0) digits (hid f + digits)

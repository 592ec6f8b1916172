-- A floating-point number printed to seven decimals: Rust's `{:.7}`. The exact value is rounded to the nearest, a tie to the even last digit.
-- Assumes nothing.
use Rattle.std.specs.Prelude.{ℕ, ◌*◌, ◌/◌, ◌^◌, List, [], ◌++◌, Bool, cond, Float}
use Rattle.std.specs.Float.{nan, inf, fin}
use Rattle.std.specs.Float.Ieee.{up, down}
use Rattle.std.specs.Float.Ieee.Nearest.{closest}
use Rattle.buffer.specs.Ascii.{ascii}
use Rattle.digits.specs.Digits.{digits, last_digits}

-- "-" before a negative number; one that rounds to zero, and a negative zero, keep it
abbrev pub minus : Bool → List ℕ
minus s = cond s (ascii "-") []

-- q / 10 ^ 7: the whole part, ".", seven decimals
unfoldable pub with_point : ℕ → List ℕ
with_point q = digits (q / 10 ^ 7) ++ (ascii "." ++ last_digits 7 q)

-- `fin s m e` is m * 2 ^ e, where 2 ^ e is the fraction up e / down e. "NaN" and "inf" stand for what is no number and for the infinities.
unfoldable pub seven_decimals : Float → List ℕ
unfolding with_point
seven_decimals nan = ascii "NaN"
seven_decimals (inf s) = minus s ++ ascii "inf"
seven_decimals (fin s m e) = minus s ++ with_point (closest (m * up e * 10 ^ 7) (down e))

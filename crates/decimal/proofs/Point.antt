-- A text with a decimal point.
-- Assumes nothing.
use mathlib.Core.Path.{◌≡◌, ap₂}
use mathlib.Core.List.{List, ◌∷◌, ◌++◌}
use Prim.Native.Nat.{ℕ, ◌+◌, ◌*◌, ◌/◌, ◌^◌, ◌<◌}
use native.Mathlib.Omega.{arith}
use Rattle.digits.specs.Digits.{last_digits, digits}
use Rattle.digits.specs.DigitsLaws.{last_above}
use Rattle.decimal.specs.Seven.{with_point}

-- a whole part and seven decimals
pub with_point_is : (whole rest : ℕ) → rest < 10 ^ 7 → with_point (whole * 10 ^ 7 + rest) ≡ digits whole ++ (46 ∷ last_digits 7 rest)
unfolding with_point
with_point_is whole rest h = ap₂ (λ (n : ℕ) (l : List ℕ). digits n ++ (46 ∷ l)) (quotient whole rest h) (last_above 7 whole rest h)
  where
    quotient : (w r : ℕ) → r < 10 ^ 7 → (w * 10 ^ 7 + r) / 10 ^ 7 ≡ w
    quotient w r h = omega arith

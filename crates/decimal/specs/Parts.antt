-- A whole number in parts of eight digits, and the digits that a part adds to those of the parts above it.
-- Assumes nothing.
use Rattle.std.specs.Prelude.{ℕ, ◌+◌, ◌*◌, ◌^◌, ◌<◌, List, [], ◌∷◌, Bool, cond, eqb, get_or}
use Rattle.digits.specs.Digits.{digits, last_digits}

-- the lowest part first
abbrev pub value_of : List ℕ → ℕ
value_of [] = 0
value_of (p ∷ ps) = p + 10 ^ 8 * value_of ps

-- each part has eight digits
pub record Proper (parts : List ℕ) : Type 0 where
  pub below : (k : ℕ) → get_or parts k 0 < 10 ^ 8

-- the digits of n, of which 0 has none
unfoldable pub shown : ℕ → List ℕ
shown n = cond (eqb n 0) [] (digits n)

-- the part n: all its eight digits once a digit above is written
unfoldable pub part : Bool → ℕ → List ℕ
unfolding shown
part written n = cond written (last_digits 8 n) (shown n)

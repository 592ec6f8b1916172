-- The decimal digits of a whole number as ASCII codes, the highest digit first.
-- Assumes nothing.
use Rattle.std.specs.Prelude.{ℕ, zero, suc, ◌+◌, ◌/◌, ◌%◌, List, [], ◌∷◌, ◌++◌, cond, ltb}
use Rattle.std.specs.Float.Ieee.{size}

-- the code of the digit d, which is below 10: 0 is 48
abbrev pub digit : ℕ → ℕ
digit d = 48 + d

-- the last k digits of n, with zeros in front where n has fewer
unfoldable pub last_digits : ℕ → ℕ → List ℕ
last_digits zero n = []
last_digits (suc k) n = last_digits k (n / 10) ++ (digit (n % 10) ∷ [])

-- the digits of n without leading zeros, where it has at most k + 1
unfoldable pub digits_up_to : ℕ → ℕ → List ℕ
digits_up_to zero n = digit (n % 10) ∷ []
digits_up_to (suc k) n = cond (ltb n 10) (digit n ∷ []) (digits_up_to k (n / 10) ++ (digit (n % 10) ∷ []))

-- The digits of n without leading zeros; those of 0 are "0". `size n` is how many binary digits n has, so its decimal digits are no more than one above that.
unfoldable pub digits : ℕ → List ℕ
unfolding digits_up_to
digits n = digits_up_to (size n) n

-- How far a float is from a fraction, and which float is nearest to it: by whole numbers. Assumes nothing.
use Rattle.std.specs.Prelude.{ℕ, ◌+◌, ◌-◌, ◌*◌, ◌%◌, ◌≤◌, ◌≡◌, Bool, false, cond, T, Float}
use Rattle.std.specs.Bool.{beq}
use Rattle.std.specs.Float.{nan, inf, fin, Format}
use Rattle.std.specs.Float.Ieee.{fits, to_bits}
use Rattle.std.specs.Float.Ieee.Positive.{num, den}
use Rattle.std.specs.Float.Ieee.Scale.{finite}

-- from a to b
abbrev pub away : ℕ → ℕ → ℕ
away a b = a - b + (b - a)

-- from ±a to ±b; the signs are true for a minus
abbrev pub apart : Bool → ℕ → Bool → ℕ → ℕ
apart s a t b = cond (beq s t) (away a b) (a + b)

abbrev pub sign : Float → Bool
sign nan = false
sign (inf s) = s
sign (fin s m e) = s

-- From ±a / c to the finite float x, which is ±num x / den x. It is a fraction, of which this is the numerator; the denominator is c * den x.
abbrev pub distance : Bool → ℕ → ℕ → Float → ℕ
distance s a c x = apart s (a * den x) (sign x) (num x * c)

-- x is the value of the format that is nearest to ±a / c, with its sign, also where x is zero. If another value is as near, the last bit of x is 0.
-- Distances are compared crosswise, without the c that both denominators have.
pub record Nearest (f : Format) (s : Bool) (a c : ℕ) (x : Float) : Type 0 where
  pub value : T (finite x)
  pub held : T (fits f x)
  pub signed : sign x ≡ s
  pub least : (y : Float) → T (finite y) → T (fits f y) → distance s a c x * den y ≤ distance s a c y * den x
  pub even : (y : Float) → T (finite y) → T (fits f y) → ¬ (x ≡ y) → distance s a c x * den y ≡ distance s a c y * den x → to_bits f x % 2 ≡ 0

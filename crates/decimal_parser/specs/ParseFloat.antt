-- A float read from the front of a text. Assumes nothing.
use Rattle.std.specs.Prelude.{ℕ, zero, suc, ◌+◌, ◌-◌, ◌*◌, ◌^◌, Bool, true, false, cond, ◌&&◌, List, [], ◌∷◌, leb, ltb, eqb, Float, drop}
use Rattle.std.specs.Float.{binary32}
use Rattle.std.specs.Float.Ieee.{round}
use Rattle.buffer.specs.Ascii.{ascii}
use Rattle.scanner.specs.Scan.{Found, nothing, found, and_then, or_else, starts_with, after}

-- 0 to 9
abbrev pub is_digit : ℕ → Bool
is_digit c = leb 48 c && ltb c 58

-- one more digit after those of a
abbrev pub one_digit : ℕ → List ℕ → Found ℕ
one_digit a [] = nothing
one_digit a (c ∷ l) = cond (is_digit c) (found (a * 10 + (c - 48)) l) nothing

-- k more digits
unfoldable pub more_digits : ℕ → ℕ → List ℕ → Found ℕ
more_digits zero a l = found a l
more_digits (suc k) a l = and_then (more_digits k a l) one_digit

abbrev pub point : ℕ → List ℕ → Found ℕ
point a l = after (ascii ".") (found a) l

-- one digit, or two of which the first is not zero, and the point
unfoldable pub whole_part : List ℕ → Found ℕ
whole_part l = and_then (one_digit 0 l) (λ a m. or_else (point a m) (cond (eqb a 0) nothing (and_then (one_digit a m) point)))

-- a number without its sign, times 10 ^ 7
unfoldable pub unsigned : List ℕ → Found ℕ
unfolding whole_part more_digits
unsigned l = and_then (whole_part l) (more_digits 7)

-- the float that such a number is with a sign
unfoldable pub with_sign : Bool → List ℕ → Found Float
unfolding unsigned
with_sign negative l = and_then (unsigned l) (λ q. found (round binary32 negative q (10 ^ 7)))

unfoldable pub float : List ℕ → Found Float
unfolding with_sign
float l = cond (starts_with (ascii "-") l) (with_sign true (drop 1 l)) (with_sign false l)

-- The digits of the doubled number, then a point and zeros: the law `with_point_is`.
-- Assumes nothing.
use mathlib.Core.Path.{◌≡◌, sym, ap, ◌∙◌, subst}
use mathlib.Core.List.{◌++◌, ◌∷◌}
use Prim.Native.Nat.{ℕ, ◌+◌, ◌*◌, ◌^◌, ◌≤◌, ◌<◌}
use native.Mathlib.Nat.{lt_of_le_of_lt, lt_of_lt_of_le, le_of_eq, mul-pos, add-zero}
use native.Mathlib.Omega.{arith}
use lib.Dec.{lit<, lit≤}
use lib.Pow.{shl_lt, pow_mono, pow_pos}
use Rattle.digits.specs.Digits.{digits, last_digits}
use Rattle.digits.specs.DigitsLaws.{length_digits}
use Rattle.decimal.specs.Parts.{value_of}
use Rattle.decimal.specs.Seven.{with_point}
use Rattle.buffer.specs.PutsLaws.{then}
use Rattle.decimal.proofs.Point.{with_point_is}
use Rattle.decimal.proofs.put_whole.Goals.{After-shifted}
use Rattle.decimal.proofs.put_whole.Goals as goal

-- the number has 39 digits at most
value-lt : (c : After-shifted) → value_of c.shifted.result < 2 ^ 128
value-lt c =
    lt_of_le_of_lt (le_of_eq c.shifted.ensures.0) (lt_of_lt_of_le (shl_lt 24 c.args.k c.requires.0.1) (pow_mono {i = 24 + c.args.k} {j = 128} (omega arith)))

room : (i at n len : ℕ) → i ≡ at + n → n ≤ 39 → at + 47 ≤ len → i + 8 ≤ len
room i at n len e h g = omega arith

pub put_parts-i-requires : goal.put_parts-i-requires
put_parts-i-requires c =
    let s = c.shifted.ensures in
    ((s.1, subst (λ (v : ℕ). 0 < v) (sym s.0) (mul-pos c.requires.0.0 (pow_pos c.args.k))), omega (arith, c.requires.1.1))

pub put_decimals-requires : goal.put_decimals-requires
put_decimals-requires c = (
  lit< tt,
  room c.put_parts-i.result c.args.at _ _ c.put_parts-i.ensures.place
      (length_digits 38 (value_of c.shifted.result) (lt_of_lt_of_le (value-lt (goal.at.put_decimals-requires c).After-shifted) (lit≤ tt))) (omega (arith, c.requires.1.1, c.put_parts-i.auto.out)),
)

pub returns : goal.returns
returns c =
    let v = c.args.m * 2 ^ c.args.k in
    then (with_point (v * 10 ^ 7)) (omega (arith, c.requires.1.1)) c.put_parts-i.ensures c.put_decimals.ensures
    (ap with_point (sym (add-zero (v * 10 ^ 7))) ∙ with_point_is v 0 (lit< tt)
    ∙ ap (λ (n : ℕ). digits n ++ (46 ∷ last_digits 7 0)) (sym c.shifted.ensures.0))

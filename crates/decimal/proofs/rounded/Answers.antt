-- The rounded number lies from whole * 10 ^ 7 to (whole + 1) * 10 ^ 7, by `low` and `high`; far below the last decimal it is 0.
-- Assumes nothing.
-- ---- the rounded number beside the whole part of m / 2 ^ d
use mathlib.Core.Path.{◌≡◌, sym, ◌∙◌, subst}
use Prim.Native.Nat.{ℕ, ◌+◌, ◌-◌, ◌*◌, ◌/◌, ◌^◌, ◌≤◌, ◌<◌}
use native.Mathlib.Nat.{div-le_self, lt_of_le_of_lt}
use native.Mathlib.Omega.{arith}
use Rattle.decimal.proofs.Units.{low, high, vanishes}
use borrow.Author.Rules.{rules}
use Rattle.decimal.proofs.rounded.Goals.{After-nearest_shifted-q}
use Rattle.decimal.proofs.rounded.Goals as goal

abbrev whole : After-nearest_shifted-q → ℕ
whole c = c.before.before.args.m / 2 ^ c.before.before.args.d

whole-small : (c : After-nearest_shifted-q) → whole c < 2 ^ 24
whole-small c = lt_of_le_of_lt (div-le_self c.args.m (2 ^ c.args.d)) c.requires

from : (c : After-nearest_shifted-q) → whole c * 10 ^ 7 ≤ c.nearest_shifted-q.result
from c = subst (λ (q : ℕ). whole c * 10 ^ 7 ≤ q) (sym c.nearest_shifted-q.ensures) (low c.args.m c.args.d)

to : (c : After-nearest_shifted-q) → c.nearest_shifted-q.result ≤ whole c * 10 ^ 7 + 10 ^ 7
to c = subst (λ (q : ℕ). q ≤ whole c * 10 ^ 7 + 10 ^ 7) (sym c.nearest_shifted-q.ensures) (high c.args.m c.args.d)

next : (q w : ℕ) → w * 10 ^ 7 ≤ q → q - w * 10 ^ 7 ≡ 10 ^ 7 → q ≡ (w + 1) * 10 ^ 7 + 0
next q w h e = omega arith

kept : (q x : ℕ) → x ≤ q → q ≡ x + (q - x)
kept q x h = omega arith

pub returns-then-d-gt48 : goal.returns-then-d-gt48
returns-then-d-gt48 c =
    (search rules, vanishes c.args.m c.args.d c.requires c.if-d-gt48.true)

pub overflow_sub-decimals : goal.overflow_sub-decimals
overflow_sub-decimals c = from (goal.at.overflow_sub-decimals c).After-nearest_shifted-q

pub returns : goal.returns
returns c = (
  (omega (arith, whole-small (goal.at.returns c).After-nearest_shifted-q), omega (arith, from (goal.at.returns c).After-nearest_shifted-q, to (goal.at.returns c).After-nearest_shifted-q, c.if-decimals-eq10000000.false)),
  sym c.nearest_shifted-q.ensures ∙ kept c.nearest_shifted-q.result (whole (goal.at.returns c).After-nearest_shifted-q * 10 ^ 7) (from (goal.at.returns c).After-nearest_shifted-q),
)

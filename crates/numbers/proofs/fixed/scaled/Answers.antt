-- A number of 65536ths is whole, or the significand divided by a power of two, halves up: the laws `at_whole` and `part`.
-- Assumes nothing.
use Prim.Native.Nat.{ℕ, ◌^◌, ◌<◌}
use mathlib.Core.Path.{◌≡◌, sym, ◌∙◌, subst}
use Rattle.numbers.proofs.FixedNumber.{scaled_of, at_whole, part, scaled_lt}
use Rattle.numbers.proofs.fixed.scaled.Goals.{Start}
use Rattle.numbers.proofs.fixed.scaled.Goals as goal

-- the contract's two facts of an answer
answer : (s : Start) {r : ℕ} → r ≡ scaled_of s.args.q s.args.k → (r ≡ scaled_of s.args.q s.args.k) × (r < 2 ^ 31)
answer s e = (e, subst (λ (x : ℕ). x < 2 ^ 31) (sym e) (scaled_lt s.args.q s.args.k s.requires.1 s.requires.0))

pub returns-then-k-ge133 : goal.returns-then-k-ge133
returns-then-k-ge133 c = answer (goal.at.returns-then-k-ge133 c).Start (at_whole c.args.q c.args.k c.if-k-ge133.true c.requires.1 c.requires.0)

pub returns : goal.returns
returns c =
    answer (goal.at.returns c).Start (c.halves_up_shifted.ensures ∙ part c.args.q c.args.k c.if-k-ge133.false)

-- The law `pattern_is`, at the shift that `scale` gives. Assumes nothing.
use Prim.Native.Nat.{ℕ, ◌+◌, ◌-◌, ◌*◌, ◌^◌, ◌≤◌}
use mathlib.Core.Path.{◌≡◌, sym, ap, ◌∙◌}
use mathlib.Core.Bool.{Bool, cond}
use native.Mathlib.Omega.{arith}
use lib.Ieee.{binary32, of_bits, round}
use borrow.Author.Rules.{rules}
use Rattle.decimal_parser.specs.NearestLaws.{zero_pattern, finished}
use Rattle.decimal_parser.proofs.magnitude.Goals.{After-nearest_quotient}
use Rattle.decimal_parser.proofs.magnitude.Goals as goal

done : (c : After-nearest_quotient) →
    let n = c.scale-n.result.n in
    let j = c.scale-n.result.j in
    let r = c.nearest_quotient.result in
    (r ≤ 2 ^ 24) × ((s : Bool) → of_bits binary32 (cond s (2 ^ 31) 0 + ((149 - j) * 2 ^ 23 + r)) ≡ round binary32 s c.args.q (10 ^ 7))
done c =
    let g = c.scale-n.ensures in
    finished c.args.q c.scale-n.result.n c.scale-n.result.j c.nearest_quotient.result g.0 g.1 g.2 g.3 c.nearest_quotient.ensures

pub returns-then-q-eq0 : goal.returns-then-q-eq0
returns-then-q-eq0 c = (search rules, λ s. zero_pattern s ∙ ap (λ (x : ℕ). round binary32 s x (10 ^ 7)) (sym c.if-q-eq0.true))

pub returns : goal.returns
returns c = (omega (arith, (done (goal.at.returns c).After-nearest_quotient).0), (done (goal.at.returns c).After-nearest_quotient).1)

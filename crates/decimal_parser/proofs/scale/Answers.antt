-- The zeros in front of q say how far it is shifted: the laws `lead` and `shifted`. Assumes nothing.
use Prim.Native.Nat.{ℕ, ◌-◌, ◌*◌}
use mathlib.Core.Path.{ap, ◌∙◌}
use native.Mathlib.Omega.{arith}
use lib.Count.{count_leading_zeros}
use Rattle.decimal_parser.specs.NearestLaws.{lead, shifted, doubled}
use Rattle.decimal_parser.proofs.scale.Goals as goal

pub overflow_sub-j : goal.overflow_sub-j
overflow_sub-j c = let z = lead c.args.q c.requires.0 c.requires.1 in omega (arith, z.lo)

pub returns-then-n-lt83886080000000 : goal.returns-then-n-lt83886080000000
returns-then-n-lt83886080000000 c =
    let e = shifted c.args.q c.requires.0 c.requires.1 in
    let z = lead c.args.q c.requires.0 c.requires.1 in
    (ap (λ (x : ℕ). x * 2) e ∙ doubled c.args.q (count_leading_zeros 64 c.args.q - 17), omega (arith, z.low, z.high), omega (arith, c.if-n-lt83886080000000.true), omega (arith, z.hi))

pub returns-else-n-lt83886080000000 : goal.returns-else-n-lt83886080000000
returns-else-n-lt83886080000000 c =
    let z = lead c.args.q c.requires.0 c.requires.1 in
    (shifted c.args.q c.requires.0 c.requires.1, omega (arith, c.if-n-lt83886080000000.false), omega (arith, z.low, z.high), omega (arith, z.hi))

-- One law of `Narrowing` for each answer: `tiny`, `small` and `capped`.
-- Assumes nothing.
use mathlib.Core.Path.{sym, ap, subst, ◌∙◌}
use Prim.Native.Nat.{ℕ, ◌+◌, ◌-◌, ◌*◌, ◌^◌, min}
use native.Mathlib.Omega.{arith}
use Rattle.floats.proofs.Narrowing.{Narrows, tiny, low-le, small, capped}
use borrow.Author.Rules.{rules}
use Rattle.floats.proofs.narrow.magnitude.Goals as goal

pub returns-then-field-lt872 : goal.returns-then-field-lt872
returns-then-field-lt872 c = (search rules, tiny c.args.field c.args.digits c.if-field-lt872.true c.requires.1)

pub returns-then-field-lt897 : goal.returns-then-field-lt897
returns-then-field-lt897 c =
    let e = c.nearest_shifted.ensures in
    let le = low-le c.args.field c.args.digits c.if-field-lt897.true c.requires.1 in (
      omega arith,
      subst (Narrows c.args.field c.args.digits) (sym e)
          (small c.args.field c.args.digits c.if-field-lt872.false c.if-field-lt897.true c.requires.1),
    )

pub returns : goal.returns
returns c =
    let e = c.min.ensures ∙ ap (λ (x : ℕ). min ((c.args.field - 897) * 2 ^ 23 + x) 0x7f80_0000) c.nearest_shifted-2.ensures in (
      omega arith,
      subst (Narrows c.args.field c.args.digits) (sym e) (capped c.args.field c.args.digits c.if-field-lt897.false c.requires.0 c.requires.1),
    )

-- By the fields the value is a number of units of 2 ^ -149; the laws `fewer` and `whole` turn to larger units.
-- Assumes nothing.
use mathlib.Core.Path.{◌≡◌, sym, ap, ◌∙◌}
use mathlib.Core.Bool.{Bool, cond}
use Prim.Native.Nat.{ℕ, ◌+◌, ◌-◌, ◌*◌, ◌^◌}
use native.Mathlib.Nat.{mul-one}
use native.Mathlib.Omega.{arith}
use borrow.Author.Tests.{eq-eqb, ne_eqb}
use lib.Ieee.{binary32}
use lib.Ieee.Nearest.{closest}
use Rattle.decimal.specs.Seven.{with_point}
use Rattle.buffer.specs.PutsLaws.{same}
use Rattle.floats.specs.Fields.{significand}
use Rattle.decimal.proofs.Value.{fewer, whole}
use Rattle.decimal.proofs.put_magnitude.Goals as goal

-- the number of units that the fields stand for, rounded at seven decimals
abbrev rounded : ℕ → ℕ → ℕ
rounded a field = closest (a * 2 ^ (field - 1) * 10 ^ 7) (2 ^ 149)

no_lead : (field t : ℕ) → field ≡ 0 → rounded (significand binary32 field t) field ≡ closest (t * 10 ^ 7) (2 ^ 149)
no_lead field t e =
    ap (λ (a : ℕ). rounded a field) (ap (λ (z : Bool). cond z t (2 ^ 23 + t)) (eq-eqb field 0 e))
    ∙ ap (λ (k : ℕ). rounded t k) e
    ∙ ap (λ (a : ℕ). closest (a * 10 ^ 7) (2 ^ 149)) (mul-one t)

lead : (field t : ℕ) → (field ≡ 0 → ⊥) → rounded (significand binary32 field t) field ≡ rounded (2 ^ 23 + t) field
lead field t h = ap (λ (a : ℕ). rounded a field) (ap (λ (z : Bool). cond z t (2 ^ 23 + t)) (ne_eqb field 0 h))

pub returns-then-field-lt150 : goal.returns-then-field-lt150
returns-then-field-lt150 c =
    let f = c.args.field in
    same (with_point _) c.put_fraction-then-field-lt150.ensures
    (ap with_point (lead f c.args.fraction c.if-field-eq0.false ∙ sym (fewer (2 ^ 23 + c.args.fraction) f (omega (arith, c.if-field-eq0.false)) c.if-field-lt150.true)))

pub returns : goal.returns
returns c =
    let f = c.args.field in
    same (with_point _) c.put_whole.ensures
    (ap with_point (lead f c.args.fraction c.if-field-eq0.false ∙ sym (whole (2 ^ 23 + c.args.fraction) f c.if-field-lt150.false)))

-- The number is that of the pattern's fields, and the rounded number tells the range: the laws `refused_far`, `refused_near`, `kept`.
-- Assumes nothing.
use Prim.Native.Nat.{ℕ, ◌-◌, ◌*◌, ◌/◌, ◌%◌, ◌^◌, ◌<◌, ◌≤◌}
use mathlib.Core.Path.{◌≡◌, sym, ap, ap₂, ◌∙◌, subst}
use native.Mathlib.Omega.{arith}
use lib.Dec.{T}
use lib.IntN.{ℤ}
use lib.Ieee.{Float, binary32, fits, to_bits}
use mir.Syntax.{w32}
use mir.ValLaws.{to_z-of_z}
use Rattle.numbers.specs.Fixed.{some_number, whole_fraction}
use Rattle.numbers.proofs.FixedNumber.{nan-refused, b_lt, digits_lt, scaled_of, refused_far, refused_near, kept}
use Rattle.floats.specs.Fields.{significand}
use Rattle.numbers.proofs.fixed.to_s15_fixed_16.Goals.{After-exponent-k, After-scaled-n, Start}
use Rattle.numbers.proofs.fixed.to_s15_fixed_16.Goals as goal

abbrev x : Start → Float
x s = s.args.value

-- what owning an `f32` tells: the format holds it
held : (s : Start) → T (fits binary32 (x s))
held s = subst T (sym s.well_formed.0.1) tt

-- the digits and the exponent are within what `scaled` and `is_whole` ask
within : (c : After-exponent-k) → (c.significand-q.result < 2 ^ 24) × (c.exponent-k.result ≤ 140)
within c = (
  subst (λ (q : ℕ). q < 2 ^ 24) (sym c.significand-q.ensures) (digits_lt (x c.before.before.before.before.before) (held c.before.before.before.before.before)),
  omega (arith, c.exponent-k.ensures, c.if-field-gt141.false),
)

module _ (c : After-scaled-n) where
  abbrev start : Start
  start = c.before.before.before.before.before.before

  abbrev b : ℕ
  b = to_bits binary32 (x start)

  number : c.scaled-n.result ≡ scaled_of (significand binary32 (b % 2 ^ 31 / 2 ^ 23) (b % 2 ^ 23)) (b % 2 ^ 31 / 2 ^ 23 - 1)
  number = c.scaled-n.ensures.0 ∙ ap₂ (λ (q k : ℕ). scaled_of q k) c.significand-q.ensures c.exponent-k.ensures

pub returns-then-is_nan : goal.returns-then-is_nan
returns-then-is_nan c = nan-refused c.args.value (sym c.is_nan.ensures.value ∙ c.if-is_nan.true)

pub overflow_cast-b : goal.overflow_cast-b
overflow_cast-b c = omega (arith, b_lt c.args.value (held (goal.at.overflow_cast-b c).Start))

pub returns-then-field-gt141 : goal.returns-then-field-gt141
returns-then-field-gt141 c = refused_far c.args.value (held (goal.at.returns-then-field-gt141 c).Start) c.if-field-gt141.true

pub returns-then-n : goal.returns-then-n
returns-then-n c =
    let s = (goal.at.returns-then-n c).After-scaled-n in
    refused_near c.args.value (held (start s)) c.if-field-gt141.false c.scaled-n.result (number s) c.if-n.true

pub returns : goal.returns
returns c =
    let s = (goal.at.returns c).After-scaled-n in
    let told = c.is_whole.ensures ∙ ap₂ (λ (q k : ℕ). whole_fraction (q * 2 ^ k) (2 ^ 149)) c.significand-q.ensures c.exponent-k.ensures in
    ap (λ (z : ℤ). some_number z c.is_whole.result) (to_z-of_z w32 c.with_sign.result (record { sfits = c.with_sign.type_inv }) ∙ c.with_sign.ensures)
    ∙ kept c.args.value (held (start s)) c.if-field-gt141.false c.scaled-n.result (number s) c.if-n.false told

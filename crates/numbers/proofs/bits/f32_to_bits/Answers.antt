-- The bits of the NaN are always the same. Assumes nothing.
use Rattle.std.proofs.Common.{refl, sym, ◌∙◌, ◌≡◌, true}
use lib.Ieee.{Float, nan, inf, fin, binary32, is_nan, to_bits}
use mathlib.Core.Bool.{true≢false}
use Rattle.numbers.proofs.bits.f32_to_bits.Goals as goal

nan_bits : (x : Float) → is_nan x ≡ true → 0x7fc0_0000 ≡ to_bits binary32 x
unfolding to_bits is_nan
nan_bits nan h = refl
nan_bits (inf s) h = absurd (true≢false (sym h))
nan_bits (fin s m e) h = absurd (true≢false (sym h))

pub returns-then-is_nan : goal.returns-then-is_nan
returns-then-is_nan c = nan_bits c.args.x (sym c.is_nan.ensures.value ∙ c.if-is_nan.true)

-- The magnitude as the library says it, and a test of it against a bound, made by the sign: a number below zero is negated first. The zero is that
-- of both formats. Assumes nothing.
use Rattle.std.specs.Prelude.{ℕ, ◌+◌, ◌*◌, ◌≡◌, refl, true, false, T, ℤ, pos, Float}
use Rattle.std.proofs.Common.{sym, subst, zero-mul, zero-add, arith, ltb-true, ltb-false, le-ltb}
use Rattle.std.specs.Float.{nan, inf, fin, float_with_sign}
use Rattle.std.specs.Float.Ieee.{lt, neg, up, down}
use Rattle.floats.specs.Abs.{abs}

pub abs_is : (x : Float) → float_with_sign false x ≡ abs x
unfolding abs float_with_sign
abs_is nan = refl
abs_is (inf s) = refl
abs_is (fin s m e) = refl

pub below-zero : (x y : Float) → lt x (fin false 0 (pos 0)) ≡ true → lt (neg x) y ≡ lt (abs x) y
unfolding lt neg abs
below-zero nan y h = refl
below-zero (inf true) y h = refl
below-zero (inf false) y h = absurd (subst T (sym h) tt)
below-zero (fin true m e) y h = refl
below-zero (fin false m e) y h = absurd (omega (arith, ltb-true (m * up e * 1) (0 * down e) h))

-- where m is 0, the sign of m * 2 ^ e does not count
unsigned : (m : ℕ) (e : ℤ) → m * up e ≡ 0 → (y : Float) → lt (fin true m e) y ≡ lt (fin false m e) y
unfolding lt
unsigned m e z nan = refl
unsigned m e z (inf t) = refl
unsigned m e z (fin true n d) = rw z (le-ltb (n * up d * down e) (0 * down d) (omega arith))
unsigned m e z (fin false n d) = simp (z, zero-mul, zero-add)

pub not-below_zero : (x y : Float) → lt x (fin false 0 (pos 0)) ≡ false → lt x y ≡ lt (abs x) y
unfolding lt abs
not-below_zero nan y h = refl
not-below_zero (inf true) y h = absurd (subst T h tt)
not-below_zero (inf false) y h = refl
not-below_zero (fin true m e) y h = unsigned m e (omega (arith, ltb-false 0 (m * up e * 1 + 0 * down e) h)) y
not-below_zero (fin false m e) y h = refl

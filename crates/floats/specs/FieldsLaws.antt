-- A value by the fields of its bit pattern, and which patterns are a NaN's, in either format. Assumes nothing.
use Rattle.std.specs.Prelude.{ℕ, zero, suc, ◌+◌, ◌-◌, ◌*◌, ◌/◌, ◌%◌, ◌^◌, ◌≤◌, ◌<◌, ◌≡◌, refl, Bool, not, cond, true, false, T, leb, eqb, Float}
use Rattle.std.proofs.Common.{sym, ◌∙◌, subst, true≢false, arith, ne_eqb, le-ltb, lt-ltb}
use Rattle.std.proofs.Math.Dec.{eqb-suc-zero}
use Rattle.std.specs.Float.{nan, inf, fin, Format, binary32, binary64}
use Rattle.std.specs.Float.Ieee.{prec, low, hid, ones, top, odd, fits, is_nan, of_bits, of_fields, to_bits, nan_bits, ne, div}
use Rattle.std.specs.Float.Ieee.Bits.{of_bits-to_bits, nan_bits_above, nan_bits_is}
use Rattle.std.specs.Float.Ieee.Exact.{HasValue, odd_sign}
use Rattle.floats.specs.Fields.{significand}

-- a value that equals itself is no NaN
pub equals_itself : (x : Float) → ne x x ≡ false → T (not (is_nan x))
unfolding ne is_nan
equals_itself nan h = absurd (true≢false h)
equals_itself (inf s) h = tt
equals_itself (fin s m e) h = tt

-- a value is that of its pattern's fields
pub fields_of : (f : Format) (x : Float) → T (fits f x)
    → of_fields f (leb (top f) (to_bits f x)) (to_bits f x % top f / hid f) (to_bits f x % hid f) ≡ x
unfolding of_bits
fields_of f x F = of_bits-to_bits f x F

-- the largest exponent field is that of an infinity or a NaN
pub at_top : (f : Format) (s : Bool) (t : ℕ) → of_fields f s (ones f) t ≡ cond (eqb t 0) (inf s) nan
unfolding of_fields
at_top binary32 s t = refl
at_top binary64 s t = refl

-- below it the fields are those of a finite value
pub field_value : (f : Format) (s : Bool) (field t : ℕ) → field < ones f → HasValue (of_fields f s field t) s (significand f field t * 2 ^ (field - 1)) (2 ^ low f)
unfolding of_fields
field_value f s zero t h = odd_sign (prec f) s t 0 (low f)
field_value f s (suc x) t h =
    rw (eqb-suc-zero x, less x)
    (subst (λ (b : Bool). HasValue (cond b (cond (eqb t 0) (inf s) nan) (odd (prec f) s (hid f + t) x (low f))) s ((hid f + t) * 2 ^ x) (2 ^ low f))
    (sym (ne_eqb (suc x) (ones f) (unequal (suc x) (ones f) h))) (odd_sign (prec f) s (hid f + t) x (low f)))
  where
    less : (x : ℕ) → suc x - 1 ≡ x
    less x = omega arith

    unequal : (y z : ℕ) → y < z → y ≡ z → ⊥
    unequal y z h e = omega arith

-- ---- NaN patterns

-- up to the infinity's pattern, the sign aside, no pattern is a NaN's
pub no_nan : (f : Format) (b : ℕ) → b % top f ≤ ones f * hid f → T (not (nan_bits f b))
no_nan f b h = subst (λ (t : Bool). T (not t)) (sym (nan_bits_above f b ∙ le-ltb (ones f * hid f) (b % top f) h)) tt

-- 0.0 / 0.0, each by its pattern
pub zero_by_zero : (f : Format) → div f (of_bits f 0) (of_bits f 0) ≡ nan
unfolding div of_bits
zero_by_zero binary32 = refl
zero_by_zero binary64 = refl

is_nan_lem : (x : Float) → is_nan x ≡ true → nan ≡ x
unfolding is_nan
is_nan_lem nan h = refl
is_nan_lem (inf s) h = absurd (true≢false (sym h))
is_nan_lem (fin s m e) h = absurd (true≢false (sym h))

-- above it every pattern is a NaN's, and 0.0 / 0.0 is the NaN
pub no_number : (f : Format) (b : ℕ) → ones f * hid f < b % top f → div f (of_bits f 0) (of_bits f 0) ≡ of_bits f b
no_number f b h =
    zero_by_zero f ∙ is_nan_lem (of_bits f b) (sym (nan_bits_is f b) ∙ nan_bits_above f b ∙ lt-ltb (ones f * hid f) (b % top f) h)

-- From the pattern of a binary64 value that is no NaN to the narrowed value, by the pattern's fields.
-- Assumes nothing.
use mathlib.Core.Path.{◌≡◌, sym, ap, ◌∙◌, subst}
use mathlib.Core.Bool.{Bool, true, false, not, cond}
use Prim.Native.Nat.{ℕ, ◌+◌, ◌*◌, ◌/◌, ◌%◌, ◌^◌, ◌≤◌, ◌<◌}
use native.Mathlib.Omega.{arith}
use lib.Dec.{T, leb, eqb, leb→le, nleb→lt}
use lib.Ieee.{Float, nan, inf, fin, binary32, binary64, fits, is_nan, nan_bits, of_bits, of_fields, to_bits, div}
use lib.Ieee.Bits.{to_bits-lt}
use Rattle.floats.specs.Narrow.{narrow}
use Rattle.floats.proofs.Narrowing.{Narrows, inf_bits}
use Rattle.floats.specs.FieldsLaws.{fields_of, at_top, no_nan, zero_by_zero}

pub nan-narrows : (x : Float) → T (is_nan x) → div binary32 (of_bits binary32 0) (of_bits binary32 0) ≡ narrow x
unfolding narrow is_nan
nan-narrows nan h = zero_by_zero binary32
nan-narrows (inf s) h = absurd h
nan-narrows (fin s m e) h = absurd h

pub sign_no_nan : (y r : ℕ) → r ≤ 0x7f80_0000 → T (not (nan_bits binary32 (y * 2 ^ 31 + r)))
sign_no_nan y r h = no_nan binary32 (y * 2 ^ 31 + r) (omega arith)

sign_is : (b : ℕ) → b < 2 ^ 64 → b / 2 ^ 63 * 2 ^ 31 ≡ cond (leb (2 ^ 63) b) (2 ^ 31) 0
sign_is b h = go (leb (2 ^ 63) b) (leb→le (2 ^ 63) b) (nleb→lt (2 ^ 63) b)
  where
    one : 2 ^ 63 ≤ b → b / 2 ^ 63 * 2 ^ 31 ≡ 2 ^ 31
    one l = omega arith

    none : b < 2 ^ 63 → b / 2 ^ 63 * 2 ^ 31 ≡ 0
    none l = omega arith

    go : (t : Bool) → (T t → 2 ^ 63 ≤ b) → (T (not t) → b < 2 ^ 63) → b / 2 ^ 63 * 2 ^ 31 ≡ cond t (2 ^ 31) 0
    go true p q = one (p tt)
    go false p q = none (q tt)

inf-or_nan : (s : Bool) (z : Bool) → T (not (is_nan (cond z (inf s) nan))) → of_bits binary32 (cond s (2 ^ 31) 0 + 0x7f80_0000) ≡ narrow (cond z (inf s) nan)
unfolding is_nan narrow
inf-or_nan s true n = inf_bits s
inf-or_nan s false n = absurd n

-- what owning an `f64` tells is that the format holds it
module _ (x : Float) (held : fits binary64 x ≡ true) where
  F : T (fits binary64 x)
  F = subst T (sym held) tt

  abbrev b : ℕ
  b = to_bits binary64 x

  b_lt : b < 2 ^ 64
  b_lt = to_bits-lt binary64 x F

  pub sign_le : b / 2 ^ 63 * 2 ^ 31 ≤ 2 ^ 31
  sign_le = omega (arith, b_lt)

  pub finish : (r : ℕ) → Narrows (b % 2 ^ 63 / 2 ^ 52) (b % 2 ^ 52) r → of_bits binary32 (b / 2 ^ 63 * 2 ^ 31 + r) ≡ narrow x
  finish r h = ap (λ (y : ℕ). of_bits binary32 (y + r)) (sign_is b b_lt) ∙ h (leb (2 ^ 63) b) ∙ ap narrow (fields_of binary64 x F)

  pub infinite : T (not (is_nan x)) → b % 2 ^ 63 / 2 ^ 52 ≡ 2047 → of_bits binary32 (b / 2 ^ 63 * 2 ^ 31 + 0x7f80_0000) ≡ narrow x
  infinite N e =
      let s = leb (2 ^ 63) b in
      let is : cond (eqb (b % 2 ^ 52) 0) (inf s) nan ≡ x = sym (at_top binary64 s (b % 2 ^ 52)) ∙ ap (λ (k : ℕ). of_fields binary64 s k (b % 2 ^ 52)) (sym e) ∙ fields_of binary64 x F in
      ap (λ (y : ℕ). of_bits binary32 (y + 0x7f80_0000)) (sign_is b b_lt)
      ∙ inf-or_nan s (eqb (b % 2 ^ 52) 0) (subst (λ (v : Float). T (not (is_nan v))) (sym is) N)
      ∙ ap narrow is

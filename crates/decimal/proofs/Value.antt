-- From the pattern of a binary32 value to its text: the value is the fields' number of units of 2 ^ -149, and the text depends on the value alone.
-- Assumes nothing.
use mathlib.Core.Path.{◌≡◌, refl, sym, ap, ◌∙◌, subst}
use mathlib.Core.Bool.{Bool, true, false, not, cond}
use mathlib.Core.List.{List, [], ◌∷◌, ◌++◌}
use Prim.Native.Nat.{ℕ, ◌+◌, ◌-◌, ◌*◌, ◌/◌, ◌%◌, ◌^◌, ◌≤◌, ◌<◌}
use native.Mathlib.Nat.{mul_assoc, mul_right_comm}
use native.Mathlib.Omega.{arith}
use lib.Dec.{T, leb, eqb, leb→le, nleb→lt}
use lib.Pow.{pow-add, pow_pos}
use lib.Ieee.{Float, nan, inf, fin, binary32, up, down, fits, is_nan, of_fields, to_bits, ne}
use lib.Ieee.Fits.{down_pos}
use lib.Ieee.Exact.{HasValue}
use lib.Ieee.Nearest.{closest, closest_same}
use lib.Ieee.Bits.{to_bits-lt}
use lib.Ieee.Compare.{differs_from_itself}
use borrow.Author.Tests.{ne_eqb, eq-eqb}
use Rattle.floats.specs.Fields.{significand}
use Rattle.floats.specs.FieldsLaws.{fields_of, at_top, field_value}
use Rattle.floats.specs.RoundingLaws.{closest-whole}
use Rattle.decimal.specs.Seven.{minus, with_point, seven_decimals}

-- ---- equal fractions, rounded

-- as many units of 2 ^ -149, or fewer larger ones
pub fewer : (a f : ℕ) → 1 ≤ f → f < 150 → closest (a * 10 ^ 7) (2 ^ (150 - f)) ≡ closest (a * 2 ^ (f - 1) * 10 ^ 7) (2 ^ 149)
fewer a f h g =
    closest_same (a * 10 ^ 7) (2 ^ (150 - f)) (a * 2 ^ (f - 1) * 10 ^ 7) (2 ^ 149) (pow_pos (150 - f)) (pow_pos 149)
    (ap (λ (x : ℕ). a * 10 ^ 7 * x) (ap (λ (n : ℕ). 2 ^ n) (whole f h g) ∙ pow-add 2 (f - 1) (150 - f)) ∙ turned a (2 ^ (f - 1)) (2 ^ (150 - f)) (10 ^ 7))
  where
    whole : (f : ℕ) → 1 ≤ f → f < 150 → 149 ≡ f - 1 + (150 - f)
    whole f h g = omega arith

    turned : (a b c p : ℕ) → a * p * (b * c) ≡ a * b * p * c
    turned a b c p = sym (mul_assoc (a * p) b c) ∙ ap (λ (x : ℕ). x * c) (mul_right_comm a p b)

-- a whole number
pub whole : (a f : ℕ) → 150 ≤ f → a * 2 ^ (f - 150) * 10 ^ 7 ≡ closest (a * 2 ^ (f - 1) * 10 ^ 7) (2 ^ 149)
whole a f h =
    sym (ap (λ (x : ℕ). closest (x * 10 ^ 7) (2 ^ 149)) (ap (λ (n : ℕ). a * 2 ^ n) (up_to f h) ∙ ap (λ (x : ℕ). a * x) (pow-add 2 (f - 150) 149) ∙ sym (mul_assoc a (2 ^ (f - 150)) (2 ^ 149)))
    ∙ ap (λ (x : ℕ). closest x (2 ^ 149)) (mul_right_comm (a * 2 ^ (f - 150)) (2 ^ 149) (10 ^ 7))
    ∙ closest-whole (a * 2 ^ (f - 150) * 10 ^ 7) (2 ^ 149) (pow_pos 149))
  where
    up_to : (f : ℕ) → 150 ≤ f → f - 1 ≡ f - 150 + 149
    up_to f h = omega arith

-- ---- the text by the value

of_value : (v : Float) (s : Bool) (a c : ℕ) → 0 < c → HasValue v s a c → seven_decimals v ≡ minus s ++ with_point (closest (a * 10 ^ 7) c)
unfolding seven_decimals
of_value nan s a c C h = absurd h
of_value (inf t) s a c C h = absurd h
of_value (fin t m e) s a c C h =
    ap (λ (u : Bool). minus u ++ with_point (closest (m * up e * 10 ^ 7) (down e))) h.0
    ∙ ap (λ (q : ℕ). minus s ++ with_point q)
    (closest_same (m * up e * 10 ^ 7) (down e) (a * 10 ^ 7) c (down_pos e) C
    (mul_right_comm (m * up e) (10 ^ 7) c ∙ ap (λ (x : ℕ). x * 10 ^ 7) h.1 ∙ mul_right_comm a (down e) (10 ^ 7)))

-- ---- the fields by the pattern

pub nan-text : (x : Float) → ne x x ≡ true → seven_decimals x ≡ 78 ∷ 97 ∷ 78 ∷ []
unfolding seven_decimals
nan-text x h = ap seven_decimals (differs_from_itself x (subst T (sym h) tt))

inf-text : (s z : Bool) → T (not (is_nan (cond z (inf s) nan))) → seven_decimals (cond z (inf s) nan) ≡ minus s ++ (105 ∷ 110 ∷ 102 ∷ [])
unfolding is_nan seven_decimals
inf-text s true n = refl
inf-text s false n = absurd n

sign_is : (b : ℕ) → b < 2 ^ 32 → leb (2 ^ 31) b ≡ not (eqb (b / 2 ^ 31) 0)
sign_is b h = go (leb (2 ^ 31) b) (leb→le (2 ^ 31) b) (nleb→lt (2 ^ 31) b)
  where
    one : (b : ℕ) → 2 ^ 31 ≤ b → b / 2 ^ 31 ≡ 0 → ⊥
    one b l e = omega arith

    none : (b : ℕ) → b < 2 ^ 31 → b / 2 ^ 31 ≡ 0
    none b l = omega arith

    go : (t : Bool) → (T t → 2 ^ 31 ≤ b) → (T (not t) → b < 2 ^ 31) → t ≡ not (eqb (b / 2 ^ 31) 0)
    go true p q = sym (ap not (ne_eqb (b / 2 ^ 31) 0 (one b (p tt))))
    go false p q = sym (ap not (eq-eqb (b / 2 ^ 31) 0 (none b (q tt))))

module _ (x : Float) (F : T (fits binary32 x)) where
  abbrev b : ℕ
  b = to_bits binary32 x

  abbrev f : ℕ
  f = b % 2 ^ 31 / 2 ^ 23

  abbrev t : ℕ
  t = b % 2 ^ 23

  abbrev sign : List ℕ
  sign = minus (not (eqb (b / 2 ^ 31) 0))

  pub b_lt : b < 2 ^ 32
  b_lt = to_bits-lt binary32 x F

  read : of_fields binary32 (leb (2 ^ 31) b) f t ≡ x
  read = fields_of binary32 x F

  pub finite-text : f < 255 → seven_decimals x ≡ sign ++ with_point (closest (significand binary32 f t * 2 ^ (f - 1) * 10 ^ 7) (2 ^ 149))
  finite-text h =
      ap seven_decimals (sym read)
      ∙ of_value (of_fields binary32 (leb (2 ^ 31) b) f t) (leb (2 ^ 31) b) (significand binary32 f t * 2 ^ (f - 1)) (2 ^ 149) (pow_pos 149) (field_value binary32 (leb (2 ^ 31) b) f t h)
      ∙ ap (λ (s : Bool). minus s ++ with_point (closest (significand binary32 f t * 2 ^ (f - 1) * 10 ^ 7) (2 ^ 149))) (sign_is b b_lt)

  pub infinite_text : T (not (is_nan x)) → f ≡ 255 → seven_decimals x ≡ sign ++ (105 ∷ 110 ∷ 102 ∷ [])
  infinite_text n e =
      let s = leb (2 ^ 31) b in
      let is : x ≡ cond (eqb t 0) (inf s) nan = sym read ∙ ap (λ (k : ℕ). of_fields binary32 s k t) e ∙ at_top binary32 s t in
      ap seven_decimals is
      ∙ inf-text s (eqb t 0) (subst (λ (v : Float). T (not (is_nan v))) is n)
      ∙ ap (λ (u : Bool). minus u ++ (105 ∷ 110 ∷ 102 ∷ [])) (sign_is b b_lt)

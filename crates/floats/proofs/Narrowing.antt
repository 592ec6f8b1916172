-- What the narrowing of a binary64 value to binary32 rests on: the value that `round` makes of the fields, and its pattern.
-- Assumes nothing.
use mathlib.Core.Path.{◌≡◌, refl, sym, ap, ap₂, ◌∙◌, subst}
use mathlib.Core.Logic.{◌⊎◌, inl, inr}
use mathlib.Core.Bool.{Bool, true, false, cond}
use Prim.Native.Nat.{ℕ, suc, ◌+◌, ◌-◌, ◌*◌, ◌/◌, ◌^◌, ◌≤◌, ◌<◌, min}
use native.Mathlib.Nat.{min-eq_left, min-eq_right, le_of_lt, le_trans, le_of_eq, lt_of_lt_of_le, lt_of_le_of_lt, mul_assoc, mul_comm, mul_left_comm, mul-one, mul-pos, mul-le-mul_right, mul-le-mul_left, mul-lt-mul_of_pos_right, div-lt_iff_lt-mul, le-div_iff_mul-le, eq-or-lt_of_le}
use native.Mathlib.Omega.{arith}
use lib.Dec.{T, ltb, eqb, leb→le, ltb→lt}
use lib.Pow.{pow-add, pow_pos, pow_mono, shl_lt}
use lib.Ieee.{Float, nan, inf, fin, binary32, binary64, up, down, size, odd, units, round, of_bits, of_fields}
use lib.Ieee.Digits.{size-le}
use lib.Ieee.Fits.{down_pos, round_is}
use lib.Ieee.Exact.{HasValue}
use lib.Ieee.Nearest.{closest, closest_same}
use lib.Ieee.Scale.{round_same}
use borrow.Author.Tests.{le-ltb, ne_eqb}
use Rattle.std.proofs.lemmas.Bool.{cases_lt}
use Rattle.floats.specs.Narrow.{narrow}
use Rattle.floats.specs.Fields.{significand}
use Rattle.floats.specs.FieldsLaws.{field_value}
use Rattle.floats.specs.PatternLaws.{size_exact, monus_zero, monus_k, more_24, units-bits}
use Rattle.floats.specs.RoundingLaws.{closest-zero, closest-le, closest-ge}

-- ---- a value's narrowing, by its fraction

of_value : (v : Float) (s : Bool) (a c : ℕ) → 0 < c → HasValue v s a c → narrow v ≡ round binary32 s a c
unfolding narrow
of_value nan s a c C h = absurd h
of_value (inf t) s a c C h = absurd h
of_value (fin t m e) s a c C h =
    ap (λ (u : Bool). round binary32 u (m * up e) (down e)) h.0 ∙ round_same binary32 s (m * up e) (down e) a c (down_pos e) C h.1

units-inf : (s : Bool) (q k : ℕ) → 2 ^ 277 ≤ q * 2 ^ k → units binary32 s q k ≡ inf s
unfolding units
units-inf s q k h = ap (λ (b : Bool). cond b (odd 25 s q k 149) (inf s)) (le-ltb (q * 2 ^ k) (2 ^ 277) h)

pub inf_bits : (s : Bool) → of_bits binary32 (cond s (2 ^ 31) 0 + 0x7f80_0000) ≡ inf s
unfolding of_bits
inf_bits true = refl
inf_bits false = refl

-- ---- where the largest exponent ends

big : (q k : ℕ) → 0x7f80_0000 ≤ k * 8388608 + q → q ≤ 16777216 → 8388608 ≤ q → 2 ^ 277 ≤ q * 2 ^ k
big q k h le g = go (eq-or-lt_of_le (omega arith))
  where
    go : (253 ≡ k) ⊎ (253 < k) → 2 ^ 277 ≤ q * 2 ^ k
    go (inl e) = le_trans (mul-le-mul_right (2 ^ 253) (full e)) (le_of_eq (ap (λ (x : ℕ). q * 2 ^ x) e))
      where
        full : 253 ≡ k → 2 ^ 24 ≤ q
        full e = omega arith
    go (inr l) = le_trans (mul-le-mul_right (2 ^ 254) g) (mul-le-mul_left q (pow_mono l))

fine : (q k : ℕ) → k * 8388608 + q < 0x7f80_0000 → q ≤ 16777216 → (k ≡ 0) ⊎ (8388608 ≤ q) → q * 2 ^ k < 2 ^ 277
fine q k h le (inl z) = lt_of_le_of_lt (le_of_eq (ap (λ (x : ℕ). q * 2 ^ x) z ∙ mul-one q)) (lt_of_le_of_lt le (pow_lt_lit tt))
  where
    pow_lt_lit : T (ltb 16777216 (2 ^ 277)) → 16777216 < 2 ^ 277
    pow_lt_lit t = ltb→lt 16777216 (2 ^ 277) t
fine q k h le (inr g) = go (eq-or-lt_of_le (omega arith))
  where
    go : (k ≡ 253) ⊎ (k < 253) → q * 2 ^ k < 2 ^ 277
    go (inl e) = lt_of_le_of_lt (le_of_eq (ap (λ (x : ℕ). q * 2 ^ x) e)) (shl_lt 24 253 (small e))
      where
        small : k ≡ 253 → q < 2 ^ 24
        small e = omega arith
    go (inr l) = lt_of_lt_of_le (shl_lt 25 k (lt_of_le_of_lt le (omega arith))) (pow_mono (room l))
      where
        room : k < 253 → 25 + k ≤ 277
        room l = omega arith

-- ---- what `round` makes of q * 2 ^ k / 2 ^ 1074

abbrev frac : ℕ → ℕ → ℕ
frac q k = q * 2 ^ k * 2 ^ 149

at_drop : (s : Bool) (q k j b : ℕ) → 0 < b → size (frac q k / 2 ^ 1074) - 24 ≡ j → frac q k * b ≡ q * (2 ^ 1074 * 2 ^ j)
    → round binary32 s (q * 2 ^ k) (2 ^ 1074) ≡ units binary32 s (closest q b) j
at_drop s q k j b B z e =
    round_is binary32 s (q * 2 ^ k) (2 ^ 1074)
    ∙ ap (λ (i : ℕ). units binary32 s (closest (frac q k) (2 ^ 1074 * 2 ^ i)) i) z
    ∙ ap (λ (x : ℕ). units binary32 s x j) (closest_same (frac q k) (2 ^ 1074 * 2 ^ j) q b (mul-pos (pow_pos 1074) (pow_pos j)) B e)

-- in the normal range
normal : (s : Bool) (q j : ℕ) → 2 ^ 52 ≤ q → q < 2 ^ 53 → round binary32 s (q * 2 ^ (896 + j)) (2 ^ 1074) ≡ units binary32 s (closest q (2 ^ 29)) j
normal s q j lo hi =
    let n = frac q (896 + j) in
    let is : n ≡ q * 2 ^ j * 2 ^ 1045 =
    ap (λ (x : ℕ). q * x * 2 ^ 149) (pow-add 2 896 j)
    ∙ shuffle q (2 ^ 896) (2 ^ j) (2 ^ 149) in
    let low : 2 ^ (23 + j) * 2 ^ 1074 ≤ n =
    le_trans (le_of_eq (ap (λ (x : ℕ). x * 2 ^ 1074) (pow-add 2 23 j) ∙ split (2 ^ 23) (2 ^ j) (2 ^ 29) (2 ^ 1045)))
    (le_trans (mul-le-mul_right (2 ^ 1045) (mul-le-mul_right (2 ^ j) lo)) (le_of_eq (sym is))) in
    let high : n < 2 ^ suc (23 + j) * 2 ^ 1074 =
    lt_of_le_of_lt (le_of_eq is)
    (lt_of_lt_of_le (mul-lt-mul_of_pos_right (mul-lt-mul_of_pos_right hi (pow_pos j)) (pow_pos 1045))
    (le_of_eq (sym (ap (λ (x : ℕ). 2 ^ x * 2 ^ 1074) (sym (more_24 j)) ∙ ap (λ (x : ℕ). x * 2 ^ 1074) (pow-add 2 24 j) ∙ split (2 ^ 24) (2 ^ j) (2 ^ 29) (2 ^ 1045))))) in
    at_drop s q (896 + j) j (2 ^ 29) (pow_pos 29)
    (monus_k (size (n / 2 ^ 1074)) j (size_exact (23 + j) (n / 2 ^ 1074) ((le-div_iff_mul-le (pow_pos 1074)).1 low) ((div-lt_iff_lt-mul (pow_pos 1074)).1 high)))
    (ap (λ (x : ℕ). x * 2 ^ 29) is ∙ last q (2 ^ j) (2 ^ 1045) (2 ^ 29))
  where
    shuffle : (q a b c : ℕ) → q * (a * b) * c ≡ q * b * (a * c)
    shuffle q a b c = simp (mul_assoc, mul_left_comm)

    split : (a b c d : ℕ) → a * b * (c * d) ≡ a * c * b * d
    split a b c d = simp (mul_assoc, mul_comm)

    last : (q a b c : ℕ) → q * a * b * c ≡ q * (b * c * a)
    last q a b c = simp (mul_assoc, mul_comm, mul_left_comm)

-- below it
subnormal : (s : Bool) (q k : ℕ) → q < 2 ^ 53 → k < 896 → round binary32 s (q * 2 ^ k) (2 ^ 1074) ≡ units binary32 s (closest q (2 ^ (925 - k))) 0
subnormal s q k hi h =
    let n = frac q k in
    let e : n * 2 ^ (925 - k) ≡ q * 2 ^ 1074 =
    shuffle q (2 ^ k) (2 ^ 149) (2 ^ (925 - k)) ∙ ap (λ (x : ℕ). q * x) (ap (λ (x : ℕ). x * 2 ^ 149) (sym (pow-add 2 k (925 - k)) ∙ ap (λ (x : ℕ). 2 ^ x) (whole k h))) in
    let high : n < 2 ^ 24 * 2 ^ 1074 =
    lt_of_lt_of_le (mul-lt-mul_of_pos_right (shl_lt 53 k hi) (pow_pos 149))
    (le_trans (mul-le-mul_right (2 ^ 149) (pow_mono (room k h))) (leb→le (2 ^ 949 * 2 ^ 149) (2 ^ 24 * 2 ^ 1074) tt)) in
    at_drop s q k 0 (2 ^ (925 - k)) (pow_pos (925 - k))
    (monus_zero (size (n / 2 ^ 1074)) (size-le (n / 2 ^ 1074) 24 ((div-lt_iff_lt-mul (pow_pos 1074)).1 high)))
    e
  where
    shuffle : (q a b c : ℕ) → q * a * b * c ≡ q * (a * c * b)
    shuffle q a b c = simp (mul_assoc, mul_comm)

    whole : (k : ℕ) → k < 896 → k + (925 - k) ≡ 925
    whole k h = omega arith

    room : (k : ℕ) → k < 896 → 53 + k ≤ 949
    room k h = omega arith

-- ---- the bounds of the rounded quotient

power_le : (q d b : ℕ) → q < 2 ^ (b + d) → closest q (2 ^ d) ≤ 2 ^ b
power_le q d b h = closest-le q (2 ^ d) (2 ^ b) (pow_pos d) (lt_of_lt_of_le h (le_of_eq (pow-add 2 b d)))

power_ge : (q d b : ℕ) → 2 ^ (b + d) ≤ q → 2 ^ b ≤ closest q (2 ^ d)
power_ge q d b h = closest-ge q (2 ^ d) (2 ^ b) (pow_pos d) (le_trans (le_of_eq (sym (pow-add 2 b d))) h)

-- ---- the fields of a finite binary64 value

module _ (field t : ℕ) (h : field < 2047) (g : t < 2 ^ 52) where
  abbrev q : ℕ
  q = significand binary64 field t

  significand_lt : q < 2 ^ 53
  significand_lt = go (eqb field 0)
    where
      go : (z : Bool) → cond z t (2 ^ 52 + t) < 2 ^ 53
      go true = omega arith
      go false = omega arith

  leading : 0 < field → q ≡ 2 ^ 52 + t
  leading p = ap (λ (z : Bool). cond z t (2 ^ 52 + t)) (ne_eqb field 0 (ne field p))
    where
      ne : (f : ℕ) → 0 < f → f ≡ 0 → ⊥
      ne f p e = omega arith

  narrows : (s : Bool) → round binary32 s (q * 2 ^ (field - 1)) (2 ^ 1074) ≡ narrow (of_fields binary64 s field t)
  narrows s = sym (of_value (of_fields binary64 s field t) s (q * 2 ^ (field - 1)) (2 ^ 1074) (pow_pos 1074) (field_value binary64 s field t h))

-- ---- the three answers of the code

-- the pattern r, with either sign, is what the fields narrow to
abbrev pub Narrows : ℕ → ℕ → ℕ → Type 0
Narrows field t r = (s : Bool) → of_bits binary32 (cond s (2 ^ 31) 0 + r) ≡ narrow (of_fields binary64 s field t)

zero_bits : (s : Bool) → cond s (2 ^ 31) 0 + 0 ≡ cond s (2 ^ 31) 0 + 0 * 2 ^ 23 + 0
zero_bits true = refl
zero_bits false = refl

pub tiny : (field t : ℕ) → field < 872 → t < 2 ^ 52 → Narrows field t 0
tiny field t h g s =
    let k = field - 1 in
    let hi : q field t (finite field h) g < 2 ^ 53 = significand_lt field t (finite field h) g in
    ap (of_bits binary32) (zero_bits s)
    ∙ units-bits s 0 0 (omega arith) (inl refl) (fine 0 0 (omega arith) (omega arith) (inl refl))
    ∙ ap (λ (x : ℕ). units binary32 s x 0) (sym (closest-zero (q field t (finite field h) g) (2 ^ (925 - k)) (lt_of_lt_of_le (shl_lt 53 1 hi) (pow_mono (room field h)))))
    ∙ sym (subnormal s (q field t (finite field h) g) k hi (under field h))
    ∙ narrows field t (finite field h) g s
  where
    finite : (f : ℕ) → f < 872 → f < 2047
    finite f h = omega arith

    room : (f : ℕ) → f < 872 → 54 ≤ 925 - (f - 1)
    room f h = omega arith

    under : (f : ℕ) → f < 872 → f - 1 < 896
    under f h = omega arith

pub low-le : (field t : ℕ) → field < 897 → t < 2 ^ 52 → closest (2 ^ 52 + t) (2 ^ (926 - field)) ≤ 2 ^ 24
low-le field t h g = power_le (2 ^ 52 + t) (926 - field) 24 (lt_of_lt_of_le {m = 2 ^ 53} (omega arith) (pow_mono (room field h)))
  where
    room : (f : ℕ) → f < 897 → 53 ≤ 24 + (926 - f)
    room f h = omega arith

pub small : (field t : ℕ) → 872 ≤ field → field < 897 → t < 2 ^ 52 → Narrows field t (closest (2 ^ 52 + t) (2 ^ (926 - field)))
small field t lo h g s =
    let r = closest (2 ^ 52 + t) (2 ^ (926 - field)) in
    let le : r ≤ 2 ^ 24 = low-le field t h g in
    ap (of_bits binary32) (no_k (cond s (2 ^ 31) 0) r)
    ∙ units-bits s r 0 le (inl refl) (fine r 0 (under r le) le (inl refl))
    ∙ ap (λ (d : ℕ). units binary32 s (closest (2 ^ 52 + t) (2 ^ d)) 0) (before field lo h)
    ∙ sym (subnormal s (2 ^ 52 + t) (field - 1) (omega arith) (less field h))
    ∙ ap (λ (q : ℕ). round binary32 s (q * 2 ^ (field - 1)) (2 ^ 1074)) (sym (leading field t (finite field h) g (some field lo)))
    ∙ narrows field t (finite field h) g s
  where
    no_k : (c q : ℕ) → c + q ≡ c + 0 * 8388608 + q
    no_k c q = omega arith

    under : (r : ℕ) → r ≤ 2 ^ 24 → 0 * 8388608 + r < 0x7f80_0000
    under r h = omega arith

    before : (f : ℕ) → 872 ≤ f → f < 897 → 926 - f ≡ 925 - (f - 1)
    before f l h = omega arith

    less : (f : ℕ) → f < 897 → f - 1 < 896
    less f h = omega arith

    finite : (f : ℕ) → f < 897 → f < 2047
    finite f h = omega arith

    some : (f : ℕ) → 872 ≤ f → 0 < f
    some f h = omega arith

pub top-le : (t : ℕ) → t < 2 ^ 52 → closest (2 ^ 52 + t) (2 ^ 29) ≤ 2 ^ 24
top-le t g = power_le (2 ^ 52 + t) 29 24 (omega arith)

module _ (field t : ℕ) (lo : 897 ≤ field) (h : field < 2047) (g : t < 2 ^ 52) where
  abbrev j : ℕ
  j = field - 897

  abbrev r : ℕ
  r = closest (2 ^ 52 + t) (2 ^ 29)

  ge : 2 ^ 23 ≤ r
  ge = power_ge (2 ^ 52 + t) 29 23 (omega arith)

  is : (s : Bool) → units binary32 s r j ≡ narrow (of_fields binary64 s field t)
  is s =
      sym (normal s (2 ^ 52 + t) j (omega arith) (omega arith))
      ∙ ap₂ (λ (q k : ℕ). round binary32 s (q * 2 ^ k) (2 ^ 1074)) (sym (leading field t h g (some field lo))) (whole field lo)
      ∙ narrows field t h g s
    where
      some : (f : ℕ) → 897 ≤ f → 0 < f
      some f h = omega arith

      whole : (f : ℕ) → 897 ≤ f → 896 + (f - 897) ≡ f - 1
      whole f h = omega arith

  large : j * 2 ^ 23 + r < 0x7f80_0000 → Narrows field t (j * 2 ^ 23 + r)
  large l s =
      ap (of_bits binary32) (with_k (cond s (2 ^ 31) 0) j r)
      ∙ units-bits s r j (top-le t g) (inr ge) (fine r j l (top-le t g) (inr ge))
      ∙ is s
    where
      with_k : (c j q : ℕ) → c + (j * 8388608 + q) ≡ c + j * 8388608 + q
      with_k c j q = omega arith

  over : 0x7f80_0000 ≤ j * 2 ^ 23 + r → Narrows field t 0x7f80_0000
  over l s = inf_bits s ∙ sym (units-inf s r j (big r j l (top-le t g) ge)) ∙ is s

  pub capped : Narrows field t (min (j * 2 ^ 23 + r) 0x7f80_0000)
  capped = go (cases_lt (j * 2 ^ 23 + r) 0x7f80_0000)
    where
      go : (j * 2 ^ 23 + r < 0x7f80_0000) ⊎ (0x7f80_0000 ≤ j * 2 ^ 23 + r) → Narrows field t (min (j * 2 ^ 23 + r) 0x7f80_0000)
      go (inl l) = subst (Narrows field t) (sym (min-eq_left (le_of_lt l))) (large l)
      go (inr l) = subst (Narrows field t) (sym (min-eq_right l)) (over l)

-- What the fixed number of a binary32 value rests on.
-- Assumes nothing.
use Prim.Native.Nat.{ℕ, zero, suc, ◌+◌, ◌-◌, ◌*◌, ◌/◌, ◌%◌, ◌^◌, ◌≤◌, ◌<◌}
use mathlib.Core.Path.{◌≡◌, refl, sym, ap, ◌∙◌, subst}
use mathlib.Core.Logic.{◌⊎◌, inl, inr, ⊎_elim}
use mathlib.Core.Bool.{Bool, true, false, not, cond, true≢false}
use native.Mathlib.Nat.{le_trans, le_of_eq, lt_of_lt_of_le, mul_assoc, mul_right_comm, mul-one, mul-le-mul_right, mul-le-mul_left, le_of_mul-le-mul_right, eq_of_mul-eq-mul_right, mod-one, mod-eq_of_lt, mul-mod_left, div-add-mod'}
use native.Mathlib.Omega.{arith}
use lib.Dec.{T, leb, ltb, eqb, leb→le, le→leb, lit<, ltb→lt, nltb→le, eqb→eq, eqb_refl}
use lib.Pow.{pow-add, pow_pos, pow_mono, shl_lt, shl_exact}
use lib.IntN.{ℤ, pos, neg_ℤ, ◌-ℤ◌, +ℤ_idl}
use Rattle.std.specs.Prelude.{None}
use lib.Ieee.{Float, nan, inf, fin, binary32, up, down, fits, of_fields, to_bits, is_nan}
use lib.Ieee.Fits.{down_pos}
use lib.Ieee.Exact.{HasValue}
use lib.Ieee.Bits.{to_bits-lt}
use borrow.Author.Tests.{le-leb, lt-leb, ne_eqb}
use mir.Syntax.{w32}
use mir.Val.{SFits, to_z, of_z}
use mir.ValLaws.{to_z_pos, to_z-of_z}
use Rattle.floats.specs.Fields.{significand}
use Rattle.floats.specs.FieldsLaws.{fields_of, at_top, field_value}
use Rattle.floats.specs.Rounding.{halves_up}
use Rattle.floats.specs.RoundingLaws.{halves_up_le, halves_up_same, halves_up_whole}
use Rattle.numbers.specs.Fixed.{some_number, signed, largest, whole_fraction, of_fraction, s15_fixed16}

lt-or_ge : (a b : ℕ) → (a < b) ⊎ (b ≤ a)
lt-or_ge a b = go (ltb a b) (ltb→lt a b) (nltb→le a b)
  where
    go : (t : Bool) → (T t → a < b) → (T (not t) → b ≤ a) → (a < b) ⊎ (b ≤ a)
    go true p q = inl (p tt)
    go false p q = inr (q tt)

same_test : (a b : Bool) → (T a → T b) → (T b → T a) → a ≡ b
same_test true true p q = refl
same_test true false p q = absurd (p tt)
same_test false true p q = absurd (q tt)
same_test false false p q = refl

-- ---- the range depends on the fraction alone

module _ (n d a c : ℕ) (D : 0 < d) (C : 0 < c) (e : n * c ≡ a * d) where
  range_same : leb n (largest * d) ≡ leb a (largest * c)
  range_same =
      same_test (leb n (largest * d)) (leb a (largest * c))
      (λ t. le→leb a (largest * c)
      (le_of_mul-le-mul_right (le_trans (le_of_eq (sym e)) (le_trans (mul-le-mul_right c (leb→le n (largest * d) t)) (le_of_eq (mul_right_comm largest d c)))) D))
      (λ t. le→leb n (largest * d)
      (le_of_mul-le-mul_right (le_trans (le_of_eq e) (le_trans (mul-le-mul_right d (leb→le a (largest * c) t)) (le_of_eq (mul_right_comm largest c d)))) C))

-- ---- and so does whether it is whole

module _ (n d a c : ℕ) (D : 0 < d) (e : n * c ≡ a * d) where
  divided : n % d ≡ 0 → a % c ≡ 0
  divided z =
      let n_is : n / d * d ≡ n = omega (arith, div-add-mod' n d, z) in
      let a_is : n / d * c ≡ a = eq_of_mul-eq-mul_right d D (n / d * c) a (mul_right_comm (n / d) c d ∙ ap (λ (x : ℕ). x * c) n_is ∙ e) in
      ap (λ (x : ℕ). x % c) (sym a_is) ∙ mul-mod_left (n / d) c

module _ (n d a c : ℕ) (D : 0 < d) (C : 0 < c) (e : n * c ≡ a * d) where
  whole_same : eqb (n % d) 0 ≡ eqb (a % c) 0
  whole_same =
      same_test (eqb (n % d) 0) (eqb (a % c) 0)
      (λ t. is_zero (divided n d a c D e (eqb→eq (n % d) 0 t)))
      (λ t. is_zero (divided a c n d C (sym e) (eqb→eq (a % c) 0 t)))
    where
      is_zero : {x : ℕ} → x ≡ 0 → T (eqb x 0)
      is_zero z = subst (λ (y : ℕ). T (eqb y 0)) (sym z) tt

of_value : (v : Float) (s : Bool) (a c : ℕ) → 0 < c → HasValue v s a c → s15_fixed16 v ≡ of_fraction s a c
unfolding s15_fixed16
of_value nan s a c C h = absurd h
of_value (inf t) s a c C h = absurd h
of_value (fin t m e) s a c C h =
    let n = m * up e in
    let cross : n * 65536 * c ≡ a * 65536 * down e =
    mul_right_comm n 65536 c ∙ ap (λ (x : ℕ). x * 65536) h.1 ∙ mul_right_comm a (down e) 65536 in
    rw (h.0, range_same (n * 65536) (down e) (a * 65536) c (down_pos e) C cross, halves_up_same (n * 65536) (down e) (a * 65536) c (down_pos e) C cross, whole_same (n * 65536) (down e) (a * 65536) c (down_pos e) C cross)

-- ---- a significand of 24 digits is in range, whatever it is divided by

module _ (q u : ℕ) (U : 0 < u) (h : q < 2 ^ 24) where
  small_within : q ≤ largest * u
  small_within = omega arith

  small_le : halves_up q u ≤ largest
  small_le = halves_up_le q u U largest small_within

-- ---- q * 2 ^ k / 2 ^ 149 in 65536ths

abbrev pub scaled_of : ℕ → ℕ → ℕ
scaled_of q k = halves_up (q * 2 ^ k * 65536) (2 ^ 149)

module _ (q k : ℕ) (lo : 133 ≤ k) where
  whole_is : q * 2 ^ k * 65536 * 1 ≡ q * 2 ^ (k - 133) * 2 ^ 149
  whole_is =
      mul-one (q * 2 ^ k * 65536)
      ∙ ap (λ (x : ℕ). q * 2 ^ x * 65536) (sum k lo) ∙ ap (λ (x : ℕ). q * x * 65536) (pow-add 2 (k - 133) 133)
      ∙ ap (λ (x : ℕ). x * 65536) (sym (mul_assoc q (2 ^ (k - 133)) (2 ^ 133))) ∙ mul_assoc (q * 2 ^ (k - 133)) (2 ^ 133) 65536
    where
      sum : (k : ℕ) → 133 ≤ k → k ≡ k - 133 + 133
      sum k h = omega arith

  pub above-whole : true ≡ whole_fraction (q * 2 ^ k) (2 ^ 149)
  above-whole =
      sym (whole_same (q * 2 ^ k * 65536) (2 ^ 149) (q * 2 ^ (k - 133)) 1 (pow_pos 149) (lit< tt) whole_is ∙ ap (λ (r : ℕ). eqb r 0) (mod-one (q * 2 ^ (k - 133))))

  whole : scaled_of q k ≡ q * 2 ^ (k - 133)
  whole = halves_up_same (q * 2 ^ k * 65536) (2 ^ 149) (q * 2 ^ (k - 133)) 1 (pow_pos 149) (lit< tt) whole_is ∙ halves_up_whole (q * 2 ^ (k - 133))

  whole_range : leb (q * 2 ^ k * 65536) (largest * 2 ^ 149) ≡ leb (q * 2 ^ (k - 133)) largest
  whole_range = range_same (q * 2 ^ k * 65536) (2 ^ 149) (q * 2 ^ (k - 133)) 1 (pow_pos 149) (lit< tt) whole_is

  whole_lt : k ≤ 140 → q < 2 ^ 24 → q * 2 ^ (k - 133) < 2 ^ 31
  whole_lt hi h = lt_of_lt_of_le (shl_lt 24 (k - 133) h) (pow_mono {j = 31} (omega arith))

  pub at_whole : k ≤ 140 → q < 2 ^ 24 → q * 2 ^ (k - 133) % 2 ^ 64 ≡ scaled_of q k
  at_whole hi h = shl_exact 24 (k - 133) 64 h (omega arith) ∙ sym whole

module _ (q k : ℕ) (h : k < 133) where
  part_is : q * 2 ^ k * 65536 * 2 ^ (133 - k) ≡ q * 2 ^ 149
  part_is =
      mul_right_comm (q * 2 ^ k) 65536 (2 ^ (133 - k)) ∙ ap (λ (x : ℕ). x * 65536) (mul_assoc q (2 ^ k) (2 ^ (133 - k)))
      ∙ ap (λ (x : ℕ). q * x * 65536) (sym (pow-add 2 k (133 - k)) ∙ ap (λ (x : ℕ). 2 ^ x) (sum k h)) ∙ mul_assoc q (2 ^ 133) 65536
    where
      sum : (k : ℕ) → k < 133 → k + (133 - k) ≡ 133
      sum k h = omega arith

  pub part : halves_up q (2 ^ (133 - k)) ≡ scaled_of q k
  part = sym (halves_up_same (q * 2 ^ k * 65536) (2 ^ 149) q (2 ^ (133 - k)) (pow_pos 149) (pow_pos (133 - k)) part_is)

  part_whole : eqb (q % 2 ^ (133 - k)) 0 ≡ whole_fraction (q * 2 ^ k) (2 ^ 149)
  part_whole = sym (whole_same (q * 2 ^ k * 65536) (2 ^ 149) q (2 ^ (133 - k)) (pow_pos 149) (pow_pos (133 - k)) part_is)

  -- all digits of q lie below the last place
  pub below-whole : q < 2 ^ 24 → 63 < 133 - k → eqb q 0 ≡ whole_fraction (q * 2 ^ k) (2 ^ 149)
  below-whole l far =
      ap (λ (r : ℕ). eqb r 0) (sym (mod-eq_of_lt (lt_of_lt_of_le l (pow_mono {i = 24} {j = 133 - k} (omega arith))))) ∙ part_whole

  -- q is what is left of it where the digits below are cleared
  pub cleared_whole : q < 2 ^ 24 → eqb (q / 2 ^ (133 - k) * 2 ^ (133 - k) % 2 ^ 64) q ≡ whole_fraction (q * 2 ^ k) (2 ^ 149)
  cleared_whole l = ap (λ (r : ℕ). eqb r q) kept-digits ∙ same_test (eqb (q / d * d) q) (eqb (q % d) 0) none some ∙ part_whole
    where
      d : ℕ
      d = 2 ^ (133 - k)

      kept-digits : q / d * d % 2 ^ 64 ≡ q / d * d
      kept-digits = mod-eq_of_lt (omega (arith, div-add-mod' q d))

      none : T (eqb (q / d * d) q) → T (eqb (q % d) 0)
      none t = subst (λ (y : ℕ). T (eqb y 0)) (sym (zero_rest (eqb→eq (q / d * d) q t))) tt
        where
          zero_rest : q / d * d ≡ q → q % d ≡ 0
          zero_rest e = omega (arith, div-add-mod' q d, e)

      some : T (eqb (q % d) 0) → T (eqb (q / d * d) q)
      some t = subst (λ (y : ℕ). T (eqb y q)) (sym (no_rest (eqb→eq (q % d) 0 t))) (eqb_refl q)
        where
          no_rest : q % d ≡ 0 → q / d * d ≡ q
          no_rest e = omega (arith, div-add-mod' q d, e)

  part_range : leb (q * 2 ^ k * 65536) (largest * 2 ^ 149) ≡ leb q (largest * 2 ^ (133 - k))
  part_range = range_same (q * 2 ^ k * 65536) (2 ^ 149) q (2 ^ (133 - k)) (pow_pos 149) (pow_pos (133 - k)) part_is

pub scaled_lt : (q k : ℕ) → k ≤ 140 → q < 2 ^ 24 → scaled_of q k < 2 ^ 31
scaled_lt q k hi h =
    ⊎_elim (λ (l : k < 133). let le = small_le q (2 ^ (133 - k)) (pow_pos (133 - k)) h in subst (λ (x : ℕ). x < 2 ^ 31) (part q k l) (omega arith))
    (λ (g : 133 ≤ k). subst (λ (x : ℕ). x < 2 ^ 31) (sym (whole q k g)) (whole_lt q k g hi h)) (lt-or_ge k 133)

-- the range, by the rounded number
range_is : (q k : ℕ) → q < 2 ^ 24 → leb (q * 2 ^ k * 65536) (largest * 2 ^ 149) ≡ leb (scaled_of q k) largest
range_is q k h = ⊎_elim below above (lt-or_ge k 133)
  where
    below : k < 133 → leb (q * 2 ^ k * 65536) (largest * 2 ^ 149) ≡ leb (scaled_of q k) largest
    below l =
        let u = 2 ^ (133 - k) in
        let U : 0 < u = pow_pos (133 - k) in
        part_range q k l
        ∙ le-leb q (largest * u) (small_within q u U h)
        ∙ sym (ap (λ (x : ℕ). leb x largest) (sym (part q k l)) ∙ le-leb (halves_up q u) largest (small_le q u U h))

    above : 133 ≤ k → leb (q * 2 ^ k * 65536) (largest * 2 ^ 149) ≡ leb (scaled_of q k) largest
    above g = whole_range q k g ∙ ap (λ (x : ℕ). leb x largest) (sym (whole q k g))

-- ---- the sign

module _ (n : ℕ) (h : n < 2 ^ 31) where
  neg_is : pos 0 -ℤ to_z w32 n ≡ neg_ℤ (pos n)
  neg_is = ap (λ (z : ℤ). pos 0 -ℤ z) (to_z_pos w32 n h) ∙ +ℤ_idl (neg_ℤ (pos n))

  pub negated_fits : SFits w32 (pos 0 -ℤ to_z w32 n)
  negated_fits = subst (λ (z : ℤ). SFits w32 z) (sym neg_is) (neg n h)
    where
      neg : (n : ℕ) → n < 2 ^ 31 → SFits w32 (neg_ℤ (pos n))
      neg zero h = record { sfits = h }
      neg (suc n) h = record { sfits = omega arith }

  pub negated : to_z w32 (of_z w32 (pos 0 -ℤ to_z w32 n)) ≡ neg_ℤ (pos n)
  negated = to_z-of_z w32 (pos 0 -ℤ to_z w32 n) negated_fits ∙ neg_is

-- ---- from the pattern

pub nan-refused : (x : Float) → is_nan x ≡ true → None ≡ s15_fixed16 x
unfolding s15_fixed16 is_nan
nan-refused nan h = refl
nan-refused (inf s) h = absurd (true≢false (sym h))
nan-refused (fin s m e) h = absurd (true≢false (sym h))

not_finite : (s z : Bool) → None ≡ s15_fixed16 (cond z (inf s) nan)
unfolding s15_fixed16
not_finite s true = refl
not_finite s false = refl

far : (q k : ℕ) → 2 ^ 23 ≤ q → 141 ≤ k → largest * 2 ^ 149 < q * 2 ^ k * 65536
far q k h g = more (q * 2 ^ k) (le_trans (mul-le-mul_right (2 ^ 141) h) (mul-le-mul_left q (pow_mono g)))
  where
    more : (x : ℕ) → 2 ^ 23 * 2 ^ 141 ≤ x → largest * 2 ^ 149 < x * 65536
    more x h = lt_of_lt_of_le (lit< tt) (mul-le-mul_right 65536 h)

module _ (x : Float) (F : T (fits binary32 x)) where
  abbrev b : ℕ
  b = to_bits binary32 x

  abbrev s : Bool
  s = leb (2 ^ 31) b

  abbrev f : ℕ
  f = b % 2 ^ 31 / 2 ^ 23

  abbrev t : ℕ
  t = b % 2 ^ 23

  pub b_lt : b < 2 ^ 32
  b_lt = to_bits-lt binary32 x F

  at_field : f < 255 → s15_fixed16 x ≡ of_fraction s (significand binary32 f t * 2 ^ (f - 1)) (2 ^ 149)
  at_field h =
      ap s15_fixed16 (sym (fields_of binary32 x F))
      ∙ of_value (of_fields binary32 s f t) s (significand binary32 f t * 2 ^ (f - 1)) (2 ^ 149) (pow_pos 149) (field_value binary32 s f t h)

  pub digits_lt : significand binary32 f t < 2 ^ 24
  digits_lt = go (eqb f 0)
    where
      go : (z : Bool) → cond z t (2 ^ 23 + t) < 2 ^ 24
      go true = omega arith
      go false = omega arith

  pub refused_far : 141 < f → None ≡ s15_fixed16 x
  refused_far h = ⊎_elim finite top (lt-or_ge f 255)
    where
      lead : significand binary32 f t ≡ 2 ^ 23 + t
      lead = ap (λ (z : Bool). cond z t (2 ^ 23 + t)) (ne_eqb f 0 (ne f h))
        where
          ne : (f : ℕ) → 141 < f → f ≡ 0 → ⊥
          ne f h e = omega arith

      finite : f < 255 → None ≡ s15_fixed16 x
      finite l =
          sym (at_field l
          ∙ ap (λ (q : ℕ). of_fraction s (q * 2 ^ (f - 1)) (2 ^ 149)) lead
          ∙ ap (λ (z : Bool). cond z (some_number (signed s (scaled_of (2 ^ 23 + t) (f - 1))) (whole_fraction ((2 ^ 23 + t) * 2 ^ (f - 1)) (2 ^ 149))) None)
          (lt-leb ((2 ^ 23 + t) * 2 ^ (f - 1) * 65536) (largest * 2 ^ 149) (far (2 ^ 23 + t) (f - 1) (omega arith) (before f h))))
        where
          before : (f : ℕ) → 141 < f → 141 ≤ f - 1
          before f h = omega arith

      top : 255 ≤ f → None ≡ s15_fixed16 x
      top g = not_finite s (eqb t 0) ∙ ap s15_fixed16 (sym (at_top binary32 s t) ∙ ap (λ (k : ℕ). of_fields binary32 s k t) (is b f refl g) ∙ fields_of binary32 x F)
        where
          is : (b f : ℕ) → f ≡ b % 2 ^ 31 / 2 ^ 23 → 255 ≤ f → 255 ≡ f
          is b f e h = omega arith

  abbrev q : ℕ
  q = significand binary32 f t

  module _ (near : f ≤ 141) (n : ℕ) (e : n ≡ scaled_of q (f - 1)) where
    known : s15_fixed16 x ≡ cond (leb n largest) (some_number (signed s n) (whole_fraction (q * 2 ^ (f - 1)) (2 ^ 149))) None
    known =
        at_field (under f near)
        ∙ ap (λ (z : Bool). cond z (some_number (signed s (scaled_of q (f - 1))) (whole_fraction (q * 2 ^ (f - 1)) (2 ^ 149))) None) (range_is q (f - 1) digits_lt)
        ∙ ap (λ (y : ℕ). cond (leb y largest) (some_number (signed s y) (whole_fraction (q * 2 ^ (f - 1)) (2 ^ 149))) None) (sym e)
      where
        under : (f : ℕ) → f ≤ 141 → f < 255
        under f h = omega arith

    by_range : {b : Bool} → leb n largest ≡ b → s15_fixed16 x ≡ cond b (some_number (signed s n) (whole_fraction (q * 2 ^ (f - 1)) (2 ^ 149))) None
    by_range h = known ∙ ap (λ (z : Bool). cond z (some_number (signed s n) (whole_fraction (q * 2 ^ (f - 1)) (2 ^ 149))) None) h

    pub refused_near : largest < n → None ≡ s15_fixed16 x
    refused_near h = sym (by_range (lt-leb n largest h))

    pub kept : n ≤ largest → {w : Bool} → w ≡ whole_fraction (q * 2 ^ (f - 1)) (2 ^ 149) → some_number (signed s n) w ≡ s15_fixed16 x
    kept h same = ap (some_number (signed s n)) same ∙ sym (by_range (le-leb n largest h))

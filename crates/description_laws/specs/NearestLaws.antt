-- What `round` gives is the nearest value of the format. Assumes nothing.
use Rattle.std.specs.Prelude.{ℕ, zero, suc, ◌+◌, ◌-◌, ◌*◌, ◌/◌, ◌%◌, ◌^◌, ◌≤◌, ◌<◌, ◌≡◌, refl, ◌⊎◌, Bool, true, false, not, cond, ◌&&◌, T, eqb, leb, ltb, ℤ, pos, negsuc, Float}
use Rattle.std.proofs.Common.{le_trans, le_of_eq, le_antisymm, le-add_right, lt_of_le_of_lt, lt_of_lt_of_le, pow-suc, mul_assoc, mul_comm, mul_left_comm, mul_right_comm, zero-mul, mul-one, mul-pos, add-mul, le_of_suc-le-suc, lt_of_not-le, not-le_of_lt, mul-le-mul_right, le_of_mul-le-mul_right, mul-div_cancel, lt_of_mul-lt-mul_right, mul-lt-mul_of_pos_right, arith, sym, ap, ap₂, ◌∙◌, subst, inl, inr, leb→le, ltb→lt, lit<, pow-add, pow_pos, pow_mono}
use Rattle.std.proofs.Math.Nat.{mul-sub, eq_of_mul-eq-mul_right}
use Rattle.std.specs.Bool.{beq}
use Rattle.std.proofs.Math.Pow.{pow-lt}
use Rattle.std.specs.Float.{nan, inf, fin, Format, binary32}
use Rattle.std.specs.Float.Ieee.{prec, low, emax, up, down, size, units, round, fits, is_nan, of_bits, to_bits, hid, top}
use Rattle.std.specs.Float.Ieee.Digits.{back}
use Rattle.std.specs.Float.Ieee.Fits.{and_l, and_r, down_pos, round_is, round-fits, two-le_pos}
use Rattle.std.specs.Float.Ieee.Fits as Fits
use Rattle.std.specs.Float.Ieee.Exact.{HasValue, units_val}
use Rattle.std.specs.Float.Ieee.Bits.{of_bits-to_bits, to_bits-of_bits}
use Rattle.std.specs.Float.Ieee.Order.{drop, kept}
use Rattle.std.specs.Float.Ieee.Positive.{den, den_pos}
use Rattle.std.specs.Float.Ieee.Scale.{finite}
use Rattle.floats.specs.PatternLaws.{units-bits}
use Rattle.description_laws.specs.Distance.{away, apart, sign, distance, Nearest}
use Rattle.description_laws.specs.RoundLaws.{kept-most, kept-least, kept-nearest, kept-even}

-- ---- a value of a format, in units of the least

abbrev shift : ℕ → ℤ → ℕ
shift l (pos i) = i + l
shift l (negsuc i) = l - suc i

shifted : (l m : ℕ) (e : ℤ) → down e ≤ 2 ^ l → m * up e * 2 ^ l ≡ m * 2 ^ shift l e * down e
shifted l m (pos i) h = mul_assoc m (2 ^ i) (2 ^ l) ∙ ap (λ (x : ℕ). m * x) (sym (pow-add 2 i l)) ∙ sym (mul-one (m * 2 ^ (i + l)))
shifted l m (negsuc i) h =
    ap (λ (x : ℕ). x * 2 ^ l) (mul-one m)
    ∙ ap (λ (x : ℕ). m * 2 ^ x) (sym (back l (suc i) within))
    ∙ ap (λ (x : ℕ). m * x) (pow-add 2 (l - suc i) (suc i))
    ∙ sym (mul_assoc m (2 ^ (l - suc i)) (2 ^ suc i))
  where
    within : suc i ≤ l
    within = le_of_suc-le-suc (lt_of_not-le (λ (g : suc l ≤ suc i). not-le_of_lt (pow-lt g) h))

record Units (f : Format) (y : Float) : Type 0 where
  m : ℕ
  j : ℕ
  small : m < 2 ^ prec f
  is : HasValue y (sign y) (m * 2 ^ j) (2 ^ low f)

in_units : (f : Format) (y : Float) → T (finite y) → T (fits f y) → Units f y
unfolding fits
in_units f nan v h = absurd v
in_units f (inf s) v h = absurd v
in_units f (fin s zero e) v h = record { m = 0; j = 0; small = pow_pos (prec f); is = (refl, simp zero-mul) }
in_units f (fin s (suc m) e) v h =
    let odd = eqb (suc m % 2) 1 in
    let few = ltb (suc m) (2 ^ prec f) in
    let fine = leb (down e) (2 ^ low f) in
    let under = ltb (suc m * up e) (2 ^ suc (emax f) * down e) in
    let g : T (odd && few && fine) = and_l (odd && few && fine) under h in
    record {
      m = suc m;
      j = shift (low f) e;
      small = ltb→lt (suc m) (2 ^ prec f) (and_r odd few (and_l (odd && few) fine g));
      is = (refl, shifted (low f) (suc m) e (leb→le (down e) (2 ^ low f) (and_r (odd && few) fine g)));
    }

-- two values of the format with one sign and one size are one
one_float : (f : Format) (s : Bool) (w : ℕ) (x y : Float) → T (fits f x) → T (fits f y) → HasValue x s w (2 ^ low f) → HasValue y s w (2 ^ low f) → x ≡ y
unfolding to_bits
one_float f s w x y hx hy vx vy = sym (of_bits-to_bits f x hx) ∙ ap (of_bits f) (bits x vx ∙ sym (bits y vy)) ∙ of_bits-to_bits f y hy
  where
    bits : (x : Float) → HasValue x s w (2 ^ low f) → to_bits f x ≡ cond s (top f) 0 + (size w - prec f) * hid f + w / 2 ^ (size w - prec f)
    bits nan v = absurd v
    bits (inf t) v = absurd v
    bits (fin t m e) v =
        ap₂ (λ (u : Bool) (n : ℕ). cond u (top f) 0 + (size n - prec f) * hid f + n / 2 ^ (size n - prec f)) v.0
        (ap (λ (x : ℕ). x / down e) v.1 ∙ mul-div_cancel w (down_pos e))

-- ---- distances in units

sub-mul : (a b c : ℕ) → (a - b) * c ≡ a * c - b * c
sub-mul a b c = mul_comm (a - b) c ∙ mul-sub c a b ∙ ap₂ (λ (x y : ℕ). x - y) (mul_comm c a) (mul_comm c b)

apart_times : (s : Bool) (a : ℕ) (t : Bool) (b c : ℕ) → apart s a t b * c ≡ apart s (a * c) t (b * c)
apart_times s a t b c = go (beq s t)
  where
    go : (e : Bool) → cond e (away a b) (a + b) * c ≡ cond e (away (a * c) (b * c)) (a * c + b * c)
    go true = add-mul (a - b) (b - a) c ∙ ap₂ (λ (x y : ℕ). x + y) (sub-mul a b c) (sub-mul b a c)
    go false = add-mul a b c

distance_units : (s : Bool) (a c l : ℕ) (y : Float) (t : Bool) (w : ℕ) → HasValue y t w l → distance s a c y * l ≡ apart s (a * l) t (w * c) * den y
distance_units s a c l nan t w v = absurd v
distance_units s a c l (inf u) t w v = absurd v
distance_units s a c l (fin u m e) t w v =
    apart_times s (a * down e) u (m * up e * c) l
    ∙ ap₂ (λ (x y : ℕ). apart s x u y) (mul_right_comm a (down e) l) (mul_right_comm (m * up e) c l ∙ ap (λ (x : ℕ). x * c) v.1 ∙ mul_right_comm w (down e) c)
    ∙ ap (λ (r : Bool). apart s (a * l * down e) r (w * c * down e)) v.0
    ∙ sym (apart_times s (a * l) t (w * c) (down e))

crosswise : (s : Bool) (a c l : ℕ) (x : Float) (d : ℕ) (t : Bool) (w : ℕ) → HasValue x t w l → distance s a c x * d * l ≡ apart s (a * l) t (w * c) * (den x * d)
crosswise s a c l x d t w v =
    mul_right_comm (distance s a c x) d l ∙ ap (λ (z : ℕ). z * d) (distance_units s a c l x t w v) ∙ mul_assoc (apart s (a * l) t (w * c)) (den x) d

-- the distances of two floats
module _ (s : Bool) (a c l : ℕ) (L : 0 < l) (x y : Float) (t u : Bool) (w v : ℕ) (hx : HasValue x t w l) (hy : HasValue y u v l) where
  cross_x : distance s a c x * den y * l ≡ apart s (a * l) t (w * c) * (den x * den y)
  cross_x = crosswise s a c l x (den y) t w hx

  cross_y : distance s a c y * den x * l ≡ apart s (a * l) u (v * c) * (den x * den y)
  cross_y = crosswise s a c l y (den x) u v hy ∙ ap (λ (z : ℕ). apart s (a * l) u (v * c) * z) (mul_comm (den y) (den x))

  cross_le : apart s (a * l) t (w * c) ≤ apart s (a * l) u (v * c) → distance s a c x * den y ≤ distance s a c y * den x
  cross_le h = le_of_mul-le-mul_right (le_trans (le_of_eq cross_x) (le_trans (mul-le-mul_right (den x * den y) h) (le_of_eq (sym cross_y)))) L

  cross_eq : distance s a c x * den y ≡ distance s a c y * den x → apart s (a * l) t (w * c) ≡ apart s (a * l) u (v * c)
  cross_eq e =
      eq_of_mul-eq-mul_right (den x * den y) (mul-pos (den_pos x) (den_pos y)) (apart s (a * l) t (w * c)) (apart s (a * l) u (v * c))
      (sym cross_x ∙ ap (λ (z : ℕ). z * l) e ∙ cross_y)

-- ---- what a float with a value is

finite-of : (x : Float) (s : Bool) (w l : ℕ) → HasValue x s w l → T (finite x)
finite-of nan s w l v = absurd v
finite-of (inf t) s w l v = absurd v
finite-of (fin t m e) s w l v = tt

sign_of : (x : Float) (s : Bool) (w l : ℕ) → HasValue x s w l → sign x ≡ s
sign_of nan s w l v = absurd v
sign_of (inf t) s w l v = absurd v
sign_of (fin t m e) s w l v = v.0

number_of : (x : Float) → T (finite x) → T (not (is_nan x))
unfolding is_nan
number_of nan v = absurd v
number_of (inf t) v = absurd v
number_of (fin t m e) v = tt

-- ---- the distance between numbers of one sign, and of two

same_sign : (s : Bool) (a b : ℕ) → apart s a s b ≡ away a b
same_sign true a b = refl
same_sign false a b = refl

data Signs (s t : Bool) (a b : ℕ) : Type 0 where
  one : s ≡ t → apart s a t b ≡ away a b → Signs s t a b
  two : apart s a t b ≡ a + b → Signs s t a b

signs : (s t : Bool) (a b : ℕ) → Signs s t a b
signs true true a b = one refl refl
signs true false a b = two refl
signs false true a b = two refl
signs false false a b = one refl refl

-- ---- the fraction ±a / c, rounded

module _ (f : Format) (s : Bool) (a c : ℕ) (C : 0 < c) (under : a < 2 ^ emax f * c) where
  abbrev n : ℕ
  n = a * 2 ^ low f

  abbrev k : ℕ
  k = drop (prec f) n c

  abbrev r : ℕ
  r = kept (prec f) n c

  abbrev x : Float
  x = round f s a c

  digits : 0 < prec f
  digits = two-le_pos (prec f) (Fits.two f)

  zero-away : away n (0 * 2 ^ 0 * c) ≡ n
  zero-away = ap (away n) (zero-mul c) ∙ none n
    where
      none : (n : ℕ) → n - 0 + (0 - n) ≡ n
      none n = omega arith

  no_farther : away n (r * 2 ^ k * c) ≤ n
  no_farther = le_trans (kept-nearest (prec f) n c digits C 0 0 (pow_pos (prec f))) (le_of_eq zero-away)

  bounded : r * 2 ^ k < 2 ^ (low f + suc (emax f))
  bounded =
      lt_of_mul-lt-mul_right c
      (lt_of_le_of_lt (double (r * 2 ^ k * c) n no_farther)
      (lt_of_le_of_lt (le_of_eq (mul_assoc a (2 ^ low f) 2)) (lt_of_lt_of_le (mul-lt-mul_of_pos_right under (mul-pos (pow_pos (low f)) (lit< tt))) (le_of_eq all))))
    where
      double : (b n : ℕ) → away n b ≤ n → b ≤ n * 2
      double b n h = omega arith

      all : 2 ^ emax f * c * (2 ^ low f * 2) ≡ 2 ^ (low f + suc (emax f)) * c
      all = simp (pow-add, pow-suc, mul_assoc, mul_comm, mul_left_comm)

  value : HasValue x s (r * 2 ^ k) (2 ^ low f)
  value = subst (λ (z : Float). HasValue z s (r * 2 ^ k) (2 ^ low f)) (sym (round_is f s a c)) (units_val f s r k bounded)

  round-least : (y : Float) → T (finite y) → T (fits f y) → distance s a c x * den y ≤ distance s a c y * den x
  round-least y v h =
      cross_le s a c (2 ^ low f) (pow_pos (low f)) x y s (sign y) (r * 2 ^ k) w value u.is
      (le_trans (le_of_eq (same_sign s n (r * 2 ^ k * c))) (go (signs s (sign y) n (w * c))))
    where
      u : Units f y
      u = in_units f y v h

      w : ℕ
      w = u.m * 2 ^ u.j

      go : Signs s (sign y) n (w * c) → away n (r * 2 ^ k * c) ≤ apart s n (sign y) (w * c)
      go (one e d) = le_trans (kept-nearest (prec f) n c digits C u.m u.j u.small) (le_of_eq (sym d))
      go (two d) = le_trans no_farther (le_trans (le-add_right n (w * c)) (le_of_eq (sym d)))

  kept-tie : (y : Float) → T (finite y) → T (fits f y) → ¬ (x ≡ y) → distance s a c x * den y ≡ distance s a c y * den x → r % 2 ≡ 0
  kept-tie y v h other e = go (signs s (sign y) n (w * c))
    where
      u : Units f y
      u = in_units f y v h

      w : ℕ
      w = u.m * 2 ^ u.j

      tie : away n (r * 2 ^ k * c) ≡ apart s n (sign y) (w * c)
      tie = sym (same_sign s n (r * 2 ^ k * c)) ∙ cross_eq s a c (2 ^ low f) (pow_pos (low f)) x y s (sign y) (r * 2 ^ k) w value u.is e

      at_zero : (0 * 2 ^ 0 ≡ r * 2 ^ k) ⊎ (r % 2 ≡ 0) → r % 2 ≡ 0
      at_zero (inl p) = ap (λ (z : ℕ). z % 2) (eq_of_mul-eq-mul_right (2 ^ k) (pow_pos k) r 0 (sym p ∙ sym (zero-mul (2 ^ k))))
      at_zero (inr p) = p

      of_one : s ≡ sign y → (w ≡ r * 2 ^ k) ⊎ (r % 2 ≡ 0) → r % 2 ≡ 0
      of_one g (inl p) =
          let of_y : HasValue y s w (2 ^ low f) = subst (λ (t : Bool). HasValue y t w (2 ^ low f)) (sym g) u.is in
          absurd (other (one_float f s (r * 2 ^ k) x y (round-fits f s a c) h value (subst (λ (z : ℕ). HasValue y s z (2 ^ low f)) p of_y)))
      of_one g (inr p) = p

      go : Signs s (sign y) n (w * c) → r % 2 ≡ 0
      go (one g d) = of_one g (kept-even (prec f) n c digits C u.m u.j u.small (tie ∙ d))
      go (two d) =
          let all : away n (r * 2 ^ k * c) ≡ n = le_antisymm no_farther (le_trans (le-add_right n (w * c)) (le_of_eq (sym (tie ∙ d)))) in
          at_zero (kept-even (prec f) n c digits C 0 0 (pow_pos (prec f)) (all ∙ sym zero-away))

-- ---- the last bit

last_bit : (s : Bool) (r k : ℕ) → r ≤ 2 ^ 24 → (k ≡ 0) ⊎ (2 ^ 23 ≤ r) → r * 2 ^ k < 2 ^ 277 → r % 2 ≡ 0 → to_bits binary32 (units binary32 s r k) % 2 ≡ 0
last_bit s r k most least under even = ap (λ (z : ℕ). z % 2) (ap (to_bits binary32) (sym is) ∙ to_bits-of_bits binary32 b (below s) (rw is (number_of x finite-x))) ∙ last s
  where
    x : Float
    x = units binary32 s r k

    finite-x : T (finite x)
    finite-x = finite-of x s (r * 2 ^ k) (2 ^ 149) (units_val binary32 s r k under)

    b : ℕ
    b = cond s (2 ^ 31) 0 + k * 2 ^ 23 + r

    is : of_bits binary32 b ≡ units binary32 s r k
    is = units-bits s r k most least under

    fields : (k ≡ 0) ⊎ (2 ^ 23 ≤ r) → k ≤ 253
    fields (inl e) = omega arith
    fields (inr h) =
        le_of_suc-le-suc
        (lt_of_not-le (λ (g : 254 ≤ k). not-le_of_lt under (le_trans (pow_mono (reach k g)) (le_trans (le_of_eq (pow-add 2 23 k)) (mul-le-mul_right (2 ^ k) h)))))
      where
        reach : (k : ℕ) → 254 ≤ k → 277 ≤ 23 + k
        reach k h = omega arith

    below : (s : Bool) → cond s (2 ^ 31) 0 + k * 2 ^ 23 + r < 2 ^ 32
    below true = omega (arith, fields least)
    below false = omega (arith, fields least)

    last : (s : Bool) → (cond s (2 ^ 31) 0 + k * 2 ^ 23 + r) % 2 ≡ 0
    last true = omega arith
    last false = omega arith

-- ---- the nearest binary32 value

pub round-nearest : (s : Bool) (a c : ℕ) → 0 < c → a < 2 ^ 127 * c → Nearest binary32 s a c (round binary32 s a c)
round-nearest s a c C under =
    record {
      value = finite-of (round binary32 s a c) s w (2 ^ 149) (value binary32 s a c C under);
      held = round-fits binary32 s a c;
      signed = sign_of (round binary32 s a c) s w (2 ^ 149) (value binary32 s a c C under);
      least = round-least binary32 s a c C under;
      even = λ y v h other e. rw (round_is binary32 s a c) (even (kept-tie binary32 s a c C under y v h other e));
    }
  where
    w : ℕ
    w = kept 24 (a * 2 ^ 149) c * 2 ^ drop 24 (a * 2 ^ 149) c

    even : kept 24 (a * 2 ^ 149) c % 2 ≡ 0 → to_bits binary32 (units binary32 s (kept 24 (a * 2 ^ 149) c) (drop 24 (a * 2 ^ 149) c)) % 2 ≡ 0
    even =
        last_bit s (kept 24 (a * 2 ^ 149) c) (drop 24 (a * 2 ^ 149) c) (kept-most 24 (a * 2 ^ 149) c (lit< tt) C) (kept-least 24 (a * 2 ^ 149) c (lit< tt) C)
        (bounded binary32 s a c C under)

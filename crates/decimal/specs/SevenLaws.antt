-- How long the text of a binary32 value is.
-- Assumes nothing.
use Rattle.std.specs.Prelude.{◌≡◌, refl, Bool, true, false, ◌&&◌, ◌||◌, ◌⊎◌, ◌++◌, ℕ, zero, suc, ◌+◌, ◌*◌, ◌/◌, ◌%◌, ◌^◌, ◌≤◌, ◌<◌, T, eqb, leb, ltb, length, pos, Float}
use Rattle.std.proofs.Common.{sym, ap, subst, true≢false, inl, inr, ⊎_elim, le_trans, lt_of_le_of_lt, lt_of_lt_of_le, mul_right_comm, mul-lt-mul_of_pos_right, le_of_eq, mul_comm, mul-pos, mul-one, one-mul, mul-le-mul_right, le_of_lt, zero-mul, arith, ltb→lt, eqb→eq, lit<, lit≤, length-append}
use Rattle.std.proofs.Math.Nat.{div-le_of_le-mul}
use Rattle.std.specs.Float.{nan, inf, fin, binary32}
use Rattle.std.specs.Float.Ieee.{up, down, fits, of_bits, lt, le, eq, below, level}
use Rattle.std.specs.Float.Ieee.Fits.{down_pos, and_r}
use Rattle.std.specs.Float.Ieee.Nearest.{closest, closest_mono}
use Rattle.buffer.specs.BoolLaws.{both_left}
use Rattle.floats.specs.Binary32.{zero as zero32, one as one32}
use Rattle.floats.specs.RoundingLaws.{closest-le}
use Rattle.digits.specs.DigitsLaws.{length_last, length_digits, digits_small}
use Rattle.decimal.specs.Seven.{minus, with_point, seven_decimals}

-- ---- lengths

length-minus : (s : Bool) → length (minus s) ≤ 1
length-minus true = lit≤ tt
length-minus false = lit≤ tt

-- with at most k + 1 digits before the point
length-with_point : (k q : ℕ) → q / 10 ^ 7 < 10 ^ suc k → length (with_point q) ≤ k + 9
unfolding with_point
length-with_point k q h = simp (length-append, length_last 7 q) (omega (arith, length_digits k (q / 10 ^ 7) h))

-- with one
one_digit_lem : (q : ℕ) → q / 10 ^ 7 < 10 → length (with_point q) ≡ 9
unfolding with_point
one_digit_lem q h = simp (length-append, length_last 7 q, digits_small (q / 10 ^ 7) h)

finite-range : (m d : ℕ) → 0 < d → m < 2 ^ 128 * d → closest (m * 10 ^ 7) d / 10 ^ 7 < 10 ^ 39
finite-range m d D h = lt_of_le_of_lt (whole (closest (m * 10 ^ 7) d) (closest-le (m * 10 ^ 7) d (2 ^ 128 * 10 ^ 7) D (lt_of_lt_of_le (mul-lt-mul_of_pos_right {k = 10 ^ 7} h (lit< tt)) (le_of_eq (mul_right_comm (2 ^ 128) d (10 ^ 7)))))) (lit< {m = 2 ^ 128} {n = 10 ^ 39} tt)
  where
    whole : (q : ℕ) → q ≤ 2 ^ 128 * 10 ^ 7 → q / 10 ^ 7 ≤ 2 ^ 128
    whole q h = div-le_of_le-mul (10 ^ 7) (le_trans h (le_of_eq (mul_comm (2 ^ 128) (10 ^ 7))))

finite-below : (s : Bool) (m : ℕ) (e : _) → T (fits binary32 (fin s m e)) → m * up e < 2 ^ 128 * down e
unfolding fits
finite-below s zero e h = subst (λ (x : ℕ). x < 2 ^ 128 * down e) (sym (zero-mul (up e))) (mul-pos (lit< tt) (down_pos e))
finite-below s (suc m) e h = ltb→lt (suc m * up e) (2 ^ 128 * down e) (and_r (eqb (suc m % 2) 1 && ltb (suc m) (2 ^ 24) && leb (down e) (2 ^ 149)) (ltb (suc m * up e) (2 ^ 128 * down e)) h)

signed : (s : Bool) (q n : ℕ) → length (with_point q) ≤ n → length (minus s ++ with_point q) ≤ 1 + n
signed s q n h = simp length-append (omega (arith, length-minus s))

unsigned : (s : Bool) (q : ℕ) → s ≡ false → length (with_point q) ≡ 9 → length (minus s ++ with_point q) ≡ 9
unsigned s q e h = subst (λ (t : Bool). length (minus t ++ with_point q) ≡ 9) (sym e) h

-- "-", 39 digits, ".", 7 digits
pub length-seven : (x : Float) → T (fits binary32 x) → length (seven_decimals x) ≤ 48
unfolding seven_decimals
length-seven nan h = lit≤ tt
length-seven (inf true) h = lit≤ tt
length-seven (inf false) h = lit≤ tt
length-seven (fin s m e) h =
    signed s (closest (m * up e * 10 ^ 7) (down e)) 47 (length-with_point 38 (closest (m * up e * 10 ^ 7) (down e)) (finite-range (m * up e) (down e) (down_pos e) (finite-below s m e h)))

-- ---- from 0 to 1

at_most_one : (m d : ℕ) → 0 < d → m ≤ d → closest (m * 10 ^ 7) d / 10 ^ 7 < 10
at_most_one m d D h = whole (closest (m * 10 ^ 7) d) (le_trans (closest_mono (m * 10 ^ 7) d (10 ^ 7) 1 D (lit< tt) (le_trans (le_of_eq (mul-one (m * 10 ^ 7))) (le_trans (mul-le-mul_right (10 ^ 7) h) (le_of_eq (mul_comm d (10 ^ 7)))))) (lit≤ tt))
  where
    whole : (q : ℕ) → q ≤ 10 ^ 7 → q / 10 ^ 7 < 10
    whole q h = omega arith

or_cases : (a b : Bool) → (a || b) ≡ true → (a ≡ true) ⊎ (b ≡ true)
or_cases true b e = inl refl
or_cases false b e = inr e

-- a number with the sign s and the size a / d, at least 0 (z is 0) and at most 1
in_range_lem : (s : Bool) (z a d : ℕ) → z ≡ 0 → (below false z s a || level false z s a) ≡ true → (below s a false d || level s a false d) ≡ true → a ≤ d
in_range_lem false z a d n f g =
    ⊎_elim (λ (e : ltb a d ≡ true). le_of_lt (ltb→lt a d (subst T (sym e) tt)))
    (λ (e : level false a false d ≡ true). le_of_eq (eqb→eq a d (subst T (sym (both_left (eqb a d) _ e)) tt)))
    (or_cases (ltb a d) (level false a false d) g)
in_range_lem true z a d n f g = none z a d n (eqb→eq z a (subst T (sym (both_left (eqb z a) _ f)) tt))
  where
    none : (z a d : ℕ) → z ≡ 0 → z ≡ a → a ≤ d
    none z a d n e = omega arith

positive : (s : Bool) (z a : ℕ) → below false z s a ≡ true → s ≡ false
positive false z a e = refl
positive true z a e = absurd (true≢false (sym e))

nothing : (e : _) → 0 * up (pos 0) * down e ≡ 0
nothing e = zero-mul (down e)

small : (s : Bool) (m : ℕ) (e : _) → le zero32 (fin s m e) ≡ true → le (fin s m e) one32 ≡ true → m * up e ≤ down e
unfolding le lt eq of_bits
small s m e f g =
    le_trans (le_of_eq (sym (mul-one (m * up e))))
    (le_trans (in_range_lem s (0 * up (pos 0) * down e) (m * up e * 1) (1 * down e) (nothing e) f g) (le_of_eq (one-mul (down e))))

pub length-unit : (x : Float) → le zero32 x ≡ true → le x one32 ≡ true → length (seven_decimals x) ≤ 10
unfolding seven_decimals le lt eq of_bits
length-unit nan f g = absurd (true≢false (sym f))
length-unit (inf true) f g = absurd (true≢false (sym f))
length-unit (inf false) f g = absurd (true≢false (sym g))
length-unit (fin s m e) f g =
    signed s (closest (m * up e * 10 ^ 7) (down e)) 9 (length-with_point 0 (closest (m * up e * 10 ^ 7) (down e)) (at_most_one (m * up e) (down e) (down_pos e) (small s m e f g)))

above : (x : Float) → lt zero32 x ≡ true → le zero32 x ≡ true
unfolding le
above x h = ap (λ (b : Bool). b || eq zero32 x) h

-- a digit, ".", 7 digits
pub length-positive_unit : (x : Float) → lt zero32 x ≡ true → le x one32 ≡ true → length (seven_decimals x) ≡ 9
unfolding seven_decimals le lt eq of_bits
length-positive_unit nan f g = absurd (true≢false (sym f))
length-positive_unit (inf true) f g = absurd (true≢false (sym f))
length-positive_unit (inf false) f g = absurd (true≢false (sym g))
length-positive_unit (fin s m e) f g =
    let q = closest (m * up e * 10 ^ 7) (down e) in
    unsigned s q (positive s (0 * up (pos 0) * down e) (m * up e * 1) f)
    (one_digit_lem q (at_most_one (m * up e) (down e) (down_pos e) (small s m e (above (fin s m e) f) g)))

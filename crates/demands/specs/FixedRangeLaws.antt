-- The range test of `validate_icc_matrix` on a float passes exactly if the float has a fixed number. Assumes nothing.
use Rattle.std.specs.Prelude.{Option, Some, None, ℕ, ◌+◌, ◌*◌, ◌<◌, ◌≤◌, ◌≡◌, refl, ◌⊎◌, Bool, true, false, ◌&&◌, ◌||◌, not, cond, T, ltb, leb, eqb, ℤ, Float}
use Rattle.std.proofs.Common.{sym, ◌∙◌, inl, inr, mul-pos, arith, ltb→lt, nltb→le, lit<, lt-ltb, le-ltb, eq-eqb, ne_eqb, le-leb}
use Rattle.std.specs.Float.{nan, inf, fin}
use Rattle.std.specs.Float.Ieee.{up, down, below, level, of_bits, lt, eq, le}
use Rattle.std.specs.Float.Ieee.Fits.{down_pos}
use Rattle.std.proofs.lemmas.Bool.{lt-leb}
use Rattle.buffer.specs.BoolLaws.{and_true}
use Rattle.floats.specs.Rounding.{halves_up}
use Rattle.numbers.specs.Fixed.{some_number, signed, largest, whole_fraction, of_fraction, s15_fixed16}
use Rattle.numbers.specs.declared.fixed.S15Fixed16.{S15Fixed16}
use Rattle.validate.specs.Validate.{is_s15_fixed_16}

-- a float has a fixed number, or none
abbrev pub is_number : Option S15Fixed16 → Bool
is_number (Some s) = true
is_number None = false

lt-or_ge : (a b : ℕ) → (a < b) ⊎ (b ≤ a)
lt-or_ge a b = go (ltb a b) (ltb→lt a b) (nltb→le a b)
  where
    go : (t : Bool) → (T t → a < b) → (T (not t) → b ≤ a) → (a < b) ⊎ (b ≤ a)
    go true p q = inl (p tt)
    go false p q = inr (q tt)

-- ---- ±a ≤ ±b, at like signs and at unlike ones

less_or_equal : (a b : ℕ) → (ltb a b || (eqb a b && true)) ≡ leb a b
less_or_equal a b = go (lt-or_ge a b) (lt-or_ge b a)
  where
    go : (a < b) ⊎ (b ≤ a) → (b < a) ⊎ (a ≤ b) → (ltb a b || (eqb a b && true)) ≡ leb a b
    go (inl h) q = let l : a ≤ b = omega arith in simp (lt-ltb a b h, le-leb a b l)
    go (inr h) (inl g) = let n : a ≡ b → ⊥ = λ e. omega arith in simp (le-ltb a b h, ne_eqb a b n, lt-leb a b g)
    go (inr h) (inr g) = let e : a ≡ b = omega arith in simp (le-ltb a b h, eq-eqb a b e, le-leb a b g)

greater_or_equal : (a b : ℕ) → (ltb b a || (eqb a b && true)) ≡ leb b a
greater_or_equal a b = go (lt-or_ge b a) (lt-or_ge a b)
  where
    go : (b < a) ⊎ (a ≤ b) → (a < b) ⊎ (b ≤ a) → (ltb b a || (eqb a b && true)) ≡ leb b a
    go (inl h) q = let l : b ≤ a = omega arith in simp (lt-ltb b a h, le-leb b a l)
    go (inr h) (inl g) = let n : a ≡ b → ⊥ = λ e. omega arith in simp (le-ltb b a h, ne_eqb a b n, lt-leb b a g)
    go (inr h) (inr g) = let e : a ≡ b = omega arith in simp (le-ltb b a h, eq-eqb a b e, le-leb b a g)

-- within ±b, where b is not 0
within : (s : Bool) (a b : ℕ) → 0 < b → ((below true b s a || level true b s a) && (below s a false b || level s a false b)) ≡ leb a b
within false a b h = let sum : 0 < b + a = omega arith in simp (lt-ltb 0 (b + a) sum, less_or_equal a b)
within true a b h = let sum : 0 < a + b = omega arith in simp (lt-ltb 0 (a + b) sum, greater_or_equal b a) (and_true (leb a b))

-- ---- in 512ths and in 65536ths

scaled : (n d : ℕ) → leb (n * 512) (16777213 * 1 * d) ≡ leb (n * 65536) (largest * d)
scaled n d = go (lt-or_ge (16777213 * 1 * d) (n * 512))
  where
    go : (16777213 * 1 * d < n * 512) ⊎ (n * 512 ≤ 16777213 * 1 * d) → leb (n * 512) (16777213 * 1 * d) ≡ leb (n * 65536) (largest * d)
    go (inl h) = let g : largest * d < n * 65536 = omega arith in simp (lt-leb _ _ h, lt-leb _ _ g)
    go (inr h) = let g : n * 65536 ≤ largest * d = omega arith in simp (le-leb _ _ h, le-leb _ _ g)

is_number_lem : (s : Bool) (num den : ℕ) → is_number (of_fraction s num den) ≡ leb (num * 65536) (largest * den)
is_number_lem s num den = go (leb (num * 65536) (largest * den)) (signed s (halves_up (num * 65536) den)) (whole_fraction num den)
  where
    go : (t : Bool) (z : ℤ) (w : Bool) → is_number (cond t (some_number z w) None) ≡ t
    go true z w = refl
    go false z w = refl

pub fixed_range : (x : Float) → is_s15_fixed_16 x ≡ is_number (s15_fixed16 x)
unfolding s15_fixed16 le lt eq of_bits
fixed_range nan = refl
fixed_range (inf true) = refl
fixed_range (inf false) = refl
fixed_range (fin s m e) =
    within s (m * up e * 512) (16777213 * 1 * down e) (mul-pos (lit< tt) (down_pos e))
    ∙ scaled (m * up e) (down e)
    ∙ sym (is_number_lem s (m * up e) (down e))

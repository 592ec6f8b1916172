-- The binary32 pattern of a fraction q / 10 ^ 7, by whole numbers. Assumes nothing.
use Rattle.std.specs.Prelude.{◌≡◌, refl, Bool, true, false, cond, ℕ, suc, ◌+◌, ◌-◌, ◌*◌, ◌/◌, ◌%◌, ◌^◌, ◌≤◌, ◌<◌}
use Rattle.std.proofs.Common.{sym, ap, ◌∙◌, subst, inr, le_trans, le_of_eq, lt_of_lt_of_le, lt_of_le_of_lt, lt_of_not-le, not-le_of_lt, mul_assoc, mul_comm, mul-pos, mul-le-mul_right, mul-lt-mul_of_pos_right, div-lt_iff_lt-mul, le-div_iff_mul-le, mod-eq_of_lt, add_assoc, arith, lit<, lit≤, pow-add, pow_pos, pow_mono, shl_lt}
use Rattle.std.specs.Int.Count.{count_leading_zeros}
use Rattle.std.proofs.lemmas.Nat.{leading_top}
use Rattle.std.specs.Float.{binary32}
use Rattle.std.specs.Float.Ieee.{size, units, round, of_bits}
use Rattle.std.specs.Float.Ieee.Fits.{round_is}
use Rattle.std.specs.Float.Ieee.Nearest.{closest, closest_same}
use Rattle.floats.specs.PatternLaws.{size_exact, monus_k, more_24, units-bits}
use Rattle.floats.specs.RoundingLaws.{closest-le, closest-ge}

-- ---- the pattern of q / 10 ^ 7, once q * 2 ^ j / 10 ^ 7 has 24 digits before the point

module _ (q j : ℕ) (lo : 2 ^ 23 * 10 ^ 7 ≤ q * 2 ^ j) (hi : q * 2 ^ j < 2 ^ 24 * 10 ^ 7) (within : j ≤ 149) where
  abbrev k : ℕ
  k = 149 - j

  abbrev r : ℕ
  r = closest (q * 2 ^ j) (10 ^ 7)

  all : j + k ≡ 149
  all = omega arith

  -- in units of 2 ^ -149
  is : q * 2 ^ 149 ≡ q * 2 ^ j * 2 ^ k
  is = ap (λ (x : ℕ). q * 2 ^ x) (sym all) ∙ ap (λ (x : ℕ). q * x) (pow-add 2 j k) ∙ sym (mul_assoc q (2 ^ j) (2 ^ k))

  low : 2 ^ (23 + k) * 10 ^ 7 ≤ q * 2 ^ 149
  low = le_trans (le_of_eq (ap (λ (x : ℕ). x * 10 ^ 7) (pow-add 2 23 k) ∙ swap (2 ^ 23) (2 ^ k) (10 ^ 7))) (le_trans (mul-le-mul_right (2 ^ k) lo) (le_of_eq (sym is)))
    where
      swap : (a b c : ℕ) → a * b * c ≡ a * c * b
      swap a b c = simp (mul_assoc, mul_comm)

  high : q * 2 ^ 149 < 2 ^ suc (23 + k) * 10 ^ 7
  high =
      lt_of_le_of_lt (le_of_eq is)
      (lt_of_lt_of_le (mul-lt-mul_of_pos_right hi (pow_pos k))
      (le_of_eq (sym (ap (λ (x : ℕ). 2 ^ x * 10 ^ 7) (sym (more_24 k)) ∙ ap (λ (x : ℕ). x * 10 ^ 7) (pow-add 2 24 k) ∙ swap (2 ^ 24) (2 ^ k) (10 ^ 7)))))
    where
      swap : (a b c : ℕ) → a * b * c ≡ a * c * b
      swap a b c = simp (mul_assoc, mul_comm)

  dropped : size (q * 2 ^ 149 / 10 ^ 7) - 24 ≡ k
  dropped = monus_k (size (q * 2 ^ 149 / 10 ^ 7)) k (size_exact (23 + k) (q * 2 ^ 149 / 10 ^ 7) ((le-div_iff_mul-le {k = 10 ^ 7} (lit< tt)).1 low) ((div-lt_iff_lt-mul {k = 10 ^ 7} (lit< tt)).1 high))

  pub rounded : (s : Bool) → round binary32 s q (10 ^ 7) ≡ units binary32 s r k
  rounded s =
      round_is binary32 s q (10 ^ 7)
      ∙ ap (λ (i : ℕ). units binary32 s (closest (q * 2 ^ 149) (10 ^ 7 * 2 ^ i)) i) dropped
      ∙ ap (λ (x : ℕ). units binary32 s x k)
      (closest_same (q * 2 ^ 149) (10 ^ 7 * 2 ^ k) (q * 2 ^ j) (10 ^ 7) (mul-pos (lit< {m = 0} {n = 10 ^ 7} tt) (pow_pos k)) (lit< tt)
      (ap (λ (x : ℕ). x * 10 ^ 7) is ∙ swap (q * 2 ^ j) (2 ^ k) (10 ^ 7)))
    where
      swap : (a b c : ℕ) → a * b * c ≡ a * (c * b)
      swap a b c = simp (mul_assoc, mul_comm)

  pub r_ge : 2 ^ 23 ≤ r
  r_ge = closest-ge (q * 2 ^ j) (10 ^ 7) (2 ^ 23) (lit< tt) lo

  pub r_le : r ≤ 2 ^ 24
  r_le = closest-le (q * 2 ^ j) (10 ^ 7) (2 ^ 24) (lit< tt) hi

  pub pattern_is : (s : Bool) → of_bits binary32 (cond s (2 ^ 31) 0 + k * 2 ^ 23 + r) ≡ round binary32 s q (10 ^ 7)
  pattern_is s = units-bits s r k r_le (inr r_ge) (lt_of_lt_of_le (shl_lt 25 k (lt_of_le_of_lt r_le (lit< tt))) (pow_mono (room k (within_k j)))) ∙ sym (rounded s)
    where
      within_k : (j : ℕ) → 149 - j ≤ 149
      within_k j = omega arith

      room : (k : ℕ) → k ≤ 149 → 25 + k ≤ 277
      room k h = omega arith

-- ---- the shift, by the zeros in front of q

pub record Lead (q : ℕ) : Type 0 where
  pub lo : 34 ≤ count_leading_zeros 64 q
  pub hi : count_leading_zeros 64 q ≤ 63
  pub low : 2 ^ 46 ≤ q * 2 ^ (count_leading_zeros 64 q - 17)
  pub high : q * 2 ^ (count_leading_zeros 64 q - 17) < 2 ^ 47

pub lead : (q : ℕ) → 0 < q → q < 10 ^ 9 → Lead q
lead q p h = go (leading_top 64 q p (lt_of_lt_of_le h (lit≤ tt)))
  where
    go : (i : ℕ) × (count_leading_zeros 64 q + suc i ≡ 64) × (2 ^ i ≤ q) × (q < 2 ^ suc i) → Lead q
    go (i, e, a, b) =
        let under : i < 30 = lt_of_not-le (λ (g : 30 ≤ i). not-le_of_lt h (le_trans (lit≤ {m = 10 ^ 9} {n = 2 ^ 30} tt) (le_trans (pow_mono g) a))) in
        let z = count_leading_zeros 64 q in
        let down : i + (z - 17) ≡ 46 = omega arith in
        let up : suc i + (z - 17) ≡ 47 = omega arith in
        record {
          lo = omega arith;
          hi = omega arith;
          low = le_trans (le_of_eq (ap (λ (x : ℕ). 2 ^ x) (sym down) ∙ pow-add 2 i (z - 17))) (mul-le-mul_right (2 ^ (z - 17)) a);
          high = lt_of_lt_of_le (mul-lt-mul_of_pos_right b (pow_pos (z - 17))) (le_of_eq (sym (ap (λ (x : ℕ). 2 ^ x) (sym up) ∙ pow-add 2 (suc i) (z - 17))));
        }

-- the shift of 64 bits loses nothing
pub shifted : (q : ℕ) → 0 < q → q < 10 ^ 9 → q * 2 ^ (count_leading_zeros 64 q - 17) % 2 ^ 64 ≡ q * 2 ^ (count_leading_zeros 64 q - 17)
shifted q p h = mod-eq_of_lt (lt_of_lt_of_le (lead q p h).high (lit≤ tt))

pub doubled : (q j : ℕ) → q * 2 ^ j * 2 ≡ q * 2 ^ (j + 1)
doubled q j = mul_assoc q (2 ^ j) 2 ∙ ap (λ (x : ℕ). q * x) (sym (pow-add 2 j 1))

pub zero_pattern : (s : Bool) → of_bits binary32 (cond s (2 ^ 31) 0 + 0) ≡ round binary32 s 0 (10 ^ 7)
unfolding of_bits round
zero_pattern true = refl
zero_pattern false = refl

-- the pattern, from what the code has worked out
pub finished : (q n j r : ℕ) → n ≡ q * 2 ^ j → 2 ^ 23 * 10 ^ 7 ≤ n → n < 2 ^ 24 * 10 ^ 7 → j ≤ 149 → r ≡ closest n (10 ^ 7)
    → (r ≤ 2 ^ 24) × ((s : Bool) → of_bits binary32 (cond s (2 ^ 31) 0 + ((149 - j) * 2 ^ 23 + r)) ≡ round binary32 s q (10 ^ 7))
finished q n j r e lo hi within c =
    let lo' : 2 ^ 23 * 10 ^ 7 ≤ q * 2 ^ j = subst (λ (x : ℕ). 2 ^ 23 * 10 ^ 7 ≤ x) e lo in
    let hi' : q * 2 ^ j < 2 ^ 24 * 10 ^ 7 = subst (λ (x : ℕ). x < 2 ^ 24 * 10 ^ 7) e hi in
    let is : r ≡ closest (q * 2 ^ j) (10 ^ 7) = c ∙ ap (λ (x : ℕ). closest x (10 ^ 7)) e in (
      le_trans (le_of_eq is) (r_le q j lo' hi' within),
      λ s. ap (of_bits binary32) (sym (add_assoc (cond s (2 ^ 31) 0) ((149 - j) * 2 ^ 23) r) ∙ ap (λ (x : ℕ). cond s (2 ^ 31) 0 + (149 - j) * 2 ^ 23 + x) is) ∙ pattern_is q j lo' hi' within s,
    )

-- m / 2 ^ d in units of 10 ^ -7, to the nearest: where it stands between two multiples of 10 ^ 7.
-- Assumes nothing.
use mathlib.Core.Path.{◌≡◌, refl}
use Prim.Native.Nat.{ℕ, suc, ◌+◌, ◌*◌, ◌/◌, ◌^◌, ◌≤◌, ◌<◌}
use native.Mathlib.Nat.{le_trans, le_of_eq, lt_of_lt_of_le, mul_right_comm, mul-le-mul_right, mul-lt-mul_of_pos_right, div-mul-le_self, div-lt_iff_lt-mul}
use native.Mathlib.Omega.{arith}
use lib.Dec.{lit<}
use lib.Pow.{pow_pos, pow_mono}
use lib.Ieee.Nearest.{closest}
use Rattle.floats.specs.RoundingLaws.{closest-le, closest-ge, closest-zero}

module _ (m d : ℕ) where
  pub low : m / 2 ^ d * 10 ^ 7 ≤ closest (m * 10 ^ 7) (2 ^ d)
  low =
      closest-ge (m * 10 ^ 7) (2 ^ d) (m / 2 ^ d * 10 ^ 7) (pow_pos d)
      (le_trans (le_of_eq (mul_right_comm (m / 2 ^ d) (10 ^ 7) (2 ^ d))) (mul-le-mul_right (10 ^ 7) (div-mul-le_self m (2 ^ d))))

  pub high : closest (m * 10 ^ 7) (2 ^ d) ≤ m / 2 ^ d * 10 ^ 7 + 10 ^ 7
  high =
      le_trans
      (closest-le (m * 10 ^ 7) (2 ^ d) (suc (m / 2 ^ d) * 10 ^ 7) (pow_pos d)
      (lt_of_lt_of_le (mul-lt-mul_of_pos_right {k = 10 ^ 7} above (lit< tt)) (le_of_eq (mul_right_comm (suc (m / 2 ^ d)) (2 ^ d) (10 ^ 7)))))
      (next (m / 2 ^ d))
    where
      above : m < suc (m / 2 ^ d) * 2 ^ d
      above = (div-lt_iff_lt-mul {k = 2 ^ d} {x = m} {y = suc (m / 2 ^ d)} (pow_pos d)).0 (le_of_eq refl)

      next : (w : ℕ) → suc w * 10 ^ 7 ≤ w * 10 ^ 7 + 10 ^ 7
      next w = omega arith

  pub vanishes : m < 2 ^ 24 → 48 < d → closest (m * 10 ^ 7) (2 ^ d) ≡ 0
  vanishes h g = closest-zero (m * 10 ^ 7) (2 ^ d) (lt_of_lt_of_le (small m h) (pow_mono {i = 49} g))
    where
      small : (m : ℕ) → m < 2 ^ 24 → m * 10 ^ 7 * 2 < 2 ^ 49
      small m h = omega arith

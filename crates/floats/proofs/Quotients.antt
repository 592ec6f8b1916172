-- A quotient n / 2 ^ d in parts: the whole part w, twice the rest t, and the divisor u, as the code finds them; and what it is rounded to.
-- Assumes nothing.
use Prim.Native.Nat.{ℕ, ◌+◌, ◌*◌, ◌/◌, ◌%◌, ◌^◌, ◌≤◌, ◌<◌}
use mathlib.Core.Path.{◌≡◌, sym, ap, ◌∙◌}
use mathlib.Core.Bool.{true, false}
use native.Mathlib.Nat.{div-le_self, le_trans, le_of_eq, lt_of_lt_of_le}
use native.Mathlib.Omega.{arith}
use lib.Dec.{leb}
use lib.Pow.{pow_mono, pow_pos}
use lib.Ieee.Nearest.{closest}
use borrow.Author.Tests.{leb-true, leb-false}
use Rattle.floats.specs.Rounding.{halves_up}
use Rattle.floats.specs.RoundingLaws.{closest-below, closest-above, closest-tie, closest-zero, halves_up_below, halves_up_above, halves_up_zero}

-- from 2 ^ 64 on the divisor is more than twice the number
far : (n d : ℕ) → n < 2 ^ 63 → 63 < d → n * 2 < 2 ^ d
far n d h g = lt_of_lt_of_le (double n h) (pow_mono {i = 64} g)
  where
    double : (n : ℕ) → n < 2 ^ 63 → n * 2 < 2 ^ 64
    double n h = omega arith

pub far_closest : (n d : ℕ) → n < 2 ^ 63 → 63 < d → 0 ≡ closest n (2 ^ d)
far_closest n d h g = sym (closest-zero n (2 ^ d) (far n d h g))

pub far_halves : (n d : ℕ) → n < 2 ^ 63 → 63 < d → 0 ≡ halves_up n (2 ^ d)
far_halves n d h g = sym (halves_up_zero n (2 ^ d) (pow_pos d) (far n d h g))

module _ (n d : ℕ) {w t u : ℕ} (e : (w ≡ n / 2 ^ d) × (t ≡ n % 2 ^ d * 2) × (u ≡ 2 ^ d)) where
  pub whole_le : w ≤ n
  whole_le = le_trans (le_of_eq e.0) (div-le_self n (2 ^ d))

  pub below : t < u → w ≡ closest n (2 ^ d)
  below h = e.0 ∙ closest-below n (2 ^ d) (rw (e.1, e.2) at h)

  pub above : u < t → w + 1 ≡ closest n (2 ^ d)
  above h = ap (λ (x : ℕ). x + 1) e.0 ∙ closest-above n (2 ^ d) (rw (e.1, e.2) at h)

  pub tie : u ≤ t → t ≤ u → w + w % 2 ≡ closest n (2 ^ d)
  tie h g = ap (λ (x : ℕ). x + x % 2) e.0 ∙ closest-tie n (2 ^ d) (rw (e.1, e.2) at h) (rw (e.1, e.2) at g)

  pub half_below : leb u t ≡ false → w ≡ halves_up n (2 ^ d)
  half_below h = e.0 ∙ halves_up_below n (2 ^ d) (pow_pos d) (rw (e.1, e.2) at (leb-false u t h))

  pub half_above : leb u t ≡ true → w + 1 ≡ halves_up n (2 ^ d)
  half_above h = ap (λ (x : ℕ). x + 1) e.0 ∙ halves_up_above n (2 ^ d) (pow_pos d) (rw (e.1, e.2) at (leb-true u t h))

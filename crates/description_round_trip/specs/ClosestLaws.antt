-- No other whole number than the nearest to a fraction a / b is at most a half away, and even if it is a half away. Assumes nothing.
use Rattle.std.specs.Prelude.{◌≡◌, ℕ, suc, ◌+◌, ◌*◌, ◌≤◌, ◌<◌}
use Rattle.std.proofs.Common.{sym, suc-mul, arith}
use Rattle.std.proofs.Math.Nat.{eq_of_mul-eq-mul_right}
use Rattle.std.specs.Float.Ieee.Nearest.{closest}
pub use Rattle.description_laws.specs.ClosestLaws.{Half, closest-half}
use Rattle.description_laws.specs.ClosestLaws.{Beside, same, less, more, beside}

module _ (a b : ℕ) (B : 0 < b) where
  one_at_most : (c q : ℕ) → Half a b c → Half a b q → c * b + b ≤ q * b → ⊥
  one_at_most c q h g gap =
      let next : suc c * b ≡ c * b + b = suc-mul c b in
      let is : suc c ≡ q = eq_of_mul-eq-mul_right b B (suc c) q (omega (arith, next, gap, h.most, g.most)) in
      let low = h.even (omega (arith, gap, h.most, g.most)) in
      let high = g.even (omega (arith, gap, h.most, g.most)) in
      omega (arith, is, low, high)

  pub closest-is : (q : ℕ) → Half a b q → closest a b ≡ q
  closest-is q g = go (beside b (closest a b) q)
    where
      go : Beside b (closest a b) q → closest a b ≡ q
      go (same e) = sym e
      go (less gap) = absurd (one_at_most q (closest a b) g (closest-half a b B) gap)
      go (more gap) = absurd (one_at_most (closest a b) q (closest-half a b B) g gap)

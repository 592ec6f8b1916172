-- The stored cube root of the bias lies within one f32 step of the exact root: the exact root is between the f32 before the stored one and the
-- f32 after it. In whole numbers: the bias is n / 2 ^ 31, the stored root m / 2 ^ 26, its neighbors are (m - 1) / 2 ^ 26 and (m + 1) / 2 ^ 26, and
-- (m - 1) ^ 3 / 2 ^ 78 < n / 2 ^ 31 < (m + 1) ^ 3 / 2 ^ 78. Assumes nothing.
use Rattle.std.specs.Prelude.{ℕ, ◌+◌, ◌-◌, ◌*◌, ◌^◌, ◌<◌, ◌≡◌, refl, false, negsuc}
use Rattle.std.proofs.Common.{lit<}
use Rattle.std.specs.Float.{fin, binary32}
use Rattle.std.specs.Float.Ieee.{of_bits, to_bits}
use Rattle.xyb_constants.specs.XybConstants.{opsin_absorbance_bias, cbrt_opsin_absorbance_bias}

abbrev pub n : ℕ
n = 8145563

abbrev pub m : ℕ
m = 10465909

-- `fin false n (negsuc k)` is n / 2 ^ (k + 1)
pub bias_is : opsin_absorbance_bias ≡ fin false n (negsuc 30)
unfolding of_bits
bias_is = refl

pub root_is : cbrt_opsin_absorbance_bias ≡ fin false m (negsuc 25)
unfolding of_bits
root_is = refl

-- the neighbors, whose bit patterns are those before and after the root's; a significand is written without its factors of 2
pub before_is : (of_bits binary32 (to_bits binary32 cbrt_opsin_absorbance_bias - 1) ≡ fin false 2616477 (negsuc 23)) × (m - 1 ≡ 2616477 * 2 ^ 2)
unfolding of_bits to_bits
before_is = (refl, refl)

pub after_is : (of_bits binary32 (to_bits binary32 cbrt_opsin_absorbance_bias + 1) ≡ fin false 5232955 (negsuc 24)) × (m + 1 ≡ 5232955 * 2)
unfolding of_bits to_bits
after_is = (refl, refl)

-- (m - 1) ^ 3 / 2 ^ 78 < n / 2 ^ 31 < (m + 1) ^ 3 / 2 ^ 78, multiplied out
pub within_one_step : ((m - 1) ^ 3 * 2 ^ 31 < n * 2 ^ 78) × (n * 2 ^ 78 < (m + 1) ^ 3 * 2 ^ 31)
within_one_step = (lit< tt, lit< tt)

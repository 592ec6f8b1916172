-- `operate` meets its contract: the two parts of a rotated word have no bit in common, so that to join them is to add them.
use Rattle.std.proofs.Common.{◌≡◌, ℕ, ◌+◌, ◌-◌, ◌*◌, ◌/◌, ◌%◌, ◌^◌, ◌<◌, sym, ap, ◌∙◌, subst, add-zero, arith, shr_lt}
use Rattle.std.specs.Int.{rotate_left}
use mir.Syntax.{w32}
use native.Mathlib.Nat.{mul-mod_left}
use lib.Pow.{mod-pow-add, shl-shr}
use lib.Bits.{bit_or, or_shifted}
use Rattle.md5_rounds.specs.Rounds.{◌<<<◌, operate}
use Rattle.md5_rounds.proofs.operate.Goals as goal

-- the two parts have no digit in common
parts : (x s : ℕ) → x < 2 ^ 32 → s < 32 → bit_or (x * 2 ^ s % 2 ^ 32) (x / 2 ^ (32 - s)) ≡ x <<< s
parts x s h g =
    let d = 32 - s in
    let whole : d + s ≡ 32 = omega arith in
    let other : 32 ≡ s + d = omega arith in
    let cut : x * 2 ^ s % 2 ^ 32 ≡ x % 2 ^ d * 2 ^ s =
    ap (λ (n : ℕ). x * 2 ^ s % 2 ^ n) (sym whole) ∙ mod-pow-add (x * 2 ^ s) d s
    ∙ ap (λ (n : ℕ). n % 2 ^ d * 2 ^ s + x * 2 ^ s % 2 ^ s) (shl-shr x s) ∙ ap (λ (n : ℕ). x % 2 ^ d * 2 ^ s + n) (mul-mod_left x (2 ^ s)) ∙ add-zero (x % 2 ^ d * 2 ^ s) in
    let small : x / 2 ^ d < 2 ^ s = shr_lt s d (subst (λ (n : ℕ). x < 2 ^ n) other h) in
    subst (λ (n : ℕ). bit_or n (x / 2 ^ d) ≡ n + x / 2 ^ d) (sym cut) (or_shifted (x % 2 ^ d) s (x / 2 ^ d) small)

rotated : (x s : ℕ) → x < 2 ^ 32 → 0 < s → s < 32 → rotate_left w32 x s ≡ x <<< s
rotated x s h p g =
    let same : s % 32 ≡ s = omega arith in
    let rest : (32 - s) % 32 ≡ 32 - s = omega arith in
    rw (same, rest) (parts x s h g)

pub returns : goal.returns
unfolding operate
returns g c =
    let turned = c.rotate_left.ensures ∙ rotated _ c.args.s (omega arith) c.requires.0 c.requires.1 in
    cc

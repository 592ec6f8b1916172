-- The two stores are the law `two_stores`; that n * 103 / 1024 is n / 10 is arithmetic below 100.
-- Assumes nothing.
use Prim.Native.Nat.{ℕ, ◌*◌, ◌/◌, ◌%◌, ◌<◌}
use mathlib.Core.Path.{◌≡◌, refl, ap₂, ◌∙◌}
use mathlib.Core.List.{[], ◌∷◌}
use Rattle.buffer.specs.Buffer.{put}
use native.Mathlib.Omega.{arith}
use Rattle.buffer.specs.BufferLaws.{two_stores}
use Rattle.digits.specs.Digits.{last_digits}
use Rattle.digits.proofs.put_two.Goals as goal

tens : (n : ℕ) → n < 100 → n * 103 / 1024 ≡ n / 10 % 10
tens n h = omega arith

pub returns : goal.returns
unfolding last_digits
returns c =
    record {
      size = refl;
      place = refl;
      bytes = two_stores _ c.args.at _ _ c.requires.1 ∙ ap₂ (λ (x y : ℕ). put c.args.out.now c.args.at (x ∷ y ∷ [])) (omega (arith, tens c.args.n c.requires.0)) (omega (arith, tens c.args.n c.requires.0));
    }

-- The whole number that `closest` gives is nearest to the fraction, and even where another one is as near. Assumes nothing.
use Rattle.std.specs.Prelude.{ℕ, zero, suc, ◌+◌, ◌*◌, ◌/◌, ◌%◌, ◌≤◌, ◌<◌, ◌≡◌, refl, ◌⊎◌, Bool, true, false, ltb}
use Rattle.std.proofs.Common.{le_trans, le_antisymm, le_of_eq, mul-le-mul_right, suc-mul, add-mul, mod-lt, div-add-mod', arith, sym, ap, ◌∙◌, inl, inr, ltb-true, ltb-false}
use Rattle.std.specs.Float.Ieee.Nearest.{closest}
use Rattle.floats.specs.RoundingLaws.{closest-below, closest-above, closest-tie}
use Rattle.description_laws.specs.Distance.{away}

-- of two different multiples of b, one is larger by b at least
pub data Beside (b r v : ℕ) : Type 0 where
  same : v ≡ r → Beside b r v
  less : v * b + b ≤ r * b → Beside b r v
  more : r * b + b ≤ v * b → Beside b r v

pub beside : (b r v : ℕ) → Beside b r v
beside b r v = go (ltb v r) (ltb r v) refl refl
  where
    up : (i j : ℕ) → i < j → i * b + b ≤ j * b
    up i j h = le_trans (le_of_eq (sym (suc-mul i b))) (mul-le-mul_right b h)

    go : (s t : Bool) → ltb v r ≡ s → ltb r v ≡ t → Beside b r v
    go true t p q = less (up v r (ltb-true v r p))
    go false true p q = more (up r v (ltb-true r v q))
    go false false p q = same (le_antisymm (ltb-false r v q) (ltb-false v r p))

-- r * b is at most half of b away from a, and r is even where it is half of b
pub record Half (a b r : ℕ) : Type 0 where
  pub most : away a (r * b) * 2 ≤ b
  pub even : away a (r * b) * 2 ≡ b → r % 2 ≡ 0

module _ (a b : ℕ) (B : 0 < b) where
  pub closest-half : Half a b (closest a b)
  closest-half = go (ltb (a % b * 2) b) (ltb b (a % b * 2)) refl refl
    where
      rest : a % b < b
      rest = mod-lt a B

      whole : a / b * b + a % b ≡ a
      whole = div-add-mod' a b

      below : (r : ℕ) → a % b * 2 < b → a / b ≡ r → Half a b r
      below r h e = let is : a / b * b ≡ r * b = ap (λ (x : ℕ). x * b) e in record { most = omega (arith, whole); even = λ t. absurd (omega (arith, whole)) }

      above : (r : ℕ) → b < a % b * 2 → a / b + 1 ≡ r → Half a b r
      above r h e =
          let is : a / b * b + 1 * b ≡ r * b = sym (add-mul (a / b) 1 b) ∙ ap (λ (x : ℕ). x * b) e in
          record { most = omega (arith, whole, rest); even = λ t. absurd (omega (arith, whole, rest)) }

      tie : (r : ℕ) → a % b * 2 ≡ b → a / b + a / b % 2 ≡ r → Half a b r
      tie r h e =
          let is : a / b * b + a / b % 2 * b ≡ r * b = sym (add-mul (a / b) (a / b % 2) b) ∙ ap (λ (x : ℕ). x * b) e in
          record { most = by (a / b % 2) (omega arith) is; even = λ t. even_sum (a / b) r e }
        where
          even_sum : (w r : ℕ) → w + w % 2 ≡ r → r % 2 ≡ 0
          even_sum w r e = omega arith

          by : (i : ℕ) → i < 2 → a / b * b + i * b ≡ r * b → away a (r * b) * 2 ≤ b
          by zero u is = omega (arith, whole)
          by (suc zero) u is = omega (arith, whole)
          by (suc (suc i)) u is = absurd (omega arith)

      go : (s t : Bool) → ltb (a % b * 2) b ≡ s → ltb b (a % b * 2) ≡ t → Half a b (closest a b)
      go true t p q = below (closest a b) (ltb-true (a % b * 2) b p) (closest-below a b (ltb-true (a % b * 2) b p))
      go false true p q = above (closest a b) (ltb-true b (a % b * 2) q) (closest-above a b (ltb-true b (a % b * 2) q))
      go false false p q =
          let lo : b ≤ a % b * 2 = ltb-false (a % b * 2) b p in
          let hi : a % b * 2 ≤ b = ltb-false b (a % b * 2) q in
          tie (closest a b) (omega arith) (closest-tie a b lo hi)

  pub closest-nearest : (v : ℕ) → away a (closest a b * b) ≤ away a (v * b)
  closest-nearest v = go (beside b (closest a b) v)
    where
      go : Beside b (closest a b) v → away a (closest a b * b) ≤ away a (v * b)
      go (same e) = le_of_eq (ap (λ (x : ℕ). away a (x * b)) (sym e))
      go (less h) = omega (arith, closest-half.most)
      go (more h) = omega (arith, closest-half.most)

  pub closest-even : (v : ℕ) → away a (closest a b * b) ≡ away a (v * b) → (v ≡ closest a b) ⊎ (closest a b % 2 ≡ 0)
  closest-even v e = go (beside b (closest a b) v)
    where
      go : Beside b (closest a b) v → (v ≡ closest a b) ⊎ (closest a b % 2 ≡ 0)
      go (same p) = inl p
      go (less h) = inr (closest-half.even (omega (arith, closest-half.most)))
      go (more h) = inr (closest-half.even (omega (arith, closest-half.most)))
